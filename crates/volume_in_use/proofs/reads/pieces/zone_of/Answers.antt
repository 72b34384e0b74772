use Rattle.std.proofs.lemmas.Option.{slice_get-get_or}
use Rattle.volume_in_use.proofs.ReadsLemmas.Listed.{stands_there, stands_nowhere}
use Rattle.volume_in_use.proofs.reads.pieces.zone_of.Goals as goal

pub returns-in-Ok : goal.returns-in-Ok
returns-in-Ok c blocks = stands_there blocks c.args.zones.now c.requires c.args.index c.in-Ok.at _ c.in-Ok.ensures (slice_get-get_or c.args.zones.now c.in-Ok.at _ c.in-Ok.ensures.within)

pub returns-in-Err : goal.returns-in-Err
returns-in-Err c blocks = stands_nowhere blocks c.args.zones.now c.args.index c.in-Err.field-0 c.in-Err.ensures
