use Rattle.std.proofs.Common.{get_or}
use Rattle.std.proofs.lemmas.Option.{slice_get-get_or}
use Rattle.flush_actor.proofs.ConflictsLemmas.Steps.{holder_there, holder_none}
use Rattle.flush_actor.specs.declared.conflicts.held.Held.{Held}
use Rattle.flush_actor.proofs.conflicts.held.holder.Goals as goal

pub returns-in-Ok : goal.returns-in-Ok
returns-in-Ok c =
    let d : Held = record { block = 0; transaction = 0 } in
    holder_there c.args.held.now c.args.block c.in-Ok.at (get_or c.args.held.now c.in-Ok.at d) c.requires c.in-Ok.ensures (slice_get-get_or c.args.held.now c.in-Ok.at d c.in-Ok.ensures.within)

pub returns-in-Err : goal.returns-in-Err
returns-in-Err c = holder_none c.args.held.now c.args.block c.in-Err.ensures.none
