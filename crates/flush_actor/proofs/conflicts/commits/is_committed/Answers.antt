use Rattle.std.proofs.Common.{sym, get_or}
use Rattle.std.proofs.lemmas.Option.{slice_get-get_or}
use Rattle.flush_actor.proofs.ConflictsLemmas.CommitBlocks.{found_before, committed_none}
use Rattle.flush_actor.specs.declared.conflicts.commits.CommitBlock.{CommitBlock}
use Rattle.flush_actor.proofs.conflicts.commits.is_committed.Goals as goal

pub returns-in-Ok : goal.returns-in-Ok
returns-in-Ok c =
    let d : CommitBlock = record { transaction = 0; id = 0 } in
    found_before c.args.commits.now c.args.tx c.args.id c.in-Ok.at (get_or c.args.commits.now c.in-Ok.at d) c.requires c.in-Ok.ensures (slice_get-get_or c.args.commits.now c.in-Ok.at d c.in-Ok.ensures.within)

pub returns-in-Err : goal.returns-in-Err
returns-in-Err c = sym (committed_none c.args.commits.now c.args.tx c.args.id c.in-Err.ensures.none)
