use Rattle.std.proofs.Common.{get_or, rules}
use Rattle.std.proofs.lemmas.Option.{slice_get-get_or}
use Rattle.blk_base.specs.laws.Members.{slice_get-In}
use Rattle.flush_actor.specs.Waits.{no_wait}
use Rattle.flush_actor.proofs.flush_part.any_due.Goals as goal

pub has_moved-requires : goal.has_moved-requires
has_moved-requires c =
    let ws = c.args.waits.now in
    let at = c.loop-wait.wait-index in
    c.requires (get_or ws at no_wait) c.in-Some.id (slice_get-In ws at _ (slice_get-get_or ws at no_wait c.loop-wait-test.true)) (search (rules, c.in-Some.is))
