use Rattle.std.proofs.Common.{sym, ◌∙◌}
use Rattle.session_threads.proofs.SidesLemmas.Fits.{ended_as}
use Rattle.session_threads.proofs.sides.running.run_sides.Goals as goal

pub returns-clause-ended : goal.returns-clause-ended
returns-clause-ended g c =
    let out = c.joined-2.ensures in
    ended_as c.args.cut _ _ _ _ _ _ (out.host ∙ sym c.host-else-is_refused-2.ensures) (out.sched ∙ sym c.sched-else-is_refused-2.ensures) (out.dev ∙ sym c.dev-else-is_refused-2.ensures)
    (c.has_ended-else-is_refused-2.ensures.0 c.if-not-has_ended.false)
