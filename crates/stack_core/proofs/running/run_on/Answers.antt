-- The device and the scheduler that the script names stand as the script begins.
use Rattle.std.proofs.Common.{sym, ap, subst, ◌∙◌}
use Rattle.schedulers.specs.declared.reassign.scheduler.TheConstants.{CAPACITY}
use Rattle.schedulers.specs.reassign.Sched as plain
use Rattle.schedulers.specs.elevator.Elevator as elevator
use Rattle.stack_core.specs.RequestPath.{PathFits, opened_path}
use Rattle.stack_core.proofs.Opening.{path-opened}
use Rattle.stack_core.proofs.running.run_on.Goals as goal

pub run_with-requires-clause-path : goal.run_with-requires-clause-path
run_with-requires-clause-path g c =
    let t = g.D.OrderedDev in
    let s = c.args.script.now in
    let d = t.seen (t.state c.args.dev) in
    subst (λ k. PathFits (opened_path s) (elevator.seen_of k) s.puts d) (sym (c.in_ok-sched.ensures.state ∙ ap (λ n. elevator.opened n CAPACITY) c.scheduled_count-limit.ensures))
    (path-opened s d c.requires.script c.requires.image c.requires.unused c.requires.ids)

pub run_with-requires-else-script-clause-path : goal.run_with-requires-else-script-clause-path
run_with-requires-else-script-clause-path g c =
    let t = g.D.OrderedDev in
    let s = c.args.script.now in
    let d = t.seen (t.state c.args.dev) in
    subst (λ k. PathFits (opened_path s) (plain.seen_of k) s.puts d) (sym (c.in_ok-sched-2.ensures.state ∙ ap (λ n. plain.opened n CAPACITY) c.scheduled_count-limit.ensures))
    (path-opened s d c.requires.script c.requires.image c.requires.unused c.requires.ids)
