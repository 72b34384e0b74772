use Rattle.std.proofs.Common.{sym, ap, ◌∙◌}
use Rattle.volume_in_use.specs.now.Noted.{Noted}
use Rattle.volume_steps.specs.Calls.{Called}
use Rattle.volume_steps.specs.Now.{VolumeNow, Change}
use Rattle.volume_calls.proofs.CalledSteps.{quiet_called, changed_called}
use Rattle.volume_calls.proofs.plain.PlainVolume.perform.Goals as goal

pub returns-then-leaves_tree-clause-done : goal.returns-then-leaves_tree-clause-done
returns-then-leaves_tree-clause-done c =
    let v : VolumeNow = c.args.self.now in
    let made : Noted → Called = λ t. record { change = record { volume = v; touched = t.touched }; reply = c.in_ok-reply.reply } in
    ap made c.in_ok-touched.ensures
    ∙ quiet_called v c.args.n c.args.tx c.args.call.now c.in_ok-reply.reply (sym c.leaves_tree.ensures ∙ c.if-leaves_tree.true) (c.in_ok-reply.ensures c.args.n)

pub returns-clause-done : goal.returns-clause-done
returns-clause-done c =
    let v : VolumeNow = c.args.self.now in
    let change : Change = record { volume = c.change.new.self; touched = c.in_ok-touched-2.touched.touched } in
    changed_called v c.args.n c.args.tx c.args.call.now change (sym c.leaves_tree.ensures ∙ c.if-leaves_tree.false) c.requires.may c.in_ok-touched-2.ensures.done
