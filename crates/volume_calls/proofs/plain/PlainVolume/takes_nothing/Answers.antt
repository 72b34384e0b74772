use Rattle.volume_steps.specs.Now.{VolumeNow, tree_of_now}
use Rattle.volume_steps.specs.Plain.{IsPlainNow}
use Rattle.volume_steps.proofs.PlainNow.{tree_is_plain}
use Rattle.volume_calls.proofs.AskSteps.{takes_none}
use Rattle.volume_calls.proofs.plain.PlainVolume.takes_nothing.Goals as goal

pub returns-in-Ok : goal.returns-in-Ok
returns-in-Ok c n =
    let v : VolumeNow = c.args.self.now in
    let plain : IsPlainNow v = rw (← c.self.view_is) c.self.invariant.plain in
    takes_none (tree_of_now v) (tree_is_plain v plain) n c.args.call.now c.requires (c.in-Ok.ensures n)
