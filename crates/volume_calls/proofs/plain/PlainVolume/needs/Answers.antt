use Rattle.volume_steps.specs.Now.{VolumeNow, tree_of_now}
use Rattle.volume_calls.proofs.AskSteps.{needs_wanted, needs_refused}
use Rattle.volume_calls.proofs.plain.PlainVolume.needs.Goals as goal

pub returns-in_default : goal.returns-in_default
returns-in_default c n before = let v : VolumeNow = c.args.self.now in needs_refused (tree_of_now v) n c.args.call.now c.in_default.field-0 (c.in_default.ensures n before)

pub returns : goal.returns
returns c n before = let v : VolumeNow = c.args.self.now in needs_wanted (tree_of_now v) n c.args.call.now c.in-Ok.wants (c.in-Ok.ensures n before)
