use Rattle.std.proofs.Common.{refl}
use Rattle.volume_steps.specs.Now.{VolumeNow}
use Rattle.volume_steps.specs.Plain.{IsPlainNow}
use Rattle.volume_calls.proofs.WalkSteps.{narrow_at, step_some, step_none}
use Rattle.volume_calls.proofs.plain.PlainVolume.step.Goals as goal

pub step_in-requires-clause-narrow : goal.step_in-requires-clause-narrow
step_in-requires-clause-narrow c d is =
    let v : VolumeNow = c.args.self.now in
    let plain : IsPlainNow v = rw (← c.self.view_is) c.self.invariant.plain in
    narrow_at v plain.in_use c.args.birth c.in-Some.placed.now c.in-Some.ensures.some d is

pub returns-in-Some : goal.returns-in-Some
returns-in-Some c =
    let v : VolumeNow = c.args.self.now in
    step_some v.contents.blocks v.contents.nodes c.args.birth c.in-Some.placed.now c.args.name.now c.step_in.result c.in-Some.ensures.some
    (c.step_in.ensures v.contents.blocks c.in-Some.placed.now.inode)

pub returns-in-None : goal.returns-in-None
returns-in-None c =
    let v : VolumeNow = c.args.self.now in
    step_none v.contents.blocks v.contents.nodes c.args.birth c.args.name.now (c.in-None.ensures.none refl)
