use Rattle.std.proofs.Common.{sym, refl}
use Rattle.volume_steps.specs.Now.{VolumeNow}
use Rattle.volume_calls.proofs.WalkSteps.{walk_some, walk_none}
use Rattle.tree_model.specs.code.PathTexts.{names_below}
use Rattle.volume_calls.proofs.plain.PlainVolume.found.Goals as goal

pub returns-in-Some-clause-found : goal.returns-in-Some-clause-found
returns-in-Some-clause-found c =
    let v : VolumeNow = c.args.self.now in
    walk_some v.contents.blocks v.contents.nodes (names_below c.args.names.now) c.in_ok-birth.birth c.in-Some.placed.now (sym c.in_ok-birth.ensures) c.in-Some.ensures.some

pub returns-in-None-clause-fault : goal.returns-in-None-clause-fault
returns-in-None-clause-fault c =
    let v : VolumeNow = c.args.self.now in
    walk_none v.contents.blocks v.contents.nodes (names_below c.args.names.now) c.in_ok-birth.birth (sym c.in_ok-birth.ensures) (c.in-None.ensures.none refl)
