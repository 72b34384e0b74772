use Rattle.std.proofs.Common.{◌≡◌, ◌↔◌, true, sym, ap, subst, ◌∙◌}
use Rattle.std.specs.Option.{option_copied, option_map}
use Rattle.tree_model.specs.Maps.{at_number}
use Rattle.volume_ops.specs.Faultless.{IsReached}
use Rattle.volume_ops.specs.Volume.{node_of}
use Rattle.vol_check.specs.Clean.{IsOther}
use Rattle.vol_check.specs.code.Births.{tree_in}
use Rattle.vol_check.proofs.Decisions.{found_other, none_other}
use Rattle.vol_check.proofs.births.Births.is_other.Goals as goal

pub returns-in-Some : goal.returns-in-Some
returns-in-Some c =
    let v = c.args.volume.now in
    let tree = tree_in v.geometry v.blocks in
    let at = ap (at_number tree) (sym c.birth_of.ensures) ∙ (sym c.find.ensures ∙ ap (λ o. option_map (node_of v.blocks) (option_copied o)) c.in-Some.is) in
    subst (λ b. (b ≡ true) ↔ IsOther v.geometry v.blocks c.args.inode) (sym c.is_other.ensures) (found_other v.geometry v.blocks tree c.requires.births.stands c.args.inode c.requires.some c.in-Some.found.now at)

pub returns-in-None : goal.returns-in-None
returns-in-None c =
    let v = c.args.volume.now in
    let tree = tree_in v.geometry v.blocks in
    let at = ap (at_number tree) (sym c.birth_of.ensures) ∙ (sym c.find.ensures ∙ ap (λ o. option_map (node_of v.blocks) (option_copied o)) c.in-None.is) in
    none_other v.geometry v.blocks tree c.requires.births.stands c.args.inode c.requires.some at
