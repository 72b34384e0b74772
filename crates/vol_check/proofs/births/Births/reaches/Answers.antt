use Rattle.std.proofs.Common.{◌≡◌, ◌↔◌, true, sym, ap, subst, ◌∙◌}
use Rattle.std.specs.Option.{option_copied}
use Rattle.tree_model.specs.Maps.{at_number}
use Rattle.volume_ops.specs.Faultless.{IsReached}
use Rattle.volume_ops.specs.Volume.{node_of}
use Rattle.vol_check.specs.code.Births.{tree_in}
use Rattle.vol_check.proofs.Decisions.{found_reached, some_copied}
use Rattle.vol_check.proofs.births.Births.reaches.Goals as goal

pub returns : goal.returns
returns c =
    let v = c.args.volume.now in
    let tree = tree_in v.geometry v.blocks in
    subst (λ b. (b ≡ true) ↔ IsReached v.geometry v.blocks c.args.inode) (sym (c.is_some.ensures ∙ some_copied c.find.result))
    (found_reached v.geometry v.blocks tree c.requires.births.stands c.args.inode c.requires.some (node_of v.blocks) (option_copied c.find.result)
    (c.find.ensures ∙ ap (at_number tree) c.birth_of.ensures))
