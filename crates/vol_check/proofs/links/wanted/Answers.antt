use Rattle.std.proofs.Common.{◌≡◌, ◌≤◌, sym, ap, subst, ◌∙◌, arith}
use Rattle.std.specs.Prelude.{min}
use Rattle.std.specs.Option.{option_copied}
use Rattle.tree_model.specs.Maps.{at_number}
use Rattle.tree_model.specs.Plain.{names_to}
use Rattle.volume_ops.specs.Places.{birth_of}
use Rattle.vol_check.specs.code.Births.{tree_in, directory_at}
use Rattle.vol_check.specs.code.Names.{most}
use Rattle.vol_check.proofs.Counts.{wanted_names}
use Rattle.vol_check.proofs.links.wanted.Goals as goal

pub returns-in-None : goal.returns-in-None
returns-in-None c =
    let v = c.args.volume.now in
    let tree = tree_in v.geometry v.blocks in
    let is = ap (λ b. directory_at (at_number tree b)) (sym c.birth_of-birth.ensures) ∙ (sym c.directory.ensures ∙ ap option_copied c.in-None.is) in
    let within = c.requires.within in
    let low : birth_of c.args.inode ≤ v.geometry.inodes = grind (arith, within) in
    let counted = ap (λ n. min n most) (c.from.ensures ∙ c.count.ensures) ∙ (c.requires.names c.birth_of-birth.result (subst (λ b. b ≤ v.geometry.inodes) (sym c.birth_of-birth.ensures) low) ∙ ap (λ b. min (names_to tree b) most) c.birth_of-birth.ensures) in
    wanted_names tree (birth_of c.args.inode) (at_number tree (birth_of c.args.inode)) c.from.result is counted
