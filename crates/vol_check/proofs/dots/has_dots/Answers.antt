use Rattle.std.proofs.Common.{refl, sym, ap, subst, ◌∙◌, arith}
use Rattle.std.specs.Option.{option_copied}
use Rattle.tree_model.specs.Maps.{at_number}
use Rattle.vol_check.specs.CleanTrees.{LeadBack}
use Rattle.vol_check.specs.code.Births.{tree_in, directory_at}
use Rattle.vol_check.proofs.Decisions.{dots_none, dots_some, parent_fits}
use Rattle.vol_check.proofs.dots.has_dots.Goals as goal

pub inode_of_birth-requires : goal.inode_of_birth-requires
inode_of_birth-requires c =
    let v = c.args.volume.now in
    let tree = tree_in v.geometry v.blocks in
    let is = ap (λ b. directory_at (at_number tree b)) (sym c.birth_of.ensures) ∙ (sym c.directory.ensures ∙ ap option_copied c.in-Some.is) in
    let low = parent_fits v.geometry v.blocks tree c.requires.births.stands c.args.inode c.requires.some c.requires.births.some_inode c.in-Some.directory.now is in
    let fits = c.disk.ensures.sound.fits.inodes in
    omega (arith, low, fits)

pub returns-in-Some : goal.returns-in-Some
returns-in-Some c =
    let v = c.args.volume.now in
    let tree = tree_in v.geometry v.blocks in
    let is = ap (λ b. directory_at (at_number tree b)) (sym c.birth_of.ensures) ∙ (sym c.directory.ensures ∙ ap option_copied c.in-Some.is) in
    let dots = dots_some v.geometry v.blocks tree c.requires.births.stands c.args.inode c.requires.some c.in-Some.directory.now is in
    let lead = c.lead_back.ensures in
    let parent = c.inode_of_birth.ensures in (
      (λ t. dots.0 (subst (LeadBack v.geometry v.blocks c.args.inode) parent (lead.0 t))),
      (λ has. lead.1 (subst (LeadBack v.geometry v.blocks c.args.inode) (sym parent) (dots.1 has))),
    )

pub returns-in-None : goal.returns-in-None
returns-in-None c =
    let v = c.args.volume.now in
    let tree = tree_in v.geometry v.blocks in
    let is = ap (λ b. directory_at (at_number tree b)) (sym c.birth_of.ensures) ∙ (sym c.directory.ensures ∙ ap option_copied c.in-None.is) in
    (λ _. dots_none v.geometry v.blocks tree c.requires.births.stands c.args.inode c.requires.some is, λ _. refl)
