use Rattle.std.proofs.Common.{ap, ◌∙◌, sym}
use Rattle.volume_steps.specs.Now.{VolumeNow}
use Rattle.volume_names.specs.renames.Renamed.{birth_named, is_directory_at}
use Rattle.volume_names.proofs.renames.renaming.rename.Goals as goal

pub replace-requires : goal.replace-requires
replace-requires c =
    let to = c.args.to.now in
    c.requires.replace c.in-Some.gone (ap (λ (s : VolumeNow). birth_named s.contents.nodes to.parent to.name) (sym c.v.view_is) ∙ (sym c.birth_named.ensures ∙ c.in-Some.is)) c.if-gone-birth.false

pub move_within-requires : goal.move_within-requires
move_within-requires c =
    let to = c.args.to.now in
    c.requires.within (ap (λ (s : VolumeNow). birth_named s.contents.nodes to.parent to.name) (sym c.v.view_is) ∙ (sym c.birth_named.ensures ∙ c.in-None.is)) c.if-from-to.true

pub move_below-requires : goal.move_below-requires
move_below-requires c =
    let to = c.args.to.now in
    c.requires.below (ap (λ (s : VolumeNow). birth_named s.contents.nodes to.parent to.name) (sym c.v.view_is) ∙ (sym c.birth_named.ensures ∙ c.in-None.is)) c.if-from-to.false
    (ap (λ (s : VolumeNow). is_directory_at s.contents.nodes c.args.birth) (sym c.v.view_is) ∙ (sym c.is_directory.ensures ∙ c.if-is_directory.true))

pub move_across-requires : goal.move_across-requires
move_across-requires c =
    let to = c.args.to.now in
    c.requires.across (ap (λ (s : VolumeNow). birth_named s.contents.nodes to.parent to.name) (sym c.v.view_is) ∙ (sym c.birth_named.ensures ∙ c.in-None.is)) c.if-from-to.false
