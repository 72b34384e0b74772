use Rattle.std.proofs.Common.{sym, subst, ◌∙◌}
use Rattle.volume_steps.specs.Plain.{IsPlainNow}
use Rattle.session_core.proofs.OpeningLemmas.Copies.{opened_is}
use Rattle.session_core.proofs.opening.volume.made_volume.Goals as goal

pub of-requires : goal.of-requires
of-requires c =
    let g = c.args.g.now in
    let whole = opened_is g _ c.args.journal c.args.wide c.args.image.now c.in_ok-parts-inside.field-0 c.into.result (c.parts.view_is ∙ c.in_ok-parts.ensures) c.requires.image c.into.ensures c.in_ok-parts-inside.ensures in
    subst IsPlainNow (sym whole) (c.sessions_on_made_images_keep_rules_and_trees.ensures.plain g c.requires.sound)

pub returns : goal.returns
returns c =
    let g = c.args.g.now in
    let whole = opened_is g _ c.args.journal c.args.wide c.args.image.now c.in_ok-parts-inside.field-0 c.into.result (c.parts.view_is ∙ c.in_ok-parts.ensures) c.requires.image c.into.ensures c.in_ok-parts-inside.ensures in
    c.in_ok-volume.ensures ∙ whole
