use Rattle.std.proofs.Common.{◌≡◌, ◌==◌, ◌+◌, ◌∙◌, sym, ap, subst, refl, true, false, Ok}
use Rattle.std.proofs.lemmas.Bool.{ne_eqb}
use Rattle.tree_model.specs.declared.call.Reply.TheVariants as replies
use Rattle.tree_model.specs.Calls.{Place, most_links}
use Rattle.tree_model.specs.Trees.{directory_links}
use Rattle.volume_model.specs.Trees.{directory_from}
use Rattle.volume_steps.specs.Plain.{IsPlainNow}
use Rattle.volume_steps.specs.Now.{VolumeNow, tree_of_now}
use Rattle.volume_steps.proofs.CreateCall.{none_of}
use Rattle.volume_calls.specs.code.Asked.{IsAsked}
use Rattle.tree_model.specs.code.PathTexts.{names_below}
use Rattle.volume_steps.proofs.TakeSteps.{directory_stands, mkdir_row, mkdir_takes, none_born}
use Rattle.volume_calls.proofs.plain.PlainVolume.mkdir.Goals as goal

pub returns : goal.returns
returns c n before =
    let v : VolumeNow = c.args.self.now in
    let told = c.in_ok-place.ensures in
    let p = c.in_ok-place.place in
    let place : Place = record { parent = p.parent; directory = directory_from p.directory.now; name = p.name } in
    let plain : IsPlainNow v = rw (← c.self.view_is) c.self.invariant.plain in
    let order = plain.plain.rooted.in_order in
    let stands = directory_stands v p.parent p.placed.now p.directory.now told.stands told.kind in
    let grows = c.slot_zones.ensures.more p.name (none_of _ (sym c.if-is_named.ensures)) in
    let few : (directory_links (tree_of_now v) place.directory == most_links) ≡ false = ap (λ k. k == most_links) (sym told.links) ∙ ne_eqb _ _ c.if-place.false in
    let row = mkdir_row (tree_of_now v) n c.args.path.now (names_below c.in_ok-names.names.now) place c.in_ok-names.ensures.names (told.place replies.Exists) (sym c.if-is_named.ensures) few (sym c.if-is_full.ensures) in
    subst (IsAsked (tree_of_now v) (Ok (record { inode = true; zones = 1 + c.slot_zones.result }))) (sym row)
    (refl, mkdir_takes (tree_of_now v) order n (none_born (tree_of_now v) n before) place stands c.slot_zones.result grows (1 + c.slot_zones.result) refl)
