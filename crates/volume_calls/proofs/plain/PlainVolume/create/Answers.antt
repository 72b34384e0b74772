use Rattle.std.proofs.Common.{sym, subst, refl, true, Ok}
use Rattle.tree_model.specs.declared.call.Reply.TheVariants as replies
use Rattle.tree_model.specs.Calls.{Place}
use Rattle.volume_model.specs.Trees.{directory_from}
use Rattle.volume_steps.specs.Plain.{IsPlainNow}
use Rattle.volume_steps.specs.Now.{VolumeNow, tree_of_now}
use Rattle.volume_steps.proofs.CreateCall.{none_of}
use Rattle.volume_calls.specs.code.Asked.{IsAsked}
use Rattle.tree_model.specs.code.PathTexts.{names_below}
use Rattle.volume_steps.proofs.TakeSteps.{directory_stands, create_row, create_takes, none_born}
use Rattle.volume_calls.proofs.plain.PlainVolume.create.Goals as goal

pub returns : goal.returns
returns c n before =
    let v : VolumeNow = c.args.self.now in
    let told = c.in_ok-place.ensures in
    let p = c.in_ok-place.place in
    let place : Place = record { parent = p.parent; directory = directory_from p.directory.now; name = p.name } in
    let plain : IsPlainNow v = rw (← c.self.view_is) c.self.invariant.plain in
    let order = plain.plain.rooted.in_order in
    let stands = directory_stands v p.parent p.placed.now p.directory.now told.stands told.kind in
    let grows = c.slot_zones.ensures.more p.name (none_of _ (sym c.if-is_named.ensures)) in
    let row = create_row (tree_of_now v) n c.args.path.now (names_below c.in_ok-names.names.now) place c.in_ok-names.ensures.names (told.place replies.Exists) (sym c.if-is_named.ensures) (sym c.if-is_full.ensures) in
    subst (IsAsked (tree_of_now v) (Ok (record { inode = true; zones = c.slot_zones.result }))) (sym row)
    (refl, create_takes (tree_of_now v) order n (none_born (tree_of_now v) n before) place stands c.slot_zones.result grows)
