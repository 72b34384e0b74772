use Rattle.std.proofs.Common.{sym, ap, subst, refl, false, Ok}
use Rattle.std.proofs.lemmas.Bool.{ne_eqb}
use Rattle.tree_model.specs.declared.call.Reply.TheVariants as replies
use Rattle.tree_model.specs.declared.node.File.{File}
use Rattle.tree_model.specs.Calls.{Place, Found}
use Rattle.volume_model.specs.Trees.{directory_from, node_from, node_now}
use Rattle.volume_steps.specs.Plain.{IsPlainNow}
use Rattle.volume_steps.specs.Now.{VolumeNow, tree_of_now}
use Rattle.volume_steps.proofs.CreateCall.{none_of}
use Rattle.volume_calls.specs.code.Asked.{IsAsked}
use Rattle.tree_model.specs.code.PathTexts.{names_below}
use Rattle.volume_steps.proofs.TakeSteps.{directory_stands, file_of, file_stands, link_row, link_takes}
use Rattle.volume_calls.proofs.plain.PlainVolume.link.Goals as goal

pub returns : goal.returns
returns c =
    let v : VolumeNow = c.args.self.now in
    let told = c.in_ok-place.ensures in
    let p = c.in_ok-place.place in
    let q = c.in_ok-found.found in
    let place : Place = record { parent = p.parent; directory = directory_from p.directory.now; name = p.name } in
    let found : Found = record { birth = q.birth; node = node_now v.contents.blocks q.placed.now } in
    let file : File = file_of v.contents.blocks q.placed.now c.in_default.field-0 in
    let plain : IsPlainNow v = rw (← c.self.view_is) c.self.invariant.plain in
    let order = plain.plain.rooted.in_order in
    let stands = directory_stands v p.parent p.placed.now p.directory.now told.stands told.kind in
    let grows = c.slot_zones.ensures.more p.name (none_of _ (sym c.if-is_named.ensures)) in
    let row = link_row (tree_of_now v) c.args.path.now c.args.other.now (names_below c.in_ok-names.names.now) (names_below c.in_ok-more.more.now) found file place
    c.in_ok-names.ensures.names c.in_ok-more.ensures.names c.in_ok-found.ensures.found (ap (node_from v.contents.blocks q.placed.now.inode) c.in_default.is)
    (told.place replies.Exists) (sym c.if-is_named.ensures) (ne_eqb _ _ c.if-found.false) (sym c.if-is_full.ensures) in
    subst (IsAsked (tree_of_now v) (Ok (record { inode = false; zones = c.slot_zones.result }))) (sym row)
    (refl, link_takes (tree_of_now v) order q.birth file place c.slot_zones.result (file_stands v q.birth q.placed.now c.in_default.field-0 c.in_ok-found.ensures.stands c.in_default.is) stands grows)
