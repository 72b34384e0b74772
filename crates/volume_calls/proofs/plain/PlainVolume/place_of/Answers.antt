use Rattle.std.proofs.Common.{◌≡◌, ◌∙◌, refl, subst, nat_lt, length, true, false, ℕ, List}
use Rattle.volume_steps.specs.Now.{VolumeNow}
use Rattle.volume_steps.specs.Plain.{IsPlainNow}
use Rattle.tree_model.specs.code.PathTexts.{names_below, last_in}
use Rattle.volume_calls.proofs.WalkSteps.{narrow_at, parent_none, parent_file, parent_long, parent_place}
use Rattle.volume_calls.proofs.plain.PlainVolume.place_of.Goals as goal

pub returns-in_default-clause-fault : goal.returns-in_default-clause-fault
returns-in_default-clause-fault c at_root =
    let v : VolumeNow = c.args.self.now in
    parent_none v.contents.blocks v.contents.nodes c.args.names.now c.requires.some at_root c.in_ok-parent.parent c.in_ok-parent.ensures.led (c.in_default.ensures.none refl)

pub returns-in_default-part-clause-fault : goal.returns-in_default-part-clause-fault
returns-in_default-part-clause-fault c at_root =
    let v : VolumeNow = c.args.self.now in
    parent_file v.contents.blocks v.contents.nodes c.args.names.now c.requires.some at_root c.in_ok-parent.parent c.in_ok-parent.ensures.led
    c.in-Some.placed.now c.in_default-part.field-0 c.in-Some.ensures.some c.in_default-part.is

pub short_name-requires-clause-narrow : goal.short_name-requires-clause-narrow
short_name-requires-clause-narrow c =
    let v : VolumeNow = c.args.self.now in
    let plain : IsPlainNow v = rw (← c.self.view_is) c.self.invariant.plain in
    narrow_at v plain.in_use c.in_ok-parent.parent c.in-Some.placed.now c.in-Some.ensures.some c.in-Directory.directory c.in-Directory.is

pub returns-in_default-short_name-clause-fault : goal.returns-in_default-short_name-clause-fault
returns-in_default-short_name-clause-fault c at_root =
    let v : VolumeNow = c.args.self.now in
    let long : nat_lt c.in-Directory.directory.width (length (last_in (names_below c.args.names.now))) ≡ true =
    subst (λ (n : List ℕ). nat_lt c.in-Directory.directory.width (length n) ≡ true) c.in_ok-parent.ensures.name c.in_default-short_name.ensures.long in
    parent_long v.contents.blocks v.contents.nodes c.args.names.now c.requires.some at_root c.in_ok-parent.parent c.in_ok-parent.ensures.led
    c.in-Some.placed.now c.in-Directory.directory c.in-Some.ensures.some c.in-Directory.is long

pub returns-clause-place : goal.returns-clause-place
returns-clause-place c at_root =
    let v : VolumeNow = c.args.self.now in
    let short : nat_lt c.in-Directory.directory.width (length (last_in (names_below c.args.names.now))) ≡ false =
    subst (λ (n : List ℕ). nat_lt c.in-Directory.directory.width (length n) ≡ false) c.in_ok-parent.ensures.name c.in-Ok.ensures.short in
    parent_place v.contents.blocks v.contents.nodes c.args.names.now c.requires.some at_root c.in_ok-parent.parent c.in_ok-parent.ensures.led
    c.in-Some.placed.now c.in-Directory.directory c.in-Ok.name c.in-Some.ensures.some c.in-Directory.is short (c.in-Ok.ensures.name ∙ c.in_ok-parent.ensures.name)
