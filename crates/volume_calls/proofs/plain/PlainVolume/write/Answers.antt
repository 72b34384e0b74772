use Rattle.std.proofs.Common.{rules, ◌≡◌, ◌+◌, nat_lt, ℕ, List, sym, ap, subst, ◌∙◌}
use Rattle.tree_model.specs.Calls.{largest_size}
use Rattle.volume_model.specs.Counts.{indices_of}
use Rattle.volume_model.specs.Volume.{zone_in}
use Rattle.volume_model.specs.laws.Counts.{IsIndexed}
use Rattle.volume_steps.specs.Plain.{IsPlainNow}
use Rattle.volume_steps.specs.Now.{VolumeNow}
use Rattle.volume_in_use.specs.bytes.MayWrite.{wanted_zones}
use Rattle.volume_calls.proofs.WriteTakes.{file_rises, file_maps, write_asked}
use Rattle.volume_calls.proofs.plain.PlainVolume.write.Goals as goal

pub returns : goal.returns
returns c bytes e =
    let v : VolumeNow = c.args.self.now in
    let q = c.in_ok-found.found in
    let zones = c.in_default.field-0 in
    let told = c.in_ok-found.ensures in
    let plain : IsPlainNow v = rw (← c.self.view_is) c.self.invariant.plain in
    let rises = file_rises v plain.in_use q.birth q.placed.now zones told.stands c.in_default.is in
    let maps = file_maps v plain.in_use q.birth q.placed.now zones told.stands c.in_default.is in
    let blocks_are : c.parts.inside.blocks ≡ v.contents.blocks = ap (λ (u : VolumeNow). u.contents.blocks) (c.parts.view_is ∙ c.self.view_is) in
    let here : IsIndexed (λ x. zone_in c.parts.inside.blocks q.placed.now.inode x) (indices_of zones) =
    subst (λ (blocks : List (List ℕ)). IsIndexed (λ x. zone_in blocks q.placed.now.inode x) (indices_of zones)) (sym blocks_are) maps in
    write_asked v plain.in_use q.birth q.placed.now zones told.stands c.in_default.is c.args.path.now c.args.off bytes told.found
    (ap (λ (k : ℕ). nat_lt largest_size (c.args.off + k)) e ∙ sym c.if-is_too_big.ensures)
    c.wanted-zones.result
    (c.wanted-zones.ensures (indices_of zones) rises here ∙ ap (wanted_zones (indices_of zones) c.args.off) (search rules))
