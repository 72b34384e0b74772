-- How many blocks calls tell by which bytes or nodes go, and what a name that comes adds.
use Rattle.std.specs.Prelude.{◌≡◌, ℕ, ◌-◌, ◌*◌, ◌/◌, ◌<◌, ◌≤◌, ◌&&◌, nat_eq, nat_le, not, Bool, true, false, if◌then◌else◌, List, [], ◌∷◌, length, map, slice_index, Some, None, refl}
use Rattle.std.specs.Int.{div_ceil}
use Rattle.std.specs.List.{filter, range_with_len}
use Rattle.std.proofs.Common.{sym, ap, subst, ◌∙◌, arith, length-append}
use Rattle.std.proofs.lemmas.List.{length-map}
use Rattle.std.proofs.lemmas.List.FromFn.{length-range_with_len}
use Rattle.std.proofs.lemmas.Option.{same_Some}
use Rattle.minix_layout.specs.declared.division.Geometry.{Geometry}
use Rattle.minix_layout.specs.Widths.{slot_size, slots_a_block, most_slots}
use Rattle.minix_layout.specs.laws.Places.{IsForm, narrow, wide, form_is}
use Rattle.tree_model.specs.Calls.{is_full}
use Rattle.tree_model.specs.Maps.{at_number, at_name}
use Rattle.volume_ops.specs.declared.found.Mapped.{Mapped}
use Rattle.volume_model.specs.Counts.{number_places}
use Rattle.volume_model.specs.Touched.{Contents}
use Rattle.volume_model.specs.Trees.{directory_from}
use Rattle.volume_model.specs.Volume.{Place, block, indirect, double, inner, zone_in, IsPart, IsDirectoryPart}
use Rattle.volume_model.specs.declared.placed.DirectoryPart.{DirectoryPart}
use Rattle.volume_model.specs.declared.placed.Part.TheVariants as parts
use Rattle.volume_model.specs.declared.placed.Placed.{Placed}
use Rattle.volume_steps.specs.Calls.{lose_link, truncate}
use Rattle.volume_steps.specs.Now.{VolumeNow, followed_by}
use Rattle.volume_steps.specs.Plain.{IsInUse}
use Rattle.volume_steps.specs.Steps.{resize, add_name, cut_blocks, clear_tail, block_zones, all_numbers, metadata_gone}
use Rattle.volume_steps.proofs.AddNames.{Where, where_is}
use Rattle.volume_steps.proofs.AddNames.Where.{among, behind}
use Rattle.system_laws.proofs.TransactionSizeLemmas.Counted.{Counted, counted_more, counted_then, counted_if, counted_at_node, counted_at_path}
use Rattle.system_laws.proofs.TransactionSizeLemmas.CountedSteps.{FewBlocks, links_counted, resize_counted, name_counted, drop_counted, cut_counted, tail_counted, numbers_few}

-- ---- bytes that go

pub truncate_counted : (v : VolumeNow) (tx : ℕ) (path : List ℕ) (size : ℕ) → Counted v (truncate v tx path size) 12 520
truncate_counted v tx path size = counted_at_path v path _ 12 520 (λ birth.
    let from = div_ceil size 1024 in
    let u = (cut_blocks v tx birth from).volume in
    let w = (clear_tail u birth size).volume in
    counted_more v _ 4 12 514 520 (omega arith) (omega arith)
    (counted_then v (cut_blocks v tx birth from) (λ u. followed_by (clear_tail u birth size) (λ w. resize w birth (λ old. size))) 3 1 514 0 (cut_counted v tx birth from)
    (counted_then u (clear_tail u birth size) (λ w. resize w birth (λ old. size)) 0 1 0 0 (tail_counted u birth size) (resize_counted w birth (λ old. size)))))

-- ---- nodes that go

-- all that a file revokes is zones of numbers
file_revokes : (c : Contents) (p : Placed) (zones : List Mapped) → p.part ≡ parts.File zones → length (metadata_gone c p p.part) ≤ 520
file_revokes c p zones is = subst (λ part. length (metadata_gone c p part) ≤ 520) (sym is) (let few = numbers_few c p (λ x. false) in omega (arith, few))

pub lose_counted : (v : VolumeNow) (tx n : ℕ) (p : Placed) (zones : List Mapped) → at_number v.contents.nodes n ≡ Some p → p.part ≡ parts.File zones → Counted v (lose_link v tx n) 2 520
lose_counted v tx n p zones at is = counted_at_node v n _ 2 520 (λ q there. counted_if v 2 520 (nat_le q.inode.links 1) _ _
    (λ last. drop_counted v tx n 520 (λ q there. subst (λ p. length (metadata_gone v.contents p p.part) ≤ 520) (same_Some p q (sym at ∙ there)) (file_revokes v.contents p zones is)))
    (λ more. counted_more v _ 1 2 0 520 (omega arith) (omega arith) (links_counted v n (λ links. links - 1))))

-- A directory without a doubly indirect zone revokes its zones of slots, at most 519, and its indirect zone.
no_inner : (c : Contents) (p : Placed) → slice_index p.inode.zones 8 ≡ 0 → (ks : List ℕ) → filter (λ x. not (nat_eq (zone_in c.blocks p.inode x) 0) && not false) (map inner ks) ≡ []
no_inner c p none [] = refl
no_inner c p none (k ∷ ks) = rw none (no_inner c p none ks)

first_alone : (gone : Place → Bool) (rest : List Place) → gone double ≡ false → filter gone rest ≡ [] → length (filter gone (indirect ∷ double ∷ rest)) ≤ 1
first_alone gone rest off none = by (gone indirect) (rw off none)
  where
    by : (b : Bool) → filter gone (double ∷ rest) ≡ [] → length (if b then indirect ∷ filter gone (double ∷ rest) else filter gone (double ∷ rest)) ≤ 1
    by true e = let size = ap length e in omega (arith, size)
    by false e = let size = ap length e in omega (arith, size)

few_numbers : (c : Contents) (p : Placed) → slice_index p.inode.zones 8 ≡ 0 → length (all_numbers c p) ≤ 1
few_numbers c p none =
    let gone : Place → Bool = λ x. not (nat_eq (zone_in c.blocks p.inode x) 0) && not false in
    let few = first_alone gone (map inner (range_with_len 0 512)) (rw none refl) (no_inner c p none (range_with_len 0 512)) in
    let same = length-map (filter gone number_places) (λ x. zone_in c.blocks p.inode x) in
    omega (arith, few, same)

pub directory_revokes : (c : Contents) (p : Placed) (d : DirectoryPart) → p.part ≡ parts.Directory d → slice_index p.inode.zones 8 ≡ 0 → div_ceil (length d.slots) (slots_a_block d.width) ≤ 519 → length (metadata_gone c p p.part) ≤ 520
directory_revokes c p d is none few = subst (λ part. length (metadata_gone c p part) ≤ 520) (sym is)
    (let zones = block_zones c p (parts.Directory d) in
    let both = length-append zones (all_numbers c p) in
    let same = length-map (range_with_len 0 (div_ceil (length d.slots) (slots_a_block d.width))) (λ index. zone_in c.blocks p.inode (block index)) in
    let long = length-range_with_len 0 (div_ceil (length d.slots) (slots_a_block d.width)) in
    let one = few_numbers c p none in
    omega (arith, both, same, long, few, one))

-- ---- names that come

pub few_below : (size per : ℕ) → IsForm size per → (n : ℕ) → n < 519 * per → n / per < 519
few_below size per narrow n low = omega (arith, low)
few_below size per wide n low = omega (arith, low)

-- a directory that is not full may have a block more
few_of : (u : VolumeNow) (d : DirectoryPart) (name : List ℕ) → Where d name → d.width ≡ u.geometry.width → FewBlocks u d
few_of u d name (among low e) same full whole = absurd (omega (arith, low, full))
few_of u d name (behind all e few) same full whole =
    few_below (slot_size u.geometry.width) (slots_a_block u.geometry.width) (form_is u.geometry.width) (length d.slots) (subst (λ width. length d.slots < most_slots width) same few)

-- so it is of the directory with this birth
few_at : (u : VolumeNow) (n : ℕ) (name : List ℕ) (p : Placed) (d : DirectoryPart) → at_number u.contents.nodes n ≡ Some p → p.part ≡ parts.Directory d → FewBlocks u d →
    (q : Placed) (e : DirectoryPart) → at_number u.contents.nodes n ≡ Some q → q.part ≡ parts.Directory e → FewBlocks u e
few_at u n name p d at is few q e there same =
    subst (FewBlocks u) (same_part d e (sym is ∙ (ap (λ (p : Placed). p.part) (same_Some p q (sym at ∙ there)) ∙ same))) few
  where
    same_part : (d e : DirectoryPart) → parts.Directory d ≡ parts.Directory e → d ≡ e
    same_part d e same = cc

-- a volume in use has the width of its names in each directory
pub width_of : (u : VolumeNow) → IsInUse u → (n : ℕ) (p : Placed) (d : DirectoryPart) → at_number u.contents.nodes n ≡ Some p → p.part ≡ parts.Directory d → d.width ≡ u.geometry.width
width_of u h n p d at is =
    let part : IsDirectoryPart u.geometry u.contents.blocks p.inode d = subst (IsPart u.geometry u.contents.blocks p.inode) is (h.volume.0.each n p at).part in
    part.width

-- a name comes in this directory, which another volume has, too
pub name_comes : (u v : VolumeNow) → IsInUse v → u.geometry ≡ v.geometry → (n : ℕ) (name : List ℕ) (birth : ℕ) (p : Placed) (d : DirectoryPart) → at_number v.contents.nodes n ≡ Some p → p.part ≡ parts.Directory d →
    at_name d.names name ≡ None → is_full (directory_from d) ≡ false → at_number u.contents.nodes n ≡ Some p → Counted u (add_name u n name birth) 6 0
name_comes u v h same n name birth p d at is free left there =
    name_counted u n name birth
    (few_at u n name p d there is (few_of u d name (where_is v.contents.nodes d name (h.volume.0.names n p d at is) free left) (width_of v h n p d at is ∙ ap (λ (g : Geometry). g.width) (sym same))))
