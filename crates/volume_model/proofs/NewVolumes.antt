-- A new volume is plain.
use Rattle.std.specs.Prelude.{◌*◌, ◌/◌, ◌%◌, ◌≡◌, ◌≢◌, ℕ, zero, suc, ◌^◌, ◌<◌, ◌≤◌, false, List, [], ◌∷◌, codes, length, replicate, slice_index, Option, Some, Ok, refl}
use Rattle.std.specs.List.{slice_get}
use Rattle.std.specs.List.Sorted.{IsStrictlySortedBy}
use Rattle.std.specs.BTreeMap.{is_at}
use Rattle.std.specs.Map.{keys_of}
use Rattle.std.specs.Ordering.{nat_cmp}
use Rattle.std.proofs.Common.{sym, ap, subst, ◌∙◌, inl, inr, arith}
use Rattle.std.proofs.lemmas.Bool.{cases_Bool, true≢false}
use Rattle.std.proofs.lemmas.List.{length-replicate}
use Rattle.std.proofs.lemmas.Option.{none-some, same_Some}
use Rattle.blk_base.specs.Block.{filled}
use Rattle.byte_fields.specs.Fields.{record_at}
use Rattle.minix_layout.specs.laws.Places.{slot_zero_stands, slot_one_stands, IsForm, narrow, wide, form_is, some_slots}
use Rattle.minix_layout.specs.Widths.{IsWidth, of_14, of_30, slot_size, slots_a_block}
use Rattle.minix_layout.specs.declared.division.Geometry.{Geometry}
use Rattle.minix_layout.specs.declared.inode.Inode.{Inode}
use Rattle.minix_layout.specs.declared.slot.Slot.{Slot}
use Rattle.minix_layout.specs.Geometry.{IsSound}
use Rattle.minix_layout.specs.Inodes.{FitInode}
use Rattle.minix_layout.specs.Slots.{slot_of, IsEntry}
use Rattle.tree_model.specs.declared.node.Node.{Node}
use Rattle.tree_model.specs.declared.node.Node.TheVariants as nodes
use Rattle.tree_model.specs.Maps.{at_number, at_name, name_cmp}
use Rattle.tree_model.specs.laws.MapsLaws.{number_same}
use Rattle.tree_model.specs.Paths.{is_dot}
use Rattle.tree_model.specs.Trees.{directory_links}
use Rattle.tree_model.specs.Rooted.{HasEntry, IsLedTo, at_root, IsRooted}
use Rattle.volume_ops.specs.Volume.{disk_of}
use Rattle.volume_ops.specs.VolumeFields.{inode_at}
use Rattle.volume_model.specs.declared.placed.Placed.{Placed}
use Rattle.volume_model.specs.declared.placed.Part.TheVariants as parts
use Rattle.volume_model.specs.declared.placed.DirectoryPart.{DirectoryPart}
use Rattle.volume_model.specs.Edits.{put_inode, put_slot, edited}
use Rattle.volume_model.specs.Volume.{Place, block, zone_in, IsWhole, HasSlot, IsDirectoryPart, IsStored, HasNames, IsVolumeOf}
use Rattle.volume_model.specs.Ways.{OnWay, IsJust}
use Rattle.volume_model.specs.Moves.{IsVolume}
use Rattle.volume_model.specs.Trees.{directory_from, tree_now}
use Rattle.volume_model.specs.Plain.{HasDots, HasSlotZones, IsPlainContents}
use Rattle.volume_model.specs.NewVolume.{dot_slot, dots_slot, root_inode, root_placed, new_blocks, new_volume, root_directory, root_alone}
use Rattle.volume_model.specs.Changes.{Changes}
use Rattle.volume_model.specs.laws.Changes.{changes_inode, changes_slot, table_below}
use Rattle.volume_model.specs.laws.Edits.{inode_here, slot_here, slot_elsewhere}
use Rattle.volume_model.specs.laws.FirstZone.{same_blank, no_number, first_index, own_first as first_own, first_of as first_place}
use Rattle.volume_model.proofs.Nodes.{same_directory}

dots_differ : codes "." ≡ codes ".." → ⊥
dots_differ e = let n : length (codes ".") ≡ length (codes "..") = ap length e in omega arith

dot_entry : (width : ℕ) → IsWidth width → IsEntry width dot_slot
dot_entry width is = record { used = omega arith; fits = omega arith; name = refl; short = short width is; no_slash = refl }
  where
    short : (width : ℕ) → IsWidth width → 1 ≤ width
    short width of_14 = omega arith
    short width of_30 = omega arith

dots_entry : (width : ℕ) → IsWidth width → IsEntry width dots_slot
dots_entry width is = record { used = omega arith; fits = omega arith; name = refl; short = short width is; no_slash = refl }
  where
    short : (width : ℕ) → IsWidth width → 2 ≤ width
    short width of_14 = omega arith
    short width of_30 = omega arith

abbrev two_slots : List (Option Slot)
two_slots = Some dot_slot ∷ Some dots_slot ∷ []

abbrev root_part : ℕ → DirectoryPart
root_part width = record { parent = 0; width = width; names = []; slots = two_slots }

-- one of two slots
two_by : (P : ℕ → Option Slot → Type 0) → P 0 (Some dot_slot) → P 1 (Some dots_slot) → (k : ℕ) (s : Option Slot) → slice_get two_slots k ≡ Some s → P k s
two_by P first second zero s at = subst (P 0) (same_Some (Some dot_slot) s at) first
two_by P first second (suc zero) s at = subst (P 1) (same_Some (Some dots_slot) s at) second
two_by P first second (suc (suc k)) s at = absurd (none-some s at)

-- ---- its one node

pub only_placed : (g : Geometry) (b : ℕ) (p : Placed) → at_number ((0, root_placed g) ∷ []) b ≡ Some p → (b ≡ 0) × (root_placed g ≡ p)
only_placed g b p at =
    elim (cases_Bool (is_at (nat_cmp b) 0)) [
      | inl t ↦ (number_same b 0 t, same_Some (root_placed g) p (rw t at at))
      | inr u ↦ absurd (none-some p (rw u at at))
    ]

pub only_node : (width b : ℕ) (n : Node) → at_number (root_alone width) b ≡ Some n → (b ≡ 0) × (nodes.Directory (root_directory width) ≡ n)
only_node width b n at =
    elim (cases_Bool (is_at (nat_cmp b) 0)) [
      | inl t ↦ (number_same b 0 t, same_Some (nodes.Directory (root_directory width)) n (rw t at at))
      | inr u ↦ absurd (none-some n (rw u at at))
    ]

names_in : Node → List (List ℕ × ℕ)
names_in (nodes.Directory d) = d.names
names_in (nodes.File f) = []
names_in (nodes.Other mode) = []

pub no_name : (width parent : ℕ) (name : List ℕ) (b : ℕ) → HasEntry (root_alone width) parent name b → ⊥
unfolding names_in
no_name width parent name b gives =
    let e : [] ≡ gives.directory.names = ap names_in (only_node width parent (nodes.Directory gives.directory) gives.stands).1 in
    none-some b (ap (λ (names : List (List ℕ × ℕ)). at_name names name) e ∙ gives.named)

module _ (g : Geometry) (sound : IsSound g) where
  abbrev root : Inode
  root = root_inode g

  abbrev blank : List (List ℕ)
  blank = replicate g.zones (filled 0)

  abbrev with_inode : List (List ℕ)
  with_inode = edited g blank (put_inode 1 root)

  abbrev with_dot : List (List ℕ)
  with_dot = edited g with_inode (put_slot g.first 0 (Some dot_slot))

  zones_fit : (k : ℕ) → slice_index root.zones k < 2 ^ 16
  zones_fit zero = sound.fits.first
  zones_fit (suc k) = subst (λ z. z < 2 ^ 16) (sym (no_number 8 k)) (omega arith)

  fits : FitInode root
  fits = record { mode = omega arith; uid = omega arith; size = small (slot_size g.width) (slots_a_block g.width) (form_is g.width); time = omega arith; gid = omega arith; links = omega arith; nine = refl; zones = zones_fit }
    where
      small : (size per : ℕ) → IsForm size per → size * 2 < 2 ^ 32
      small size per narrow = omega arith
      small size per wide = omega arith

  blank_whole : IsWhole blank
  unfolding filled
  blank_whole b = ap length (same_blank g.zones b (filled 0)) ∙ length-replicate {A = ℕ} 1024 0

  blank_size : length blank ≡ g.zones
  blank_size = length-replicate g.zones (filled 0)

  first_changes : Changes g (λ j. j ≡ 1) (λ _. ⊥) blank with_inode
  first_changes = changes_inode g blank 1 root sound blank_whole blank_size (omega arith) sound.some_inode fits

  zero_place : 0 < slots_a_block g.width
  zero_place = let two = (some_slots (slot_size g.width) (slots_a_block g.width) (form_is g.width)).0 in omega arith

  one_place : 1 < slots_a_block g.width
  one_place = (some_slots (slot_size g.width) (slots_a_block g.width) (form_is g.width)).0

  second_changes : Changes g (λ _. ⊥) (λ b. b ≡ g.first) with_inode with_dot
  second_changes = changes_slot g with_inode g.first 0 (Some dot_slot) sound first_changes.whole (first_changes.size ∙ blank_size) (omega arith) sound.some_zone zero_place (dot_entry g.width sound.width)

  third_changes : Changes g (λ _. ⊥) (λ b. b ≡ g.first) with_dot (new_blocks g)
  third_changes =
      changes_slot g with_dot g.first 1 (Some dots_slot) sound second_changes.whole (second_changes.size ∙ (first_changes.size ∙ blank_size)) (omega arith) sound.some_zone one_place (dots_entry g.width sound.width)

  size_is : length (new_blocks g) ≡ g.zones
  size_is = third_changes.size ∙ (second_changes.size ∙ (first_changes.size ∙ blank_size))

  root_stands : inode_at g (new_blocks g) 1 ≡ root
  root_stands =
      let table = table_below g 1 sound (omega arith) sound.some_inode in
      let high = sound.some_zone in
      let size = blank_size in
      third_changes.inodes 1 (omega arith) sound.some_inode (λ n. n) ∙ (second_changes.inodes 1 (omega arith) sound.some_inode (λ n. n)
      ∙ inode_here g blank 1 root blank_whole (omega arith) fits)

  first_slot : slot_of g.width (record_at (slot_size g.width) 0 (disk_of (new_blocks g) g.first)) ≡ Ok (Some dot_slot)
  first_slot =
      let high = sound.some_zone in
      let size = first_changes.size in
      let more = second_changes.size in
      let blocks = blank_size in
      slot_elsewhere g sound.width with_dot g.first 1 g.first 0 (Some dots_slot) second_changes.whole (omega arith) one_place zero_place (dots_entry g.width sound.width) (λ e same. (omega arith))
      ∙ slot_here g sound.width with_inode g.first 0 (Some dot_slot) first_changes.whole (omega arith) zero_place (dot_entry g.width sound.width)

  second_slot : slot_of g.width (record_at (slot_size g.width) 1 (disk_of (new_blocks g) g.first)) ≡ Ok (Some dots_slot)
  second_slot =
      let high = sound.some_zone in
      let size = first_changes.size in
      let more = second_changes.size in
      let blocks = blank_size in
      slot_here g sound.width with_dot g.first 1 (Some dots_slot) second_changes.whole (omega arith) one_place (dots_entry g.width sound.width)

  -- ---- its zones

  abbrev own : Place → ℕ
  own x = zone_in (new_blocks g) root x

  own_first : own (block 0) ≡ g.first
  own_first = first_own (new_blocks g) third_changes.whole root g.first refl

  first_some : g.first ≢ 0
  first_some e = let low = sound.tables_below in omega arith

  first_of : (x : Place) → own x ≢ 0 → x ≡ block 0
  first_of x some = first_place (new_blocks g) third_changes.whole root g.first refl x some

  own_some : own (block 0) ≢ 0
  own_some e = first_some (sym own_first ∙ e)

  -- ---- its one node, as it stands

  abbrev placed : List (ℕ × Placed)
  placed = (0, root_placed g) ∷ []

  slot_stands : (k : ℕ) (s : Option Slot) → k / slots_a_block g.width ≡ 0 → k % slots_a_block g.width ≡ k →
      slot_of g.width (record_at (slot_size g.width) k (disk_of (new_blocks g) g.first)) ≡ Ok s → HasSlot g (new_blocks g) root k s
  slot_stands k s block_is place_is here = record {
    mapped = λ none. own_some (ap (λ b. own (block b)) (sym block_is) ∙ none);
    stands = ap (λ b. slot_of g.width (record_at (slot_size g.width) (k % slots_a_block g.width) (disk_of (new_blocks g) (own (block b))))) block_is
        ∙ (ap (λ a. slot_of g.width (record_at (slot_size g.width) a (disk_of (new_blocks g) (own (block 0))))) place_is
        ∙ (ap (λ z. slot_of g.width (record_at (slot_size g.width) k (disk_of (new_blocks g) z))) own_first ∙ here));
  }

  part_is : IsDirectoryPart g (new_blocks g) root (root_part g.width)
  part_is = record {
    kind = refl;
    width = refl;
    size = refl;
    slots = two_by (HasSlot g (new_blocks g) root)
        (slot_stands 0 (Some dot_slot) (slot_zero_stands (slot_size g.width) (slots_a_block g.width) (form_is g.width)).0 (slot_zero_stands (slot_size g.width) (slots_a_block g.width) (form_is g.width)).1 first_slot)
        (slot_stands 1 (Some dots_slot) (slot_one_stands (slot_size g.width) (slots_a_block g.width) (form_is g.width)).0 (slot_one_stands (slot_size g.width) (slots_a_block g.width) (form_is g.width)).1 second_slot);
  }

  stored : IsStored g (new_blocks g) (root_placed g)
  stored = record {
    some = omega arith;
    within = sound.some_inode;
    fits = fits;
    inode = root_stands;
    zones = λ x some.
        let e : own x ≡ g.first = ap own (first_of x some) ∙ own_first in
        subst (λ z. (g.first ≤ z) × (z < g.zones)) (sym e) (omega arith, sound.some_zone);
    part = part_is;
  }

  names_are : HasNames placed (root_part g.width)
  names_are = record {
    named = λ name b at. absurd (none-some b at);
    full = λ k s at no_dot.
        absurd (two_by (λ k o. (s : Slot) → o ≡ Some s → is_dot s.name ≡ false → ⊥)
        (λ s e no. true≢false (ap (λ (s : Slot). is_dot s.name) (same_Some dot_slot s e) ∙ no)) (λ s e no. true≢false (ap (λ (s : Slot). is_dot s.name) (same_Some dots_slot s e) ∙ no))
        k (Some s) at s refl no_dot);
    count = refl;
    once = λ j k s t at to same.
        two_by (λ j o. (s : Slot) → o ≡ Some s → s.name ≡ t.name → j ≡ k)
        (λ s e same. two_by (λ k o. (t : Slot) → o ≡ Some t → codes "." ≡ t.name → 0 ≡ k) (λ t f same. refl)
        (λ t f same. absurd (dots_differ (same ∙ sym (ap (λ (s : Slot). s.name) (same_Some dots_slot t f))))) k (Some t) to t refl (ap (λ (s : Slot). s.name) (same_Some dot_slot s e) ∙ same))
        (λ s e same. two_by (λ k o. (t : Slot) → o ≡ Some t → codes ".." ≡ t.name → 1 ≡ k)
        (λ t f same. absurd (dots_differ (ap (λ (s : Slot). s.name) (same_Some dot_slot t f) ∙ sym same))) (λ t f same. refl) k (Some t) to t refl (ap (λ (s : Slot). s.name) (same_Some dots_slot s e) ∙ same))
        j (Some s) at s refl same;
  }

  part_of : (b : ℕ) (p : Placed) (d : DirectoryPart) → at_number placed b ≡ Some p → p.part ≡ parts.Directory d → root_part g.width ≡ d
  part_of b p d at is = same_directory (root_part g.width) d (ap (λ (p : Placed). p.part) (only_placed g b p at).1 ∙ is)

  volume_of : IsVolumeOf g (new_blocks g) placed
  unfolding IsStrictlySortedBy
  volume_of = record {
    whole = third_changes.whole;
    size = size_is;
    in_order = (tt, tt);
    each = λ b p at. subst (IsStored g (new_blocks g)) (only_placed g b p at).1 stored;
    names = λ b p d at is. subst (HasNames placed) (part_of b p d at is) names_are;
    numbers = λ a b p q at to e. (only_placed g a p at).0 ∙ sym (only_placed g b q to).0;
    zones = λ a b p q x y at to e some.
        let here : own x ≢ 0 = subst (λ (p : Placed). zone_in (new_blocks g) p.inode x ≢ 0) (sym (only_placed g a p at).1) some in
        let there : own y ≢ 0 = λ none. some (e ∙ (ap (λ (p : Placed). zone_in (new_blocks g) p.inode y) (sym (only_placed g b q to).1) ∙ none)) in
        ((only_placed g a p at).0 ∙ sym (only_placed g b q to).0, first_of x here ∙ sym (first_of y there));
  }

  just : IsJust own
  just x some = (0, own_some, subst (λ x. OnWay x 0) (sym (first_of x some)) (refl, omega arith))

  volume : IsVolume g (new_volume g)
  volume = (volume_of, λ b p at. subst (λ (p : Placed). IsJust (λ x. zone_in (new_blocks g) p.inode x)) (only_placed g b p at).1 just)

  -- ---- its tree

  tree_is : tree_now (new_blocks g) placed ≡ root_alone g.width
  unfolding tree_now
  tree_is = refl

  parent_in : Node → ℕ
  parent_in (nodes.Directory d) = d.parent
  parent_in (nodes.File f) = 0
  parent_in (nodes.Other mode) = 0

  width_in : Node → ℕ
  width_in (nodes.Directory d) = d.width
  width_in (nodes.File f) = 0
  width_in (nodes.Other mode) = 0

  rooted : IsRooted (root_alone g.width)
  unfolding IsStrictlySortedBy names_in width_in
  rooted = record {
    in_order = (tt, tt);
    names_in_order = λ b d at. subst (λ (names : List (List ℕ × ℕ)). IsStrictlySortedBy name_cmp (keys_of names)) (ap names_in (only_node g.width b (nodes.Directory d) at).1) tt;
    root = ((root_directory g.width), refl);
    width = g.width;
    of_width = λ b d at. sym (ap width_in (only_node g.width b (nodes.Directory d) at).1);
    short = λ parent name b gives. absurd (no_name g.width parent name b gives);
    leads = λ parent name b gives. absurd (no_name g.width parent name b gives);
    no_root = λ parent name b gives. absurd (no_name g.width parent name b gives);
    one_name = λ parent other name more b d gives given at. absurd (no_name g.width parent name b gives);
    led_to = λ b n at. subst (IsLedTo (root_alone g.width)) (sym (only_node g.width b n at).0) at_root;
  }

  slot_zones : HasSlotZones g (new_blocks g) root 2
  slot_zones = record {
    few = few_by (slot_size g.width) (slots_a_block g.width) (form_is g.width);
    no_hole = λ index low. (let zero_is : index ≡ 0 = zero_by (slot_size g.width) (slots_a_block g.width) (form_is g.width) index low in subst (λ k. own (block k) ≢ 0) (sym zero_is) own_some);
    no_more = λ index some. (let same = first_index index (first_of (block index) some) in less_by (slot_size g.width) (slots_a_block g.width) index same);
  }
    where
      few_by : (size per : ℕ) → IsForm size per → 2 ≤ 519 * per
      few_by size per narrow = omega arith
      few_by size per wide = omega arith

      zero_by : (size per : ℕ) → IsForm size per → (index : ℕ) → per * index < 2 → index ≡ 0
      zero_by size per narrow index low = omega arith
      zero_by size per wide index low = omega arith

      less_by : (size per index : ℕ) → index ≡ 0 → per * index < 2
      less_by size per index zero_is = rw zero_is (omega arith)

  dots : HasDots two_slots 1 1
  dots = record {
    here = refl;
    above = refl;
    no_later = λ k s more at. absurd (two_by (λ k o. 1 < k → ⊥) (λ less. omega arith) (λ less. omega arith) k (Some s) at more);
  }

  pub new_plain : IsPlainContents g (new_volume g)
  unfolding parent_in
  new_plain = record {
    volume = volume;
    rooted = subst IsRooted (sym tree_is) rooted;
    root_number = λ p at. sym (ap (λ (p : Placed). p.number) (only_placed g 0 p at).1);
    root_parent = λ d at. sym (ap parent_in (only_node g.width 0 (nodes.Directory d) (subst (λ t. at_number t 0 ≡ Some (nodes.Directory d)) tree_is at)).1);
    parents = λ parent name b d gives at. absurd (no_name g.width parent name b (subst (λ t. HasEntry t parent name b) tree_is gives));
    sizes = λ b p zones at is. absurd (let e : parts.Directory (root_part g.width) ≡ parts.File zones = ap (λ (p : Placed). p.part) (only_placed g b p at).1 ∙ is in cc);
    dots = λ b p d at is.
        subst (λ (d : DirectoryPart). (q : Placed) × (at_number placed d.parent ≡ Some q) × HasDots d.slots p.number q.number) (part_of b p d at is)
        (root_placed g, refl, subst (λ (p : Placed). HasDots two_slots p.number 1) (only_placed g b p at).1 dots);
    slot_zones = λ b p d at is.
        subst (λ (d : DirectoryPart). HasSlotZones g (new_blocks g) p.inode (length d.slots)) (part_of b p d at is)
        (subst (λ (p : Placed). HasSlotZones g (new_blocks g) p.inode 2) (only_placed g b p at).1 slot_zones);
    directory_links_are = λ b p d at is.
        ap (λ (p : Placed). p.inode.links) (sym (only_placed g b p at).1) ∙ ap (λ (d : DirectoryPart). directory_links (tree_now (new_blocks g) placed) (directory_from d)) (part_of b p d at is);
    file_links_are = λ b p zones at is. absurd (let e : parts.Directory (root_part g.width) ≡ parts.File zones = ap (λ (p : Placed). p.part) (only_placed g b p at).1 ∙ is in cc);
    few_links = λ b p at. subst (λ (p : Placed). p.inode.links ≤ 250) (only_placed g b p at).1 (omega arith);
  }
