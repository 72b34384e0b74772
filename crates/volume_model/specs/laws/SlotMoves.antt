-- A slot of a directory changes, and its names with it. Volumes stand before and after it.
use Rattle.std.specs.Prelude.{◌≡◌, ◌≢◌, ℕ, ◌+◌, ◌*◌, ◌/◌, ◌%◌, ◌^◌, ◌<◌, ◌≤◌, false, List, length, Option, Some, None, IfSome, refl}
use Rattle.std.specs.List.{slice_get}
use Rattle.std.specs.List.Sorted.{IsStrictlySortedBy}
use Rattle.std.specs.Map.{keys_of}
use Rattle.std.proofs.Common.{sym, ap, subst, ◌∙◌, inl, inr, arith}
use Rattle.std.proofs.lemmas.Bool.{cases_eq}
use Rattle.std.proofs.lemmas.Option.{same_Some}
use Rattle.std.proofs.lemmas.List.{length-set}
use Rattle.blk_base.specs.laws.Members.{slice_get-set_same, slice_get-set_other, slice_get-length}
use Rattle.byte_fields.specs.Fields.{record_at}
use Rattle.std.proofs.Math.Nat.{mul-le-mul_left}
use Rattle.minix_layout.specs.laws.Places.{form_is, place_low, same_slot}
use Rattle.minix_layout.specs.Widths.{slot_size, slots_a_block}
use Rattle.minix_layout.specs.declared.division.Geometry.{Geometry}
use Rattle.minix_layout.specs.declared.inode.Inode.{Inode}
use Rattle.minix_layout.specs.declared.slot.Slot.{Slot}
use Rattle.minix_layout.specs.Geometry.{IsSound}
use Rattle.minix_layout.specs.Slots.{slot_of, IsEntry}
use Rattle.tree_model.specs.Maps.{at_number, at_name, name_cmp}
use Rattle.tree_model.specs.Paths.{is_dot}
use Rattle.volume_ops.specs.Volume.{disk_of}
use Rattle.volume_model.specs.declared.placed.Placed.{Placed}
use Rattle.volume_model.specs.declared.placed.Part.TheVariants as parts
use Rattle.volume_model.specs.declared.placed.DirectoryPart.{DirectoryPart}
use Rattle.minix_tables.specs.directories.Slots.{room}
use Rattle.volume_model.specs.Edits.{put_slot, edited}
use Rattle.volume_model.specs.Changes.{Changes}
use Rattle.volume_model.specs.Volume.{Place, block, indirect, double, inner, zone_in, IsOfNumbers, HasSlot, IsDirectoryPart, IsPart, HasNumber, HasNames}
use Rattle.volume_model.specs.MapBlock.{OpenInode, own_of}
use Rattle.volume_model.specs.Touched.{Contents}
use Rattle.volume_model.specs.Moves.{IsVolume, with_size, slot_put, with_name, name_added, without_name, name_removed}
use Rattle.volume_model.specs.laws.Edits.{slot_here, slot_elsewhere}
use Rattle.volume_model.specs.laws.Changes.{changes_slot}
use Rattle.volume_model.specs.laws.Zones.{zones_kept}
use Rattle.volume_model.specs.laws.OnWay.{just_same}
use Rattle.volume_model.specs.laws.MapBlock.{IsFit}
use Rattle.volume_model.specs.laws.ZoneMoves.{MayMove, moved_stands, moved_just, theirs_apart, no_numbers}
use Rattle.minix_tables.specs.directories.laws.Slots.{room-within, with_slot-here, with_slot-other, length-with_slot_most}
use Rattle.volume_model.specs.laws.Gone.{names_without}
use Rattle.volume_model.specs.laws.Names.{names_with}

-- the size of an inode says nothing of its zones
sized : (blocks : List (List ℕ)) (i : Inode) (size : ℕ) (x : Place) → zone_in blocks (with_size i size) x ≡ zone_in blocks i x
sized blocks i size (block index) = refl
sized blocks i size indirect = refl
sized blocks i size double = refl
sized blocks i size (inner k) = refl

same_block : (i j : ℕ) → block i ≡ block j → i ≡ j
same_block i j e = cc

-- What is asked of the directory afterwards: slot k is this one, and each other slot stood there before.
pub record MayPut (g : Geometry) (v : Contents) (p : Placed) (d : DirectoryPart) (k : ℕ) (o : Option Slot) (next : DirectoryPart) : Type 0 where
  pub mapped : zone_in v.blocks p.inode (block (k / slots_a_block g.width)) ≢ 0
  pub entry : IfSome o (λ e. IsEntry g.width e)
  pub here : slice_get next.slots k ≡ Some o
  pub others : (j : ℕ) (x : Option Slot) → j ≢ k → slice_get next.slots j ≡ Some x → slice_get d.slots j ≡ Some x
  pub width : next.width ≡ g.width
  pub size : slot_size g.width * length next.slots < 2 ^ 32
  pub names : HasNames v.nodes next

module _ (g : Geometry) (sound : IsSound g) (v : Contents) (n : ℕ) (p : Placed) (h : IsVolume g v) (stands : at_number v.nodes n ≡ Some p)
    (d : DirectoryPart) (is : p.part ≡ parts.Directory d) (k : ℕ) (o : Option Slot) (next : DirectoryPart) (may : MayPut g v p d k o next) where
  abbrev z : ℕ
  z = zone_in v.blocks p.inode (block (k / slots_a_block g.width))

  abbrev after : List (List ℕ)
  after = edited g v.blocks (put_slot z (k % slots_a_block g.width) o)

  abbrev u : OpenInode
  u = record { blocks = after; inode = with_size p.inode (slot_size g.width * length next.slots) }

  -- its inode, with the blocks after the slot was written
  abbrev pub put_open : OpenInode
  put_open = u

  range : (g.first ≤ z) × (z < g.zones)
  range = (h.0.each n p stands).zones (block (k / slots_a_block g.width)) may.mapped

  low : k % slots_a_block g.width < slots_a_block g.width
  low = place_low (slot_size g.width) (slots_a_block g.width) (form_is g.width) k

  inside : z < length v.blocks
  inside = let size = h.0.size in let high = range.1 in omega arith

  pub changes : Changes g (λ _. ⊥) (λ b. b ≡ z) v.blocks after
  changes = changes_slot g v.blocks z (k % slots_a_block g.width) o sound h.0.whole h.0.size range.0 range.1 low may.entry

  -- no zone of numbers is the one that is written
  not_numbers : (x : Place) → IsOfNumbers x → zone_in v.blocks p.inode x ≢ 0 → zone_in v.blocks p.inode x ≡ z → ⊥
  not_numbers x numbers some same = no_numbers x (k / slots_a_block g.width) (h.0.zones n n p p x (block (k / slots_a_block g.width)) stands stands same some).1 numbers

  zone_kept : (x : Place) → zone_in after p.inode x ≡ zone_in v.blocks p.inode x
  zone_kept = zones_kept v.blocks after p.inode
      (λ x numbers some. changes.zones (zone_in v.blocks p.inode x) ((h.0.each n p stands).zones x some).0 (not_numbers x numbers some))

  pub same_zone : (x : Place) → own_of u x ≡ zone_in v.blocks p.inode x
  same_zone x = sized after p.inode (slot_size g.width * length next.slots) x ∙ zone_kept x

  fit : IsFit g u
  fit =
      let told = h.0.each n p stands in
      let f = told.fits in
      record {
        whole = changes.whole;
        size = changes.size ∙ h.0.size;
        fits = record { mode = f.mode; uid = f.uid; size = may.size; time = f.time; gid = f.gid; links = f.links; nine = f.nine; zones = f.zones };
        within = λ x some. subst (λ w. (g.first ≤ w) × (w < g.zones)) (sym (same_zone x)) (told.zones x (λ none. some (same_zone x ∙ none)));
        apart = λ x y same some. (h.0.zones n n p p x y stands stands (sym (same_zone x) ∙ same ∙ same_zone y) (λ none. some (same_zone x ∙ none))).1;
      }

  part_before : IsDirectoryPart g v.blocks p.inode d
  part_before = subst (IsPart g v.blocks p.inode) is (h.0.each n p stands).part

  -- the slot that is written
  slot_now : HasSlot g after u.inode k o
  slot_now = record {
    mapped = λ none. may.mapped (sym (same_zone (block (k / slots_a_block g.width))) ∙ none);
    stands = ap (λ zone. slot_of g.width (record_at (slot_size g.width) (k % slots_a_block g.width) (disk_of after zone))) (same_zone (block (k / slots_a_block g.width)))
        ∙ slot_here g sound.width v.blocks z (k % slots_a_block g.width) o h.0.whole inside low may.entry;
  }

  -- another slot
  slot_before : (j : ℕ) (x : Option Slot) → j ≢ k → HasSlot g v.blocks p.inode j x → HasSlot g after u.inode j x
  slot_before j x apart old = record {
    mapped = λ none. old.mapped (sym (same_zone (block (j / slots_a_block g.width))) ∙ none);
    stands = ap (λ zone. slot_of g.width (record_at (slot_size g.width) (j % slots_a_block g.width) (disk_of after zone))) (same_zone (block (j / slots_a_block g.width)))
        ∙ slot_elsewhere g sound.width v.blocks z (k % slots_a_block g.width) (zone_in v.blocks p.inode (block (j / slots_a_block g.width))) (j % slots_a_block g.width) o h.0.whole inside low (place_low (slot_size g.width) (slots_a_block g.width) (form_is g.width) j) may.entry other
        ∙ old.stands;
  }
    where
      other : zone_in v.blocks p.inode (block (j / slots_a_block g.width)) ≡ z → j % slots_a_block g.width ≡ k % slots_a_block g.width → ⊥
      other same place =
          let group : j / slots_a_block g.width ≡ k / slots_a_block g.width = same_block (j / slots_a_block g.width) (k / slots_a_block g.width) (h.0.zones n n p p (block (j / slots_a_block g.width)) (block (k / slots_a_block g.width)) stands stands same old.mapped).1 in
          apart (same_slot (slot_size g.width) (slots_a_block g.width) (form_is g.width) j k group place)

  part_after : IsDirectoryPart g after u.inode next
  part_after = record {
    kind = part_before.kind;
    width = may.width;
    size = refl;
    slots = λ j x at. elim (cases_eq j k) [
      | inl e ↦ subst (λ i. HasSlot g after u.inode i x) (sym e) (subst (HasSlot g after u.inode k) (same_Some o x (sym may.here ∙ subst (λ i. slice_get next.slots i ≡ Some x) e at)) slot_now)
      | inr a ↦ slot_before j x a (part_before.slots j x (may.others j x a at))
    ];
  }

  pub may_move : MayMove g sound v.blocks v.nodes n p h.0 stands u (parts.Directory next) (λ b. b ≡ z)
  may_move = record {
    fit = fit;
    changes = changes;
    not_theirs = λ a r x at apart some same. theirs_apart g sound v.blocks v.nodes n p h.0 stands a r (block (k / slots_a_block g.width)) x at apart (sym same) may.mapped;
    none_of_theirs = λ a r x y at apart same some.
        theirs_apart g sound v.blocks v.nodes n p h.0 stands a r x y at apart (sym (same_zone x) ∙ same) (λ none. some (same_zone x ∙ none));
    part_is = part_after;
    names = λ e same. subst (HasNames v.nodes) (same_directory next e same) may.names;
  }
    where
      same_directory : (e f : DirectoryPart) → parts.Directory e ≡ parts.Directory f → e ≡ f
      same_directory e f same = cc

  pub put_stands : IsVolume g (slot_put g v n p k o next)
  put_stands = (
    moved_stands g sound v.blocks v.nodes n p h.0 stands u (parts.Directory next) (λ b. b ≡ z) may_move,
    moved_just g sound v.blocks v.nodes n p h.0 stands u (parts.Directory next) (λ b. b ≡ z) may_move h.1
        (just_same (λ x. zone_in v.blocks p.inode x) (own_of u) same_zone (h.1 n p stands)),
  )

-- a name and its slot may come
pub may_add_name : (g : Geometry) (v : Contents) (n : ℕ) (p : Placed) (d : DirectoryPart) (s : Slot) (birth : ℕ) → IsVolume g v → at_number v.nodes n ≡ Some p →
    p.part ≡ parts.Directory d → zone_in v.blocks p.inode (block (room d.slots / slots_a_block g.width)) ≢ 0 → IsEntry g.width s → is_dot s.name ≡ false → at_name d.names s.name ≡ None →
    HasNumber v.nodes birth s.inode → slot_size g.width * (length d.slots + 1) < 2 ^ 32 → MayPut g v p d (room d.slots) (Some s) (with_name d s birth)
may_add_name g v n p d s birth h stands is mapped entry no_dot free number few = record {
  mapped = mapped;
  entry = entry;
  here = with_slot-here d.slots (room d.slots) s (room-within d.slots);
  others = λ j x apart at. with_slot-other d.slots (room d.slots) j s x (room-within d.slots) apart at;
  width = (subst (IsPart g v.blocks p.inode) is (h.0.each n p stands).part).width;
  size = (let most = mul-le-mul_left (slot_size g.width) (length-with_slot_most d.slots s) in omega arith);
  names = names_with v.nodes d s birth (h.0.names n p d stands is) free no_dot number;
}

-- a name and its slot come
pub name_added_stands : (g : Geometry) (v : Contents) (n : ℕ) (p : Placed) (d : DirectoryPart) (s : Slot) (birth : ℕ) → IsSound g → IsVolume g v → at_number v.nodes n ≡ Some p →
    p.part ≡ parts.Directory d → zone_in v.blocks p.inode (block (room d.slots / slots_a_block g.width)) ≢ 0 → IsEntry g.width s → is_dot s.name ≡ false → at_name d.names s.name ≡ None →
    HasNumber v.nodes birth s.inode → slot_size g.width * (length d.slots + 1) < 2 ^ 32 → IsVolume g (name_added g v n p d s birth)
name_added_stands g v n p d s birth sound h stands is mapped entry no_dot free number few =
    put_stands g sound v n p h stands d is (room d.slots) (Some s) (with_name d s birth) (may_add_name g v n p d s birth h stands is mapped entry no_dot free number few)

-- a name and its slot may go
pub may_take_name : (g : Geometry) (v : Contents) (n : ℕ) (p : Placed) (d : DirectoryPart) (k : ℕ) (s : Slot) → IsVolume g v → at_number v.nodes n ≡ Some p →
    p.part ≡ parts.Directory d → IsStrictlySortedBy name_cmp (keys_of d.names) → slice_get d.slots k ≡ Some (Some s) → is_dot s.name ≡ false → MayPut g v p d k None (without_name d k s)
may_take_name g v n p d k s h stands is sorted at no_dot =
    let told = h.0.each n p stands in
    let part : IsDirectoryPart g v.blocks p.inode d = subst (IsPart g v.blocks p.inode) is told.part in
    record {
      mapped = (part.slots k (Some s) at).mapped;
      entry = tt;
      here = slice_get-set_same d.slots k None (slice_get-length d.slots k (Some s) at);
      others = λ j x apart found. sym (slice_get-set_other d.slots k j None apart) ∙ found;
      width = part.width;
      size = (let long = ap (λ n. slot_size g.width * n) (length-set d.slots k None) in let was = part.size in let fits = told.fits.size in omega arith);
      names = names_without v.nodes d k s (h.0.names n p d stands is) sorted at no_dot;
    }

-- a name and its slot go
pub name_removed_stands : (g : Geometry) (v : Contents) (n : ℕ) (p : Placed) (d : DirectoryPart) (k : ℕ) (s : Slot) → IsSound g → IsVolume g v → at_number v.nodes n ≡ Some p →
    p.part ≡ parts.Directory d → IsStrictlySortedBy name_cmp (keys_of d.names) → slice_get d.slots k ≡ Some (Some s) → is_dot s.name ≡ false → IsVolume g (name_removed g v n p d k s)
name_removed_stands g v n p d k s sound h stands is sorted at no_dot =
    put_stands g sound v n p h stands d is k None (without_name d k s) (may_take_name g v n p d k s h stands is sorted at no_dot)
