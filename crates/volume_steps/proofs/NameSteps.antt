-- Steps on the names of a directory: a slot is written, and its names change with it.
use Rattle.std.specs.Prelude.{◌≡◌, ◌+◌, ◌/◌, ◌%◌, ℕ, zero, suc, Bool, true, false, List, [], ◌∷◌, length, slice_set, Option, Some, None, refl, ◌*◌}
use Rattle.std.specs.List.{slice_get}
use Rattle.std.specs.Str.{bytes_eq}
use Rattle.std.specs.List.Sorted.{IsStrictlySortedBy}
use Rattle.std.specs.Map.{keys_of}
use Rattle.std.proofs.Common.{sym, ap, subst, inl, inr, ◌∙◌, arith}
use Rattle.std.proofs.lemmas.Bool.{cases_eq, true≢false}
use Rattle.std.proofs.lemmas.List.{length-set}
use Rattle.std.proofs.lemmas.Option.{same_Some, none-some}
use Rattle.std.proofs.lemmas.Slice.Eq.{bytes_eq-Decides}
use Rattle.blk_base.specs.laws.Members.{slice_get-set_same, slice_get-set_other, slice_get-length}
use Rattle.minix_layout.specs.Widths.{slot_size, slots_a_block}
use Rattle.minix_layout.specs.declared.division.Geometry.{Geometry}
use Rattle.minix_layout.specs.declared.slot.Slot.{Slot}
use Rattle.minix_layout.specs.Geometry.{IsSound}
use Rattle.tree_model.specs.declared.node.Node.TheVariants as nodes
use Rattle.tree_model.specs.Maps.{at_number, at_name, put_number, name_cmp}
use Rattle.tree_model.specs.Paths.{is_dot}
use Rattle.tree_model.specs.Calls.{node_zones, directory_zones, without_name as tree_without_name}
use Rattle.volume_model.specs.declared.placed.Placed.{Placed}
use Rattle.volume_model.specs.declared.placed.Part.TheVariants as parts
use Rattle.volume_model.specs.declared.placed.DirectoryPart.{DirectoryPart}
use Rattle.volume_model.specs.Edits.{put_slot}
use Rattle.volume_model.specs.laws.Edits.{edited_elsewhere}
use Rattle.volume_model.specs.Volume.{block, zone_in, HasNames}
use Rattle.volume_model.specs.MapBlock.{OpenInode}
use Rattle.volume_model.specs.Moves.{IsVolume, slot_put, without, without_name, name_removed, back_told, with_size}
use Rattle.volume_model.specs.Touched.{Contents}
use Rattle.volume_model.specs.Plain.{HasDots, HasSlotZones}
use Rattle.volume_model.specs.Trees.{directory_from, tree_now, node_from}
use Rattle.volume_model.specs.laws.SlotMoves.{MayPut, may_move, same_zone, put_stands, may_take_name, put_open}
use Rattle.volume_steps.specs.Now.{VolumeNow, Change, tree_of_now, with_contents, unchanged}
use Rattle.volume_steps.specs.Steps.{has_name, place_of, take_name, tells_node, slot_told}
use Rattle.volume_steps.specs.Plain.{IsInUse}
use Rattle.volume_steps.specs.laws.Steady.{IsSteady}
use Rattle.volume_steps.proofs.Grows.{is_directory_part, GrowsTo}
use Rattle.volume_steps.proofs.NodeSteps.{MayGrow, IsSettled, AreSlotted, closed_grows, closed_maps, closed_numbers, closed_settled, closed_slotted, zones_settled}
use Rattle.volume_steps.proofs.Listed.{put_told}
use Rattle.volume_steps.proofs.QuietSteps.{at_directory_is, quiet_steady}
use Rattle.volume_steps.proofs.TreeSteps.{grown_pages, tree_put}
use Rattle.volume_steps.proofs.Marked.{SameMaps, SameNumbers}
use Rattle.volume_model.specs.laws.Back.{told_table}

-- ---- a slot is written

module _ (g : Geometry) (sound : IsSound g) (v : Contents) (n : ℕ) (p : Placed) (h : IsVolume g v) (at : at_number v.nodes n ≡ Some p) (d : DirectoryPart) (is : p.part ≡ parts.Directory d)
    (k : ℕ) (o : Option Slot) (next : DirectoryPart) (put : MayPut g v p d k o next) where
  abbrev pub slot_blocks : List ℕ
  slot_blocks = zone_in v.blocks p.inode (block (k / slots_a_block g.width)) ∷ back_told g p (with_size p.inode (slot_size g.width * length next.slots))

  pub slot_grow : MayGrow g sound v n p h at (put_open g sound v n p h at d is k o next put) (parts.Directory next) (λ b. b ≡ zone_in v.blocks p.inode (block (k / slots_a_block g.width)))
      (may_move g sound v n p h at d is k o next put) slot_blocks []
  slot_grow =
      let same = same_zone g sound v n p h at d is k o next put in
      record {
        kind = sym (ap is_directory_part is);
        stays_as = λ x some. same x;
        was = λ x some. inl (same x);
        bytes = λ b none. edited_elsewhere g v.blocks (put_slot (zone_in v.blocks p.inode (block (k / slots_a_block g.width))) (k % slots_a_block g.width) o) b (λ e. none (inl (sym e)));
        table = λ b j. inr j;
        meta = λ b i. elim i [
          | inl e ↦ inr (block (k / slots_a_block g.width), (λ none. put.mapped (sym (same (block (k / slots_a_block g.width))) ∙ none)), same (block (k / slots_a_block g.width)) ∙ e, refl)
          | inr j ↦ inl (told_table g p (with_size p.inode (slot_size g.width * length next.slots)) b j)
        ];
        told = λ zone i. absurd i;
        mapped = λ zone i. absurd i;
      }

  pub slot_grows : GrowsTo g v (slot_put g v n p k o next) slot_blocks []
  slot_grows = closed_grows g sound v n p h at (put_open g sound v n p h at d is k o next put) (parts.Directory next) (λ b. b ≡ zone_in v.blocks p.inode (block (k / slots_a_block g.width)))
      (may_move g sound v n p h at d is k o next put) slot_blocks [] slot_grow

  pub slot_maps : SameMaps g v.blocks (slot_put g v n p k o next).blocks
  slot_maps = closed_maps g sound v n p h at (put_open g sound v n p h at d is k o next put) (parts.Directory next) (λ b. b ≡ zone_in v.blocks p.inode (block (k / slots_a_block g.width)))
      (may_move g sound v n p h at d is k o next put) slot_blocks [] slot_grow

  pub slot_numbers : SameNumbers v.nodes (slot_put g v n p k o next).nodes
  slot_numbers = closed_numbers g sound v n p h at (put_open g sound v n p h at d is k o next put) (parts.Directory next) (λ b. b ≡ zone_in v.blocks p.inode (block (k / slots_a_block g.width)))
      (may_move g sound v n p h at d is k o next put) slot_blocks [] slot_grow

  pub slot_settled : IsSettled v → ((r : Placed) × (at_number v.nodes next.parent ≡ Some r) × HasDots next.slots p.number r.number) → IsSettled (slot_put g v n p k o next)
  slot_settled old dots = closed_settled g sound v n p h at (put_open g sound v n p h at d is k o next put) (parts.Directory next) (λ b. b ≡ zone_in v.blocks p.inode (block (k / slots_a_block g.width)))
      (may_move g sound v n p h at d is k o next put) slot_blocks [] slot_grow
      (record {
        sizes = λ zones same. absurd (cc same);
        dots = λ e same. subst (λ (e : DirectoryPart). (r : Placed) × (at_number v.nodes e.parent ≡ Some r) × HasDots e.slots p.number r.number) (same_directory next e same) dots;
        few_links = old.few_links n p at;
      }) old
    where
      same_directory : (e f : DirectoryPart) → parts.Directory e ≡ parts.Directory f → e ≡ f
      same_directory e f same = cc

  pub slot_slotted : AreSlotted g (λ a. a ≡ n) v → HasSlotZones g v.blocks p.inode (length next.slots) → AreSlotted g (λ a. ⊥) (slot_put g v n p k o next)
  slot_slotted old zones = closed_slotted g sound v n p h at (put_open g sound v n p h at d is k o next put) (parts.Directory next) (λ b. b ≡ zone_in v.blocks p.inode (block (k / slots_a_block g.width)))
      (may_move g sound v n p h at d is k o next put) slot_blocks [] slot_grow old
      (λ e same. subst (λ (e : DirectoryPart). HasSlotZones g (put_open g sound v n p h at d is k o next put).blocks (put_open g sound v n p h at d is k o next put).inode (length e.slots)) (same_directory next e same)
      (zones_settled g v.blocks (put_open g sound v n p h at d is k o next put).blocks p.inode (put_open g sound v n p h at d is k o next put).inode (length next.slots) (same_zone g sound v n p h at d is k o next put) zones))
    where
      same_directory : (e f : DirectoryPart) → parts.Directory e ≡ parts.Directory f → e ≡ f
      same_directory e f same = cc

  pub slot_tree : tree_now (slot_put g v n p k o next).blocks (slot_put g v n p k o next).nodes ≡ put_number (tree_now v.blocks v.nodes) n (nodes.Directory (directory_from next))
  slot_tree = tree_put v.blocks (slot_put g v n p k o next).blocks v.nodes h.0.in_order
      (grown_pages g v (slot_put g v n p k o next) slot_blocks [] [] slot_grows h.0 (put_stands g sound v n p h at d is k o next put).0) n
      (record { number = p.number; inode = (put_open g sound v n p h at d is k o next put).inode; part = parts.Directory next })

-- ---- the place of a name

bytes_same : (name : List ℕ) → bytes_eq name name ≡ true
bytes_same name = (bytes_eq-Decides name name).1 refl

same_bytes : (a b : List ℕ) → bytes_eq a b ≡ true → a ≡ b
same_bytes a b e = (bytes_eq-Decides a b).0 e

one_more : (k : ℕ) → 1 + k ≡ suc k
one_more k = omega arith

-- a slot that is found by its name
pub record NameStands (slots : List (Option Slot)) (name : List ℕ) : Type 0 where
  pub slot : Slot
  pub stands : slice_get slots (place_of name slots) ≡ Some (Some slot)
  pub name_is : slot.name ≡ name

pub place_found : (slots : List (Option Slot)) (name : List ℕ) (j : ℕ) (s : Slot) → slice_get slots j ≡ Some (Some s) → s.name ≡ name → NameStands slots name
place_found [] name j s h e = absurd (cc)
place_found (o ∷ slots) name zero s h e =
    let same : o ≡ Some s = same_Some o (Some s) h in
    let named : has_name name o ≡ true = ap (has_name name) same ∙ (ap (λ n. bytes_eq n name) e ∙ bytes_same name) in
    record { slot = s; stands = rw named (ap Some same); name_is = e }
place_found (None ∷ slots) name (suc j) s h e = further None (place_found slots name j s h e) refl
  where
    further : (o : Option Slot) (w : NameStands slots name) → has_name name o ≡ false → NameStands (o ∷ slots) name
    further o w f = record { slot = w.slot; stands = rw f (ap (slice_get (o ∷ slots)) (one_more (place_of name slots)) ∙ w.stands); name_is = w.name_is }
place_found (Some t ∷ slots) name (suc j) s h e = by (bytes_eq t.name name) refl (place_found slots name j s h e)
  where
    by : (b : Bool) → bytes_eq t.name name ≡ b → NameStands slots name → NameStands (Some t ∷ slots) name
    by true q w = record { slot = t; stands = rw q refl; name_is = same_bytes t.name name q }
    by false q w = record { slot = w.slot; stands = rw q (ap (slice_get (Some t ∷ slots)) (one_more (place_of name slots)) ∙ w.stands); name_is = w.name_is }

-- ---- a name goes

-- the dots stay where another slot is freed
dots_without : (slots : List (Option Slot)) (own parent k : ℕ) (s : Slot) → HasDots slots own parent → slice_get slots k ≡ Some (Some s) → is_dot s.name ≡ false →
    HasDots (slice_set slots k None) own parent
dots_without slots own parent k s h at no_dot = record {
  here = slice_get-set_other slots k 0 None (λ e. first (sym e)) ∙ h.here;
  above = slice_get-set_other slots k 1 None (λ e. second (sym e)) ∙ h.above;
  no_later = λ j t late found. elim (cases_eq j k) [
    | inl e ↦ absurd (none-some t (same_Some None (Some t) (sym (slice_get-set_same slots k None (slice_get-length slots k (Some s) at)) ∙ subst (λ j. slice_get (slice_set slots k None) j ≡ Some (Some t)) e found)))
    | inr a ↦ h.no_later j t late (sym (slice_get-set_other slots k j None a) ∙ found)
  ];
}
  where
    same_slot : (a b : Slot) → ◌≡◌ {A = Option (Option Slot)} (Some (Some a)) (Some (Some b)) → a ≡ b
    same_slot a b e = cc

    first : k ≡ 0 → ⊥
    first e = true≢false (ap (λ (t : Slot). is_dot t.name) (same_slot _ s (sym h.here ∙ (ap (slice_get slots) (sym e) ∙ at))) ∙ no_dot)

    second : k ≡ 1 → ⊥
    second e = true≢false (ap (λ (t : Slot). is_dot t.name) (same_slot _ s (sym h.above ∙ (ap (slice_get slots) (sym e) ∙ at))) ∙ no_dot)

module _ (tx : ℕ) (v : VolumeNow) (in_use : IsInUse v) (n : ℕ) (p : Placed) (at : at_number v.contents.nodes n ≡ Some p) (d : DirectoryPart) (is : p.part ≡ parts.Directory d)
    (name : List ℕ) (birth : ℕ) (found : at_name d.names name ≡ Some birth) (sorted : IsStrictlySortedBy name_cmp (keys_of d.names)) where
  abbrev pub k : ℕ
  k = place_of name d.slots

  abbrev names : HasNames v.contents.nodes d
  names = in_use.volume.0.names n p d at is

  pub w : NameStands d.slots name
  w = place_found d.slots name (names.named name birth found).place (names.named name birth found).slot (names.named name birth found).stands (names.named name birth found).name_is

  no_dot : is_dot w.slot.name ≡ false
  no_dot = ap is_dot w.name_is ∙ (names.named name birth found).no_dot

  abbrev next : DirectoryPart
  next = without_name d k w.slot

  put : MayPut v.geometry v.contents p d k None next
  put = may_take_name v.geometry v.contents n p d k w.slot in_use.volume at is sorted w.stands no_dot

  abbrev pub taken : Change
  taken = record {
    volume = with_contents v (name_removed v.geometry v.contents n p d k w.slot);
    touched = tells_node n (slot_told v p k next);
  }

  long : length (slice_set d.slots k None) ≡ length d.slots
  long = length-set d.slots k None

  abbrev open_now : OpenInode
  open_now = put_open v.geometry in_use.sound v.contents n p in_use.volume at d is k None next put

  pub taken_steady : IsSteady tx v taken (λ birth index. ⊥)
  taken_steady = quiet_steady tx v in_use n p at open_now (parts.Directory next) (λ b. b ≡ zone_in v.contents.blocks p.inode (block (k / slots_a_block v.geometry.width)))
      (may_move v.geometry in_use.sound v.contents n p in_use.volume at d is k None next put) (slot_blocks v.geometry in_use.sound v.contents n p in_use.volume at d is k None next put) (n ∷ [])
      (slot_grow v.geometry in_use.sound v.contents n p in_use.volume at d is k None next put) (put_stands v.geometry in_use.sound v.contents n p in_use.volume at d is k None next put)
      (ap (directory_zones d.width) long ∙ sym (ap (λ part. node_zones (node_from v.contents.blocks p.inode part)) is))
      (put_told v.geometry v.contents taken.volume.contents taken.touched n _ refl (inl refl) (λ b i. elim i [ inl e ↦ sym e | inr z ↦ absurd z ]) (λ zones is. absurd (cc is)))

  pub taken_tree : tree_of_now taken.volume ≡ put_number (tree_of_now v) n (nodes.Directory (tree_without_name (directory_from d) name))
  taken_tree = slot_tree v.geometry in_use.sound v.contents n p in_use.volume at d is k None next put
      ∙ ap (λ directory. put_number (tree_of_now v) n (nodes.Directory directory)) (same_directory long w.name_is)
    where
      same_directory : length (slice_set d.slots k None) ≡ length d.slots → w.slot.name ≡ name → directory_from next ≡ tree_without_name (directory_from d) name
      same_directory a b = λ i. record { parent = d.parent; width = d.width; slots = a i; names = without d.names (b i) }

  pub taken_settled : IsSettled v.contents → IsSettled taken.volume.contents
  taken_settled old =
      let dots = old.dots n p d at is in
      slot_settled v.geometry in_use.sound v.contents n p in_use.volume at d is k None next put old
      (dots.0, dots.1, dots_without d.slots p.number dots.0.number k w.slot dots.2 w.stands no_dot)

  pub taken_slotted : AreSlotted v.geometry (λ a. ⊥) v.contents → AreSlotted taken.volume.geometry (λ a. ⊥) taken.volume.contents
  taken_slotted old = slot_slotted v.geometry in_use.sound v.contents n p in_use.volume at d is k None next put (λ a r e found is apart. old a r e found is (λ z. z))
      (subst (HasSlotZones v.geometry v.contents.blocks p.inode) (sym long) (old n p d at is (λ z. z)))

  pub taken_numbers : SameNumbers v.contents.nodes taken.volume.contents.nodes
  taken_numbers = slot_numbers v.geometry in_use.sound v.contents n p in_use.volume at d is k None next put

  pub take_name_is : take_name v n name ≡ taken
  take_name_is =
      at_directory_is v n p d (λ p d. elim (slice_get d.slots (place_of name d.slots)) as (λ _. Change) [ None ↦ unchanged v | Some o ↦ by p d o ]) at is
      ∙ ap (λ (o : Option (Option Slot)). elim o as (λ _. Change) [ None ↦ unchanged v | Some o ↦ by p d o ]) w.stands
    where
      by : Placed → DirectoryPart → Option Slot → Change
      by p d None = unchanged v
      by p d (Some s) = record {
        volume = with_contents v (name_removed v.geometry v.contents n p d (place_of name d.slots) s);
        touched = tells_node n (slot_told v p (place_of name d.slots) (without_name d (place_of name d.slots) s));
      }
