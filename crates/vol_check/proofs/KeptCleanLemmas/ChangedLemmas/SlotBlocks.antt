-- The blocks of a directory in which a slot is written, and that get a name.
use Rattle.std.specs.Prelude.{◌≡◌, ◌≢◌, ◌⊎◌, ◌*◌, ◌/◌, ◌%◌, ◌<◌, ◌≤◌, nat_eq, ℕ, zero, suc, List, [], ◌∷◌, length, Option, Some, None, Result, Ok, refl}
use Rattle.std.specs.List.{slice_get}
use Rattle.std.proofs.Common.{sym, ap, subst, ◌∙◌, inl, inr, arith}
use Rattle.std.proofs.lemmas.Bool.{cases_Bool, cases_lt, eqb-true, eqb-false}
use Rattle.blk_base.specs.Members.{In}
use Rattle.blk_base.specs.laws.Members.{In-append_cases}
use Rattle.byte_fields.specs.Fields.{record_at}
use Rattle.minix_tables.specs.directories.Slots.{room}
use Rattle.minix_tables.specs.directories.laws.Slots.{room-free}
use Rattle.minix_layout.specs.declared.division.Geometry.{Geometry}
use Rattle.minix_layout.specs.declared.fault.LayoutFault.{LayoutFault}
use Rattle.minix_layout.specs.declared.slot.Slot.{Slot}
use Rattle.minix_layout.specs.Geometry.{IsSound}
use Rattle.minix_layout.specs.Slots.{slot_of}
use Rattle.minix_layout.specs.Widths.{slot_size, slots_a_block}
use Rattle.tree_model.specs.Maps.{at_number}
use Rattle.tree_model.specs.laws.MapsLaws.{at_put_number, at_put_number_apart}
use Rattle.volume_ops.specs.Places.{table_block}
use Rattle.volume_ops.specs.Volume.{disk_of}
use Rattle.volume_model.specs.declared.placed.DirectoryPart.{DirectoryPart}
use Rattle.volume_model.specs.declared.placed.Part.TheVariants as parts
use Rattle.volume_model.specs.declared.placed.Placed.{Placed}
use Rattle.volume_model.specs.Moves.{IsVolume, slot_put, with_size, with_name}
use Rattle.volume_model.specs.Touched.{IsMeta}
use Rattle.volume_model.specs.Volume.{Place, block, zone_in, HasSlot, IsDirectoryPart, IsPart}
use Rattle.volume_model.specs.laws.Back.{told_table}
use Rattle.volume_model.specs.laws.SlotMoves.{MayPut, may_move, put_open, same_zone}
use Rattle.volume_model.specs.laws.ZoneMoves.{may_change, same_zone as moved_zone}
use Rattle.volume_model.specs.laws.NodeMoves.{same_zone as node_zone}
use Rattle.volume_steps.specs.Now.{VolumeNow, Change, with_contents, followed_by}
use Rattle.volume_steps.specs.Plain.{IsInUse}
use Rattle.volume_steps.specs.Steps.{tells_node, slot_told}
use Rattle.vol_check.specs.kept_clean.changed.Tidy.{IsTidy}
use Rattle.vol_check.proofs.KeptCleanLemmas.ChangedLemmas.Ends.{Ends, told_differs}
use Rattle.vol_check.proofs.KeptCleanLemmas.ChangedLemmas.MapBlocks.{IsRaised}
use Rattle.vol_check.proofs.KeptCleanLemmas.ChangedLemmas.Rising.{own, Rises, Told, rises_then, told_first, told_later, not_free}

-- ---- a slot at both ends of a call

-- the zone of a slot
abbrev pub slot_zone : VolumeNow → Placed → ℕ → ℕ
slot_zone v p k = own v p (block (k / slots_a_block v.geometry.width))

-- A directory has another slot at this place, in the zone that it had: its block is another one.
pub slot_differs_here : (tx : ℕ) (v : VolumeNow) (c : Change) (e : Ends tx v c) (n : ℕ) (q : Placed) → at_number c.volume.contents.nodes n ≡ Some q → (next : DirectoryPart) → q.part ≡ parts.Directory next →
    (k : ℕ) (was now : Option Slot) → slice_get next.slots k ≡ Some now → was ≢ now → (p : Placed) → HasSlot v.geometry v.contents.blocks p.inode k was →
    own c.volume q (block (k / slots_a_block v.geometry.width)) ≡ slot_zone v p k →
    disk_of c.volume.contents.blocks (slot_zone v p k) ≢ disk_of v.contents.blocks (slot_zone v p k)
slot_differs_here tx v c e n q at next is k was now stands other p before kept same =
    other (as_one (sym before.stands ∙ (ap (λ body. slot_of v.geometry.width (record_at (slot_size v.geometry.width) (k % slots_a_block v.geometry.width) body)) (sym same)
    ∙ (ap (λ z. slot_of v.geometry.width (record_at (slot_size v.geometry.width) (k % slots_a_block v.geometry.width) (disk_of c.volume.contents.blocks z))) (sym kept) ∙ (part.slots k now stands).stands))))
  where
    part : IsDirectoryPart v.geometry c.volume.contents.blocks q.inode next
    part = subst (λ g. IsDirectoryPart g c.volume.contents.blocks q.inode next) e.geometry (subst (IsPart c.volume.geometry c.volume.contents.blocks q.inode) is (e.after.in_use.volume.0.each n q at).part)

    as_one : ◌≡◌ {A = Result (Option Slot) LayoutFault} (Ok was) (Ok now) → was ≡ now
    as_one e = cc

-- The same where the zone may be a new one, which was no metadata.
pub slot_differs : (tx : ℕ) (v : VolumeNow) (c : Change) (e : Ends tx v c) (n : ℕ) (p q : Placed) → at_number v.contents.nodes n ≡ Some p → at_number c.volume.contents.nodes n ≡ Some q → Rises v c.volume p q →
    (next : DirectoryPart) → q.part ≡ parts.Directory next → (k : ℕ) (was now : Option Slot) → slice_get next.slots k ≡ Some now → was ≢ now →
    (slot_zone v p k ≢ 0 → HasSlot v.geometry v.contents.blocks p.inode k was) →
    IsMeta v.geometry v.contents (own c.volume q (block (k / slots_a_block v.geometry.width))) →
    disk_of c.volume.contents.blocks (own c.volume q (block (k / slots_a_block v.geometry.width))) ≢ disk_of v.contents.blocks (own c.volume q (block (k / slots_a_block v.geometry.width)))
slot_differs tx v c e n p q at at_now rises next is k was now stands other before meta = elim (cases_Bool (nat_eq (slot_zone v p k) 0)) [
  | inl t ↦ absurd (not_free v e.before.in_use (own c.volume q (block (k / slots_a_block v.geometry.width))) meta (rises.taken (block (k / slots_a_block v.geometry.width)) (eqb-true _ _ t) (part.slots k now stands).mapped))
  | inr f ↦
      let there = eqb-false _ _ f in
      let kept = rises.kept (block (k / slots_a_block v.geometry.width)) there in
      subst (λ z. disk_of c.volume.contents.blocks z ≢ disk_of v.contents.blocks z) (sym kept) (slot_differs_here tx v c e n q at_now next is k was now stands other p (before there) kept)
]
  where
    part : IsDirectoryPart v.geometry c.volume.contents.blocks q.inode next
    part = subst (λ g. IsDirectoryPart g c.volume.contents.blocks q.inode next) e.geometry (subst (IsPart c.volume.geometry c.volume.contents.blocks q.inode) is (e.after.in_use.volume.0.each n q at_now).part)

-- ---- a slot is written

module _ (v : VolumeNow) (sound : IsSound v.geometry) (volume : IsVolume v.geometry v.contents) (n : ℕ) (p : Placed) (at : at_number v.contents.nodes n ≡ Some p)
    (d : DirectoryPart) (is : p.part ≡ parts.Directory d) (k : ℕ) (o : Option Slot) (next : DirectoryPart) (put : MayPut v.geometry v.contents p d k o next) where
  abbrev g : Geometry
  g = v.geometry

  -- the directory, and the volume
  abbrev pub put_placed : Placed
  put_placed = record { number = p.number; inode = with_size p.inode (slot_size g.width * length next.slots); part = parts.Directory next }

  abbrev pub put_volume : VolumeNow
  put_volume = with_contents v (slot_put g v.contents n p k o next)

  -- it keeps its zones
  pub put_zones : (y : Place) → own put_volume put_placed y ≡ own v p y
  put_zones y =
      moved_zone g sound v.contents.blocks v.contents.nodes n p volume.0 at (put_open g sound v.contents n p volume at d is k o next put) (parts.Directory next)
      (λ b. b ≡ zone_in v.contents.blocks p.inode (block (k / slots_a_block g.width))) (may_move g sound v.contents n p volume at d is k o next put) y
      ∙ same_zone g sound v.contents n p volume at d is k o next put y

  -- and so does each other node
  pub put_theirs : (a : ℕ) (r : Placed) → at_number v.contents.nodes a ≡ Some r → a ≢ n → (y : Place) → own put_volume r y ≡ own v r y
  put_theirs a r found apart =
      node_zone g v.contents.blocks put_volume.contents.blocks v.contents.nodes n p put_placed (λ z. (z ≡ zone_in v.contents.blocks p.inode (block (k / slots_a_block g.width))) ⊎ ⊥) volume.0
      (may_change g sound v.contents.blocks v.contents.nodes n p volume.0 at (put_open g sound v.contents n p volume at d is k o next put) (parts.Directory next)
      (λ b. b ≡ zone_in v.contents.blocks p.inode (block (k / slots_a_block g.width))) (may_move g sound v.contents n p volume at d is k o next put)) a r found apart

  pub put_rises : Rises v put_volume p put_placed
  put_rises = record {
    number = refl;
    kept = λ y some. put_zones y;
    taken = λ y none some. absurd (some (put_zones y ∙ none));
    free = λ z state. state;
    used = λ z state. state;
  }

-- ---- a name comes

-- What is had of a name that came in a directory: its slot and its size, and why each block is told.
pub record IsNamed (v : VolumeNow) (n : ℕ) (p : Placed) (d : DirectoryPart) (s : Slot) (birth : ℕ) (c : Change) : Type 0 where
  pub placed : Placed
  pub stands : at_number c.volume.contents.nodes n ≡ Some placed
  pub part : placed.part ≡ parts.Directory (with_name d s birth)
  pub rises : Rises v c.volume p placed
  pub geometry : c.volume.geometry ≡ v.geometry
  pub others : (a : ℕ) → a ≢ n → at_number c.volume.contents.nodes a ≡ at_number v.contents.nodes a
  pub theirs : (a : ℕ) (r : Placed) → at_number v.contents.nodes a ≡ Some r → a ≢ n → (y : Place) → own c.volume r y ≡ own v r y
  pub told : (b : ℕ) → In b c.touched.blocks →
      Told v c.volume p placed b ⊎ ((own c.volume placed (block (room d.slots / slots_a_block v.geometry.width)) ≡ b) ⊎ ((table_block v.geometry p.number ≡ b) × (placed.inode.size ≢ p.inode.size)))

-- in a block that it has
pub put_named : (v : VolumeNow) (sound : IsSound v.geometry) (volume : IsVolume v.geometry v.contents) (n : ℕ) (p : Placed) (at : at_number v.contents.nodes n ≡ Some p)
    (d : DirectoryPart) (is : p.part ≡ parts.Directory d) (s : Slot) (birth : ℕ) (put : MayPut v.geometry v.contents p d (room d.slots) (Some s) (with_name d s birth)) →
    IsNamed v n p d s birth (record {
      volume = put_volume v sound volume n p at d is (room d.slots) (Some s) (with_name d s birth) put;
      touched = tells_node n (slot_told v p (room d.slots) (with_name d s birth));
    })
put_named v sound volume n p at d is s birth put = record {
  placed = put_placed v sound volume n p at d is (room d.slots) (Some s) (with_name d s birth) put;
  stands = at_put_number v.contents.nodes n _;
  part = refl;
  rises = put_rises v sound volume n p at d is (room d.slots) (Some s) (with_name d s birth) put;
  geometry = refl;
  others = λ a apart. at_put_number_apart v.contents.nodes n _ a apart;
  theirs = put_theirs v sound volume n p at d is (room d.slots) (Some s) (with_name d s birth) put;
  told = λ b i. elim i [
    | inl e ↦ inr (inl (put_zones v sound volume n p at d is (room d.slots) (Some s) (with_name d s birth) put (block (room d.slots / slots_a_block v.geometry.width)) ∙ e))
    | inr j ↦ inr (inr (sym (told_table v.geometry p (with_size p.inode now) b j), (λ same. told_differs v.geometry p (with_size p.inode now) b j (sized same))))
  ];
}
  where
    now : ℕ
    now = slot_size v.geometry.width * length (with_name d s birth).slots

    sized : now ≡ p.inode.size → with_size p.inode now ≡ p.inode
    sized e = λ i. record { mode = p.inode.mode; uid = p.inode.uid; size = e i; time = p.inode.time; gid = p.inode.gid; links = p.inode.links; zones = p.inode.zones }

-- after the directory got zones
pub named_later : (v : VolumeNow) (n : ℕ) (p : Placed) (d : DirectoryPart) (s : Slot) (birth : ℕ) (c : Change) (next : VolumeNow → Change) → (one : IsRaised v n p c) →
    ((a : ℕ) → a ≢ n → at_number c.volume.contents.nodes a ≡ at_number v.contents.nodes a) →
    ((a : ℕ) (r : Placed) → at_number v.contents.nodes a ≡ Some r → a ≢ n → (y : Place) → own c.volume r y ≡ own v r y) → IsNamed c.volume n one.placed d s birth (next c.volume) → IsNamed v n p d s birth (followed_by c next)
named_later v n p d s birth c next one others theirs two = record {
  placed = two.placed;
  stands = two.stands;
  part = two.part;
  rises = rises_then v c.volume (next c.volume).volume p one.placed two.placed one.rises two.rises;
  geometry = two.geometry ∙ one.geometry;
  others = λ a apart. two.others a apart ∙ others a apart;
  theirs = λ a r found apart y. two.theirs a r (others a apart ∙ found) apart y ∙ theirs a r found apart y;
  told = λ b i. elim (In-append_cases c.touched.blocks (next c.volume).touched.blocks b i) [
    | inl j ↦ inl (told_first v c.volume (next c.volume).volume p one.placed two.placed two.rises b (one.told b j))
    | inr j ↦ elim (two.told b j) [
      | inl t ↦ inl (told_later v c.volume (next c.volume).volume p one.placed two.placed one.geometry one.rises b t)
      | inr more ↦ elim more [
        | inl z ↦ inr (inl (subst (λ g. own (next c.volume).volume two.placed (block (room d.slots / slots_a_block g.width)) ≡ b) one.geometry z))
        | inr t ↦ inr (inr (sym (ap (λ g. table_block g p.number) one.geometry) ∙ (ap (table_block c.volume.geometry) (sym one.rises.number) ∙ t.0), (λ same. t.1 (same ∙ sym one.size))))
      ]
    ]
  ];
}

-- ---- both ends

-- a slot that no name has was free, or stood behind the last one
pub was_free : (v : VolumeNow) → IsInUse v → IsTidy v.geometry v.contents v.zones → (n : ℕ) (p : Placed) (d : DirectoryPart) → at_number v.contents.nodes n ≡ Some p → p.part ≡ parts.Directory d →
    (k : ℕ) → ((s : Slot) → slice_get d.slots k ≡ Some (Some s) → ⊥) → slot_zone v p k ≢ 0 → HasSlot v.geometry v.contents.blocks p.inode k None
was_free v h tidy n p d at is k none mapped = by (slice_get d.slots k) refl
  where
    part : IsDirectoryPart v.geometry v.contents.blocks p.inode d
    part = subst (IsPart v.geometry v.contents.blocks p.inode) is (h.volume.0.each n p at).part

    inside : (slots : List (Option Slot)) (k : ℕ) → k < length slots → slice_get slots k ≡ None → ⊥
    inside [] k low e = omega arith
    inside (s ∷ slots) zero low e = cc
    inside (s ∷ slots) (suc k) low e = inside slots k (omega arith) e

    past : (slots : List (Option Slot)) (k : ℕ) → slice_get slots k ≡ None → length slots ≤ k
    past slots k e = elim (cases_lt k (length slots)) [ inl low ↦ absurd (inside slots k low e) | inr high ↦ high ]

    by : (o : Option (Option Slot)) → slice_get d.slots k ≡ o → HasSlot v.geometry v.contents.blocks p.inode k None
    by None e = tidy.behind n p d k at is (past d.slots k e) mapped
    by (Some None) e = part.slots k None e
    by (Some (Some s)) e = absurd (none s e)

-- the slot for a name was
pub room_was_free : (v : VolumeNow) → IsInUse v → IsTidy v.geometry v.contents v.zones → (n : ℕ) (p : Placed) (d : DirectoryPart) → at_number v.contents.nodes n ≡ Some p → p.part ≡ parts.Directory d →
    slot_zone v p (room d.slots) ≢ 0 → HasSlot v.geometry v.contents.blocks p.inode (room d.slots) None
room_was_free v h tidy n p d at is = was_free v h tidy n p d at is (room d.slots) (λ s e. room-free d.slots s e)
