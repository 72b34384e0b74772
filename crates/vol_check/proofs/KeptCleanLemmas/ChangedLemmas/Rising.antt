-- Steps in which a node only gets zones, and what is told of them.
use Rattle.std.specs.Prelude.{◌≡◌, ◌≢◌, ◌≤◌, nat_eq, ℕ, true, List, length, Option, Some, slice_index}
use Rattle.std.proofs.Common.{sym, ap, subst, ◌∙◌, inl, inr, arith}
use Rattle.std.proofs.lemmas.Bool.{cases_Bool, eqb-true, eqb-false}
use Rattle.minix_layout.specs.declared.inode.Inode.{Inode}
use Rattle.tree_model.specs.Maps.{at_number}
use Rattle.minix_tables.specs.declared.zones.zone_state.ZoneState.{ZoneState}
use Rattle.minix_tables.specs.declared.zones.zone_state.ZoneState.TheVariants as states
use Rattle.minix_tables.specs.zones.Zones.{state_of}
use Rattle.volume_ops.specs.Places.{table_block, zone_number}
use Rattle.volume_ops.specs.Volume.{disk_of}
use Rattle.volume_model.specs.declared.placed.Placed.{Placed}
use Rattle.volume_model.specs.Edits.{touched_by}
use Rattle.volume_model.specs.Touched.{IsMeta}
use Rattle.volume_model.specs.Touched.IsMeta.{of_tables, of_numbers, of_directory}
use Rattle.volume_model.specs.Volume.{Place, block, zone_in}
use Rattle.volume_model.specs.Ways.{slot, entry, home, at_home, entry_of}
use Rattle.volume_model.specs.laws.Ways.{own_entry, zone_by_home}
use Rattle.volume_steps.specs.Now.{VolumeNow, Change}
use Rattle.volume_steps.specs.Plain.{IsInUse}
use Rattle.volume_steps.specs.Zones.{zone_bit}
use Rattle.volume_steps.proofs.TakeZones.{zone_range}
use Rattle.vol_check.proofs.KeptCleanLemmas.ChangedLemmas.Ends.{Ends, node_differs, taken_bit}

-- the zone of a node at a place
abbrev pub own : VolumeNow → Placed → Place → ℕ
own v p y = zone_in v.contents.blocks p.inode y

-- A node keeps its zones and gets such as were free; no other zone becomes free, and none goes out of use.
pub record Rises (v w : VolumeNow) (p q : Placed) : Type 0 where
  pub number : q.number ≡ p.number
  pub kept : (y : Place) → own v p y ≢ 0 → own w q y ≡ own v p y
  pub taken : (y : Place) → own v p y ≡ 0 → own w q y ≢ 0 → state_of v.zones (own w q y) ≡ Some states.Free
  pub free : (z : ℕ) → state_of w.zones z ≡ Some states.Free → state_of v.zones z ≡ Some states.Free
  pub used : (z : ℕ) → state_of v.zones z ≡ Some states.Used → state_of w.zones z ≡ Some states.Used

-- Why a block is told: a zone was free, whose bit it has or that it is; or a place got a zone, whose number it has.
pub data Told (v w : VolumeNow) (p q : Placed) (b : ℕ) : Type 0 where
  bit_of : (z : ℕ) → state_of v.zones z ≡ Some states.Free → state_of w.zones z ≡ Some states.Used → touched_by v.geometry (zone_bit v.geometry true z) ≡ b → Told v w p q b
  fresh : state_of v.zones b ≡ Some states.Free → Told v w p q b
  number_in : (y h : Place) (k : ℕ) → home y ≡ entry h k → own v p y ≡ 0 → own w q y ≢ 0 → own w q h ≢ 0 → own w q h ≡ b → Told v w p q b
  in_inode : (y : Place) (k : ℕ) → home y ≡ slot k → own v p y ≡ 0 → own w q y ≢ 0 → table_block v.geometry p.number ≡ b → Told v w p q b

free_used : ◌≡◌ {A = Option ZoneState} (Some states.Free) (Some states.Used) → ⊥
free_used e = cc

-- ---- one after the other

module _ (v u w : VolumeNow) (p r q : Placed) where
  was_none : Rises v u p r → (y : Place) → own u r y ≡ 0 → own v p y ≡ 0
  was_none h y none = elim (cases_Bool (nat_eq (own v p y) 0)) [ inl t ↦ eqb-true _ _ t | inr f ↦ (let some = eqb-false _ _ f in absurd (some (sym (h.kept y some) ∙ none))) ]

  stays : Rises u w r q → (y : Place) → own u r y ≢ 0 → own w q y ≢ 0
  stays k y some none = some (sym (k.kept y some) ∙ none)

  pub rises_then : Rises v u p r → Rises u w r q → Rises v w p q
  rises_then h k = record {
    number = k.number ∙ h.number;
    kept = λ y some. k.kept y (λ none. some (sym (h.kept y some) ∙ none)) ∙ h.kept y some;
    taken = λ y none some. elim (cases_Bool (nat_eq (own u r y) 0)) [
      | inl t ↦ h.free (own w q y) (k.taken y (eqb-true _ _ t) some)
      | inr f ↦ (let there = eqb-false _ _ f in subst (λ z. state_of v.zones z ≡ Some states.Free) (sym (k.kept y there)) (h.taken y none there))
    ];
    free = λ z state. h.free z (k.free z state);
    used = λ z state. k.used z (h.used z state);
  }

  pub told_first : Rises u w r q → (b : ℕ) → Told v u p r b → Told v w p q b
  told_first k b (bit_of z was now e) = bit_of z was (k.used z now) e
  told_first k b (fresh was) = fresh was
  told_first k b (number_in y h n at none some there e) = number_in y h n at none (stays k y some) (stays k h there) (k.kept h there ∙ e)
  told_first k b (in_inode y n at none some e) = in_inode y n at none (stays k y some) e

  pub told_later : u.geometry ≡ v.geometry → Rises v u p r → (b : ℕ) → Told u w r q b → Told v w p q b
  told_later same h b (bit_of z was now e) = bit_of z (h.free z was) now (subst (λ g. touched_by g (zone_bit g true z) ≡ b) same e)
  told_later same h b (fresh was) = fresh (h.free b was)
  told_later same h b (number_in y x n at none some there e) = number_in y x n at (was_none h y none) some there e
  told_later same h b (in_inode y n at none some e) = in_inode y n at (was_none h y none) some (ap (table_block v.geometry) (sym h.number) ∙ subst (λ g. table_block g r.number ≡ b) same e)

-- ---- both ends

-- metadata among the zones is in use
pub meta_used : (v : VolumeNow) → IsInUse v → (b : ℕ) → v.geometry.first ≤ b → IsMeta v.geometry v.contents b → state_of v.zones b ≡ Some states.Used
meta_used v h b low (of_tables high) = absurd (omega arith)
meta_used v h b low (of_numbers a r x at m e some) = (h.used b).1 (record { birth = a; placed = r; place = x; stands = at; zone_is = e; some = some })
meta_used v h b low (of_directory a r d i at is e some) = (h.used b).1 (record { birth = a; placed = r; place = block i; stands = at; zone_is = e; some = some })

pub not_free : (v : VolumeNow) → IsInUse v → (b : ℕ) → IsMeta v.geometry v.contents b → state_of v.zones b ≡ Some states.Free → ⊥
not_free v h b meta free = free_used (sym free ∙ meta_used v h b (zone_range v h b states.Free free).0 meta)

module _ (tx : ℕ) (v : VolumeNow) (c : Change) (e : Ends tx v c) (n : ℕ) (p q : Placed) (at : at_number v.contents.nodes n ≡ Some p) (now : at_number c.volume.contents.nodes n ≡ Some q) (r : Rises v c.volume p q) where
  -- What is told and was metadata has other bytes.
  pub told_changes : (b : ℕ) → Told v c.volume p q b → IsMeta v.geometry v.contents b → disk_of c.volume.contents.blocks b ≢ disk_of v.contents.blocks b
  told_changes b (bit_of z was is same) meta =
      let range = zone_range v e.before.in_use z states.Free was in
      taken_bit tx v c e z (λ used. free_used (sym was ∙ used)) is range.0 range.1 b same
  told_changes b (fresh was) meta = absurd (not_free v e.before.in_use b meta was)
  told_changes b (number_in y h k place none some there same) meta = elim (cases_Bool (nat_eq (own v p h) 0)) [
    | inl t ↦ absurd (not_free v e.before.in_use b meta (subst (λ z. state_of v.zones z ≡ Some states.Free) same (r.taken h (eqb-true _ _ t) there)))
    | inr f ↦
        let was_there = eqb-false _ _ f in
        let old : own v p h ≡ b = sym (r.kept h was_there) ∙ same in
        let before = own_entry v.contents.blocks p.inode e.before.in_use.volume.0.whole y h k place was_there in
        let after = own_entry c.volume.contents.blocks q.inode e.after.in_use.volume.0.whole y h k place there in
        λ equal. some (sym after ∙ (ap (λ z. entry_of c.volume.contents.blocks z k) same ∙ (ap (λ body. zone_number body k) equal ∙ (ap (λ z. entry_of v.contents.blocks z k) (sym old) ∙ (before ∙ none)))))
  ]
  told_changes b (in_inode y k place none some same) meta =
      subst (λ b. disk_of c.volume.contents.blocks b ≢ disk_of v.contents.blocks b) same
      (node_differs tx v c e n p q at now r.number (λ equal. some (stands c.volume.contents.blocks q.inode e.after.in_use.volume.0.whole ∙ (ap (λ (i : Inode). slice_index i.zones k) equal ∙ (sym (stands v.contents.blocks p.inode e.before.in_use.volume.0.whole) ∙ none)))))
    where
      stands : (blocks : List (List ℕ)) (i : Inode) → ((b : ℕ) → length (disk_of blocks b) ≡ 1024) → zone_in blocks i y ≡ slice_index i.zones k
      stands blocks i whole = zone_by_home blocks i whole y ∙ ap (at_home blocks i) place
