-- The slots of a directory of an image without a fault.
use Rattle.std.specs.Prelude.{◌≡◌, ℕ, zero, suc, ◌/◌, ◌<◌, true, List, [], ◌∷◌, length, map, Option, Some, Ok, refl, get_or}
use Rattle.std.specs.List.{slice_get}
use Rattle.std.specs.BTreeMap.{is_at}
use Rattle.std.specs.Map.{keys_of, lookup}
use Rattle.std.specs.Ordering.{nat_cmp, is_eq}
use Rattle.std.specs.declared.cmp.Ordering.{Ordering}
use Rattle.std.proofs.Common.{sym, ap, ◌∙◌, inl, inr, arith}
use Rattle.std.proofs.lemmas.Bool.{cases_Bool}
use Rattle.std.proofs.lemmas.List.FromFn.{length-map-range_with_len, get_or-map-range_with_len}
use Rattle.std.proofs.lemmas.Option.{none-some, same_Some}
use Rattle.blk_base.specs.Members.{In}
use Rattle.blk_base.specs.laws.Members.{slice_get-in_range, slice_get-length}
use Rattle.minix_layout.specs.declared.division.Geometry.{Geometry}
use Rattle.minix_layout.specs.Widths.{slot_size}
use Rattle.minix_layout.specs.declared.inode.Inode.{Inode}
use Rattle.minix_layout.specs.declared.slot.Slot.{Slot}
use Rattle.tree_model.specs.Maps.{at_number}
use Rattle.tree_model.specs.laws.MapsLaws.{number_same}
use Rattle.volume_ops.specs.VolumeFields.{slot_behind}
use Rattle.volume_model.specs.Plain.{slot_or_free, slot_in, slots_in}

-- ---- a map whose values are made of their keys too

module _ {X Y : Type 0} (f : ℕ → X → Y) where
  abbrev pub made : List (ℕ × X) → List (ℕ × Y)
  made es = map (λ e. (e.0, f e.0 e.1)) es

  pub at_made : (es : List (ℕ × X)) (k : ℕ) (x : X) → at_number es k ≡ Some x → at_number (made es) k ≡ Some (f k x)
  at_made [] k x h = absurd (none-some x h)
  at_made (e ∷ es) k x h =
      elim (cases_Bool (is_at (nat_cmp k) e.0)) [
        | inl t ↦ rw t (ap Some (ap (λ k. f k e.1) (sym (number_same k e.0 t)) ∙ ap (f k) (same_Some e.1 x (rw t at h))))
        | inr u ↦ rw u (at_made es k x (rw u at h))
      ]

  pub made_at : (es : List (ℕ × X)) (k : ℕ) (y : Y) → at_number (made es) k ≡ Some y → (x : X) × (at_number es k ≡ Some x) × (f k x ≡ y)
  made_at [] k y h = absurd (none-some y h)
  made_at (e ∷ es) k y h =
      elim (cases_Bool (is_at (nat_cmp k) e.0)) [
        | inl t ↦ (e.1, rw t refl, ap (λ k. f k e.1) (number_same k e.0 t) ∙ same_Some (f e.0 e.1) y (rw t at h))
        | inr u ↦ (let x = made_at es k y (rw u at h) in (x.0, rw u x.1, x.2))
      ]

  pub keys_made : (es : List (ℕ × X)) → keys_of (made es) ≡ keys_of es
  keys_made [] = refl
  keys_made (e ∷ es) = ap (λ ks. e.0 ∷ ks) (keys_made es)

-- a key that stands in a map is found, and so the other way
module _ {K X : Type 0} (cmp : K → K → Ordering) (here : (k : K) → is_eq (cmp k k) ≡ true) (same : (j k : K) → is_eq (cmp j k) ≡ true → j ≡ k) where
  pub key_found : (es : List (K × X)) (k : K) → In k (keys_of es) → (x : X) × (lookup (is_at (cmp k)) es ≡ Some x)
  key_found [] k i = absurd i
  key_found (e ∷ es) k (inl is) = (e.1, rw (ap (is_at (cmp k)) is ∙ here k) refl)
  key_found (e ∷ es) k (inr i) =
      elim (cases_Bool (is_at (cmp k) e.0)) [
        | inl t ↦ (e.1, rw t refl)
        | inr u ↦ (let x = key_found es k i in (x.0, rw u x.1))
      ]

  pub found_key : (es : List (K × X)) (k : K) (x : X) → lookup (is_at (cmp k)) es ≡ Some x → In k (keys_of es)
  found_key [] k x h = absurd (none-some x h)
  found_key (e ∷ es) k x h =
      elim (cases_Bool (is_at (cmp k) e.0)) [
        | inl t ↦ inl (sym (same k e.0 t))
        | inr u ↦ inr (found_key es k x (rw u at h))
      ]

-- ---- the slots

module _ (g : Geometry) (blocks : List (List ℕ)) (i : Inode) where
  pub slots_length : length (slots_in g blocks i) ≡ i.size / slot_size g.width
  slots_length = length-map-range_with_len (slot_in g blocks i) 0 (i.size / slot_size g.width)

  get_or_got : {X : Type 0} (xs : List X) (k : ℕ) (x d : X) → slice_get xs k ≡ Some x → get_or xs k d ≡ x
  get_or_got [] k x d h = absurd (none-some x h)
  get_or_got (y ∷ ys) zero x d h = same_Some y x h
  get_or_got (y ∷ ys) (suc k) x d h = get_or_got ys k x d h

  slot_at : (k : ℕ) (s : Option Slot) → slice_get (slots_in g blocks i) k ≡ Some s → (k < i.size / slot_size g.width) × (slot_in g blocks i k ≡ s)
  slot_at k s at =
      let low = slice_get-length (slots_in g blocks i) k s at in
      let below : k < i.size / slot_size g.width = (let size = slots_length in omega arith) in
      (below, sym (get_or-map-range_with_len (slot_in g blocks i) 0 (i.size / slot_size g.width) k k s below (omega arith)) ∙ get_or_got (slots_in g blocks i) k s s at)

  pub slot_got : (k : ℕ) (s : Option Slot) → k < i.size / slot_size g.width → slot_behind g blocks i k ≡ Ok s → slice_get (slots_in g blocks i) k ≡ Some s
  slot_got k s below reads =
      let size = slots_length in
      let x = slice_get-in_range (slots_in g blocks i) k (omega arith) in
      let y = slot_at k x.0 x.1 in
      x.1 ∙ ap Some (sym y.1 ∙ ap slot_or_free reads)

  -- where each slot can be read
  pub slot_reads : ((k : ℕ) → k < i.size / slot_size g.width → (s : Option Slot) × (slot_behind g blocks i k ≡ Ok s)) → (k : ℕ) (s : Option Slot) → slice_get (slots_in g blocks i) k ≡ Some s →
      (k < i.size / slot_size g.width) × (slot_behind g blocks i k ≡ Ok s)
  slot_reads each k s at =
      let x = slot_at k s at in
      let y = each k x.0 in
      let in_is : slot_in g blocks i k ≡ y.0 = ap slot_or_free y.1 in
      (x.0, y.1 ∙ ap Ok (sym in_is ∙ x.1))
