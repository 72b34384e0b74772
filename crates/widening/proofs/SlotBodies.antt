-- The bodies of a directory's slots, one zone after the other, and of its numbers.
use Rattle.std.specs.Prelude.{◌≡◌, ℕ, zero, suc, ◌+◌, ◌*◌, ◌<◌, ◌≤◌, List, [], ◌∷◌, length, take, drop, slice_index, refl}
use Rattle.std.proofs.Common.{sym, ap, subst, ◌∙◌, inl, inr, arith}
use Rattle.std.proofs.lemmas.Bool.{lt-ltb, le-ltb}
use Rattle.std.proofs.lemmas.List.{length-take}
use Rattle.blk_base.specs.Members.{In}
use Rattle.blk_base.specs.Block.{filled}
use Rattle.blk_base.specs.laws.Members.{In-take}
use Rattle.minix_layout.specs.declared.division.Geometry.{Geometry}
use Rattle.minix_layout.specs.declared.slot.Slot.{Slot}
use Rattle.minix_layout.specs.Slots.{IsEntry}
use Rattle.volume_model.specs.Edits.{Edit, put_body}
use Rattle.widening.specs.Written.{put_slots, put_numbers}
use Rattle.widening.specs.Directories.{slot_edits, number_edits}
use Rattle.widening.proofs.ReadBack.{In-dropped, length-filled}
use Rattle.widening.proofs.ReadBodies.{length-put_slots}

pub slots_body : List Slot → ℕ → List ℕ
slots_body entries j = put_slots 0 (take 32 (drop (32 * j) entries)) (filled 0)

pub drop_twice : {X : Type 0} (m n : ℕ) (xs : List X) → drop m (drop n xs) ≡ drop (n + m) xs
drop_twice m zero xs = let e : m ≡ 0 + m = omega arith in ap (λ k. drop k xs) e
drop_twice zero (suc n) [] = let e : suc n ≡ suc n + 0 = omega arith in ap (λ k. drop k []) e
drop_twice (suc m) (suc n) [] = let e : suc (n + suc m) ≡ suc n + suc m = omega arith in ap (λ k. drop k []) e
drop_twice m (suc n) (x ∷ xs) = let e : suc (n + m) ≡ suc n + m = omega arith in drop_twice m n xs ∙ ap (λ k. drop k (x ∷ xs)) e

pub next_body : (entries : List Slot) (j : ℕ) → slots_body (drop 32 entries) j ≡ slots_body entries (suc j)
unfolding slots_body
next_body entries j = let e : 32 + 32 * j ≡ 32 * suc j = omega arith in ap (λ ss. put_slots 0 (take 32 ss) (filled 0)) (drop_twice (32 * j) 32 entries ∙ ap (λ k. drop k entries) e)

pub first_body : (entries : List Slot) → slots_body entries 0 ≡ put_slots 0 (take 32 entries) (filled 0)
unfolding slots_body
first_body entries = refl

pub in_slot_edits : (zones : List ℕ) (entries : List Slot) (x : Edit) → In x (slot_edits zones entries) → (j : ℕ) × (j < length zones) × (put_body (slice_index zones j) (slots_body entries j) ≡ x)
in_slot_edits [] entries x i = absurd i
in_slot_edits (z ∷ zones) entries x (inl same) = (0, omega arith, ap (put_body z) (first_body entries) ∙ same)
in_slot_edits (z ∷ zones) entries x (inr i) =
    let y = in_slot_edits zones (drop 32 entries) x i in
    (suc y.0, (let low = y.1 in omega (arith, low)), ap (put_body (slice_index zones y.0)) (sym (next_body entries y.0)) ∙ y.2)

pub slot_edits_in : (zones : List ℕ) (entries : List Slot) (j : ℕ) → j < length zones → In (put_body (slice_index zones j) (slots_body entries j)) (slot_edits zones entries)
slot_edits_in [] entries j low = absurd (omega (arith, low))
slot_edits_in (z ∷ zones) entries zero low = inl (ap (put_body z) (sym (first_body entries)))
slot_edits_in (z ∷ zones) entries (suc j) low =
    inr (subst (λ body. In (put_body (slice_index zones j) body) (slot_edits zones (drop 32 entries))) (next_body entries j) (slot_edits_in zones (drop 32 entries) j (omega (arith, low))))

pub length-slots_body : (entries : List Slot) (j : ℕ) → ((s : Slot) → In s entries → IsEntry 30 s) → length (slots_body entries j) ≡ 1024
unfolding slots_body
length-slots_body entries j each =
    let part = length-take 32 (drop (32 * j) entries) in
    length-put_slots 0 (take 32 (drop (32 * j) entries)) (filled 0) (omega (arith, part)) (λ s i. each s (In-dropped (32 * j) entries s (In-take 32 (drop (32 * j) entries) s i))) length-filled

pub body_is : (entries : List Slot) (j : ℕ) → slots_body entries j ≡ put_slots 0 (take 32 (drop (32 * j) entries)) (filled 0)
unfolding slots_body
body_is entries j = refl

pub numbers_in : (g : Geometry) (indirect : ℕ) (zones : List ℕ) → 7 < length zones → number_edits indirect zones ≡ put_body indirect (put_numbers 0 (drop 7 zones) (filled 0)) ∷ []
numbers_in g indirect zones many = rw (lt-ltb 7 (length zones) many) refl

pub no_numbers : (indirect : ℕ) (zones : List ℕ) → length zones ≤ 7 → number_edits indirect zones ≡ []
no_numbers indirect zones few = rw (le-ltb 7 (length zones) few) refl
