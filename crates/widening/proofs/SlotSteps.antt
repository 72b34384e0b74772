-- Slots that are made, and slots that are written, one after the other.
use Rattle.std.specs.Prelude.{◌≡◌, ℕ, min, List, [], ◌∷◌, ◌++◌, length, map, take, drop}
use Rattle.std.proofs.Common.{sym, ap, ◌∙◌, inl, inr, arith}
use Rattle.std.proofs.lemmas.Bool.{cases_lt}
use Rattle.std.proofs.lemmas.List.{append_assoc, take_all, drop_all}
use Rattle.blk_base.specs.Block.{filled}
use Rattle.minix_layout.specs.declared.division.Geometry.{Geometry}
use Rattle.minix_layout.specs.declared.slot.Slot.{Slot}
use Rattle.volume_model.specs.Edits.{put_body, edited, edited_all}
use Rattle.widening.specs.Written.{put_slots}
use Rattle.widening.specs.Directories.{slot_named, slot_edits}

pub slot_pushed : (slots pushed all : List Slot) (es next : List (List ℕ × ℕ)) (e : List ℕ × ℕ) (s : Slot) → es ≡ e ∷ next → slots ++ map slot_named es ≡ all → s ≡ slot_named e → pushed ≡ slots ++ s ∷ [] → pushed ++ map slot_named next ≡ all
slot_pushed slots pushed all es next e s steps so_far is new =
    ap (λ xs. xs ++ map slot_named next) new
    ∙ (append_assoc slots (s ∷ []) (map slot_named next)
    ∙ (ap (λ t. slots ++ (t ∷ map slot_named next)) is
    ∙ (sym (ap (λ fs. slots ++ map slot_named fs) steps) ∙ so_far)))

first_part : (rest : List Slot) (n : ℕ) → n ≡ min (length rest) 32 → (take n rest ≡ take 32 rest) × (drop n rest ≡ drop 32 rest)
first_part rest n is =
    elim (cases_lt (length rest) 32) [
      | inl low ↦
          (take_all n rest (omega (arith, is, low)) ∙ sym (take_all 32 rest (omega (arith, low))), drop_all n rest (omega (arith, is, low)) ∙ sym (drop_all 32 rest (omega (arith, low))))
      | inr high ↦ (let all : n ≡ 32 = omega (arith, is, high) in (ap (λ k. take k rest) all, ap (λ k. drop k rest) all))
    ]

pub slots_put : (g : Geometry) (image after total : List (List ℕ)) (zones next : List ℕ) (zone n : ℕ) (rest first more : List Slot) (body : List ℕ) → zones ≡ zone ∷ next → n ≡ min (length rest) 32 →
    first ≡ take n rest → more ≡ drop n rest → body ≡ put_slots 0 first (filled 0) → after ≡ edited g image (put_body zone body) →
    edited_all g image (slot_edits zones rest) ≡ total → edited_all g after (slot_edits next more) ≡ total
slots_put g image after total zones next zone n rest first more body steps is front back bytes new so_far =
    let part = first_part rest n is in
    let same : body ≡ put_slots 0 (take 32 rest) (filled 0) = bytes ∙ ap (λ ss. put_slots 0 ss (filled 0)) (front ∙ part.0) in
    ap (λ i. edited_all g i (slot_edits next more)) (new ∙ ap (λ b. edited g image (put_body zone b)) same)
    ∙ (ap (λ ss. edited_all g (edited g image (put_body zone (put_slots 0 (take 32 rest) (filled 0)))) (slot_edits next ss)) (back ∙ part.1)
    ∙ (sym (ap (λ zs. edited_all g image (slot_edits zs rest)) steps) ∙ so_far))
