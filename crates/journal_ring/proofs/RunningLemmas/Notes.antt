-- The fields of a running transaction, with one note more.
use Rattle.std.proofs.Common.{◌≡◌, ℕ, ◌+◌, ◌-◌, ◌<◌, ◌≤◌, List, [], ◌∷◌, length, refl, sym, ap, subst, ◌∙◌, arith}
use Rattle.std.specs.List.{filter}
use Rattle.std.specs.Prelude.{◌≢◌, not}
use Rattle.std.proofs.lemmas.List.Sums.{length-filter, count_by-le-length}
use Rattle.number_sets.specs.Sets.{has, with, without_all}
use Rattle.number_sets.specs.laws.Rising.{rising-with, rising-without_all, with-longer}
use Rattle.journal_ring.specs.running.Open.{OpenTransaction}
use Rattle.journal_ring.specs.running.code.Fields.{HasRoom}

pub spare_there : (t k : OpenTransaction) → t ≡ k → k.spare ≢ 0 → t.spare ≢ 0
spare_there t k e h = subst (λ (x : OpenTransaction). x.spare ≢ 0) (sym e) h

pub room_with : (xs new : List ℕ) (x spare room after : ℕ) → HasRoom xs spare room → spare ≢ 0 → new ≡ with xs x → after ≡ room → HasRoom new (spare - 1) after
room_with xs new x spare room after h some e same =
    let longer = with-longer xs x in
    let fits = h.fits in
    subst (λ l. HasRoom l (spare - 1) after) (sym e) (record { rising = rising-with xs x h.rising; fits = omega (arith, longer, fits, some, same) })

pub room_less : (xs : List ℕ) (spare room : ℕ) → HasRoom xs spare room → HasRoom xs (spare - 1) room
room_less xs spare room h = let fits = h.fits in record { rising = h.rising; fits = omega (arith, fits) }

pub room_without : (xs new : List ℕ) (x spare room after : ℕ) → HasRoom xs spare room → new ≡ without_all xs (x ∷ []) → after ≡ room → HasRoom new (spare - 1) after
room_without xs new x spare room after h e same =
    let fewer = count_by-le-length (λ y. not (has (x ∷ []) y)) xs in
    let size = length-filter (λ y. not (has (x ∷ []) y)) xs in
    let fits = h.fits in
    subst (λ l. HasRoom l (spare - 1) after) (sym e) (record { rising = rising-without_all xs (x ∷ []) h.rising; fits = omega (arith, fewer, size, fits, same) })
