-- Which places are in use.
use Rattle.std.proofs.Common.{◌≡◌, ℕ, ◌+◌, ◌-◌, ◌<◌, ◌≤◌, ◌++◌, sym, ap, ◌∙◌, arith}
use Rattle.std.specs.Prelude.{◌≢◌}
use Rattle.log_model.proofs.Ring.{places_on-add, places_from-add, places_on-place, once_round, no_return}
use Rattle.log_model.specs.Ring.{Ring, IsPlace, places_on, places_from}
use Rattle.journal_ring.specs.Commits.{places_in_use}
use Rattle.journal_ring.specs.LogRing.{LogRing, ring_size, ring_free, place_blocks}

pub placed_in_use : (r : LogRing) (n : ℕ) → IsPlace r.places r.head → r.used ≤ ring_size r → n ≤ ring_free r → places_in_use (place_blocks n r) ≡ places_in_use r ++ places_from r.places n r.head
placed_in_use r n here few free =
    let left = ring_size r - r.used in
    let start = places_on r.places left r.head in
    let rest : ring_size r - (r.used + n) ≡ left - n = omega (arith, free) in
    let whole : n + (left - n) ≡ left = omega (arith, free) in
    let all : left + r.used ≡ ring_size r = omega (arith, few) in
    ap (λ k. places_from r.places (r.used + n) (places_on r.places k (places_on r.places n r.head))) rest
    ∙ ap (places_from r.places (r.used + n)) (sym (places_on-add r.places n (left - n) r.head) ∙ ap (λ k. places_on r.places k r.head) whole)
    ∙ places_from-add r.places r.used n start
    ∙ ap (λ p. places_from r.places r.used start ++ places_from r.places n p)
    (sym (places_on-add r.places left r.used r.head) ∙ ap (λ k. places_on r.places k r.head) all ∙ once_round r.places r.head here)

-- two places less than once round apart
pub apart : (r : Ring) (p i j : ℕ) → IsPlace r p → i < j → j < r.past - r.first → places_on r i p ≢ places_on r j p
apart r p i j at less few =
    let q = places_on r i p in
    let step : i + (j - i) ≡ j = omega (arith, less) in
    let there : places_on r j p ≡ places_on r (j - i) q = sym (ap (λ k. places_on r k p) step) ∙ places_on-add r i (j - i) p in
    λ e. no_return r (j - i) q (places_on-place r i p at) (omega (arith, less)) (omega (arith, less, few)) (sym (e ∙ there))
