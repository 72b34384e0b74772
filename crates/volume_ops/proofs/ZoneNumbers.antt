-- The numbers of a zone of numbers, by their places.
use Rattle.std.proofs.Common.{◌≡◌, ℕ, ◌<◌, List, length, map, get_or, sym, ◌∙◌, arith}
use Rattle.std.specs.List.{range_with_len}
use Rattle.std.proofs.lemmas.List.{same_lists, get_or_default}
use Rattle.std.proofs.lemmas.List.FromFn.{length-map-range_with_len, get_or-map-range_with_len}
use Rattle.volume_ops.specs.Places.{zone_number, zone_numbers}

-- a list by its places is the list of what stands at them
numbers_at : (n : ℕ) (f : ℕ → ℕ) (numbers : List ℕ) → length numbers ≡ n → ((j : ℕ) → j < n → get_or numbers j 0 ≡ f j) → numbers ≡ map f (range_with_len 0 n)
numbers_at n f numbers len at =
    let size = length-map-range_with_len f 0 n in
    same_lists numbers (map f (range_with_len 0 n)) (len ∙ sym size)
    (λ k d h. let below : k < n = omega arith in
    get_or_default numbers k d 0 h ∙ (at k below ∙ sym (get_or-map-range_with_len f 0 n k k d below (omega arith))))

pub zone_numbers_at : (body numbers : List ℕ) → length numbers ≡ 512 → ((j : ℕ) → j < 512 → get_or numbers j 0 ≡ zone_number body j) → numbers ≡ zone_numbers body
unfolding zone_numbers
zone_numbers_at body numbers len at = numbers_at 512 (zone_number body) numbers len at
