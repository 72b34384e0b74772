-- Numbers behind the last block of a volume, which are 0.
use Rattle.std.specs.Prelude.{◌≡◌, ℕ, zero, suc, ◌+◌, ◌-◌, ◌*◌, ◌<◌, ◌≤◌, List, length, replicate, slice_get, slice_index_or, Some, nat_eq, not, false, drop}
use Rattle.std.proofs.Common.{refl, sym, ap, ◌∙◌, arith}
use Rattle.std.proofs.lemmas.List.{drop-replicate, get_or_past}
use Rattle.byte_fields.specs.Fields.{number_at, number_of}
use Rattle.byte_fields.specs.Fields.Order.{little}
use Rattle.blk_base.specs.Block.{filled}
use Rattle.volume_ops.specs.Places.{zone_number}
use Rattle.volume_ops.specs.Volume.{disk_of}
use Rattle.volume_model.specs.Ways.{entry_of}
use Rattle.std.specs.List.{list_any}
use Rattle.volume_model.specs.Cut.{has_numbers}

two_zeros : (n m : ℕ) → n ≡ suc (suc m) → number_of little 2 (replicate n 0) ≡ 0
unfolding number_of
two_zeros n m e = ap (λ k. number_of little 2 (replicate k 0)) e

no_number : (at : ℕ) → at < 512 → zone_number (filled 0) at ≡ 0
unfolding number_at number_of filled
no_number at low = ap (number_of little 2) (drop-replicate (2 * at) 1024 0) ∙ two_zeros (1024 - 2 * at) (1022 - 2 * at) (omega arith)

-- behind the last block
pub none_behind : (blocks : List (List ℕ)) (block at : ℕ) → length blocks ≤ block → at < 512 → 0 ≡ entry_of blocks block at
none_behind blocks block at past low = sym (ap (λ body. zone_number body at) (get_or_past blocks block (filled 0) past) ∙ no_number at low)

-- no byte there is another
zeros_only : (n : ℕ) → list_any (λ x. not (nat_eq x 0)) (replicate n 0) ≡ false
zeros_only zero = refl
zeros_only (suc n) = zeros_only n

pub no_numbers_behind : (blocks : List (List ℕ)) (zone at : ℕ) → length blocks ≤ zone → false ≡ has_numbers blocks zone at
unfolding has_numbers filled
no_numbers_behind blocks zone at past =
    sym (ap (λ body. list_any (λ x. not (nat_eq x 0)) (drop (2 * at) body)) (get_or_past blocks zone (filled 0) past)
    ∙ (ap (list_any (λ x. not (nat_eq x 0))) (drop-replicate (2 * at) 1024 0) ∙ zeros_only (1024 - 2 * at)))
