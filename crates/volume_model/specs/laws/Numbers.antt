-- One number of a zone of numbers is written: it is read back, and the others stay.
use Rattle.std.specs.Prelude.{◌≡◌, ◌≢◌, ℕ, ◌*◌, ◌^◌, ◌<◌, nat_lt, List, length}
use Rattle.std.proofs.Common.{inl, inr, arith}
use Rattle.std.proofs.lemmas.Bool.{cases_Bool, ltb-true, ltb-false}
use Rattle.byte_fields.specs.Fields.{put, Apart}
use Rattle.byte_fields.specs.Fields.Order.{little}
use Rattle.byte_fields.specs.laws.ReadLaws.{number_at-put_same, number_at-put_other}
use Rattle.volume_ops.specs.Places.{zone_number}

-- number k of a zone of numbers is written
abbrev pub with_number : List ℕ → ℕ → ℕ → List ℕ
with_number body k z = put little 2 (2 * k) z body

pub number_here : (body : List ℕ) (k z : ℕ) → length body ≡ 1024 → k < 512 → z < 256 ^ 2 → zone_number (with_number body k z) k ≡ z
number_here body k z size low fits = number_at-put_same little 2 (2 * k) z body (omega arith) fits

apart_numbers : (j k : ℕ) → j ≢ k → Apart 2 (2 * j) 2 (2 * k)
apart_numbers j k apart = elim (cases_Bool (nat_lt j k)) [ inl t ↦ inl (let low = ltb-true _ _ t in omega arith) | inr f ↦ inr (let low = ltb-false _ _ f in omega arith) ]

pub number_elsewhere : (body : List ℕ) (k j z : ℕ) → length body ≡ 1024 → k < 512 → j < 512 → j ≢ k → zone_number (with_number body k z) j ≡ zone_number body j
number_elsewhere body k j z size low more apart = number_at-put_other little 2 (2 * j) 2 (2 * k) z body (omega arith) (omega arith) (apart_numbers j k apart)
