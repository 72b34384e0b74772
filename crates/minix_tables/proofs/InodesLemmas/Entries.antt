-- The numbers of a block, written one after the other.
use Rattle.std.specs.Prelude.{◌≡◌, ℕ, ◌+◌, ◌*◌, ◌^◌, ◌<◌, ◌≤◌, List, length, slice_index}
use Rattle.std.proofs.Common.{sym, ap, subst, ◌∙◌, inl, inr, arith}
use Rattle.std.proofs.lemmas.Bool.{cases_eq}
use Rattle.byte_fields.specs.Fields.{number_at, put}
use Rattle.byte_fields.specs.Fields.Order.{little}
use Rattle.byte_fields.specs.laws.ReadLaws.{number_at-put_same, number_at-put_other, length-put}

-- the first n numbers stand in the bytes
abbrev pub HasFirst : List ℕ → List ℕ → ℕ → Type 0
HasFirst bytes entries n = (length bytes ≡ 1024) × ((k : ℕ) → k < n → number_at little 2 (2 * k) bytes ≡ slice_index entries k)

pub one_more : (bytes more entries : List ℕ) (n x : ℕ) → n < 512 → x < 2 ^ 16 → x ≡ slice_index entries n → more ≡ put little 2 (2 * n) x bytes → HasFirst bytes entries n → HasFirst more entries (n + 1)
one_more bytes more entries n x low fits is e h =
    let size = h.0 in
    let there : 2 * n ≤ length bytes = omega arith in
    let room : 2 * n + 2 ≤ length bytes = omega arith in
    subst (λ more. HasFirst more entries (n + 1)) (sym e) (
      length-put little 2 (2 * n) x bytes room ∙ size,
      λ k less. elim (cases_eq k n) [
        | inl same ↦ ap (λ k. number_at little 2 (2 * k) (put little 2 (2 * n) x bytes)) same ∙ (number_at-put_same little 2 (2 * n) x bytes there fits ∙ (is ∙ ap (slice_index entries) (sym same)))
        | inr apart ↦ (let below : k < n = omega arith in let before : 2 * k + 2 ≤ length bytes = omega arith in
            number_at-put_other little 2 (2 * k) 2 (2 * n) x bytes before room (inl (omega arith)) ∙ h.1 k below)
      ],
    )
