-- How long sets get, and how many log blocks a transaction needs.
use Rattle.std.specs.Prelude.{◌≡◌, ◌≢◌, ℕ, suc, ◌+◌, ◌≤◌, ◌<◌, not, List, [], ◌∷◌, ◌++◌, length, refl}
use Rattle.std.specs.Int.{div_ceil}
use Rattle.std.proofs.Common.{sym, ap, ◌∙◌, inl, inr, ⊎_elim, arith, length-append}
use Rattle.std.proofs.Math.Nat.{mul-le-mul_right}
use Rattle.std.proofs.lemmas.Bool.{cases_lt}
use Rattle.std.proofs.lemmas.Grind.{div_ceil_times}
use Rattle.std.proofs.lemmas.List.Sums.{length-filter, count_by-le-length}
use Rattle.blk_base.specs.Members.{In}
use Rattle.blk_base.specs.laws.Members.{In-append_left, In-append_right}
use Rattle.number_sets.specs.Sets.{IsRising, has, with, with_all, without_all}
use Rattle.number_sets.specs.laws.Members.{In-with_all}
use Rattle.number_sets.specs.laws.Rising.{rising-with_all, with-longer}
use Rattle.journal_ring.specs.running.Plan.{Writers}
use Rattle.journal_ring.specs.running.Running.{log_blocks_for}
use Rattle.system_laws.specs.transaction_size.Sizes.{HasFew}

-- ---- lists that have all of a set

-- what is left of a list without one of its numbers
record IsLeft (ys : List ℕ) (x : ℕ) : Type 0 where
  rest : List ℕ
  shorter : length ys ≡ suc (length rest)
  others : (y : ℕ) → In y ys → y ≢ x → In y rest

left_of : (ys : List ℕ) (x : ℕ) → In x ys → IsLeft ys x
left_of [] x i = absurd i
left_of (y ∷ ys) x (inl e) = record { rest = ys; shorter = refl; others = λ z i other. ⊎_elim (λ same. absurd (other (sym same ∙ e))) (λ j. j) i }
left_of (y ∷ ys) x (inr i) =
    let l = left_of ys x i in
    record { rest = y ∷ l.rest; shorter = ap suc l.shorter; others = λ z j other. ⊎_elim (λ same. inl same) (λ k. inr (l.others z k other)) j }

-- a set is no longer than a list that has all of it
set_within : (xs ys : List ℕ) → IsRising xs → ((x : ℕ) → In x xs → In x ys) → length xs ≤ length ys
set_within [] ys rising all = omega arith
set_within (x ∷ xs) ys rising all =
    let l = left_of ys x (all x (inl refl)) in
    let rest = set_within xs l.rest rising.1 (λ y i. l.others y (all y (inr i)) (λ same. above y i same)) in
    let shorter = l.shorter in
    omega (arith, rest, shorter)
  where
    above : (y : ℕ) → In y xs → y ≡ x → ⊥
    above y i same = let low = rising.0 y i in omega (arith, low, same)

touched_few : (xs ys : List ℕ) (most : ℕ) → IsRising xs → HasFew ys most → length (with_all xs ys) ≤ length xs + most
touched_few xs ys most rising few =
    let within = set_within (with_all xs ys) (xs ++ few.among) (rising-with_all xs ys rising)
    (λ x i. ⊎_elim (λ j. In-append_left xs few.among x j) (λ j. In-append_right xs few.among x (few.all x j)) (In-with_all xs ys x i)) in
    let both = length-append xs few.among in
    let short = few.few in
    omega (arith, within, both, short)

with_all_longer : (xs ys : List ℕ) → length (with_all xs ys) ≤ length xs + length ys
with_all_longer xs [] = omega arith
with_all_longer xs (y ∷ ys) =
    let one = with-longer xs y in
    let rest = with_all_longer (with xs y) ys in
    omega (arith, one, rest)

without_fewer : (xs ys : List ℕ) → length (without_all xs ys) ≤ length xs
without_fewer xs ys =
    let fewer = count_by-le-length (λ x. not (has ys x)) xs in
    let size = length-filter (λ x. not (has ys x)) xs in
    omega (arith, fewer, size)

-- ---- log blocks

-- more items fill no fewer parts of at most `part` each
parts_rise : (part : ℕ) → 0 < part → (m n : ℕ) → m ≤ n → div_ceil m part ≤ div_ceil n part
parts_rise part some m n le = elim (cases_lt (div_ceil n part) (div_ceil m part)) [
  | inr fewer ↦ fewer
  | inl more ↦
      let few = (div_ceil_times n part some).0 in
      let many = (div_ceil_times m part some).1 in
      let rows = mul-le-mul_right part more in
      absurd (omega (arith, few, many, rows, le))
]

-- a tag block has room for a tag, and a revoke block for a revoke
pub record HasRoom (w : Writers) : Type 0 where
  pub tags : 0 < w.most_tags
  pub revokes : 0 < w.most_revokes

pub blocks_rise : (w : Writers) → HasRoom w → (b c r s : ℕ) → b ≤ c → r ≤ s → log_blocks_for w b r ≤ log_blocks_for w c s
blocks_rise w some b c r s bodies revokes =
    let one = parts_rise w.most_tags some.tags b c bodies in
    let two = parts_rise w.most_revokes some.revokes r s revokes in
    omega (arith, bodies, one, two)

-- what a call adds to a transaction that can still grow by one call more
pub share_after : (w : Writers) → HasRoom w → (zmap quota : ℕ) (touched revoked blocks gone : List ℕ) → IsRising touched → log_blocks_for w (length touched + zmap + 12) (length revoked + 520) ≤ quota →
    HasFew blocks (zmap + 12) → length gone ≤ 520 → log_blocks_for w (length (without_all (with_all touched blocks) gone)) (length (with_all revoked gone)) ≤ quota
share_after w some zmap quota touched revoked blocks gone rising room few short =
    let more = touched_few touched blocks (zmap + 12) rising few in
    let left = without_fewer (with_all touched blocks) gone in
    let longer = with_all_longer revoked gone in
    let rise = blocks_rise w some (length (without_all (with_all touched blocks) gone)) (length touched + zmap + 12) (length (with_all revoked gone)) (length revoked + 520) (omega (arith, more, left)) (omega (arith, longer, short)) in
    omega (arith, rise, room)
