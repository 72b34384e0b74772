-- A transaction that has room for a call keeps its share of the log, and a new one has room for a call.
use Rattle.std.proofs.Common.{◌≡◌, ℕ, zero, suc, ◌+◌, ◌≤◌, Bool, true, false, not, List, [], ◌∷◌, length, ap, ⊎_elim, arith}
use Rattle.std.specs.Int.{div_ceil}
use Rattle.std.proofs.Math.Nat.{div-zero, mod-zero, mul-le-mul_right}
use Rattle.std.proofs.lemmas.Bool.{cases_lt, leb-true, le-leb}
use Rattle.std.proofs.lemmas.Grind.{div_ceil_times}
use Rattle.std.proofs.lemmas.List.Sums.{length-filter, count_by-le-length}
use Rattle.number_sets.specs.Sets.{has, with, with_all, without_all}
use Rattle.number_sets.specs.laws.Rising.{with-longer}
use Rattle.journal_blocks.specs.Super.{is_wide}
use Rattle.journal_blocks.specs.Written.{most_tags, most_revokes}
use Rattle.journal_blocks.specs.declared.super_block.JournalSuper.{JournalSuper}
use Rattle.journal_ring.specs.running.Closing.{writers}
use Rattle.journal_ring.specs.running.Open.{quota}
use Rattle.journal_ring.specs.running.Plan.{Writers}
use Rattle.journal_ring.specs.running.Running.{Running, fresh, log_blocks_for, log_needs, fits_in, all_noted}
use Rattle.journal_ring.specs.running.laws.Notes.{noted_all}

with_all-longer : (xs ys : List ℕ) → length (with_all xs ys) ≤ length xs + length ys
with_all-longer xs [] = omega arith
with_all-longer xs (y ∷ ys) =
    let one = with-longer xs y in
    let rest = with_all-longer (with xs y) ys in
    omega (arith, one, rest)

without_all-fewer : (xs ys : List ℕ) → length (without_all xs ys) ≤ length xs
without_all-fewer xs ys =
    let fewer = count_by-le-length (λ x. not (has ys x)) xs in
    let size = length-filter (λ x. not (has ys x)) xs in
    omega (arith, fewer, size)

-- parts of `most` are no fewer where there is more
more_parts : (m n most : ℕ) → m ≤ n → div_ceil m most ≤ div_ceil n most
more_parts m n zero h =
    let low = div-zero m in
    let high = div-zero n in
    let few = mod-zero m in
    let many = mod-zero n in
    omega (arith, h)
more_parts m n (suc p) h =
    let low = div_ceil_times m (suc p) (omega arith) in
    let high = div_ceil_times n (suc p) (omega arith) in
    let above = low.1 in
    let below = high.0 in
    ⊎_elim (λ lt. absurd (let more = mul-le-mul_right (suc p) lt in omega (arith, above, below, h, more))) (λ le. le) (cases_lt (div_ceil n (suc p)) (div_ceil m (suc p)))

more_blocks : (w : Writers) (b c r s : ℕ) → b ≤ c → r ≤ s → log_blocks_for w b r ≤ log_blocks_for w c s
more_blocks w b c r s h g =
    let bodies = more_parts b c w.most_tags h in
    let revokes = more_parts r s w.most_revokes g in
    omega (arith, h, bodies, revokes)

pub call_fits : (w : Writers) (zmap quota : ℕ) (blocks revoked nodes : List ℕ) (r : Running) → fits_in w zmap quota r ≡ true → length blocks ≤ zmap + 12 → length revoked ≤ 520 → log_needs w (all_noted blocks revoked nodes r) ≤ quota
call_fits w zmap quota blocks revoked nodes r fits few short =
    let room = leb-true (log_blocks_for w (length r.touched + zmap + 12) (length r.revoked + 520)) quota fits in
    let touched = with_all-longer r.touched blocks in
    let left = without_all-fewer (with_all r.touched blocks) revoked in
    let freed = with_all-longer r.revoked revoked in
    let most = more_blocks w (length (without_all (with_all r.touched blocks) revoked)) (length r.touched + zmap + 12) (length (with_all r.revoked revoked)) (length r.revoked + 520)
    (omega (arith, touched, left, few)) (omega (arith, freed, short)) in
    let same = ap (log_needs w) (noted_all blocks revoked nodes r) in
    omega (arith, same, most, room)

-- ---- the smallest journal

least_needed : (wide : Bool) (zmap : ℕ) → zmap ≤ 8 → div_ceil 520 (most_revokes wide) + div_ceil (0 + zmap + 12) (most_tags wide) + (0 + zmap + 12) + 1 ≤ 31
least_needed true zmap few = omega (arith, few)
least_needed false zmap few = omega (arith, few)

-- a quarter of 127 log blocks is enough for the first call
pub first_fits : (s : JournalSuper) (zmap k : ℕ) → 128 ≤ s.maxlen → zmap ≤ 8 → fits_in (writers s) zmap (quota s) (fresh k) ≡ true
first_fits s zmap k size few =
    let needed = least_needed (is_wide s) zmap few in
    le-leb (log_blocks_for (writers s) (0 + zmap + 12) 520) (quota s) (omega (arith, needed, size))
