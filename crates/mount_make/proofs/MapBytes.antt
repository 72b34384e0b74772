-- Bytes of a map.
use Rattle.std.specs.Prelude.{◌≡◌, ℕ, zero, suc, ◌+◌, ◌-◌, ◌*◌, ◌^◌, ◌%◌, ◌<◌, ◌≤◌, List, [], ◌∷◌, ◌++◌, map, replicate, length, slice_set, refl}
use Rattle.std.specs.List.{range_with_len}
use Rattle.std.proofs.Common.{Fits, w8, arith, sym, ap, ◌∙◌, ⊎_elim, append_assoc}
use Rattle.std.proofs.lemmas.Bool.{cases_lt}
use Rattle.std.proofs.lemmas.List.{append-nil}
use Rattle.std.proofs.lemmas.List.FromFn.{length-map-range_with_len, map-range_with_len_more}
use Rattle.blk_base.specs.Block.{filled}
use Rattle.mount_make.specs.Made.{map_byte, map_block}

-- the powers of two up to the eighth
abbrev pub power : ℕ → ℕ
power f = 1 * 2 ^ f % 4294967296

pub powers : (f : ℕ) → f ≤ 8 → (1 ≤ power f) × (2 ≤ f → 4 ≤ power f)
powers zero h = (omega arith, λ k. omega arith)
powers (suc zero) h = (omega arith, λ k. omega arith)
powers (suc (suc zero)) h = (omega arith, λ k. omega arith)
powers (suc (suc (suc zero))) h = (omega arith, λ k. omega arith)
powers (suc (suc (suc (suc zero)))) h = (omega arith, λ k. omega arith)
powers (suc (suc (suc (suc (suc zero))))) h = (omega arith, λ k. omega arith)
powers (suc (suc (suc (suc (suc (suc zero)))))) h = (omega arith, λ k. omega arith)
powers (suc (suc (suc (suc (suc (suc (suc zero))))))) h = (omega arith, λ k. omega arith)
powers (suc (suc (suc (suc (suc (suc (suc (suc zero)))))))) h = (omega arith, λ k. omega arith)
powers (suc (suc (suc (suc (suc (suc (suc (suc (suc n))))))))) h = absurd (omega arith)

pub byte_fits : (f first : ℕ) → f ≤ 8 → (1 ≤ first → 2 ≤ f) → first ≤ 3 → Fits w8 (256 - power f + first)
byte_fits f first most some few =
    let p = powers f most in
    let low = p.0 in
    ⊎_elim (λ here. let more = p.1 (some here) in omega (arith, more, few)) (λ none. omega (arith, low, none)) (cases_lt 0 first)

-- ---- a block that is filled byte by byte

-- the first k of n bytes, and zeros behind them
unfoldable pub filled_to : (ℕ → ℕ) → ℕ → ℕ → List ℕ
filled_to f n k = map f (range_with_len 0 k) ++ replicate (n - k) 0

set_behind : (xs ys : List ℕ) (y v k : ℕ) → length xs ≡ k → slice_set (xs ++ y ∷ ys) k v ≡ xs ++ v ∷ ys
set_behind [] ys y v zero e = refl
set_behind [] ys y v (suc k) e = absurd (cc)
set_behind (x ∷ xs) ys y v zero e = absurd (cc)
set_behind (x ∷ xs) ys y v (suc k) e = ap (λ (zs : List ℕ). x ∷ zs) (set_behind xs ys y v k (omega (arith, e)))

pub filled-none : (f : ℕ → ℕ) (n : ℕ) → filled_to f n 0 ≡ replicate n 0
unfolding filled_to
filled-none f n = let same : n - 0 ≡ n = omega arith in ap (λ (m : ℕ). replicate m 0) same

pub filled-next : (f : ℕ → ℕ) (n k : ℕ) → k < n → slice_set (filled_to f n k) k (f k) ≡ filled_to f n (k + 1)
unfolding filled_to
filled-next f n k low =
    let m = n - (k + 1) in
    let one : n - k ≡ suc m = omega arith in
    let xs = map f (range_with_len 0 k) in
    ap (λ (r : ℕ). slice_set (xs ++ replicate r 0) k (f k)) one
    ∙ (set_behind xs (replicate m 0) 0 (f k) k (length-map-range_with_len f 0 k)
    ∙ (sym (append_assoc xs (f k ∷ []) (replicate m 0)) ∙ ap (λ (zs : List ℕ). zs ++ replicate m 0) (sym (map-range_with_len_more f 0 k k (omega arith)))))

pub filled-all : (f : ℕ → ℕ) (n k : ℕ) → n ≤ k → k ≤ n → filled_to f n k ≡ map f (range_with_len 0 n)
unfolding filled_to
filled-all f n k low high =
    let none : n - k ≡ 0 = omega arith in
    let same : k ≡ n = omega arith in
    ap (λ (r : ℕ). map f (range_with_len 0 k) ++ replicate r 0) none ∙ (append-nil (map f (range_with_len 0 k)) ∙ ap (λ (j : ℕ). map f (range_with_len 0 j)) same)

-- a block of a map
pub map-none : (f : ℕ → ℕ) → filled 0 ≡ filled_to f 1024 0
unfolding filled
map-none f = sym (filled-none f 1024)

pub map-all : (last n k : ℕ) → 1024 ≤ k → k ≤ 1024 → filled_to (λ j. map_byte last (n + 8 * j)) 1024 k ≡ map_block last n
unfolding map_block
map-all last n k low high = filled-all (λ j. map_byte last (n + 8 * j)) 1024 k low high
