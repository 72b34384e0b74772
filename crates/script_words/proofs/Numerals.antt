-- The value of a numeral, read digit by digit with an end at 64 bits.
use Rattle.std.proofs.Common.{◌≡◌, ℕ, ◌+◌, ◌-◌, ◌*◌, ◌<◌, min, List, [], ◌∷◌, length, get_or, drop, suc, arith, add-one, drop-cons}
use Rattle.script_words.specs.Spelling.{value_after}

-- values that agree up to m agree after more digits
pub value_after-min : (ds : List ℕ) (m a b : ℕ) → min a m ≡ min b m → min (value_after a ds) m ≡ min (value_after b ds) m
value_after-min [] m a b h = h
value_after-min (d ∷ ds) m a b h = value_after-min ds m (10 * a + (d - 48)) (10 * b + (d - 48)) (omega arith)

-- one digit more
pub value_after-more : (ds : List ℕ) (i m n next : ℕ) → i < length ds → min next m ≡ min (10 * n + (get_or ds i 0 - 48)) m → min (value_after next (drop (i + 1) ds)) m ≡ min (value_after n (drop i ds)) m
value_after-more ds i m n next lt h =
    rw (add-one, drop-cons ds i 0 lt) (value_after-min (drop (suc i) ds) m next (10 * n + (get_or ds i 0 - 48)) h)
