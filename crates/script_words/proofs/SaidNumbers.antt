-- Numbers and bytes that are read are spelled as they are written.
use Rattle.std.proofs.Common.{◌≡◌, ℕ, ◌+◌, ◌-◌, ◌*◌, ◌/◌, ◌%◌, ◌^◌, ◌<◌, ◌≤◌, min, Bool, true, false, not, ◌==◌, ◌&&◌, List, [], ◌∷◌, ◌++◌, Option, Some, None, decimal, nat_le, refl, sym, ap, ap₂, ◌∙◌, arith, append_assoc, append-nil, if◌then◌else◌}
use Rattle.std.specs.List.{list_all}
use Rattle.std.specs.Option.{option_and_then, option_map}
use Rattle.std.proofs.lemmas.Bool.{and_parts, leb-true, not-true, eqb-false}
use Rattle.std.proofs.lemmas.Bool.Decides.{nat_tests}
use Rattle.std.proofs.lemmas.Fmt.{decimal_step, decimal_digit}
use Rattle.std.proofs.lemmas.Option.{same_Some, none-some}
use Rattle.byte_text.specs.Hex.{hex_digit_text, hex_text}
use Rattle.script_words.specs.Spelling.{is_digit, is_numeral, value_after, numeral, hex_digit, hex_byte}

-- ---- decimal numbers

is_digit-bounds : (b : ℕ) → is_digit b ≡ true → (48 ≤ b) × (b ≤ 57)
is_digit-bounds b h = let p = and_parts (nat_le 48 b) (nat_le b 57) h in (leb-true 48 b p.0, leb-true b 57 p.1)

value_after-grows : (ds : List ℕ) (n : ℕ) → n ≤ value_after n ds
value_after-grows [] n = omega arith
value_after-grows (b ∷ bs) n = let more = value_after-grows bs (10 * n + (b - 48)) in omega (arith, more)

-- one digit more behind a number that is not 0
decimal-digit_behind : (n b : ℕ) → 0 < n → 48 ≤ b → b ≤ 57 → 10 * n + (b - 48) < 2 ^ 64 → decimal (10 * n + (b - 48)) ≡ decimal n ++ b ∷ []
decimal-digit_behind n b some low high lt =
    let front : (10 * n + (b - 48)) / 10 ≡ n = omega arith in
    let last : 48 + (10 * n + (b - 48)) % 10 ≡ b = omega arith in
    decimal_step (10 * n + (b - 48)) (omega arith) lt ∙ ap₂ (λ m c. decimal m ++ c ∷ []) front last

decimal-value_after : (ds : List ℕ) (n : ℕ) → 0 < n → list_all is_digit ds ≡ true → value_after n ds < 2 ^ 64 → decimal (value_after n ds) ≡ decimal n ++ ds
decimal-value_after [] n some all lt = sym (append-nil (decimal n))
decimal-value_after (b ∷ bs) n some all lt =
    let p = and_parts (is_digit b) (list_all is_digit bs) all in
    let digit = is_digit-bounds b p.0 in
    let grows = value_after-grows bs (10 * n + (b - 48)) in
    let low = digit.0 in
    let high = digit.1 in
    let small : 10 * n + (b - 48) < 2 ^ 64 = omega (arith, grows, lt) in
    decimal-value_after bs (10 * n + (b - 48)) (omega arith) p.1 lt
    ∙ ap (λ l. l ++ bs) (decimal-digit_behind n b some low high small)
    ∙ append_assoc (decimal n) (b ∷ []) bs

decimal-one : (b : ℕ) → 48 ≤ b → b ≤ 57 → decimal (10 * 0 + (b - 48)) ≡ b ∷ []
decimal-one b low high =
    let digit : 48 + (10 * 0 + (b - 48)) ≡ b = omega arith in
    decimal_digit (10 * 0 + (b - 48)) (omega arith) ∙ ap (λ c. c ∷ []) digit

decimal-is_numeral : (w : List ℕ) → is_numeral w ≡ true → value_after 0 w < 2 ^ 64 → decimal (value_after 0 w) ≡ w
decimal-is_numeral [] h lt = cc
decimal-is_numeral (b ∷ []) h lt = let digit = is_digit-bounds b h in decimal-one b digit.0 digit.1
decimal-is_numeral (b ∷ c ∷ bs) h lt =
    let p = and_parts (not (b == 48)) (list_all is_digit (b ∷ c ∷ bs)) h in
    let all = and_parts (is_digit b) (list_all is_digit (c ∷ bs)) p.1 in
    let digit = is_digit-bounds b all.0 in
    let low = digit.0 in
    let high = digit.1 in
    let lead : b ≡ 48 → ⊥ = eqb-false b 48 (not-true (b == 48) p.0) in
    let some : 0 < 10 * 0 + (b - 48) = omega (arith, lead) in
    decimal-value_after (c ∷ bs) (10 * 0 + (b - 48)) some all.1 lt ∙ ap (λ l. l ++ c ∷ bs) (decimal-one b low high)

numeral-chosen : (w : List ℕ) (is : Bool) (n : ℕ) → is_numeral w ≡ is → (if is then Some (min (value_after 0 w) (2 ^ 64 - 1)) else None) ≡ Some n → n < 2 ^ 64 - 1 → w ≡ decimal n
numeral-chosen w false n e h lt = cc
numeral-chosen w true n e h lt =
    let same : min (value_after 0 w) (2 ^ 64 - 1) ≡ n = same_Some _ n h in
    let value : value_after 0 w ≡ n = omega (arith, same) in
    sym (decimal-is_numeral w e (omega (arith, value))) ∙ ap decimal value

-- a numeral below the end of 64 bits is how its value is written
pub decimal-numeral : (w : List ℕ) (n : ℕ) → numeral w ≡ Some n → n < 2 ^ 64 - 1 → w ≡ decimal n
decimal-numeral w n h lt = numeral-chosen w (is_numeral w) n refl h lt

-- ---- hexadecimal bytes

record IsDigitOf (b x : ℕ) : Type 0 where
  small : x < 16
  spelled : hex_digit_text x ≡ b

digit-chosen : (b : ℕ) (digit letter : Bool) (x : ℕ) → is_digit b ≡ digit → (nat_le 97 b && nat_le b 102) ≡ letter → (if digit then Some (b - 48) else (if letter then Some (b - 87) else None)) ≡ Some x → IsDigitOf b x
digit-chosen b true letter x d l h =
    let bounds = is_digit-bounds b d in
    let low = bounds.0 in
    let high = bounds.1 in
    let same : b - 48 ≡ x = same_Some (b - 48) x h in
    record { small = omega (arith, same); spelled = grind (arith, nat_tests) }
digit-chosen b false true x d l h =
    let parts = and_parts (nat_le 97 b) (nat_le b 102) l in
    let low = leb-true 97 b parts.0 in
    let high = leb-true b 102 parts.1 in
    let same : b - 87 ≡ x = same_Some (b - 87) x h in
    record { small = omega (arith, same); spelled = grind (arith, nat_tests) }
digit-chosen b false false x d l h = absurd (none-some x h)

digit_of : (b x : ℕ) → hex_digit b ≡ Some x → IsDigitOf b x
digit_of b x h = digit-chosen b (is_digit b) (nat_le 97 b && nat_le b 102) x refl refl h

two_digits : (h l : ℕ) (high low : Option ℕ) (v : ℕ) → hex_digit h ≡ high → hex_digit l ≡ low → option_and_then (λ x. option_map (λ y. 16 * x + y) low) high ≡ Some v → (h ∷ l ∷ []) ≡ hex_text v
two_digits h l None low v eh el e = absurd (none-some v e)
two_digits h l (Some x) None v eh el e = absurd (none-some v e)
two_digits h l (Some x) (Some y) v eh el e =
    let first = digit_of h x eh in
    let second = digit_of l y el in
    let small = second.small in
    let same : 16 * x + y ≡ v = same_Some (16 * x + y) v e in
    let front : x ≡ v / 16 = omega (arith, same, small) in
    let last : y ≡ v % 16 = omega (arith, same, small) in
    ap₂ (λ b c. b ∷ c ∷ []) (sym first.spelled ∙ ap hex_digit_text front) (sym second.spelled ∙ ap hex_digit_text last)

-- two digits are how their byte is written
pub hex_text-byte : (w : List ℕ) (v : ℕ) → hex_byte w ≡ Some v → w ≡ hex_text v
hex_text-byte [] v h = absurd (none-some v h)
hex_text-byte (b ∷ []) v h = absurd (none-some v h)
hex_text-byte (b ∷ c ∷ []) v h = two_digits b c (hex_digit b) (hex_digit c) v refl refl h
hex_text-byte (b ∷ c ∷ d ∷ w) v h = absurd (none-some v h)

two_digits-small : (h l : ℕ) (high low : Option ℕ) (v : ℕ) → hex_digit h ≡ high → hex_digit l ≡ low → option_and_then (λ x. option_map (λ y. 16 * x + y) low) high ≡ Some v → v < 256
two_digits-small h l None low v eh el e = absurd (none-some v e)
two_digits-small h l (Some x) None v eh el e = absurd (none-some v e)
two_digits-small h l (Some x) (Some y) v eh el e =
    let first = (digit_of h x eh).small in
    let second = (digit_of l y el).small in
    let same : 16 * x + y ≡ v = same_Some (16 * x + y) v e in
    omega (arith, same, first, second)

-- and are a byte
pub hex_byte-small : (w : List ℕ) (v : ℕ) → hex_byte w ≡ Some v → v < 256
hex_byte-small [] v h = absurd (none-some v h)
hex_byte-small (b ∷ []) v h = absurd (none-some v h)
hex_byte-small (b ∷ c ∷ []) v h = two_digits-small b c (hex_digit b) (hex_digit c) v refl refl h
hex_byte-small (b ∷ c ∷ d ∷ w) v h = absurd (none-some v h)
