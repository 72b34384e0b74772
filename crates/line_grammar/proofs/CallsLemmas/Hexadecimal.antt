-- Hexadecimal digits in either case, and in lower case.
use Rattle.std.proofs.Common.{◌≡◌, ℕ, zero, suc, ◌+◌, ◌*◌, ◌/◌, ◌%◌, ◌<◌, ◌==◌, ◌&&◌, Bool, true, false, nat_le, if◌then◌else◌, List, [], ◌∷◌, length, map, slice_index, Option, Some, None, Result, Ok, Err, refl, sym, ap, ap₂, ◌∙◌, arith, inl, inr}
use Rattle.std.specs.List.{AllPass}
use Rattle.std.specs.Result.{result_ok}
use Rattle.std.proofs.lemmas.Bool.{and_parts, and_from, eqb-true, leb-true, le-leb, cases_lt}
use Rattle.std.proofs.lemmas.Bool.Decides.{nat_tests}
use Rattle.std.proofs.lemmas.List.{length-map}
use Rattle.std.proofs.lemmas.Option.{same_Some, none-some}
use Rattle.byte_text.specs.Hex.{hex_digit_text}
use Rattle.hex.specs.Hex.{IsBytes, decode_of, decode_pairs, digit_or_error, hex_digit_value, is_hex_digit, encode_lower, encode_with, lower_digits, pair_value, value_at, ◌>>=◌}
use Rattle.hex.specs.declared.error.FromHexError.{FromHexError}
use Rattle.hex.proofs.Pairs.{cons_byte, decode_pairs-ok_pair}
use Rattle.hex.proofs.HexLemmas.{length-encode_with, IsDigits-lower_digits, decode_pairs-encode_with, decode_of-even, decode_of-ok}
use Rattle.line_grammar.specs.declared.calls.limits.TheConstants.{MOST_DIGITS}
use Rattle.line_grammar.specs.calls.CallLines.{hex_text}
use Rattle.line_grammar.specs.calls.WellFormed.{AreBytes}
use Rattle.line_grammar.specs.calls.laws.Speller.{lowered}

-- ---- one digit

value-lowered : (c : ℕ) (high : Bool) → (nat_le 65 c && nat_le c 70) ≡ high → hex_digit_value (if high then c + 32 else c) ≡ hex_digit_value c
value-lowered c true h =
    let p = and_parts (nat_le 65 c) (nat_le c 70) h in
    let low = leb-true 65 c p.0 in
    let top = leb-true c 70 p.1 in
    grind (arith, nat_tests)
value-lowered c false h = refl

hex_digit_value-lowered : (c : ℕ) → hex_digit_value (lowered c) ≡ hex_digit_value c
hex_digit_value-lowered c = value-lowered c (nat_le 65 c && nat_le c 70) refl

value-small : (c v : ℕ) → hex_digit_value c ≡ Some v → v < 16
value-small c v h = grind (arith)

lowered-value : (c v : ℕ) → hex_digit_value c ≡ Some v → lowered c ≡ hex_digit_text v
lowered-value c v h = grind (arith, nat_tests)

-- the digits of the table are those
abbrev are_written : ℕ → Bool
are_written zero = true
are_written (suc n) = (slice_index lower_digits n == hex_digit_text n) && are_written n

are_written-at : (n v : ℕ) → are_written n ≡ true → v < n → slice_index lower_digits v ≡ hex_digit_text v
are_written-at zero v h lt = absurd (omega arith)
are_written-at (suc n) v h lt =
    let p = and_parts (slice_index lower_digits n == hex_digit_text n) (are_written n) h in
    elim (cases_lt v n) [
      | inl below ↦ are_written-at n v p.1 below
      | inr top ↦
          let e : v ≡ n = omega arith in
          rw e (eqb-true (slice_index lower_digits n) (hex_digit_text n) p.0)
    ]

lower_digits-at : (v : ℕ) → v < 16 → slice_index lower_digits v ≡ hex_digit_text v
lower_digits-at v lt = are_written-at 16 v refl lt

-- ---- pairs of digits

bound : {A B : Type 0} (r : Result A FromHexError) (f : A → Result B FromHexError) (y : B) → (r >>= f) ≡ Ok y → (x : A) × (r ≡ Ok x) × (f x ≡ Ok y)
bound (Ok x) f y h = (x, refl, h)
bound (Err e) f y h = cc h

digit_some : (c i : ℕ) (o : Option ℕ) (v : ℕ) → digit_or_error c i o ≡ Ok v → o ≡ Some v
digit_some c i (Some w) v h = let e : w ≡ v = cc in ap Some e
digit_some c i None v h = cc h

record IsPair (i a b : ℕ) (rest bytes : List ℕ) : Type 0 where
  high : ℕ
  low : ℕ
  others : List ℕ
  first : hex_digit_value a ≡ Some high
  second : hex_digit_value b ≡ Some low
  behind : decode_pairs (i + 2) rest ≡ Ok others
  whole : bytes ≡ (high * 16 + low) ∷ others

IsPair-decoded : (i a b : ℕ) (rest bytes : List ℕ) → decode_pairs i (a ∷ b ∷ rest) ≡ Ok bytes → IsPair i a b rest bytes
unfolding decode_pairs
IsPair-decoded i a b rest bytes h =
    let p = bound (pair_value a b i) _ bytes h in
    let q = bound (decode_pairs (i + 2) rest) _ bytes p.2 in
    let d = bound (value_at a i) _ p.0 p.1 in
    let e = bound (value_at b (i + 1)) _ p.0 d.2 in
    let byte : d.0 * 16 + e.0 ≡ p.0 = cc in
    let all : p.0 ∷ q.0 ≡ bytes = cc in
    record {
      high = d.0;
      low = e.0;
      others = q.0;
      first = digit_some a i (hex_digit_value a) d.0 d.1;
      second = digit_some b (i + 1) (hex_digit_value b) e.0 e.1;
      behind = q.1;
      whole = sym all ∙ ap (λ v. v ∷ q.0) (sym byte);
    }

lowered-pair : (i a b : ℕ) (rest bytes : List ℕ) (is : IsPair i a b rest bytes) → map lowered rest ≡ encode_lower is.others → map lowered (a ∷ b ∷ rest) ≡ encode_lower bytes
unfolding encode_with
lowered-pair i a b rest bytes is same =
    let x = is.high in
    let y = is.low in
    let high = value-small a x is.first in
    let low = value-small b y is.second in
    let front : (x * 16 + y) / 16 ≡ x = omega (arith, low) in
    let last : (x * 16 + y) % 16 ≡ y = omega (arith, low) in
    let one : lowered a ≡ slice_index lower_digits ((x * 16 + y) / 16) = lowered-value a x is.first ∙ sym (lower_digits-at x high) ∙ ap (slice_index lower_digits) (sym front) in
    let two : lowered b ≡ slice_index lower_digits ((x * 16 + y) % 16) = lowered-value b y is.second ∙ sym (lower_digits-at y low) ∙ ap (slice_index lower_digits) (sym last) in
    ap₂ (λ c d. c ∷ d ∷ map lowered rest) one two
    ∙ ap (λ l. slice_index lower_digits ((x * 16 + y) / 16) ∷ slice_index lower_digits ((x * 16 + y) % 16) ∷ l) same
    ∙ ap encode_lower (sym is.whole)

lowered-decoded : (i : ℕ) (s bytes : List ℕ) → decode_pairs i s ≡ Ok bytes → map lowered s ≡ encode_lower bytes
unfolding decode_pairs encode_with
lowered-decoded i [] bytes h = let none : [] ≡ bytes = cc in ap encode_lower none
lowered-decoded i (a ∷ []) bytes h = cc h
lowered-decoded i (a ∷ b ∷ rest) bytes h =
    let is = IsPair-decoded i a b rest bytes h in
    lowered-pair i a b rest bytes is (lowered-decoded (i + 2) rest is.others is.behind)

-- what is written is in lower case
pub lowered-written : (bytes : List ℕ) → IsBytes bytes → map lowered (encode_lower bytes) ≡ encode_lower bytes
lowered-written bytes is = lowered-decoded 0 (encode_lower bytes) bytes (decode_pairs-encode_with lower_digits IsDigits-lower_digits 0 bytes is)

-- ---- and back

digit_read : (a v : ℕ) → v < 16 → lowered a ≡ slice_index lower_digits v → hex_digit_value a ≡ Some v
digit_read a v lt h = sym (hex_digit_value-lowered a) ∙ ap hex_digit_value h ∙ IsDigits-lower_digits v lt

decoded-lowered : (i : ℕ) (s bytes : List ℕ) → IsBytes bytes → map lowered s ≡ encode_lower bytes → decode_pairs i s ≡ Ok bytes
unfolding decode_pairs encode_with
decoded-lowered i [] [] is h = refl
decoded-lowered i [] (v ∷ vs) is h = cc
decoded-lowered i (a ∷ []) [] is h = cc
decoded-lowered i (a ∷ []) (v ∷ vs) is h = cc
decoded-lowered i (a ∷ b ∷ rest) [] is h = cc
decoded-lowered i (a ∷ b ∷ rest) (v ∷ vs) is h =
    let small : v < 256 = is 0 in
    let front : v / 16 < 16 = omega (arith, small) in
    let last : v % 16 < 16 = omega arith in
    let one : lowered a ≡ slice_index lower_digits (v / 16) = cc in
    let two : lowered b ≡ slice_index lower_digits (v % 16) = cc in
    let others : map lowered rest ≡ encode_lower vs = cc in
    let high : value_at a i ≡ Ok (v / 16) = ap (digit_or_error a i) (digit_read a (v / 16) front one) in
    let low : value_at b (i + 1) ≡ Ok (v % 16) = ap (digit_or_error b (i + 1)) (digit_read b (v % 16) last two) in
    let pair : pair_value a b i ≡ Ok (v / 16 * 16 + v % 16) = rw (high, low) refl in
    let whole : v / 16 * 16 + v % 16 ≡ v = omega arith in
    decode_pairs-ok_pair i a b _ rest pair
    ∙ ap (cons_byte (v / 16 * 16 + v % 16)) (decoded-lowered (i + 2) rest vs (λ k. is (suc k)) others)
    ∙ ap (λ (w : ℕ). Ok (w ∷ vs)) whole

-- ---- words of digits

pub record IsHex (w bytes : List ℕ) : Type 0 where
  pub lower : map lowered w ≡ encode_lower bytes
  pub are : AreBytes bytes

decoded : (r : Result (List ℕ) FromHexError) (bytes : List ℕ) → result_ok r ≡ Some bytes → r ≡ Ok bytes
decoded (Ok b) bytes h = let e : b ≡ bytes = same_Some b bytes h in ap Ok e
decoded (Err e) bytes h = absurd (none-some bytes h)

tested : (w bytes : List ℕ) (sized : Bool) → (nat_le 2 (length w) && nat_le (length w) MOST_DIGITS) ≡ sized → (if sized then result_ok (decode_of w) else None) ≡ Some bytes → IsHex w bytes
tested w bytes false t h = absurd (none-some bytes h)
tested w bytes true t h =
    let p = and_parts (nat_le 2 (length w)) (nat_le (length w) MOST_DIGITS) t in
    let some = leb-true 2 (length w) p.0 in
    let most = leb-true (length w) MOST_DIGITS p.1 in
    let ok = decoded (decode_of w) bytes h in
    let is = decode_of-ok w bytes ok in
    let twice = is.2 in
    record {
      lower = lowered-decoded 0 w bytes (sym (decode_of-even w is.0) ∙ ok);
      are = record { each = is.3; some = omega (arith, some, twice); most = omega (arith, most, twice) };
    }

pub IsHex-hex_text : (w bytes : List ℕ) → hex_text w ≡ Some bytes → IsHex w bytes
IsHex-hex_text w bytes h = tested w bytes (nat_le 2 (length w) && nat_le (length w) MOST_DIGITS) refl h

pub hex_text-read : (w bytes : List ℕ) → AreBytes bytes → map lowered w ≡ encode_lower bytes → hex_text w ≡ Some bytes
hex_text-read w bytes are h =
    let twice : length w ≡ 2 * length bytes = sym (length-map w lowered) ∙ ap length h ∙ length-encode_with lower_digits bytes in
    let some = are.some in
    let most = are.most in
    let even : length w % 2 ≡ 0 = omega (arith, twice) in
    ap (λ t. if t then result_ok (decode_of w) else None)
    (and_from (nat_le 2 (length w)) (nat_le (length w) MOST_DIGITS) (le-leb 2 (length w) (omega (arith, twice, some))) (le-leb (length w) MOST_DIGITS (omega (arith, twice, most))))
    ∙ ap result_ok (decode_of-even w even ∙ decoded-lowered 0 w bytes are.each h)

-- and so they are digits
pub digits_read : (w bytes : List ℕ) → AreBytes bytes → map lowered w ≡ encode_lower bytes → AllPass is_hex_digit w
digits_read w bytes are h =
    let twice : length w ≡ 2 * length bytes = sym (length-map w lowered) ∙ ap length h ∙ length-encode_with lower_digits bytes in
    let even : length w % 2 ≡ 0 = omega (arith, twice) in
    (decode_of-ok w bytes (decode_of-even w even ∙ decoded-lowered 0 w bytes are.each h)).1
