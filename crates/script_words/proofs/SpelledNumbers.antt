-- Numbers and bytes are read as they were written.
use Rattle.std.proofs.Common.{◌≡◌, ℕ, ◌+◌, ◌-◌, ◌*◌, ◌/◌, ◌%◌, ◌^◌, ◌<◌, ◌≤◌, min, Bool, true, false, not, ◌==◌, List, [], ◌∷◌, ◌++◌, Some, None, decimal, nat_le, refl, ap, ◌∙◌, arith, lit<, if◌then◌else◌}
use Rattle.std.specs.List.{list_all}
use Rattle.std.specs.Option.{option_and_then, option_map}
use Rattle.std.proofs.lemmas.Bool.{and_parts, and_from, ne_eqb, le-leb, leb-true, not_from_false}
use Rattle.std.proofs.lemmas.Bool.Decides.{nat_tests}
use Rattle.std.proofs.lemmas.Fmt.{decimal_by_steps}
use Rattle.byte_text.specs.Hex.{hex_digit_text, hex_text}
use Rattle.script_words.specs.Spelling.{is_digit, is_numeral, value_after, numeral, hex_digit, hex_byte}
use Rattle.script_words.proofs.SpelledWords.{lacks, IsClear}

-- ---- digits

is_digit-written : (d : ℕ) → d < 10 → is_digit (48 + d) ≡ true
is_digit-written d lt = and_from (nat_le 48 (48 + d)) (nat_le (48 + d) 57) (le-leb 48 (48 + d) (omega arith)) (le-leb (48 + d) 57 (omega arith))

digits-push : (ds : List ℕ) (d : ℕ) → list_all is_digit ds ≡ true → is_digit d ≡ true → list_all is_digit (ds ++ d ∷ []) ≡ true
digits-push [] d all one = and_from (is_digit d) true one refl
digits-push (b ∷ bs) d all one =
    let p = and_parts (is_digit b) (list_all is_digit bs) all in
    and_from _ _ p.0 (digits-push bs d p.1 one)

value_after-push : (ds : List ℕ) (n d : ℕ) → value_after n (ds ++ d ∷ []) ≡ 10 * value_after n ds + (d - 48)
value_after-push [] n d = refl
value_after-push (b ∷ bs) n d = value_after-push bs (10 * n + (b - 48)) d

-- the first digit is not 0
abbrev leads : List ℕ → Bool
leads [] = false
leads (b ∷ bs) = not (b == 48)

leads-push : (ds : List ℕ) (d : ℕ) → leads ds ≡ true → leads (ds ++ d ∷ []) ≡ true
leads-push [] d h = cc
leads-push (b ∷ bs) d h = h

is_numeral-from : (ds : List ℕ) → list_all is_digit ds ≡ true → leads ds ≡ true → is_numeral ds ≡ true
is_numeral-from [] all h = cc
is_numeral-from (b ∷ []) all h = (and_parts (is_digit b) true all).0
is_numeral-from (b ∷ c ∷ bs) all h = and_from (not (b == 48)) _ h all

-- the digits are those of the number
record IsSpelled (n : ℕ) (ds : List ℕ) : Type 0 where
  digits : list_all is_digit ds ≡ true
  value : value_after 0 ds ≡ n
  numeral : is_numeral ds ≡ true
  leads : 0 < n → leads ds ≡ true

IsSpelled-one : (n : ℕ) → n < 10 → IsSpelled n ((48 + n) ∷ [])
IsSpelled-one n lt = record {
  digits = and_from (is_digit (48 + n)) true (is_digit-written n lt) refl;
  value = omega arith;
  numeral = is_digit-written n lt;
  leads = λ some. not_from_false ((48 + n) == 48) (ne_eqb (48 + n) 48 (λ e. omega arith));
}

IsSpelled-more : (n : ℕ) (ds : List ℕ) → 10 ≤ n → IsSpelled (n / 10) ds → IsSpelled n (ds ++ (48 + n % 10) ∷ [])
IsSpelled-more n ds le is =
    let all = digits-push ds (48 + n % 10) is.digits (is_digit-written (n % 10) (omega arith)) in
    let first = leads-push ds (48 + n % 10) (is.leads (omega arith)) in
    record {
      digits = all;
      value = omega (arith, value_after-push ds 0 (48 + n % 10), is.value);
      numeral = is_numeral-from (ds ++ (48 + n % 10) ∷ []) all first;
      leads = λ some. first;
    }

IsSpelled-decimal : (n : ℕ) → n < 2 ^ 64 → IsSpelled n (decimal n)
IsSpelled-decimal n lt = decimal_by_steps IsSpelled IsSpelled-one IsSpelled-more n lt

numeral-taken : (n : ℕ) (ds : List ℕ) → n < 2 ^ 64 → IsSpelled n ds → numeral ds ≡ Some n
numeral-taken n ds lt is =
    ap (λ t. if t then Some (min (value_after 0 ds) (2 ^ 64 - 1)) else None) is.numeral
    ∙ ap (λ v. Some (min v (2 ^ 64 - 1))) is.value
    ∙ ap (λ v. Some v) (let e : min n (2 ^ 64 - 1) ≡ n = omega arith in e)

pub numeral-decimal : (n : ℕ) → n < 2 ^ 64 → numeral (decimal n) ≡ Some n
numeral-decimal n lt = numeral-taken n (decimal n) lt (IsSpelled-decimal n lt)

-- bytes that are no digits
digit-lacks : (c b : ℕ) → c < 48 → is_digit b ≡ true → not (b == c) ≡ true
digit-lacks c b low h =
    let p = and_parts (nat_le 48 b) (nat_le b 57) h in
    not_from_false (b == c) (ne_eqb b c (λ e. omega (arith, leb-true 48 b p.0)))

digits-lack : (c : ℕ) (ds : List ℕ) → c < 48 → list_all is_digit ds ≡ true → lacks c ds ≡ true
digits-lack c [] low h = refl
digits-lack c (b ∷ bs) low h =
    let p = and_parts (is_digit b) (list_all is_digit bs) h in
    and_from (not (b == c)) (lacks c bs) (digit-lacks c b low p.0) (digits-lack c bs low p.1)

pub IsClear-decimal : (n : ℕ) → n < 2 ^ 64 → IsClear (decimal n)
IsClear-decimal n lt =
    let digits = (IsSpelled-decimal n lt).digits in
    record { feed = digits-lack 10 (decimal n) (lit< tt) digits; space = digits-lack 32 (decimal n) (lit< tt) digits }

-- ---- hexadecimal bytes

hex_digit-written : (d : ℕ) → d < 16 → hex_digit (hex_digit_text d) ≡ Some d
hex_digit-written d lt = grind (arith, nat_tests)

pub hex_byte-text : (v : ℕ) → v < 256 → hex_byte (hex_text v) ≡ Some v
hex_byte-text v lt =
    ap (λ o. option_and_then (λ x. option_map (λ y. 16 * x + y) (hex_digit (hex_digit_text (v % 16)))) o) (hex_digit-written (v / 16) (omega arith))
    ∙ ap (λ o. option_map (λ y. 16 * (v / 16) + y) o) (hex_digit-written (v % 16) (omega arith))
    ∙ ap (λ x. Some x) (let e : 16 * (v / 16) + v % 16 ≡ v = omega arith in e)

hex_digit-lacks : (c d : ℕ) → c < 48 → not (hex_digit_text d == c) ≡ true
hex_digit-lacks c d low = grind (arith, nat_tests)

hex_text-lacks : (c v : ℕ) → c < 48 → lacks c (hex_text v) ≡ true
hex_text-lacks c v low =
    and_from (not (hex_digit_text (v / 16) == c)) _ (hex_digit-lacks c (v / 16) low)
    (and_from (not (hex_digit_text (v % 16) == c)) true (hex_digit-lacks c (v % 16) low) refl)

pub IsClear-hex_text : (v : ℕ) → IsClear (hex_text v)
IsClear-hex_text v = record { feed = hex_text-lacks 10 v (lit< tt); space = hex_text-lacks 32 v (lit< tt) }
