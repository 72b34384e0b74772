-- A line of a call is of ASCII.
use Rattle.std.proofs.Common.{◌≡◌, ℕ, ◌+◌, ◌/◌, ◌%◌, ◌^◌, ◌<◌, ◌==◌, not, Bool, true, false, nat_le, nat_lt, if◌then◌else◌, List, [], ◌∷◌, ◌++◌, length, codes, decimal, slice_index_or, zero, suc, refl, sym, ap, subst, arith}
use Rattle.std.specs.List.{All, list_all, slice_split, onto_first, AllPass}
use Rattle.std.proofs.lemmas.Bool.{and_parts, and_from, leb-true, lt-ltb, ltb-true, eqb-true}
use Rattle.std.proofs.lemmas.Bool.Decides.{nat_tests}
use Rattle.std.proofs.lemmas.List.Sums.{AllPass-from_list_all}
use Rattle.std.proofs.lemmas.Fmt.{decimal_by_steps}
use Rattle.std.proofs.lemmas.List.Elements.{All-head, All-tail}
use Rattle.hex.specs.Hex.{is_hex_digit}
use Rattle.byte_text.specs.Hex.{hex_digit_text, hex_text}
use Rattle.tree_model.specs.declared.call.Call.{Call}
use Rattle.tree_model.specs.declared.call.Call.TheVariants as calls
use Rattle.script_words.specs.Spelling.{words_of}
use Rattle.line_grammar.specs.declared.calls.limits.TheConstants.{OFFSETS}
use Rattle.line_grammar.specs.calls.CallLines.{is_printed}
use Rattle.line_grammar.specs.calls.WellFormed as call
use Rattle.line_grammar.specs.calls.WellFormed.{IsPathText}
use Rattle.line_grammar.specs.calls.laws.Speller.{call_words, with_lower_digits}
use Rattle.line_grammar.proofs.CallsLemmas.Hexadecimal.{digits_read}
use Rattle.line_grammar.proofs.CallsLemmas.SaidCalls.{line_of-says}
use Rattle.line_grammar.proofs.CallsLemmas.SpelledCalls.{IsFour-lowered, unchanged}
use Rattle.session_report.specs.text.Lines.{is_ascii}
use Rattle.session_grammar.specs.declared.session_script.SessionScript.{SessionScript}
use Rattle.session_grammar.specs.WellFormed.{IsWellFormed, IsLineOf, AreLinesOf, all_calls}
use Rattle.session_report.specs.ReportText.{AreAscii}

abbrev test : ℕ → Bool
test b = nat_lt b 128

abbrev Ascii : List ℕ → Type 0
Ascii w = list_all test w ≡ true

-- ---- words

printed : (w : List ℕ) → list_all is_printed w ≡ true → Ascii w
printed [] h = refl
printed (b ∷ bs) h =
    let p = and_parts (is_printed b) (list_all is_printed bs) h in
    let low = leb-true b 126 (and_parts (nat_le 33 b) (nat_le b 126) p.0).1 in
    and_from (test b) (list_all test bs) (lt-ltb b 128 (omega (arith, low))) (printed bs p.1)

of_path : (p : List ℕ) → IsPathText p → Ascii p
of_path p is = printed p (and_parts (not (length p == 0)) (list_all is_printed p) is).1

pushed : (ds : List ℕ) (d : ℕ) → Ascii ds → test d ≡ true → Ascii (ds ++ d ∷ [])
pushed [] d all one = and_from (test d) true one refl
pushed (b ∷ bs) d all one =
    let p = and_parts (test b) (list_all test bs) all in
    and_from (test b) (list_all test (bs ++ d ∷ [])) p.0 (pushed bs d p.1 one)

of_number : (n : ℕ) → n < 2 ^ 64 → Ascii (decimal n)
of_number n lt =
    decimal_by_steps (λ m ds. Ascii ds)
    (λ m low. and_from (test (48 + m)) true (lt-ltb (48 + m) 128 (omega (arith, low))) refl)
    (λ m ds le is. pushed ds (48 + m % 10) is (lt-ltb (48 + m % 10) 128 (omega arith)))
    n lt

digit_low : (d : ℕ) → d < 16 → test (hex_digit_text d) ≡ true
digit_low d low = lt-ltb (hex_digit_text d) 128 (grind (arith, nat_tests))

of_byte : (v : ℕ) → v < 256 → Ascii (hex_text v)
of_byte v low =
    and_from (test (hex_digit_text (v / 16))) _ (digit_low (v / 16) (omega (arith, low)))
    (and_from (test (hex_digit_text (v % 16))) true (digit_low (v % 16) (omega arith)) refl)

hexadecimal : (d : ℕ) → is_hex_digit d ≡ true → d < 128
hexadecimal d is = grind (arith, nat_tests)

of_digits : (w : List ℕ) → AllPass is_hex_digit w → Ascii w
of_digits [] all = refl
of_digits (b ∷ bs) all =
    and_from (test b) (list_all test bs) (lt-ltb b 128 (hexadecimal b (All-head (λ d. is_hex_digit d ≡ true) b bs all)))
    (of_digits bs (All-tail (λ d. is_hex_digit d ≡ true) b bs all))

-- ---- all words of a line

abbrev AreWords : List (List ℕ) → Type 0
AreWords [] = Unit {0}
AreWords (w ∷ ws) = Ascii w × AreWords ws

abbrev are : (ws vs : List (List ℕ)) → AreWords vs → ws ≡ vs → AreWords ws
are ws vs words same = subst AreWords (sym same) words

abbrev small : (n : ℕ) → n < OFFSETS → Ascii (decimal n)
small n lt = of_number n (omega (arith, lt))

said : (ws : List (List ℕ)) (c : Call) → call.IsWellFormed c → with_lower_digits ws ≡ call_words c → AreWords ws
said ws (calls.Mkdir p) is h = are ws _ (refl, (of_path p is, tt)) (unchanged ws _ refl h)
said ws (calls.Rmdir p) is h = are ws _ (refl, (of_path p is, tt)) (unchanged ws _ refl h)
said ws (calls.Create p) is h = are ws _ (refl, (of_path p is, tt)) (unchanged ws _ refl h)
said ws (calls.Unlink p) is h = are ws _ (refl, (of_path p is, tt)) (unchanged ws _ refl h)
said ws (calls.Link p q) is h = are ws _ (refl, (of_path p is.0, (of_path q is.1, tt))) (unchanged ws _ refl h)
said ws (calls.Rename p q) is h = are ws _ (refl, (of_path p is.0, (of_path q is.1, tt))) (unchanged ws _ refl h)
said ws (calls.Truncate p size) is h = are ws _ (refl, (of_path p is.0, (small size is.1, tt))) (unchanged ws _ refl h)
said ws (calls.Write p off len value) is h =
    let most = is.1.most in
    are ws _ (refl, (of_path p is.0, (small off is.1.below, (small len (omega (arith, most)), (of_byte value is.2, tt))))) (unchanged ws _ refl h)
said ws (calls.Bytes p off bytes) is h =
    let four = IsFour-lowered ws (codes "bytes") p (decimal off) _ h in
    are ws _ (refl, (of_path p is.0, (small off is.1, (of_digits four.digits (digits_read four.digits bytes is.2 four.lower), tt)))) four.whole
said ws (calls.Read p off len) is h =
    let four = IsFour-lowered ws (codes "read") p (decimal off) (decimal len) h in
    let most = is.1.most in
    are ws _ (refl, (of_path p is.0, (small off is.1.below, (subst Ascii (sym four.lower) (small len (omega (arith, most))), tt)))) four.whole
said ws (calls.List p) is h = are ws _ (refl, (of_path p is, tt)) (unchanged ws _ refl h)
said ws (calls.Stat p) is h = are ws _ (refl, (of_path p is, tt)) (unchanged ws _ refl h)
said ws (calls.Fsync p) is h = are ws _ (refl, (of_path p is, tt)) (unchanged ws _ refl h)
said ws (calls.Fdatasync p) is h = are ws _ (refl, (of_path p is, tt)) (unchanged ws _ refl h)
said ws (calls.Fbarrier p) is h = are ws _ (refl, (of_path p is, tt)) (unchanged ws _ refl h)
said ws (calls.Fdatabarrier p) is h = are ws _ (refl, (of_path p is, tt)) (unchanged ws _ refl h)
said ws calls.Sync is h = are ws _ (refl, tt) (unchanged ws _ refl h)

-- ---- the line of these words

abbrev cut : List ℕ → List (List ℕ)
cut l = slice_split (λ b. b == 32) l

onto : (b : ℕ) (parts : List (List ℕ)) → AreWords (onto_first b parts) → (test b ≡ true) × AreWords parts
onto b [] h = ((and_parts (test b) true h.0).0, tt)
onto b (p ∷ ps) h = let q = and_parts (test b) (list_all test p) h.0 in (q.0, (q.1, h.1))

longer : (b : ℕ) (bs : List ℕ) (space : Bool) → (b == 32) ≡ space → AreWords (if space then [] ∷ cut bs else onto_first b (cut bs)) → (AreWords (cut bs) → Ascii bs) → Ascii (b ∷ bs)
longer b bs true e h rest = and_from (test b) (list_all test bs) (ap test (eqb-true b 32 e)) (rest h.1)
longer b bs false e h rest = let q = onto b (cut bs) h in and_from (test b) (list_all test bs) q.0 (rest q.1)

of_words : (l : List ℕ) → AreWords (words_of l) → Ascii l
of_words [] h = refl
of_words (b ∷ bs) h = longer b bs (b == 32) refl h (λ r. of_words bs r)

of_line : (l : List ℕ) (c : Call) → IsLineOf l c → All is_ascii l
of_line l c h =
    let t = line_of-says (words_of l) c h in
    let all = AllPass-from_list_all test l (of_words l (said (words_of l) c t.0 t.1)) in
    λ k d low. ltb-true (slice_index_or l k d) 128 (all k d low)

of_lines : (ls : List (List ℕ)) (cs : List Call) → AreLinesOf ls cs → AreAscii ls
of_lines [] cs h place = λ k d low. absurd (omega (arith, low))
of_lines (x ∷ ls) [] h place = absurd h
of_lines (x ∷ ls) (c ∷ cs) h zero = of_line x c h.0
of_lines (x ∷ ls) (c ∷ cs) h (suc n) = of_lines ls cs h.1 n

pub script_lines : (s : SessionScript) → IsWellFormed s → AreAscii s.lines
script_lines s is = of_lines s.lines (all_calls s.programs) is.lines
