-- A line of a call has neither a line feed nor a space in a word, and is not skipped.
use Rattle.std.proofs.Common.{◌≡◌, ℕ, ◌<◌, ◌==◌, not, Bool, true, false, nat_le, List, [], ◌∷◌, length, codes, decimal, Some, None, Ok, Option, refl, sym, ap, ◌∙◌, subst, arith, lit<}
use Rattle.std.specs.List.{list_all, join_with_byte, AllPass}
use Rattle.std.proofs.lemmas.Bool.{and_parts, and_from, leb-true, not_from_false, ne_eqb, eqb-true}
use Rattle.std.proofs.lemmas.List.Elements.{All-head, All-tail}
use Rattle.hex.specs.Hex.{is_hex_digit}
use Rattle.tree_model.specs.declared.call.Call.{Call}
use Rattle.tree_model.specs.declared.call.Call.TheVariants as calls
use Rattle.line_grammar.specs.declared.calls.limits.TheConstants.{OFFSETS}
use Rattle.line_grammar.specs.declared.calls.words.PathWord.{PathWord}
use Rattle.line_grammar.specs.declared.calls.words.PathWord.TheVariants as paths
use Rattle.line_grammar.specs.declared.calls.words.PairWord.{PairWord}
use Rattle.line_grammar.specs.declared.calls.words.PairWord.TheVariants as pairs
use Rattle.line_grammar.specs.declared.calls.words.PlaceWord.{PlaceWord}
use Rattle.line_grammar.specs.declared.calls.words.PlaceWord.TheVariants as places
use Rattle.line_grammar.specs.declared.calls.words.CallWord.{CallWord}
use Rattle.line_grammar.specs.declared.calls.words.CallWord.TheVariants as word
use Rattle.line_grammar.specs.calls.CallLines.{is_printed, call_word}
use Rattle.line_grammar.specs.calls.WellFormed.{IsPathText, IsWellFormed}
use Rattle.line_grammar.specs.calls.laws.Speller.{call_words, with_lower_digits, line_after, line_of}
use Rattle.line_grammar.proofs.CallsLemmas.Hexadecimal.{digits_read}
use Rattle.line_grammar.proofs.CallsLemmas.Names.{path_name, pair_name, place_name, call_name, call_named}
use Rattle.line_grammar.proofs.CallsLemmas.SaidCalls.{line_of-says}
use Rattle.line_grammar.proofs.CallsLemmas.SpelledCalls.{IsFour-lowered, unchanged}
use Rattle.script_words.specs.Spelling.{is_skipped}
use Rattle.script_words.proofs.Clear.{there}
use Rattle.script_words.proofs.SpelledWords.{lacks, IsClear, AreClear}
use Rattle.script_words.proofs.SpelledNumbers.{IsClear-decimal, IsClear-hex_text}

-- ---- words

printed-lacks : (c : ℕ) (w : List ℕ) → c < 33 → list_all is_printed w ≡ true → lacks c w ≡ true
printed-lacks c [] low h = refl
printed-lacks c (b ∷ bs) low h =
    let p = and_parts (is_printed b) (list_all is_printed bs) h in
    let from = leb-true 33 b (and_parts (nat_le 33 b) (nat_le b 126) p.0).0 in
    and_from (not (b == c)) (lacks c bs) (not_from_false (b == c) (ne_eqb b c (λ e. omega (arith, from)))) (printed-lacks c bs low p.1)

IsClear-path : (p : List ℕ) → IsPathText p → IsClear p
IsClear-path p is =
    let all = (and_parts (not (length p == 0)) (list_all is_printed p) is).1 in
    record { feed = printed-lacks 10 p (lit< tt) all; space = printed-lacks 32 p (lit< tt) all }

digit_differs : (b c : ℕ) → is_hex_digit c ≡ false → is_hex_digit b ≡ true → (same : Bool) → (b == c) ≡ same → not same ≡ true
digit_differs b c odd is true e = let other = sym is ∙ ap is_hex_digit (eqb-true b c e) ∙ odd in cc
digit_differs b c odd is false e = refl

digits-lack : (c : ℕ) (w : List ℕ) → is_hex_digit c ≡ false → AllPass is_hex_digit w → lacks c w ≡ true
digits-lack c [] odd all = refl
digits-lack c (b ∷ bs) odd all =
    and_from (not (b == c)) (lacks c bs) (digit_differs b c odd (All-head (λ d. is_hex_digit d ≡ true) b bs all) (b == c) refl)
    (digits-lack c bs odd (All-tail (λ d. is_hex_digit d ≡ true) b bs all))

IsClear-digits : (w : List ℕ) → AllPass is_hex_digit w → IsClear w
IsClear-digits w all = record { feed = digits-lack 10 w refl all; space = digits-lack 32 w refl all }

IsClear-number : (n : ℕ) → n < OFFSETS → IsClear (decimal n)
IsClear-number n lt = IsClear-decimal n (omega (arith, lt))

-- ---- lines

one : (w p : List ℕ) → IsClear w → IsPathText p → AreClear (w ∷ p ∷ [])
one w p is path = (is, (IsClear-path p path, tt))

abbrev are : (ws vs : List (List ℕ)) → AreClear vs → ws ≡ vs → AreClear ws
are ws vs clear same = subst AreClear (sym same) clear

said-clear : (ws : List (List ℕ)) (c : Call) → IsWellFormed c → with_lower_digits ws ≡ call_words c → AreClear ws
said-clear ws (calls.Mkdir p) is h = are ws _ (one (codes "mkdir") p (record { feed = refl; space = refl }) is) (unchanged ws _ refl h)
said-clear ws (calls.Rmdir p) is h = are ws _ (one (codes "rmdir") p (record { feed = refl; space = refl }) is) (unchanged ws _ refl h)
said-clear ws (calls.Create p) is h = are ws _ (one (codes "create") p (record { feed = refl; space = refl }) is) (unchanged ws _ refl h)
said-clear ws (calls.Unlink p) is h = are ws _ (one (codes "unlink") p (record { feed = refl; space = refl }) is) (unchanged ws _ refl h)
said-clear ws (calls.Link p q) is h = are ws _ (record { feed = refl; space = refl }, (IsClear-path p is.0, (IsClear-path q is.1, tt))) (unchanged ws _ refl h)
said-clear ws (calls.Rename p q) is h = are ws _ (record { feed = refl; space = refl }, (IsClear-path p is.0, (IsClear-path q is.1, tt))) (unchanged ws _ refl h)
said-clear ws (calls.Truncate p size) is h = are ws _ (record { feed = refl; space = refl }, (IsClear-path p is.0, (IsClear-number size is.1, tt))) (unchanged ws _ refl h)
said-clear ws (calls.Write p off len value) is h =
    let most = is.1.most in
    are ws _ (record { feed = refl; space = refl }, (IsClear-path p is.0, (IsClear-number off is.1.below, (IsClear-number len (omega (arith, most)), (IsClear-hex_text value, tt))))) (unchanged ws _ refl h)
said-clear ws (calls.Bytes p off bytes) is h =
    let four = IsFour-lowered ws (codes "bytes") p (decimal off) _ h in
    are ws _ (record { feed = refl; space = refl }, (IsClear-path p is.0, (IsClear-number off is.1, (IsClear-digits four.digits (digits_read four.digits bytes is.2 four.lower), tt)))) four.whole
said-clear ws (calls.Read p off len) is h =
    let four = IsFour-lowered ws (codes "read") p (decimal off) (decimal len) h in
    let most = is.1.most in
    are ws _ (record { feed = refl; space = refl }, (IsClear-path p is.0, (IsClear-number off is.1.below, (subst IsClear (sym four.lower) (IsClear-number len (omega (arith, most))), tt)))) four.whole
said-clear ws (calls.List p) is h = are ws _ (one (codes "list") p (record { feed = refl; space = refl }) is) (unchanged ws _ refl h)
said-clear ws (calls.Stat p) is h = are ws _ (one (codes "stat") p (record { feed = refl; space = refl }) is) (unchanged ws _ refl h)
said-clear ws (calls.Fsync p) is h = are ws _ (one (codes "fsync") p (record { feed = refl; space = refl }) is) (unchanged ws _ refl h)
said-clear ws (calls.Fdatasync p) is h = are ws _ (one (codes "fdatasync") p (record { feed = refl; space = refl }) is) (unchanged ws _ refl h)
said-clear ws (calls.Fbarrier p) is h = are ws _ (one (codes "fbarrier") p (record { feed = refl; space = refl }) is) (unchanged ws _ refl h)
said-clear ws (calls.Fdatabarrier p) is h = are ws _ (one (codes "fdatabarrier") p (record { feed = refl; space = refl }) is) (unchanged ws _ refl h)
said-clear ws calls.Sync is h = are ws _ (record { feed = refl; space = refl }, tt) (unchanged ws _ refl h)

pub AreClear-line_of : (ws : List (List ℕ)) (c : Call) → line_of ws ≡ Ok c → AreClear ws
AreClear-line_of ws c h = let t = line_of-says ws c h in said-clear ws c t.0 t.1

path_name-there : (w : PathWord) → is_skipped (path_name w) ≡ false
path_name-there paths.Mkdir = refl
path_name-there paths.Rmdir = refl
path_name-there paths.Create = refl
path_name-there paths.Unlink = refl
path_name-there paths.List = refl
path_name-there paths.Stat = refl
path_name-there paths.Fsync = refl
path_name-there paths.Fdatasync = refl
path_name-there paths.Fbarrier = refl
path_name-there paths.Fdatabarrier = refl

pair_name-there : (w : PairWord) → is_skipped (pair_name w) ≡ false
pair_name-there pairs.Link = refl
pair_name-there pairs.Rename = refl

place_name-there : (w : PlaceWord) → is_skipped (place_name w) ≡ false
place_name-there places.Write = refl
place_name-there places.Bytes = refl
place_name-there places.Read = refl

call_name-there : (w : CallWord) → is_skipped (call_name w) ≡ false
call_name-there (word.OfPath w) = path_name-there w
call_name-there (word.OfPair w) = pair_name-there w
call_name-there (word.OfPlace w) = place_name-there w
call_name-there word.Truncate = refl
call_name-there word.Sync = refl

after-there : (w : List ℕ) (ws : List (List ℕ)) (o : Option CallWord) (c : Call) → call_word w ≡ o → line_after o ws ≡ Ok c → is_skipped w ≡ false
after-there w ws None c e h = cc
after-there w ws (Some v) c e h = ap is_skipped (call_named w v e) ∙ call_name-there v

pub there-line_of : (ws : List (List ℕ)) (c : Call) → line_of ws ≡ Ok c → is_skipped (join_with_byte 32 ws) ≡ false
there-line_of [] c h = cc
there-line_of (w ∷ ws) c h = there w ws (after-there w ws (call_word w) c refl h)
