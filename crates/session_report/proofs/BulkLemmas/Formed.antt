-- The script of a number is well-formed.
use Rattle.std.proofs.Common.{◌≡◌, ℕ, zero, suc, ◌+◌, ◌*◌, ◌/◌, ◌%◌, ◌==◌, ◌<◌, ◌≤◌, ◌++◌, ◌⊎◌, Bool, true, false, not, List, [], ◌∷◌, length, map, nat_le, decimal, Some, None, Ok, refl, sym, ap, subst, ◌∙◌, inl, inr, arith, lit<, lit≤, if◌then◌else◌}
use mathlib.Core.List.{map-append}
use Rattle.std.specs.List.{list_all, join_with_byte}
use Rattle.std.proofs.lemmas.Bool.{and_parts, and_from, le-leb, ne_eqb, not_from_false}
use Rattle.std.proofs.lemmas.Fmt.{decimal_by_steps}
use Rattle.rand_core.specs.Steps.{first_words}
use Rattle.rand_pcg.specs.Lcg.{Lcg}
use Rattle.rand_pcg.specs.Pcg.{pcg32}
use Rattle.blk_base.specs.Members.{In}
use Rattle.blk_base.specs.laws.Members.{In-append_cases, In-map}
use Rattle.minix_layout.specs.Widths.{IsWidth}
use Rattle.minix_layout.specs.Widths.IsWidth.{of_14}
use Rattle.script_words.specs.Spelling.{words_of}
use Rattle.script_words.proofs.SpelledWords.{words_of-joined}
use Rattle.tree_model.specs.declared.call.Call.{Call}
use Rattle.tree_model.specs.declared.call.Call.TheVariants as calls
use Rattle.line_grammar.specs.calls.CallLines.{is_printed}
use Rattle.line_grammar.specs.calls.WellFormed as call
use Rattle.line_grammar.specs.calls.laws.Speller.{call_words, line_of}
use Rattle.line_grammar.proofs.CallsLemmas.SpelledCalls.{line_of-read, call_words-lower}
use Rattle.line_grammar.proofs.CallsLemmas.ClearCalls.{AreClear-line_of}
use Rattle.line_grammar.specs.declared.events.event.EventLine.{EventLine}
use Rattle.line_grammar.specs.declared.events.event.EventWord.TheVariants.{Round}
use Rattle.line_grammar.specs.declared.events.steer.Steer.{Steer}
use Rattle.line_grammar.specs.declared.events.steer.Steer.TheVariants as steers
use Rattle.line_grammar.specs.events.WellFormed.{AreTurns, IsSteer, IsSteerLine}
use Rattle.minix_layout.specs.declared.limits.TheConstants.{DEFAULT_WIDTH}
use Rattle.session_grammar.specs.declared.session_script.SessionHeader.{SessionHeader}
use Rattle.session_grammar.specs.declared.session_script.SessionScript.{SessionScript}
use Rattle.session_grammar.specs.WellFormed.{AreSizes, IsHeader, all_calls, IsLineOf, AreLinesOf, IsEventOf, IsWellFormed}
use Rattle.session_report.specs.declared.bulk.limits.TheConstants.{CALL_BYTES, MOST_GENERATED}
use Rattle.session_report.specs.bulk.Workload.{file_of, offset_of, value_of, path_of, word_call, drawn_words, words_for, thread_calls, bulk_programs, call_line, bulk_header, script_of, bulk_of}
use Rattle.session_report.specs.bulk.code.Lines.{thread_lines, threads_lines}

-- ---- paths

digit-printed : (d : ℕ) → d < 10 → is_printed (48 + d) ≡ true
digit-printed d lt = and_from (nat_le 33 (48 + d)) (nat_le (48 + d) 126) (le-leb 33 (48 + d) (omega arith)) (le-leb (48 + d) 126 (omega arith))

printed-push : (ds : List ℕ) (d : ℕ) → list_all is_printed ds ≡ true → is_printed d ≡ true → list_all is_printed (ds ++ d ∷ []) ≡ true
printed-push [] d all one = and_from (is_printed d) true one refl
printed-push (b ∷ bs) d all one =
    let p = and_parts (is_printed b) (list_all is_printed bs) all in
    and_from _ _ p.0 (printed-push bs d p.1 one)

decimal-printed : (n : ℕ) → n < 64 → list_all is_printed (decimal n) ≡ true
decimal-printed n lt =
    decimal_by_steps (λ m ds. list_all is_printed ds ≡ true)
    (λ m low. and_from (is_printed (48 + m)) true (digit-printed m low) refl)
    (λ m ds low all. printed-push ds (48 + m % 10) all (digit-printed (m % 10) (omega arith)))
    n (omega (arith, lt))

text-printed : (ds : List ℕ) → list_all is_printed ds ≡ true → call.IsPathText (47 ∷ 102 ∷ ds)
text-printed ds all = and_from (not (length (47 ∷ 102 ∷ ds) == 0)) (list_all is_printed (47 ∷ 102 ∷ ds)) (not_from_false (length (47 ∷ 102 ∷ ds) == 0) (ne_eqb (suc (suc (length ds))) 0 (λ e. omega arith))) all

path-printed : (w : ℕ) → call.IsPathText (path_of w)
unfolding path_of
path-printed w = text-printed (decimal (file_of w)) (decimal-printed (file_of w) (omega arith))

-- ---- calls

range : (w : ℕ) → call.IsRange (offset_of w) CALL_BYTES
range w = record { below = omega arith; some = lit≤ tt; most = lit≤ tt }

write-formed : (w : ℕ) → call.IsWellFormed (calls.Write (path_of w) (offset_of w) CALL_BYTES (value_of w))
write-formed w = (path-printed w, range w, omega arith)

chosen-formed : (k0 k1 k2 k3 k4 k5 k6 : Bool) (w : ℕ) → call.IsWellFormed (
    if k0 then calls.Create (path_of w)
    else if k1 then calls.Write (path_of w) (offset_of w) CALL_BYTES (value_of w)
    else if k2 then calls.Write (path_of w) (offset_of w) CALL_BYTES (value_of w)
    else if k3 then calls.Fbarrier (path_of w)
    else if k4 then calls.Fdatabarrier (path_of w)
    else if k5 then calls.Fsync (path_of w)
    else if k6 then calls.Truncate (path_of w) (offset_of w)
    else calls.Unlink (path_of w))
chosen-formed true k1 k2 k3 k4 k5 k6 w = path-printed w
chosen-formed false true k2 k3 k4 k5 k6 w = write-formed w
chosen-formed false false true k3 k4 k5 k6 w = write-formed w
chosen-formed false false false true k4 k5 k6 w = path-printed w
chosen-formed false false false false true k5 k6 w = path-printed w
chosen-formed false false false false false true k6 w = path-printed w
chosen-formed false false false false false false true w = (path-printed w, (range w).below)
chosen-formed false false false false false false false w = path-printed w

word_call-formed : (w : ℕ) → call.IsWellFormed (word_call w)
word_call-formed w = chosen-formed (w % 8 == 0) (w % 8 == 1) (w % 8 == 2) (w % 8 == 3) (w % 8 == 4) (w % 8 == 5) (w % 8 == 6) w

-- ---- lines

joined-says : (ws : List (List ℕ)) (c : Call) → line_of ws ≡ Ok c → line_of (words_of (join_with_byte 32 ws)) ≡ Ok c
joined-says [] c h = cc
joined-says (w ∷ ws) c h = ap line_of (words_of-joined w ws (AreClear-line_of (w ∷ ws) c h)) ∙ h

call_line-says : (c : Call) → call.IsWellFormed c → IsLineOf (call_line c) c
call_line-says c is = joined-says (call_words c) c (line_of-read (call_words c) c is (call_words-lower c is))

AreLinesOf-calls : (cs : List Call) → ((c : Call) → In c cs → call.IsWellFormed c) → AreLinesOf (map call_line cs) cs
AreLinesOf-calls [] each = tt
AreLinesOf-calls (c ∷ cs) each = (call_line-says c (each c (inl refl)), AreLinesOf-calls cs (λ d at. each d (inr at)))

-- the lines of words are those of their calls
lines-words : (ws : List ℕ) → map (λ w. call_line (word_call w)) ws ≡ map call_line (map word_call ws)
lines-words [] = refl
lines-words (w ∷ ws) = ap (λ ls. call_line (word_call w) ∷ ls) (lines-words ws)

pub lines_threads : (words ts : List ℕ) → threads_lines words ts ≡ map call_line (all_calls (map (thread_calls words) ts))
lines_threads words [] = refl
lines_threads words (t ∷ ts) =
    ap (λ ls. ls ++ threads_lines words ts) (lines-words (words_for t 0 words))
    ∙ ap (λ ls. map call_line (thread_calls words t) ++ ls) (lines_threads words ts)
    ∙ sym (map-append call_line (thread_calls words t) (all_calls (map (thread_calls words) ts)))

-- ---- threads

fewer : (here : Bool) (w : ℕ) (ws : List ℕ) (n : ℕ) → length (map word_call ws) ≤ n → length (map word_call (if here then w ∷ ws else ws)) ≤ suc n
fewer true w ws n le = omega (arith, le)
fewer false w ws n le = omega (arith, le)

words_for-few : (t place : ℕ) (ws : List ℕ) → length (map word_call (words_for t place ws)) ≤ length ws
words_for-few t place [] = omega arith
words_for-few t place (w ∷ ws) = fewer (1 + place % 4 == t) w (words_for t (place + 1) ws) (length ws) (words_for-few t (place + 1) ws)

few-calls : (words : List ℕ) (p : List Call) → length words ≤ MOST_GENERATED → In p (bulk_programs words) → length p ≤ 10000
few-calls words p le at =
    let found = In-map (thread_calls words) (1 ∷ 2 ∷ 3 ∷ 4 ∷ []) p at in
    let few = words_for-few found.0 0 words in
    subst (λ (q : List Call). length q ≤ 10000) found.2 (omega (arith, few, le))

thread-formed : (words : List ℕ) (t : ℕ) (c : Call) → In c (thread_calls words t) → call.IsWellFormed c
thread-formed words t c at =
    let found = In-map word_call (words_for t 0 words) c at in
    subst call.IsWellFormed found.2 (word_call-formed found.0)

here-or-later : (words : List ℕ) (t : ℕ) (c : Call) (cs : List Call) → (In c cs → call.IsWellFormed c) → In c (thread_calls words t) ⊎ In c cs → call.IsWellFormed c
here-or-later words t c cs later (inl at) = thread-formed words t c at
here-or-later words t c cs later (inr at) = later at

all-formed : (words ts : List ℕ) (c : Call) → In c (all_calls (map (thread_calls words) ts)) → call.IsWellFormed c
all-formed words [] c at = absurd at
all-formed words (t ∷ ts) c at =
    let rest = all_calls (map (thread_calls words) ts) in
    here-or-later words t c rest (all-formed words ts c) (In-append_cases (thread_calls words t) rest c at)

-- ---- events and recovery

rounds-fit : (n : ℕ) → n ≤ MOST_GENERATED → AreTurns (50 * n + 1000)
rounds-fit n bound = record {
  turns = 50 * n + 1000;
  repeats = 1;
  some = record { some = omega arith; most = omega (arith, bound) };
  often = record { some = lit≤ tt; most = lit≤ tt };
  product = omega arith;
  most = omega (arith, bound);
}

event-formed : (n : ℕ) (l : EventLine) → n ≤ MOST_GENERATED → In l (record { what = Round; count = 50 * n + 1000 } ∷ []) → IsEventOf 4 l
event-formed n l bound (inl e) = subst (IsEventOf 4) e (record { line = rounds-fit n bound; turn = tt })
event-formed n l bound (inr at) = absurd at

steer-formed : (s : Steer) → In s (steers.Default 5 ∷ []) → IsSteer s
steer-formed s (inl e) = subst IsSteer e (lit≤ tt)
steer-formed s (inr at) = absurd at

recover-formed : (ss : List Steer) → In ss ((steers.Default 5 ∷ []) ∷ []) → IsSteerLine ss
recover-formed ss (inl e) = subst IsSteerLine e (record { few = lit≤ tt; each = steer-formed })
recover-formed ss (inr at) = absurd at

-- ---- the script

header-formed : IsHeader bulk_header
header-formed = record {
  some_depth = lit≤ tt;
  depth = lit≤ tt;
  some_queue = lit≤ tt;
  queue = lit≤ tt;
  some_limit = lit≤ tt;
  limit = lit≤ tt;
  least_fail = λ n e. cc;
  most_fail = λ n e. cc;
  cut = λ n e. cc;
  seed = lit≤ tt;
  least_flash = λ n e. cc;
  most_flash = λ n e. cc;
}

sizes-formed : AreSizes 512 4096 512
sizes-formed = record { some_inode = lit≤ tt; most_inodes = lit≤ tt; most_zones = lit≤ tt; some_data = lit< tt; least_journal = lit≤ tt; most_journal = lit≤ tt }

script-formed : (n : ℕ) (words : List ℕ) → length words ≡ n → n ≤ MOST_GENERATED → IsWellFormed (script_of n words)
script-formed n words len bound = record {
  sizes = sizes-formed;
  width = of_14;
  header = header-formed;
  threads = lit≤ tt;
  few_calls = λ p at. few-calls words p (omega (arith, len, bound)) at;
  calls = all-formed words (1 ∷ 2 ∷ 3 ∷ 4 ∷ []);
  lines = AreLinesOf-calls (all_calls (bulk_programs words)) (all-formed words (1 ∷ 2 ∷ 3 ∷ 4 ∷ []));
  events = λ l at. event-formed n l bound at;
  expanded = omega (arith, bound);
  recovers = recover-formed;
  few_recovers = lit≤ tt;
}

length-drawn : (n : ℕ) (g : Lcg) → length (first_words pcg32 n g) ≡ n
unfolding first_words
length-drawn zero g = refl
length-drawn (suc n) g = ap suc (length-drawn n (pcg32 g).1)

pub bulk_formed : (n : ℕ) → n ≤ MOST_GENERATED → IsWellFormed (bulk_of n)
bulk_formed n bound = script-formed n (drawn_words n) (length-drawn n _) bound

abbrev script_with : SessionHeader → List (List Call) → List (List ℕ) → List EventLine → List (List Steer) → SessionScript
script_with header programs lines events recovers = record {
  inodes = 512;
  zones = 4096;
  journal = 512;
  width = DEFAULT_WIDTH;
  wide = false;
  header = header;
  programs = programs;
  lines = lines;
  events = events;
  recovers = recovers;
}

-- what the code puts together is the script
pub script_made : (n : ℕ) (words : List ℕ) (header : SessionHeader) (programs : List (List Call)) (lines : List (List ℕ)) (events : List EventLine) (recovers : List (List Steer)) →
    words ≡ drawn_words n → header ≡ bulk_header → programs ≡ map (thread_calls words) (1 ∷ 2 ∷ 3 ∷ 4 ∷ []) → lines ≡ threads_lines words (1 ∷ 2 ∷ 3 ∷ 4 ∷ [])
    → events ≡ record { what = Round; count = 50 * n + 1000 } ∷ [] → recovers ≡ (steers.Default 5 ∷ []) ∷ []
    → script_with header programs lines events recovers ≡ bulk_of n
script_made n words header programs lines events recovers drawn headed called lined evented recovered =
    ap (λ (h : SessionHeader). script_with h programs lines events recovers) headed
    ∙ ap (λ (ps : List (List Call)). script_with bulk_header ps lines events recovers) called
    ∙ ap (λ (ls : List (List ℕ)). script_with bulk_header (bulk_programs words) ls events recovers) (lined ∙ lines_threads words (1 ∷ 2 ∷ 3 ∷ 4 ∷ []))
    ∙ ap (λ (es : List EventLine). script_with bulk_header (bulk_programs words) (map call_line (all_calls (bulk_programs words))) es recovers) evented
    ∙ ap (λ (rs : List (List Steer)). script_with bulk_header (bulk_programs words) (map call_line (all_calls (bulk_programs words))) (record { what = Round; count = 50 * n + 1000 } ∷ []) rs) recovered
    ∙ ap (script_of n) drawn
