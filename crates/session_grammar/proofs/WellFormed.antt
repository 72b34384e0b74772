-- Every volume script that is read is well-formed: what holds of the reading is kept by each line.
use Rattle.std.proofs.Common.{◌≡◌, ℕ, ◌+◌, ◌<◌, ◌≤◌, List, [], ◌∷◌, ◌++◌, length, Bool, true, false, Option, Some, None, Result, Ok, Err, refl, sym, subst, ap, ◌∙◌, arith, length-append, nat_le, nat_lt, not, ◌&&◌, ◌==◌, lit≤, IfOk, codes}
use borrow.Author.Tests.{ltb-true, leb-true}
use Rattle.std.specs.Str.{bytes_eq}
use Rattle.std.proofs.lemmas.Bool.{and_parts, eqb-true}
use Rattle.std.proofs.lemmas.Option.{same_Some, none-some}
use Rattle.blk_base.specs.Members.{In}
use Rattle.blk_base.specs.laws.Members.{each_push}
use Rattle.minix_layout.specs.Widths.{IsWidth}
use Rattle.minix_layout.specs.Words.{first_zone}
use Rattle.tree_model.specs.declared.call.Call.{Call}
use Rattle.script_words.specs.declared.line_error.LineFault.{LineFault}
use Rattle.script_words.specs.Spelling.{numeral, words_of, lines_of}
use Rattle.script_words.proofs.KeptLines.{said}
use Rattle.script_grammar.specs.declared.limits.TheConstants.{FEWEST_SEGMENTS, MOST_DEPTH, MOST_QUEUE, MOST_SEGMENTS, MOST_STEPS, MOST_TRANSFERS}
use Rattle.script_grammar.specs.declared.kinds.ScriptKind.{ScriptKind}
use Rattle.script_grammar.specs.declared.script_error.ScriptError.{ScriptError}
use Rattle.script_grammar.specs.code.Readers.{IsTextReadAs}
use Rattle.script_grammar.proofs.WellFormed.{ok_behind, ok_past, ok_beside}
use Rattle.line_grammar.specs.declared.calls.words.CallWord.{CallWord}
use Rattle.line_grammar.specs.calls.CallLines.{call_of}
use Rattle.line_grammar.specs.calls.Programs.{pushed_last, last_length}
use Rattle.line_grammar.specs.calls.WellFormed as call
use Rattle.line_grammar.specs.calls.laws.Speller as call_speller
use Rattle.line_grammar.proofs.CallsLemmas.SaidCalls as call_said
use Rattle.line_grammar.specs.declared.events.event.EventLine.{EventLine}
use Rattle.script_words.specs.declared.limits.TheConstants.{MOST_EVENTS}
use Rattle.line_grammar.specs.declared.events.steer.Steer.{Steer}
use Rattle.line_grammar.specs.declared.events.words.EventFirst.{EventFirst}
use Rattle.line_grammar.specs.events.EventLines.{event_word, event_of}
use Rattle.line_grammar.specs.events.SteerLines.{steers_of}
use Rattle.line_grammar.specs.events.WellFormed.{IsSteerLine}
use Rattle.line_grammar.specs.events.laws.Speller as event_speller
use Rattle.line_grammar.proofs.EventsLemmas.EventLaws as event_laws
use Rattle.line_grammar.proofs.EventsLemmas.SteerLaws.{steers_said}
use Rattle.minix_layout.specs.declared.limits.TheConstants.{LEAST_JOURNAL, MOST_JOURNAL, MOST_NUMBERED}
use Rattle.session_grammar.specs.declared.limits.TheConstants.{JOURNALS, MOST_CALLS, MOST_RECOVERS, MOST_SEED, MOST_SESSION, MOST_THREADS}
use Rattle.session_grammar.specs.declared.reading.Reading.{Reading}
use Rattle.session_grammar.specs.declared.reading.Section.{Section}
use Rattle.session_grammar.specs.declared.reading.Section.TheVariants as sections
use Rattle.session_grammar.specs.declared.header.HeaderSoFar.{HeaderSoFar}
use Rattle.session_grammar.specs.declared.reading.VolumeForm.{VolumeForm}
use Rattle.session_grammar.specs.declared.session_script.SessionScript.{SessionScript}
use Rattle.script_grammar.specs.declared.words.FirstWord.TheVariants as first
use Rattle.session_grammar.specs.declared.words.NumberWord.{NumberWord}
use Rattle.session_grammar.specs.declared.words.NumberWord.TheVariants as numbers
use Rattle.session_grammar.specs.declared.words.HeaderWord.{HeaderWord}
use Rattle.session_grammar.specs.declared.words.HeaderWord.TheVariants as header
use Rattle.session_grammar.specs.declared.words.Word.{Word}
use Rattle.session_grammar.specs.declared.words.Word.TheVariants as word
use Rattle.session_grammar.specs.Words.{word_of}
use Rattle.session_grammar.specs.Grammar.{are_sizes, have_geometry, new_reading, none_told, sizes_taken, opened, form_told, journal_line, zones_line, volume_line, known_first, first_line, is_submit, stands_in, has_threads, may_stand, stood_before, number_fits, with_number, number_taken, header_line, header_taken, with_thread, thread_taken, thread_line, with_call, call_taken, events_line, names_thread, weight, event_fits, with_event, event_taken, with_recover, recover_taken, line_taken, later_line, is_behind_events, read_words, read_one, header_of, script_read, ended_in, ended, read_from, session_of}
use Rattle.session_grammar.specs.WellFormed.{AreSizes, IsHeader, all_calls, IsLineOf, AreLinesOf, IsEventOf, expanded_of, IsWellFormed}
use Rattle.session_grammar.proofs.Forms.{IsWidth-told}
use Rattle.session_grammar.proofs.Names.{IsNamed, named}
use Rattle.session_grammar.proofs.Threads.{length-pushed_last, all_calls-pushed, all_calls-thread, each_few-pushed, AreLinesOf-push}
use Rattle.session_grammar.proofs.Steps.{ok_under, IsTurnOf-said}

-- ---- what holds of the reading between two lines

pub record AreThreads (programs : List (List Call)) (lines : List (List ℕ)) : Type 0 where
  pub threads : length programs ≤ MOST_THREADS
  pub few_calls : (p : List Call) → In p programs → length p ≤ MOST_CALLS
  pub calls : (c : Call) → In c (all_calls programs) → call.IsWellFormed c
  pub matched : AreLinesOf lines (all_calls programs)

pub record AreEvents (threads : ℕ) (events : List EventLine) (expanded : ℕ) : Type 0 where
  pub each : (l : EventLine) → In l events → IsEventOf threads l
  pub counted : expanded ≡ expanded_of threads events
  pub most : expanded ≤ MOST_EVENTS

pub record AreRecovers (recovers : List (List Steer)) : Type 0 where
  pub each : (ss : List Steer) → In ss recovers → IsSteerLine ss
  pub few : length recovers ≤ MOST_RECOVERS

pub record IsReadable (r : Reading) : Type 0 where
  pub sizes : AreSizes r.inodes r.zones r.journal
  pub width : IsWidth r.width
  pub header : IsHeader (header_of r.told)
  pub body : AreThreads r.programs r.lines
  pub events : AreEvents (length r.programs) r.events r.expanded
  pub recovers : AreRecovers r.recovers
  pub no_events : r.section ≡ sections.Opening → r.events ≡ []

-- what holds of it where nothing may have been read
abbrev pub IsReadableSoFar : Option Reading → Type 0
IsReadableSoFar None = Unit {0}
IsReadableSoFar (Some r) = IsReadable r

-- ---- where lines stand

pub thread_stands : (s : Section) (threads : Bool) → stands_in s threads word.Thread ≡ true → s ≡ sections.Opening
thread_stands sections.Opening threads h = refl
thread_stands sections.Events threads h = cc
thread_stands sections.Recovery threads h = cc

pub call_stands : (s : Section) (threads : Bool) (w : CallWord) → stands_in s threads (word.Call w) ≡ true → (s ≡ sections.Opening) × (threads ≡ true)
call_stands sections.Opening threads w h = (refl, h)
call_stands sections.Events threads w h = cc
call_stands sections.Recovery threads w h = cc

pub event_stands : (s : Section) (threads : Bool) (w : EventFirst) → stands_in s threads (word.Event w) ≡ true → (s ≡ sections.Events) × (not (is_submit w) ≡ true)
event_stands sections.Opening threads w h = cc
event_stands sections.Events threads w h = (refl, h)
event_stands sections.Recovery threads w h = cc

-- ---- header lines

IsHeader-number : (t : HeaderSoFar) (w : NumberWord) (n : ℕ) → number_fits w n ≡ true → IsHeader (header_of t) → IsHeader (header_of (with_number t w n))
IsHeader-number t numbers.Depth n h is =
    let p = and_parts (nat_le 1 n) (nat_le n MOST_DEPTH) h in
    record { some_depth = leb-true 1 n p.0; depth = leb-true n MOST_DEPTH p.1; some_queue = is.some_queue; queue = is.queue; some_limit = is.some_limit; limit = is.limit; least_fail = is.least_fail; most_fail = is.most_fail; cut = is.cut; seed = is.seed; least_flash = is.least_flash; most_flash = is.most_flash }
IsHeader-number t numbers.Queue n h is =
    let p = and_parts (nat_le 1 n) (nat_le n MOST_QUEUE) h in
    record { some_depth = is.some_depth; depth = is.depth; some_queue = leb-true 1 n p.0; queue = leb-true n MOST_QUEUE p.1; some_limit = is.some_limit; limit = is.limit; least_fail = is.least_fail; most_fail = is.most_fail; cut = is.cut; seed = is.seed; least_flash = is.least_flash; most_flash = is.most_flash }
IsHeader-number t numbers.Limit n h is =
    let p = and_parts (nat_le 1 n) (nat_le n MOST_SESSION) h in
    record { some_depth = is.some_depth; depth = is.depth; some_queue = is.some_queue; queue = is.queue; some_limit = leb-true 1 n p.0; limit = leb-true n MOST_SESSION p.1; least_fail = is.least_fail; most_fail = is.most_fail; cut = is.cut; seed = is.seed; least_flash = is.least_flash; most_flash = is.most_flash }
IsHeader-number t numbers.Fail n h is =
    let p = and_parts (nat_le 1 n) (nat_le n MOST_TRANSFERS) h in
    let least = leb-true 1 n p.0 in
    let most = leb-true n MOST_TRANSFERS p.1 in
    record {
      some_depth = is.some_depth;
      depth = is.depth;
      some_queue = is.some_queue;
      queue = is.queue;
      some_limit = is.some_limit;
      limit = is.limit;
      least_fail = λ m e. let same = same_Some n m e in omega (arith, least, same);
      most_fail = λ m e. let same = same_Some n m e in omega (arith, most, same);
      cut = is.cut;
      seed = is.seed;
      least_flash = is.least_flash;
      most_flash = is.most_flash;
    }
IsHeader-number t numbers.Cut n h is =
    let most = leb-true n MOST_STEPS h in
    record { some_depth = is.some_depth; depth = is.depth; some_queue = is.some_queue; queue = is.queue; some_limit = is.some_limit; limit = is.limit; least_fail = is.least_fail; most_fail = is.most_fail; cut = λ m e. let same = same_Some n m e in omega (arith, most, same); seed = is.seed; least_flash = is.least_flash; most_flash = is.most_flash }
IsHeader-number t numbers.Seed n h is =
    record { some_depth = is.some_depth; depth = is.depth; some_queue = is.some_queue; queue = is.queue; some_limit = is.some_limit; limit = is.limit; least_fail = is.least_fail; most_fail = is.most_fail; cut = is.cut; seed = leb-true n MOST_SEED h; least_flash = is.least_flash; most_flash = is.most_flash }
IsHeader-number t numbers.Flash n h is =
    let p = and_parts (nat_le FEWEST_SEGMENTS n) (nat_le n MOST_SEGMENTS) h in
    let least = leb-true FEWEST_SEGMENTS n p.0 in
    let most = leb-true n MOST_SEGMENTS p.1 in
    record {
      some_depth = is.some_depth;
      depth = is.depth;
      some_queue = is.some_queue;
      queue = is.queue;
      some_limit = is.some_limit;
      limit = is.limit;
      least_fail = is.least_fail;
      most_fail = is.most_fail;
      cut = is.cut;
      seed = is.seed;
      least_flash = λ m e. let same = same_Some n m e in omega (arith, least, same);
      most_flash = λ m e. let same = same_Some n m e in omega (arith, most, same);
    }

IsHeader-taken : (t : HeaderSoFar) (w : NumberWord) (o : Option ℕ) (next : HeaderSoFar) → number_taken t w o ≡ Ok next → IsHeader (header_of t) → IsHeader (header_of next)
IsHeader-taken t w None next h is = cc
IsHeader-taken t w (Some n) next h is =
    let p = ok_behind (number_fits w n) (with_number t w n) next _ h in
    subst (λ x. IsHeader (header_of x)) p.1 (IsHeader-number t w n p.0 is)

IsHeader-elevator : (t : HeaderSoFar) → IsHeader (header_of t) → IsHeader (header_of (record t { elevator = true }))
IsHeader-elevator t is = record { some_depth = is.some_depth; depth = is.depth; some_queue = is.some_queue; queue = is.queue; some_limit = is.some_limit; limit = is.limit; least_fail = is.least_fail; most_fail = is.most_fail; cut = is.cut; seed = is.seed; least_flash = is.least_flash; most_flash = is.most_flash }

IsHeader-line : (t : HeaderSoFar) (w : HeaderWord) (ws : List (List ℕ)) (next : HeaderSoFar) → header_line t w ws ≡ Ok next → IsHeader (header_of t) → IsHeader (header_of next)
IsHeader-line t (header.Number w) [] next h is = cc
IsHeader-line t (header.Number w) (n ∷ []) next h is = IsHeader-taken t w (numeral n) next h is
IsHeader-line t (header.Number w) (n ∷ m ∷ ws) next h is = cc
IsHeader-line t header.Elevator [] next h is =
    let e : record t { elevator = true } ≡ next = cc in
    subst (λ x. IsHeader (header_of x)) e (IsHeader-elevator t is)
IsHeader-line t header.Elevator (w ∷ ws) next h is = cc

IsReadable-header : (r : Reading) (read : Result HeaderSoFar ScriptKind) (next : Reading) → header_taken r read ≡ Ok next → ((t : HeaderSoFar) → read ≡ Ok t → IsHeader (header_of t)) → IsReadable r → IsReadable next
IsReadable-header r (Err kind) next h of is = cc
IsReadable-header r (Ok t) next h of is =
    let e : record r { told = t } ≡ next = cc in
    subst IsReadable e (record { sizes = is.sizes; width = is.width; header = of t refl; body = is.body; events = is.events; recovers = is.recovers; no_events = is.no_events })

-- ---- threads and their calls

AreEvents-none : (threads other : ℕ) (events : List EventLine) (expanded : ℕ) → events ≡ [] → AreEvents threads events expanded → AreEvents other events expanded
AreEvents-none threads other events expanded none is = record {
  each = λ l h. absurd (subst (In l) none h);
  counted = is.counted ∙ ap (expanded_of threads) none ∙ sym (ap (expanded_of other) none);
  most = is.most;
}

AreThreads-thread : (programs : List (List Call)) (lines : List (List ℕ)) → length programs + 1 ≤ MOST_THREADS → AreThreads programs lines → AreThreads (programs ++ [] ∷ []) lines
AreThreads-thread programs lines few is = record {
  threads = omega (arith, few, length-append programs ([] ∷ []));
  few_calls = each_push (λ p. length p ≤ MOST_CALLS) programs [] is.few_calls (lit≤ tt);
  calls = λ c h. is.calls c (subst (In c) (all_calls-thread programs) h);
  matched = subst (AreLinesOf lines) (sym (all_calls-thread programs)) is.matched;
}

IsReadable-thread : (r : Reading) → r.section ≡ sections.Opening → length r.programs + 1 ≤ MOST_THREADS → IsReadable r → IsReadable (with_thread r)
IsReadable-thread r here few is = record {
  sizes = is.sizes;
  width = is.width;
  header = is.header;
  body = AreThreads-thread r.programs r.lines few is.body;
  events = AreEvents-none (length r.programs) (length (r.programs ++ [] ∷ [])) r.events r.expanded (is.no_events here) is.events;
  recovers = is.recovers;
  no_events = is.no_events;
}

IsReadable-thread_taken : (r : Reading) (o : Option ℕ) (next : Reading) → thread_taken r o ≡ Ok next → r.section ≡ sections.Opening → IsReadable r → IsReadable next
IsReadable-thread_taken r None next h here is = cc
IsReadable-thread_taken r (Some n) next h here is =
    let p = ok_behind ((n == length r.programs + 1) && nat_le n MOST_THREADS) (with_thread r) next _ h in
    let tests = and_parts (n == length r.programs + 1) (nat_le n MOST_THREADS) p.0 in
    let same : n ≡ length r.programs + 1 = eqb-true n (length r.programs + 1) tests.0 in
    let few = leb-true n MOST_THREADS tests.1 in
    subst IsReadable p.1 (IsReadable-thread r here (omega (arith, same, few)) is)

IsReadable-thread_line : (r : Reading) (ws : List (List ℕ)) (next : Reading) → thread_line r ws ≡ Ok next → r.section ≡ sections.Opening → IsReadable r → IsReadable next
IsReadable-thread_line r [] next h here is = cc
IsReadable-thread_line r (n ∷ []) next h here is = IsReadable-thread_taken r (numeral n) next h here is
IsReadable-thread_line r (n ∷ m ∷ ws) next h here is = cc

AreThreads-call : (programs : List (List Call)) (lines : List (List ℕ)) (l : List ℕ) (c : Call) → 0 < length programs → last_length programs < MOST_CALLS → IsLineOf l c → AreThreads programs lines
    → AreThreads (pushed_last programs c) (lines ++ l ∷ [])
AreThreads-call programs lines l c some few line is =
    let pushed = all_calls-pushed programs c some in
    record {
      threads = omega (arith, is.threads, length-pushed_last programs c);
      few_calls = each_few-pushed MOST_CALLS programs c few is.few_calls;
      calls = λ d h. each_push (λ x. call.IsWellFormed x) (all_calls programs) c is.calls (call_said.line_of-says (words_of l) c line).0 d (subst (In d) pushed h);
      matched = subst (AreLinesOf (lines ++ l ∷ [])) (sym pushed) (AreLinesOf-push lines (all_calls programs) l c is.matched line);
    }

IsReadable-call : (r : Reading) (l : List ℕ) (c : Call) → 0 < length r.programs → last_length r.programs < MOST_CALLS → IsLineOf l c → IsReadable r → IsReadable (with_call r l c)
IsReadable-call r l c some few line is = record {
  sizes = is.sizes;
  width = is.width;
  header = is.header;
  body = AreThreads-call r.programs r.lines l c some few line is.body;
  events = subst (λ n. AreEvents n r.events r.expanded) (sym (length-pushed_last r.programs c)) is.events;
  recovers = is.recovers;
  no_events = is.no_events;
}

IsReadable-call_taken : (r : Reading) (l : List ℕ) (read : Result Call LineFault) (next : Reading) → call_taken r l read ≡ Ok next → 0 < length r.programs → ((c : Call) → read ≡ Ok c → IsLineOf l c) → IsReadable r → IsReadable next
IsReadable-call_taken r l (Err fault) next h some of is = cc
IsReadable-call_taken r l (Ok c) next h some of is =
    let p = ok_behind (nat_lt (last_length r.programs) MOST_CALLS) (with_call r l c) next _ h in
    let t = of c refl in
    subst IsReadable p.1 (IsReadable-call r l c some (ltb-true (last_length r.programs) MOST_CALLS p.0) t is)

IsReadable-events_line : (r : Reading) (ws : List (List ℕ)) (next : Reading) → events_line r ws ≡ Ok next → IsReadable r → IsReadable next
IsReadable-events_line r (w ∷ ws) next h is = cc
IsReadable-events_line r [] next h is =
    let e : record r { section = sections.Events } ≡ next = cc in
    subst IsReadable e (record { sizes = is.sizes; width = is.width; header = is.header; body = is.body; events = is.events; recovers = is.recovers; no_events = λ x. cc })

-- ---- event lines

expanded_of-push : (threads : ℕ) (ls : List EventLine) (l : EventLine) → expanded_of threads (ls ++ l ∷ []) ≡ expanded_of threads ls + weight threads l
expanded_of-push threads [] l = omega arith
expanded_of-push threads (m ∷ ls) l = omega (arith, expanded_of-push threads ls l)

AreEvents-push : (threads : ℕ) (events : List EventLine) (expanded : ℕ) (l : EventLine) → IsEventOf threads l → expanded + weight threads l ≤ MOST_EVENTS → AreEvents threads events expanded → AreEvents threads (events ++ l ∷ []) (expanded + weight threads l)
AreEvents-push threads events expanded l here most is = record {
  each = each_push (IsEventOf threads) events l is.each here;
  counted = ap (λ n. n + weight threads l) is.counted ∙ sym (expanded_of-push threads events l);
  most = most;
}

IsReadable-event : (r : Reading) (l : EventLine) → r.section ≡ sections.Events → IsEventOf (length r.programs) l → r.expanded + weight (length r.programs) l ≤ MOST_EVENTS → IsReadable r → IsReadable (with_event r l)
IsReadable-event r l here of most is = record {
  sizes = is.sizes;
  width = is.width;
  header = is.header;
  body = is.body;
  events = AreEvents-push (length r.programs) r.events r.expanded l of most is.events;
  recovers = is.recovers;
  no_events = λ e. let x : sections.Events ≡ sections.Opening = sym here ∙ e in cc;
}

IsReadable-event_taken : (r : Reading) (read : Result EventLine LineFault) (next : Reading) → event_taken r read ≡ Ok next → r.section ≡ sections.Events
    → ((l : EventLine) → read ≡ Ok l → names_thread (length r.programs) l.what ≡ true → IsEventOf (length r.programs) l) → IsReadable r → IsReadable next
IsReadable-event_taken r (Err fault) next h here of is = cc
IsReadable-event_taken r (Ok l) next h here of is =
    let p = ok_behind (event_fits r l) (with_event r l) next _ h in
    let tests = and_parts (names_thread (length r.programs) l.what) _ p.0 in
    subst IsReadable p.1 (IsReadable-event r l here (of l refl tests.0) (leb-true (r.expanded + weight (length r.programs) l) MOST_EVENTS tests.1) is)

-- ---- `recover` lines

IsReadable-recover : (r : Reading) (ss : List Steer) → length r.recovers < MOST_RECOVERS → IsSteerLine ss → IsReadable r → IsReadable (with_recover r ss)
IsReadable-recover r ss few line is = record {
  sizes = is.sizes;
  width = is.width;
  header = is.header;
  body = is.body;
  events = is.events;
  recovers = record { each = each_push IsSteerLine r.recovers ss is.recovers.each line; few = omega (arith, few, length-append r.recovers (ss ∷ [])) };
  no_events = λ e. cc;
}

IsReadable-recover_taken : (r : Reading) (ws : List (List ℕ)) (read : Result (List Steer) LineFault) (next : Reading) → steers_of ws ≡ read → recover_taken r read ≡ Ok next → IsReadable r → IsReadable next
IsReadable-recover_taken r ws (Err fault) next e h is = cc
IsReadable-recover_taken r ws (Ok ss) next e h is =
    let p = ok_behind (nat_lt (length r.recovers) MOST_RECOVERS) (with_recover r ss) next _ h in
    subst IsReadable p.1 (IsReadable-recover r ss (ltb-true (length r.recovers) MOST_RECOVERS p.0) (steers_said ws ss e).0 is)

-- ---- lines behind the first

-- the line's words, the first of which is named so
pub record IsSplit (line w : List ℕ) (v : Word) (ws : List (List ℕ)) : Type 0 where
  pub words : words_of line ≡ w ∷ ws
  pub named : IsNamed w v

said_call : (line w : List ℕ) (v : CallWord) (ws : List (List ℕ)) (c : Call) → IsSplit line w (word.Call v) ws → call_of v ws ≡ Ok c → IsLineOf line c
said_call line w v ws c split h =
    let says : call_speller.line_of (w ∷ ws) ≡ Ok c = ap (λ o. call_speller.line_after o ws) split.named ∙ h in
    ap call_speller.line_of split.words ∙ says

said_event : (threads : ℕ) (w : List ℕ) (v : EventFirst) (ws : List (List ℕ)) (l : EventLine) → event_word w ≡ Some v → not (is_submit v) ≡ true → event_of v ws ≡ Ok l → names_thread threads l.what ≡ true → IsEventOf threads l
said_event threads w v ws l known other h names =
    let says : event_speller.line_of (w ∷ ws) ≡ Ok l = ap (λ o. event_speller.line_after o ws) known ∙ h in
    let line = event_laws.line_of-says (w ∷ ws) l says in
    record { line = line.0; turn = IsTurnOf-said threads l.what l.count w ws v known other names line.1 }

IsReadable-line_taken : (r : Reading) (line w : List ℕ) (v : Word) (ws : List (List ℕ)) (next : Reading) → line_taken r line v ws ≡ Ok next → IsSplit line w v ws → may_stand r v ≡ true → IsReadable r → IsReadable next
IsReadable-line_taken r line w (word.First f) ws next h split stands is = cc
IsReadable-line_taken r line w word.Put ws next h split stands is = cc
IsReadable-line_taken r line w (word.Header v) ws next h split stands is =
    IsReadable-header r (header_line r.told v ws) next h (λ t e. IsHeader-line r.told v ws t e is.header) is
IsReadable-line_taken r line w word.Thread ws next h split stands is =
    IsReadable-thread_line r ws next h (thread_stands r.section (has_threads r) stands) is
IsReadable-line_taken r line w (word.Call v) ws next h split stands is =
    let here = call_stands r.section (has_threads r) v stands in
    IsReadable-call_taken r line (call_of v ws) next h (ltb-true 0 (length r.programs) here.1) (λ c e. said_call line w v ws c split e) is
IsReadable-line_taken r line w word.Events ws next h split stands is = IsReadable-events_line r ws next h is
IsReadable-line_taken r line w (word.Event v) ws next h split stands is =
    let here = event_stands r.section (has_threads r) v stands in
    IsReadable-event_taken r (event_of v ws) next h here.0 (λ l e names. said_event (length r.programs) w v ws l split.named here.1 e names) is
IsReadable-line_taken r line w word.Recover ws next h split stands is =
    IsReadable-recover_taken r ws (steers_of ws) next refl h is

pub IsReadable-later_line : (r : Reading) (line w : List ℕ) (o : Option Word) (ws : List (List ℕ)) (next : Reading) → words_of line ≡ w ∷ ws → word_of (is_behind_events r.section) w ≡ o → later_line r line o ws ≡ Ok next → IsReadable r → IsReadable next
IsReadable-later_line r line w None ws next cut known h is = cc
IsReadable-later_line r line w (Some v) ws next cut known h is =
    let placed = ok_past (may_stand r v) _ next _ h in
    let read = ok_beside (stood_before r.told v) _ next _ placed.1 in
    IsReadable-line_taken r line w v ws next read (record { words = cut; named = named (is_behind_events r.section) w v known }) placed.0 is

-- ---- the first line

pub AreSizes-from : (inodes zones journal : ℕ) → are_sizes inodes zones journal ≡ true → have_geometry inodes zones journal ≡ true → AreSizes inodes zones journal
AreSizes-from inodes zones journal sizes geometry =
    let some = and_parts (nat_le 1 inodes) _ sizes in
    let inode = and_parts (nat_le inodes MOST_NUMBERED) _ some.1 in
    let zone = and_parts (nat_le 1 zones) _ inode.1 in
    let most = and_parts (nat_le zones MOST_NUMBERED) (nat_lt journal JOURNALS) zone.1 in
    let room = and_parts (nat_lt (first_zone inodes zones) zones) _ geometry in
    let log = and_parts (nat_le LEAST_JOURNAL journal) (nat_le journal MOST_JOURNAL) room.1 in
    record {
      some_inode = leb-true 1 inodes some.0;
      most_inodes = leb-true inodes MOST_NUMBERED inode.0;
      most_zones = leb-true zones MOST_NUMBERED most.0;
      some_data = ltb-true (first_zone inodes zones) zones room.0;
      least_journal = leb-true LEAST_JOURNAL journal log.0;
      most_journal = leb-true journal MOST_JOURNAL log.1;
    }

IsHeader-none : IsHeader (header_of none_told)
IsHeader-none = record {
  some_depth = lit≤ tt;
  depth = lit≤ tt;
  some_queue = lit≤ tt;
  queue = lit≤ tt;
  some_limit = lit≤ tt;
  limit = lit≤ tt;
  least_fail = λ n e. absurd (none-some n e);
  most_fail = λ n e. absurd (none-some n e);
  cut = λ n e. absurd (none-some n e);
  seed = lit≤ tt;
  least_flash = λ n e. absurd (none-some n e);
  most_flash = λ n e. absurd (none-some n e);
}

IsReadable-new : (inodes zones journal : ℕ) (form : VolumeForm) → AreSizes inodes zones journal → IsWidth form.width → IsReadable (new_reading inodes zones journal form)
IsReadable-new inodes zones journal form sizes width = record {
  sizes = sizes;
  width = width;
  header = IsHeader-none;
  body = record { threads = lit≤ tt; few_calls = λ p h. absurd h; calls = λ c h. absurd h; matched = tt };
  events = record { each = λ l h. absurd h; counted = refl; most = lit≤ tt };
  recovers = record { each = λ ss h. absurd h; few = lit≤ tt };
  no_events = λ _. refl;
}

IsReadable-sizes : (inodes zones journal : ℕ) (form : VolumeForm) (next : Reading) → IsWidth form.width → sizes_taken inodes zones journal form ≡ Ok next → IsReadable next
IsReadable-sizes inodes zones journal form next width h =
    let sizes = ok_past (are_sizes inodes zones journal) _ next _ h in
    let geometry = ok_past (have_geometry inodes zones journal) (Ok (new_reading inodes zones journal form)) next _ sizes.1 in
    let e : new_reading inodes zones journal form ≡ next = cc in
    subst IsReadable e (IsReadable-new inodes zones journal form (AreSizes-from inodes zones journal sizes.0 geometry.0) width)

IsReadable-opened : (inodes zones journal : Option ℕ) (form : Option VolumeForm) (next : Reading) → ((f : VolumeForm) → form ≡ Some f → IsWidth f.width) → opened inodes zones journal form ≡ Ok next → IsReadable next
IsReadable-opened (Some i) (Some z) (Some j) (Some f) next width h = IsReadable-sizes i z j f next (width f refl) h
IsReadable-opened None z j f next width h = cc
IsReadable-opened (Some i) None j f next width h = cc
IsReadable-opened (Some i) (Some z) None f next width h = cc
IsReadable-opened (Some i) (Some z) (Some j) None next width h = cc

IsReadable-journal_line : (inodes zones : Option ℕ) (ws : List (List ℕ)) (next : Reading) → journal_line inodes zones ws ≡ Ok next → IsReadable next
IsReadable-journal_line inodes zones [] next h = cc
IsReadable-journal_line inodes zones (j ∷ []) next h = cc
IsReadable-journal_line inodes zones (j ∷ n ∷ ws) next h =
    IsReadable-opened inodes zones (numeral n) (form_told ws) next (IsWidth-told ws) (ok_under (bytes_eq j (codes "journal")) (opened inodes zones (numeral n) (form_told ws)) next _ h).1

IsReadable-zones_line : (inodes : Option ℕ) (ws : List (List ℕ)) (next : Reading) → zones_line inodes ws ≡ Ok next → IsReadable next
IsReadable-zones_line inodes [] next h = cc
IsReadable-zones_line inodes (z ∷ []) next h = cc
IsReadable-zones_line inodes (z ∷ n ∷ ws) next h =
    IsReadable-journal_line inodes (numeral n) ws next (ok_under (bytes_eq z (codes "zones")) (journal_line inodes (numeral n) ws) next _ h).1

IsReadable-volume_line : (ws : List (List ℕ)) (next : Reading) → volume_line ws ≡ Ok next → IsReadable next
IsReadable-volume_line [] next h = cc
IsReadable-volume_line (i ∷ []) next h = cc
IsReadable-volume_line (i ∷ n ∷ ws) next h =
    IsReadable-zones_line (numeral n) ws next (ok_under (bytes_eq i (codes "inodes")) (zones_line (numeral n) ws) next _ h).1

IsReadable-known_first : (w : Word) (ws : List (List ℕ)) (next : Reading) → known_first w ws ≡ Ok next → IsReadable next
IsReadable-known_first (word.First first.Device) ws next h = cc
IsReadable-known_first (word.First first.Blocks) ws next h = cc
IsReadable-known_first (word.First first.Volume) ws next h = IsReadable-volume_line ws next h
IsReadable-known_first (word.Header w) ws next h = cc
IsReadable-known_first word.Put ws next h = cc
IsReadable-known_first word.Thread ws next h = cc
IsReadable-known_first word.Events ws next h = cc
IsReadable-known_first word.Recover ws next h = cc
IsReadable-known_first (word.Call w) ws next h = cc
IsReadable-known_first (word.Event w) ws next h = cc

pub IsReadable-first_line : (w : Option Word) (ws : List (List ℕ)) (next : Reading) → first_line w ws ≡ Ok next → IsReadable next
IsReadable-first_line None ws next h = cc
IsReadable-first_line (Some w) ws next h = IsReadable-known_first w ws next h

pub IsReadable-read_words : (reading : Option Reading) (line : List ℕ) (ws : List (List ℕ)) (next : Reading) → words_of line ≡ ws → read_words reading line ws ≡ Ok next → IsReadableSoFar reading → IsReadable next
IsReadable-read_words reading line [] next cut h is = cc
IsReadable-read_words None line (w ∷ ws) next cut h is = IsReadable-first_line (word_of false w) ws next h
IsReadable-read_words (Some r) line (w ∷ ws) next cut h is = IsReadable-later_line r line w (word_of (is_behind_events r.section) w) ws next cut refl h is

-- ---- the script

IsWellFormed-script_read : (r : Reading) → IsReadable r → IsWellFormed (script_read r)
IsWellFormed-script_read r is = record {
  sizes = is.sizes;
  width = is.width;
  header = is.header;
  threads = is.body.threads;
  few_calls = is.body.few_calls;
  calls = is.body.calls;
  lines = is.body.matched;
  events = is.events.each;
  expanded = subst (λ n. n ≤ MOST_EVENTS) is.events.counted is.events.most;
  recovers = is.recovers.each;
  few_recovers = is.recovers.few;
}

IsWellFormed-ended_in : (n : ℕ) (r : Reading) (section : Section) (s : SessionScript) → ended_in n r section ≡ Ok s → IsReadable r → IsWellFormed s
IsWellFormed-ended_in n r sections.Opening s h is = cc
IsWellFormed-ended_in n r sections.Events s h is = let e : script_read r ≡ s = cc in subst IsWellFormed e (IsWellFormed-script_read r is)
IsWellFormed-ended_in n r sections.Recovery s h is = let e : script_read r ≡ s = cc in subst IsWellFormed e (IsWellFormed-script_read r is)

IsWellFormed-ended : (n : ℕ) (reading : Option Reading) (s : SessionScript) → ended n reading ≡ Ok s → IsReadableSoFar reading → IsWellFormed s
IsWellFormed-ended n None s h is = cc
IsWellFormed-ended n (Some r) s h is = IsWellFormed-ended_in n r r.section s h is

IsWellFormed-read_from : (ls : List (List ℕ)) (n : ℕ) (reading : Option Reading) (s : SessionScript) → read_from n reading ls ≡ Ok s → IsReadableSoFar reading → IsWellFormed s
IsWellFormed-read_from ls n reading s h is =
    said read_one ended (λ reading done. IsReadableSoFar reading) (λ s done. IsWellFormed s)
    (λ reading done l r e is. IsReadable-read_words reading l (words_of l) r refl e is) (λ n reading done s e is. IsWellFormed-ended n reading s e is) ls n reading [] s h is

-- the reader's result
pub IsWellFormed-from_reads : (result : Result SessionScript ScriptError) (ls : List (List ℕ)) → IsTextReadAs result (read_from 1 None ls) → IfOk result IsWellFormed
IsWellFormed-from_reads (Ok s) ls h = IsWellFormed-read_from ls 1 None s h tt
IsWellFormed-from_reads (Err e) ls h = tt

-- the law: a script that is read is well-formed
pub IsWellFormed-session_of : (bytes : List ℕ) (s : SessionScript) → session_of bytes ≡ Ok s → IsWellFormed s
IsWellFormed-session_of bytes s h = IsWellFormed-read_from (lines_of bytes) 1 None s h tt
