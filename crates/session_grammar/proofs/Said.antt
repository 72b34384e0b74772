-- The lines of a text that is accepted say its script.
use Rattle.std.proofs.Common.{◌≡◌, ℕ, ◌+◌, ◌<◌, Bool, true, false, ◌&&◌, ◌==◌, List, [], ◌∷◌, ◌++◌, length, codes, decimal, map, Option, Some, None, Result, Ok, Err, is_some, nat_le, nat_lt, unwrap_or, refl, sym, ap, ap₂, ◌∙◌, subst, inl, inr, arith, append_assoc, append-nil, if◌then◌else◌}
use Rattle.std.specs.Str.{bytes_eq}
use Rattle.std.proofs.lemmas.Bool.{and_parts, leb-true, eqb-true, lt-ltb}
use borrow.Author.Tests.{ltb-true}
use Rattle.std.proofs.lemmas.List.{map-append}
use Rattle.std.proofs.lemmas.List.Elements.{filter-append}
use Rattle.std.proofs.lemmas.Slice.Eq.{bytes_eq-Decides}
use Rattle.blk_base.specs.Members.{In}
use Rattle.blk_base.specs.laws.Members.{each_push}
use Rattle.tree_model.specs.declared.call.Call.{Call}
use Rattle.script_words.specs.declared.line_error.LineFault.{LineFault}
use Rattle.script_words.specs.Spelling.{numeral, words_of, lines_of}
use Rattle.script_words.specs.laws.Texts.{kept_lines}
use Rattle.script_words.proofs.KeptLines.{said}
use Rattle.script_words.proofs.SaidNumbers.{decimal-numeral}
use Rattle.script_grammar.specs.declared.limits.TheConstants.{DEFAULT_DEPTH, DEFAULT_QUEUE}
use Rattle.script_grammar.specs.declared.kinds.ScriptKind.{ScriptKind}
use Rattle.script_grammar.specs.laws.Accepted.{begins, beginning, or_default}
use Rattle.script_grammar.proofs.SaidWords.{default_text}
use Rattle.script_words.proofs.Counts.{one_text}
use Rattle.script_grammar.proofs.WellFormed.{ok_behind, ok_past, ok_beside}
use Rattle.line_grammar.specs.calls.CallLines.{call_of}
use Rattle.line_grammar.specs.calls.Programs.{pushed_last, last_length}
use Rattle.line_grammar.specs.declared.events.event.EventLine.{EventLine}
use Rattle.line_grammar.specs.declared.events.steer.Steer.{Steer}
use Rattle.line_grammar.specs.declared.events.words.EventFirst.{EventFirst}
use Rattle.line_grammar.specs.events.EventLines.{event_word, event_of}
use Rattle.line_grammar.specs.events.SteerLines.{steers_of}
use Rattle.line_grammar.specs.events.laws.Speller as event_speller
use Rattle.line_grammar.proofs.EventsLemmas.EventLaws as event_laws
use Rattle.line_grammar.proofs.EventsLemmas.SteerLaws.{steers_said}
use Rattle.session_grammar.specs.declared.limits.TheConstants.{DEFAULT_LIMIT, DEFAULT_SEED, MOST_CALLS, MOST_RECOVERS, MOST_THREADS}
use Rattle.session_grammar.specs.declared.reading.Reading.{Reading}
use Rattle.session_grammar.specs.declared.reading.Section.{Section}
use Rattle.session_grammar.specs.declared.reading.Section.TheVariants as sections
use Rattle.session_grammar.specs.declared.header.HeaderSoFar.{HeaderSoFar}
use Rattle.session_grammar.specs.declared.reading.VolumeForm.{VolumeForm}
use Rattle.session_grammar.specs.declared.session_script.SessionScript.{SessionScript}
use Rattle.script_grammar.specs.declared.words.FirstWord.TheVariants as first
use Rattle.session_grammar.specs.declared.words.NumberWord.{NumberWord}
use Rattle.session_grammar.specs.declared.words.NumberWord.TheVariants as numbers
use Rattle.session_grammar.specs.declared.words.HeaderWord.{HeaderWord}
use Rattle.session_grammar.specs.declared.words.HeaderWord.TheVariants as header
use Rattle.session_grammar.specs.declared.words.Word.{Word}
use Rattle.session_grammar.specs.declared.words.Word.TheVariants as word
use Rattle.session_grammar.specs.Words.{word_of}
use Rattle.session_grammar.specs.Grammar.{are_sizes, have_geometry, new_reading, none_told, sizes_taken, opened, form_told, journal_line, zones_line, volume_line, known_first, first_line, stands_in, has_threads, may_stand, told_number, stood_before, number_fits, with_number, number_taken, header_line, header_taken, with_thread, thread_taken, thread_line, with_call, call_taken, events_line, event_fits, with_event, event_taken, with_recover, recover_taken, line_taken, later_line, is_behind_events, read_words, read_one, header_of, script_read, ended_in, ended, session_of}
use Rattle.session_grammar.specs.WellFormed.{all_calls, AreLinesOf}
use Rattle.session_grammar.specs.laws.Speller.{volume_words, number_words, number_lines, elevator_lines, thread_words, thread_lines, recover_words}
use Rattle.session_grammar.specs.laws.Accepted.{is_header_line, IsHeaderOf, SayEvents, SaysSession}
use Rattle.session_grammar.proofs.Forms.{said_form}
use Rattle.session_grammar.proofs.Names.{number_name, IsNamed, named}
use Rattle.session_grammar.proofs.Steps.{ok_under}
use Rattle.session_grammar.proofs.HeaderRead.{limit_text, apart, told_same, elevator_kept, told_beside, no_elevator_line, elevator_line, no_number_line, small_number, beginning-with, beginning-without}
use Rattle.session_grammar.proofs.ThreadLines.{thread_lines-thread, thread_lines-call}
use Rattle.session_grammar.proofs.WellFormed.{IsReadable, IsReadableSoFar, IsSplit, thread_stands, call_stands, event_stands, IsReadable-read_words, AreSizes-from}

-- ---- what the lines that were read say of the reading

record SaysHeader (t : HeaderSoFar) (header : List (List (List ℕ))) : Type 0 where
  numbers : (w : NumberWord) → beginning (number_name w) header ≡ number_lines (number_name w) (told_number t w)
  elevators : beginning (codes "elevator") header ≡ elevator_lines t.elevator
  known : (l : List (List ℕ)) → In l header → is_header_line l ≡ true

-- the line `events`, where it was read, and what stands behind it
abbrev tail_of : Section → List (List (List ℕ)) → List (List Steer) → List (List (List ℕ))
tail_of sections.Opening events recovers = []
tail_of sections.Events events recovers = (codes "events" ∷ []) ∷ events ++ map recover_words recovers
tail_of sections.Recovery events recovers = (codes "events" ∷ []) ∷ events ++ map recover_words recovers

abbrev is_recovery : Section → Bool
is_recovery sections.Opening = false
is_recovery sections.Events = false
is_recovery sections.Recovery = true

-- all lines behind the header
abbrev rest_of : Reading → List (List (List ℕ)) → List (List (List ℕ))
rest_of r events = thread_lines 1 r.programs r.lines ++ tail_of r.section events r.recovers

record Says (r : Reading) (lines : List (List (List ℕ))) : Type 0 where
  header : List (List (List ℕ))
  events : List (List (List ℕ))
  whole : lines ≡ volume_words r.inodes r.zones r.journal r.width r.wide ∷ header ++ rest_of r events
  headed : SaysHeader r.told header
  said : SayEvents r.events events
  no_events : is_behind_events r.section ≡ false → events ≡ []
  no_recovers : is_recovery r.section ≡ false → r.recovers ≡ []

abbrev SaysSoFar : Option Reading → List (List (List ℕ)) → Type 0
SaysSoFar None lines = lines ≡ []
SaysSoFar (Some r) lines = Says r lines

-- ---- one header line more

beginning-push : (w : List ℕ) (header : List (List (List ℕ))) (l : List (List ℕ)) (had more : List (List (List ℕ))) → beginning w header ≡ had → beginning w (l ∷ []) ≡ more → beginning w (header ++ l ∷ []) ≡ had ++ more
beginning-push w header l had more e f = filter-append (begins w) header (l ∷ []) ∙ ap₂ (λ (a b : List (List (List ℕ))). a ++ b) e f

begins_itself : (w : NumberWord) (n : ℕ) → begins (number_name w) (number_words (number_name w) n) ≡ true
begins_itself numbers.Depth n = refl
begins_itself numbers.Queue n = refl
begins_itself numbers.Limit n = refl
begins_itself numbers.Fail n = refl
begins_itself numbers.Cut n = refl
begins_itself numbers.Seed n = refl
begins_itself numbers.Flash n = refl

header_line-number : (w : NumberWord) (n : ℕ) → is_header_line (number_words (number_name w) n) ≡ true
header_line-number numbers.Depth n = refl
header_line-number numbers.Queue n = refl
header_line-number numbers.Limit n = refl
header_line-number numbers.Fail n = refl
header_line-number numbers.Cut n = refl
header_line-number numbers.Seed n = refl
header_line-number numbers.Flash n = refl

pub is_none : (o : Option ℕ) → is_some o ≡ false → o ≡ None
is_none None h = refl
is_none (Some n) h = cc

says_number : (t : HeaderSoFar) (header : List (List (List ℕ))) (w v : NumberWord) (n : ℕ) → told_number t w ≡ None → SaysHeader t header
    → beginning (number_name v) (header ++ number_words (number_name w) n ∷ []) ≡ number_lines (number_name v) (told_number (with_number t w n) v)
says_number t header w v n none is =
    let l = number_words (number_name w) n in
    elim (apart v w) [
      | inl a ↦
          beginning-push (number_name v) header l (number_lines (number_name v) (told_number t v)) [] (is.numbers v) (beginning-without (number_name v) l [] (a.line n))
          ∙ append-nil (number_lines (number_name v) (told_number t v))
          ∙ ap (number_lines (number_name v)) (sym (a.told t n))
      | inr e ↦
          subst (λ x. beginning (number_name x) (header ++ l ∷ []) ≡ number_lines (number_name x) (told_number (with_number t w n) x)) (sym e)
          (beginning-push (number_name w) header l [] (l ∷ []) (is.numbers w ∙ ap (number_lines (number_name w)) none) (beginning-with (number_name w) l [] (begins_itself w n))
          ∙ ap (number_lines (number_name w)) (sym (told_same w t n)))
    ]

SaysHeader-number : (t : HeaderSoFar) (header : List (List (List ℕ))) (w : NumberWord) (n : ℕ) → told_number t w ≡ None → SaysHeader t header → SaysHeader (with_number t w n) (header ++ number_words (number_name w) n ∷ [])
SaysHeader-number t header w n none is =
    let l = number_words (number_name w) n in
    record {
      numbers = λ v. says_number t header w v n none is;
      elevators =
          beginning-push (codes "elevator") header l (elevator_lines t.elevator) [] is.elevators (beginning-without (codes "elevator") l [] (no_elevator_line w n))
          ∙ append-nil (elevator_lines t.elevator)
          ∙ ap elevator_lines (sym (elevator_kept w t n));
      known = each_push (λ x. is_header_line x ≡ true) header l is.known (header_line-number w n);
    }

SaysHeader-elevator : (t : HeaderSoFar) (header : List (List (List ℕ))) → t.elevator ≡ false → SaysHeader t header → SaysHeader (record t { elevator = true }) (header ++ elevator_line ∷ [])
SaysHeader-elevator t header none is = record {
  numbers = λ v.
      beginning-push (number_name v) header elevator_line (number_lines (number_name v) (told_number t v)) [] (is.numbers v) (beginning-without (number_name v) elevator_line [] (no_number_line v))
      ∙ append-nil (number_lines (number_name v) (told_number t v))
      ∙ ap (number_lines (number_name v)) (sym (told_beside v t));
  elevators = beginning-push (codes "elevator") header elevator_line [] (elevator_line ∷ []) (is.elevators ∙ ap elevator_lines none) refl;
  known = each_push (λ x. is_header_line x ≡ true) header elevator_line is.known refl;
}

-- one line more behind the header, where nothing stands behind
push_header : (front : List (List ℕ)) (header rest : List (List (List ℕ))) (l : List (List ℕ)) → rest ≡ [] → (front ∷ header ++ rest) ++ l ∷ [] ≡ front ∷ (header ++ l ∷ []) ++ rest
push_header front header rest l none =
    ap (λ x. (front ∷ header ++ x) ++ l ∷ []) none
    ∙ ap (λ x. (front ∷ x) ++ l ∷ []) (append-nil header)
    ∙ ap (λ x. front ∷ x) (sym (append-nil (header ++ l ∷ [])))
    ∙ ap (λ x. front ∷ (header ++ l ∷ []) ++ x) (sym none)

-- header lines stand before all threads
header_stands : (s : Section) (threads : Bool) (w : HeaderWord) → stands_in s threads (word.Header w) ≡ true → (s ≡ sections.Opening) × (threads ≡ false)
header_stands sections.Opening true w h = cc
header_stands sections.Opening false w h = (refl, refl)
header_stands sections.Events threads w h = cc
header_stands sections.Recovery threads w h = cc

no_thread_yet : (ps : List (List Call)) → nat_lt 0 (length ps) ≡ false → ps ≡ []
no_thread_yet [] h = refl
no_thread_yet (p ∷ ps) h = let t : true ≡ false = sym (lt-ltb 0 (length (p ∷ ps)) (omega arith)) ∙ h in cc

no_thread_lines : (ps : List (List Call)) (ls : List (List ℕ)) → ps ≡ [] → thread_lines 1 ps ls ≡ []
unfolding thread_lines
no_thread_lines ps ls none = ap (λ x. thread_lines 1 x ls) none

nothing_behind : (r : Reading) (events : List (List (List ℕ))) → r.section ≡ sections.Opening → has_threads r ≡ false → rest_of r events ≡ []
nothing_behind r events here none =
    ap₂ (λ (a b : List (List (List ℕ))). a ++ b) (no_thread_lines r.programs r.lines (no_thread_yet r.programs none)) (ap (λ s. tail_of s events r.recovers) here)

Says-told : (r : Reading) (lines : List (List (List ℕ))) (l : List (List ℕ)) (t : HeaderSoFar) → r.section ≡ sections.Opening → has_threads r ≡ false → (is : Says r lines) → SaysHeader t (is.header ++ l ∷ []) → Says (record r { told = t }) (lines ++ l ∷ [])
Says-told r lines l t here none is headed = record {
  header = is.header ++ l ∷ [];
  events = is.events;
  whole =
      ap (λ ls. ls ++ l ∷ []) is.whole
      ∙ push_header (volume_words r.inodes r.zones r.journal r.width r.wide) is.header (rest_of r is.events) l (nothing_behind r is.events here none);
  headed = headed;
  said = is.said;
  no_events = is.no_events;
  no_recovers = is.no_recovers;
}

number_line_said : (w u : List ℕ) (v : NumberWord) (n : ℕ) → w ≡ number_name v → numeral u ≡ Some n → number_fits v n ≡ true → w ∷ u ∷ [] ≡ number_words (number_name v) n
number_line_said w u v n name value fits = ap₂ (λ (x y : List ℕ). x ∷ y ∷ []) name (decimal-numeral u n value (small_number v n fits))

Says-number : (r : Reading) (lines : List (List (List ℕ))) (w u : List ℕ) (v : NumberWord) (o : Option ℕ) (t : HeaderSoFar) → w ≡ number_name v → numeral u ≡ o → number_taken r.told v o ≡ Ok t → told_number r.told v ≡ None → r.section ≡ sections.Opening → has_threads r ≡ false → Says r lines
    → Says (record r { told = t }) (lines ++ (w ∷ u ∷ []) ∷ [])
Says-number r lines w u v None t name value h fresh here none is = cc
Says-number r lines w u v (Some n) t name value h fresh here none is =
    let p = ok_behind (number_fits v n) (with_number r.told v n) t _ h in
    let said = number_line_said w u v n name value p.0 in
    subst (λ x. Says (record r { told = x }) (lines ++ (w ∷ u ∷ []) ∷ [])) p.1
    (subst (λ x. Says (record r { told = with_number r.told v n }) (lines ++ x ∷ [])) (sym said)
    (Says-told r lines (number_words (number_name v) n) (with_number r.told v n) here none is (SaysHeader-number r.told is.header v n fresh is.headed)))

Says-header_line : (r : Reading) (lines : List (List (List ℕ))) (w : List ℕ) (v : HeaderWord) (ws : List (List ℕ)) (t : HeaderSoFar) → IsNamed w (word.Header v) → header_line r.told v ws ≡ Ok t → stood_before r.told (word.Header v) ≡ false → r.section ≡ sections.Opening → has_threads r ≡ false → Says r lines
    → Says (record r { told = t }) (lines ++ (w ∷ ws) ∷ [])
Says-header_line r lines w (header.Number v) [] t name h new here none is = cc
Says-header_line r lines w (header.Number v) (u ∷ []) t name h new here none is =
    Says-number r lines w u v (numeral u) t name refl h (is_none (told_number r.told v) new) here none is
Says-header_line r lines w (header.Number v) (u ∷ x ∷ ws) t name h new here none is = cc
Says-header_line r lines w header.Elevator [] t name h new here none is =
    let e : record r.told { elevator = true } ≡ t = cc in
    let said : w ∷ [] ≡ elevator_line = ap (λ x. x ∷ []) name in
    subst (λ x. Says (record r { told = x }) (lines ++ (w ∷ []) ∷ [])) e
    (subst (λ x. Says (record r { told = record r.told { elevator = true } }) (lines ++ x ∷ [])) (sym said)
    (Says-told r lines elevator_line (record r.told { elevator = true }) here none is (SaysHeader-elevator r.told is.header new is.headed)))
Says-header_line r lines w header.Elevator (u ∷ ws) t name h new here none is = cc

Says-header_taken : (r : Reading) (lines : List (List (List ℕ))) (l : List (List ℕ)) (read : Result HeaderSoFar ScriptKind) (next : Reading) → header_taken r read ≡ Ok next → ((t : HeaderSoFar) → read ≡ Ok t → Says (record r { told = t }) (lines ++ l ∷ [])) → Says next (lines ++ l ∷ [])
Says-header_taken r lines l (Err kind) next h of = cc
Says-header_taken r lines l (Ok t) next h of = let e : record r { told = t } ≡ next = cc in subst (λ x. Says x (lines ++ l ∷ [])) e (of t refl)

-- ---- one line more behind all

push_rest : (front : List (List ℕ)) (header rest : List (List (List ℕ))) (l : List (List ℕ)) (next : List (List (List ℕ))) → rest ++ l ∷ [] ≡ next → (front ∷ header ++ rest) ++ l ∷ [] ≡ front ∷ header ++ next
push_rest front header rest l next e = ap (λ x. front ∷ x) (append_assoc header rest (l ∷ []) ∙ ap (λ x. header ++ x) e)

opening_tail : (s : Section) (events : List (List (List ℕ))) (recovers : List (List Steer)) → s ≡ sections.Opening → tail_of s events recovers ≡ []
opening_tail s events recovers here = ap (λ x. tail_of x events recovers) here

-- one line more of the threads, behind which nothing stands
push_thread : (threads tail : List (List (List ℕ))) (l : List (List ℕ)) (more : List (List (List ℕ))) → tail ≡ [] → threads ++ l ∷ [] ≡ more → (threads ++ tail) ++ l ∷ [] ≡ more ++ tail
push_thread threads tail l more none e =
    ap (λ x. (threads ++ x) ++ l ∷ []) none
    ∙ ap (λ x. x ++ l ∷ []) (append-nil threads)
    ∙ e
    ∙ sym (append-nil more)
    ∙ ap (λ x. more ++ x) (sym none)

Says-thread : (r : Reading) (lines : List (List (List ℕ))) → r.section ≡ sections.Opening → Says r lines → Says (with_thread r) (lines ++ thread_words (length r.programs + 1) ∷ [])
Says-thread r lines here is =
    let l = thread_words (length r.programs + 1) in
    let count : 1 + length r.programs ≡ length r.programs + 1 = omega arith in
    let more : thread_lines 1 r.programs r.lines ++ l ∷ [] ≡ thread_lines 1 (r.programs ++ [] ∷ []) r.lines =
    sym (thread_lines-thread r.programs 1 r.lines ∙ ap (λ n. thread_lines 1 r.programs r.lines ++ thread_words n ∷ []) count) in
    record {
      header = is.header;
      events = is.events;
      whole =
          ap (λ ls. ls ++ l ∷ []) is.whole
          ∙ push_rest (volume_words r.inodes r.zones r.journal r.width r.wide) is.header (rest_of r is.events) l (rest_of (with_thread r) is.events)
          (push_thread (thread_lines 1 r.programs r.lines) (tail_of r.section is.events r.recovers) l (thread_lines 1 (r.programs ++ [] ∷ []) r.lines) (opening_tail r.section is.events r.recovers here) more);
      headed = is.headed;
      said = is.said;
      no_events = is.no_events;
      no_recovers = is.no_recovers;
    }

Says-call : (r : Reading) (lines : List (List (List ℕ))) (line : List ℕ) (c : Call) → r.section ≡ sections.Opening → 0 < length r.programs → AreLinesOf r.lines (all_calls r.programs) → Says r lines → Says (with_call r line c) (lines ++ words_of line ∷ [])
Says-call r lines line c here some matched is =
    let l = words_of line in
    record {
      header = is.header;
      events = is.events;
      whole =
          ap (λ ls. ls ++ l ∷ []) is.whole
          ∙ push_rest (volume_words r.inodes r.zones r.journal r.width r.wide) is.header (rest_of r is.events) l (rest_of (with_call r line c) is.events)
          (push_thread (thread_lines 1 r.programs r.lines) (tail_of r.section is.events r.recovers) l (thread_lines 1 (pushed_last r.programs c) (r.lines ++ line ∷ [])) (opening_tail r.section is.events r.recovers here)
          (sym (thread_lines-call r.programs 1 r.lines line c some matched)));
      headed = is.headed;
      said = is.said;
      no_events = is.no_events;
      no_recovers = is.no_recovers;
    }

-- one line more of the tail
push_tail : (threads tail : List (List (List ℕ))) (l : List (List ℕ)) (more : List (List (List ℕ))) → tail ++ l ∷ [] ≡ more → (threads ++ tail) ++ l ∷ [] ≡ threads ++ more
push_tail threads tail l more e = append_assoc threads tail (l ∷ []) ∙ ap (λ x. threads ++ x) e

Says-events : (r : Reading) (lines : List (List (List ℕ))) → r.section ≡ sections.Opening → Says r lines → Says (record r { section = sections.Events }) (lines ++ (codes "events" ∷ []) ∷ [])
Says-events r lines here is =
    let l = codes "events" ∷ [] in
    let none = is.no_events (ap is_behind_events here) in
    let calm = is.no_recovers (ap is_recovery here) in
    let tail : tail_of r.section is.events r.recovers ++ l ∷ [] ≡ l ∷ is.events ++ map recover_words r.recovers =
    ap (λ x. x ++ l ∷ []) (opening_tail r.section is.events r.recovers here) ∙ ap₂ (λ (x : List (List (List ℕ))) (y : List (List Steer)). l ∷ x ++ map recover_words y) (sym none) (sym calm) in
    record {
      header = is.header;
      events = is.events;
      whole =
          ap (λ ls. ls ++ l ∷ []) is.whole
          ∙ push_rest (volume_words r.inodes r.zones r.journal r.width r.wide) is.header (rest_of r is.events) l (rest_of (record r { section = sections.Events }) is.events)
          (push_tail (thread_lines 1 r.programs r.lines) (tail_of r.section is.events r.recovers) l (l ∷ is.events ++ map recover_words r.recovers) tail);
      headed = is.headed;
      said = is.said;
      no_events = λ e. cc;
      no_recovers = λ _. calm;
    }

pub SayEvents-push : (es : List EventLine) (ls : List (List (List ℕ))) (e : EventLine) (l : List (List ℕ)) → SayEvents es ls → event_speller.SaysEvent e l → SayEvents (es ++ e ∷ []) (ls ++ l ∷ [])
SayEvents-push [] [] e l say here = (here, tt)
SayEvents-push [] (m ∷ ls) e l say here = absurd say
SayEvents-push (d ∷ es) [] e l say here = absurd say
SayEvents-push (d ∷ es) (m ∷ ls) e l say here = (say.0, SayEvents-push es ls e l say.1 here)

Says-event : (r : Reading) (lines : List (List (List ℕ))) (e : EventLine) (l : List (List ℕ)) → r.section ≡ sections.Events → event_speller.SaysEvent e l → Says r lines → Says (with_event r e) (lines ++ l ∷ [])
Says-event r lines e l here says is =
    let calm = is.no_recovers (ap is_recovery here) in
    let start = codes "events" ∷ [] in
    let tail : tail_of r.section is.events r.recovers ++ l ∷ [] ≡ tail_of r.section (is.events ++ l ∷ []) r.recovers =
    ap₂ (λ (s : Section) (y : List (List Steer)). tail_of s is.events y ++ l ∷ []) here calm
    ∙ ap (λ x. (start ∷ x) ++ l ∷ []) (append-nil is.events)
    ∙ ap (λ x. start ∷ x) (sym (append-nil (is.events ++ l ∷ [])))
    ∙ ap₂ (λ (s : Section) (y : List (List Steer)). tail_of s (is.events ++ l ∷ []) y) (sym here) (sym calm) in
    record {
      header = is.header;
      events = is.events ++ l ∷ [];
      whole =
          ap (λ ls. ls ++ l ∷ []) is.whole
          ∙ push_rest (volume_words r.inodes r.zones r.journal r.width r.wide) is.header (rest_of r is.events) l (rest_of (with_event r e) (is.events ++ l ∷ []))
          (push_tail (thread_lines 1 r.programs r.lines) (tail_of r.section is.events r.recovers) l (tail_of r.section (is.events ++ l ∷ []) r.recovers) tail);
      headed = is.headed;
      said = SayEvents-push r.events is.events e l is.said says;
      no_events = λ f. let x : true ≡ false = ap is_behind_events (sym here) ∙ f in cc;
      no_recovers = is.no_recovers;
    }

recover_stands : (s : Section) (threads : Bool) → stands_in s threads word.Recover ≡ true → is_behind_events s ≡ true
recover_stands sections.Opening threads h = cc
recover_stands sections.Events threads h = refl
recover_stands sections.Recovery threads h = refl

tail_behind : (s : Section) (events : List (List (List ℕ))) (recovers : List (List Steer)) → is_behind_events s ≡ true → tail_of s events recovers ≡ (codes "events" ∷ []) ∷ events ++ map recover_words recovers
tail_behind sections.Opening events recovers h = cc
tail_behind sections.Events events recovers h = refl
tail_behind sections.Recovery events recovers h = refl

Says-recover : (r : Reading) (lines : List (List (List ℕ))) (ss : List Steer) → is_behind_events r.section ≡ true → Says r lines → Says (with_recover r ss) (lines ++ recover_words ss ∷ [])
Says-recover r lines ss here is =
    let l = recover_words ss in
    let start = codes "events" ∷ [] in
    let tail : tail_of r.section is.events r.recovers ++ l ∷ [] ≡ start ∷ is.events ++ map recover_words (r.recovers ++ ss ∷ []) =
    ap (λ x. x ++ l ∷ []) (tail_behind r.section is.events r.recovers here)
    ∙ ap (λ x. start ∷ x) (append_assoc is.events (map recover_words r.recovers) (l ∷ []))
    ∙ ap (λ x. start ∷ is.events ++ x) (sym (map-append recover_words r.recovers (ss ∷ []))) in
    record {
      header = is.header;
      events = is.events;
      whole =
          ap (λ ls. ls ++ l ∷ []) is.whole
          ∙ push_rest (volume_words r.inodes r.zones r.journal r.width r.wide) is.header (rest_of r is.events) l (rest_of (with_recover r ss) is.events)
          (push_tail (thread_lines 1 r.programs r.lines) (tail_of r.section is.events r.recovers) l (start ∷ is.events ++ map recover_words (r.recovers ++ ss ∷ [])) tail);
      headed = is.headed;
      said = is.said;
      no_events = λ e. cc;
      no_recovers = λ e. cc;
    }

-- ---- a line behind the first

-- words that are spelled otherwise are the same words
said_as : (r : Reading) (lines : List (List (List ℕ))) (l said : List (List ℕ)) → l ≡ said → Says r (lines ++ said ∷ []) → Says r (lines ++ l ∷ [])
said_as r lines l said e is = subst (λ x. Says r (lines ++ x ∷ [])) (sym e) is

Says-thread_taken : (r : Reading) (lines : List (List (List ℕ))) (w u : List ℕ) (o : Option ℕ) (next : Reading) → w ≡ codes "thread" → numeral u ≡ o → thread_taken r o ≡ Ok next → r.section ≡ sections.Opening → Says r lines → Says next (lines ++ (w ∷ u ∷ []) ∷ [])
Says-thread_taken r lines w u None next name value h here is = cc
Says-thread_taken r lines w u (Some n) next name value h here is =
    let p = ok_behind ((n == length r.programs + 1) && nat_le n MOST_THREADS) (with_thread r) next _ h in
    let tests = and_parts (n == length r.programs + 1) (nat_le n MOST_THREADS) p.0 in
    let same : n ≡ length r.programs + 1 = eqb-true n (length r.programs + 1) tests.0 in
    let few = leb-true n MOST_THREADS tests.1 in
    let said : w ∷ u ∷ [] ≡ thread_words (length r.programs + 1) =
    ap₂ (λ (x y : List ℕ). x ∷ y ∷ []) name (decimal-numeral u n value (omega (arith, few))) ∙ ap thread_words same in
    subst (λ x. Says x (lines ++ (w ∷ u ∷ []) ∷ [])) p.1 (said_as (with_thread r) lines (w ∷ u ∷ []) (thread_words (length r.programs + 1)) said (Says-thread r lines here is))

Says-thread_line : (r : Reading) (lines : List (List (List ℕ))) (w : List ℕ) (ws : List (List ℕ)) (next : Reading) → w ≡ codes "thread" → thread_line r ws ≡ Ok next → r.section ≡ sections.Opening → Says r lines → Says next (lines ++ (w ∷ ws) ∷ [])
Says-thread_line r lines w [] next name h here is = cc
Says-thread_line r lines w (u ∷ []) next name h here is = Says-thread_taken r lines w u (numeral u) next name refl h here is
Says-thread_line r lines w (u ∷ v ∷ ws) next name h here is = cc

Says-call_taken : (r : Reading) (lines : List (List (List ℕ))) (line : List ℕ) (read : Result Call LineFault) (next : Reading) → call_taken r line read ≡ Ok next → r.section ≡ sections.Opening → 0 < length r.programs → AreLinesOf r.lines (all_calls r.programs) → Says r lines → Says next (lines ++ words_of line ∷ [])
Says-call_taken r lines line (Err fault) next h here some matched is = cc
Says-call_taken r lines line (Ok c) next h here some matched is =
    let p = ok_behind (nat_lt (last_length r.programs) MOST_CALLS) (with_call r line c) next _ h in
    subst (λ x. Says x (lines ++ words_of line ∷ [])) p.1 (Says-call r lines line c here some matched is)

Says-events_line : (r : Reading) (lines : List (List (List ℕ))) (w : List ℕ) (ws : List (List ℕ)) (next : Reading) → w ≡ codes "events" → events_line r ws ≡ Ok next → r.section ≡ sections.Opening → Says r lines → Says next (lines ++ (w ∷ ws) ∷ [])
Says-events_line r lines w (u ∷ ws) next name h here is = cc
Says-events_line r lines w [] next name h here is =
    let e : record r { section = sections.Events } ≡ next = cc in
    subst (λ x. Says x (lines ++ (w ∷ []) ∷ [])) e (said_as (record r { section = sections.Events }) lines (w ∷ []) (codes "events" ∷ []) (ap (λ x. x ∷ []) name) (Says-events r lines here is))

Says-event_taken : (r : Reading) (lines : List (List (List ℕ))) (w : List ℕ) (v : EventFirst) (ws : List (List ℕ)) (read : Result EventLine LineFault) (next : Reading) → event_word w ≡ Some v → event_of v ws ≡ read → event_taken r read ≡ Ok next → r.section ≡ sections.Events → Says r lines → Says next (lines ++ (w ∷ ws) ∷ [])
Says-event_taken r lines w v ws (Err fault) next known e h here is = cc
Says-event_taken r lines w v ws (Ok l) next known e h here is =
    let p = ok_behind (event_fits r l) (with_event r l) next _ h in
    let says : event_speller.line_of (w ∷ ws) ≡ Ok l = ap (λ o. event_speller.line_after o ws) known ∙ e in
    subst (λ x. Says x (lines ++ (w ∷ ws) ∷ [])) p.1 (Says-event r lines l (w ∷ ws) here (event_laws.line_of-says (w ∷ ws) l says).1 is)

Says-recover_taken : (r : Reading) (lines : List (List (List ℕ))) (w : List ℕ) (ws : List (List ℕ)) (read : Result (List Steer) LineFault) (next : Reading) → w ≡ codes "recover" → steers_of ws ≡ read → recover_taken r read ≡ Ok next → is_behind_events r.section ≡ true → Says r lines → Says next (lines ++ (w ∷ ws) ∷ [])
Says-recover_taken r lines w ws (Err fault) next name e h here is = cc
Says-recover_taken r lines w ws (Ok ss) next name e h here is =
    let p = ok_behind (nat_lt (length r.recovers) MOST_RECOVERS) (with_recover r ss) next _ h in
    let said : w ∷ ws ≡ recover_words ss = ap₂ (λ (x : List ℕ) (xs : List (List ℕ)). x ∷ xs) name (steers_said ws ss e).1 in
    subst (λ x. Says x (lines ++ (w ∷ ws) ∷ [])) p.1 (said_as (with_recover r ss) lines (w ∷ ws) (recover_words ss) said (Says-recover r lines ss here is))

events_stands : (s : Section) (threads : Bool) → stands_in s threads word.Events ≡ true → s ≡ sections.Opening
events_stands sections.Opening threads h = refl
events_stands sections.Events threads h = cc
events_stands sections.Recovery threads h = cc

Says-line_taken : (r : Reading) (lines : List (List (List ℕ))) (line w : List ℕ) (v : Word) (ws : List (List ℕ)) (next : Reading) → line_taken r line v ws ≡ Ok next → IsSplit line w v ws → may_stand r v ≡ true → stood_before r.told v ≡ false → IsReadable r → Says r lines
    → Says next (lines ++ (w ∷ ws) ∷ [])
Says-line_taken r lines line w (word.First f) ws next h split stands new readable is = cc
Says-line_taken r lines line w word.Put ws next h split stands new readable is = cc
Says-line_taken r lines line w (word.Header v) ws next h split stands new readable is =
    let here = header_stands r.section (has_threads r) v stands in
    Says-header_taken r lines (w ∷ ws) (header_line r.told v ws) next h (λ t e. Says-header_line r lines w v ws t split.named e new here.0 here.1 is)
Says-line_taken r lines line w word.Thread ws next h split stands new readable is =
    Says-thread_line r lines w ws next split.named h (thread_stands r.section (has_threads r) stands) is
Says-line_taken r lines line w (word.Call v) ws next h split stands new readable is =
    let here = call_stands r.section (has_threads r) v stands in
    subst (λ x. Says next (lines ++ x ∷ [])) split.words
    (Says-call_taken r lines line (call_of v ws) next h here.0 (ltb-true 0 (length r.programs) here.1) readable.body.matched is)
Says-line_taken r lines line w word.Events ws next h split stands new readable is =
    Says-events_line r lines w ws next split.named h (events_stands r.section (has_threads r) stands) is
Says-line_taken r lines line w (word.Event v) ws next h split stands new readable is =
    let here = event_stands r.section (has_threads r) v stands in
    Says-event_taken r lines w v ws (event_of v ws) next split.named refl h here.0 is
Says-line_taken r lines line w word.Recover ws next h split stands new readable is =
    Says-recover_taken r lines w ws (steers_of ws) next split.named refl h (recover_stands r.section (has_threads r) stands) is

pub not_stood : {A E : Type 0} (b : Bool) (read : Result A E) (y : A) (e : E) → (if b then Err e else read) ≡ Ok y → b ≡ false
not_stood true read y e h = cc
not_stood false read y e h = refl

Says-later_line : (r : Reading) (lines : List (List (List ℕ))) (line w : List ℕ) (o : Option Word) (ws : List (List ℕ)) (next : Reading) → words_of line ≡ w ∷ ws → word_of (is_behind_events r.section) w ≡ o → later_line r line o ws ≡ Ok next → IsReadable r → Says r lines → Says next (lines ++ (w ∷ ws) ∷ [])
Says-later_line r lines line w None ws next cut known h readable is = cc
Says-later_line r lines line w (Some v) ws next cut known h readable is =
    let placed = ok_past (may_stand r v) _ next _ h in
    let new = not_stood (stood_before r.told v) _ next _ placed.1 in
    let read = ok_beside (stood_before r.told v) _ next _ placed.1 in
    Says-line_taken r lines line w v ws next read (record { words = cut; named = named (is_behind_events r.section) w v known }) placed.0 new readable is

-- ---- the first line

none_said : (w : NumberWord) → [] ≡ number_lines (number_name w) (told_number none_told w)
none_said numbers.Depth = refl
none_said numbers.Queue = refl
none_said numbers.Limit = refl
none_said numbers.Fail = refl
none_said numbers.Cut = refl
none_said numbers.Seed = refl
none_said numbers.Flash = refl

Says-new : (inodes zones journal : ℕ) (form : VolumeForm) → Says (new_reading inodes zones journal form) (volume_words inodes zones journal form.width form.wide ∷ [])
unfolding thread_lines
Says-new inodes zones journal form = record {
  header = [];
  events = [];
  whole = refl;
  headed = record { numbers = none_said; elevators = refl; known = λ l h. absurd h };
  said = tt;
  no_events = λ _. refl;
  no_recovers = λ _. refl;
}

-- the first line as it was read
abbrev first_words : List ℕ → List ℕ → List ℕ → List (List ℕ) → List (List ℕ)
first_words i z j ws = codes "volume" ∷ codes "inodes" ∷ i ∷ codes "zones" ∷ z ∷ codes "journal" ∷ j ∷ ws

Says-sizes : (i z j : List ℕ) (ws : List (List ℕ)) (inodes zones journal : ℕ) (form : VolumeForm) (next : Reading) → numeral i ≡ Some inodes → numeral z ≡ Some zones → numeral j ≡ Some journal → form_told ws ≡ Some form → sizes_taken inodes zones journal form ≡ Ok next
    → Says next (first_words i z j ws ∷ [])
Says-sizes i z j ws inodes zones journal form next ei ez ej ew h =
    let sizes = ok_past (are_sizes inodes zones journal) _ next _ h in
    let geometry = ok_past (have_geometry inodes zones journal) (Ok (new_reading inodes zones journal form)) next _ sizes.1 in
    let e : new_reading inodes zones journal form ≡ next = cc in
    let is = AreSizes-from inodes zones journal sizes.0 geometry.0 in
    let most = is.most_inodes in
    let all = is.most_zones in
    let long = is.most_journal in
    let first = decimal-numeral i inodes ei (omega (arith, most)) in
    let second = decimal-numeral z zones ez (omega (arith, all)) in
    let third = decimal-numeral j journal ej (omega (arith, long)) in
    let said : first_words i z j ws ≡ volume_words inodes zones journal form.width form.wide =
    ap (λ x. first_words x z j ws) first
    ∙ ap₂ (λ (x y : List ℕ). first_words (decimal inodes) x y ws) second third
    ∙ ap (first_words (decimal inodes) (decimal zones) (decimal journal)) (said_form ws form ew) in
    subst (λ x. Says x (first_words i z j ws ∷ [])) e
    (subst (λ l. Says (new_reading inodes zones journal form) (l ∷ [])) (sym said) (Says-new inodes zones journal form))

Says-opened : (i z j : List ℕ) (ws : List (List ℕ)) (a b c : Option ℕ) (d : Option VolumeForm) (next : Reading) → numeral i ≡ a → numeral z ≡ b → numeral j ≡ c → form_told ws ≡ d → opened a b c d ≡ Ok next → Says next (first_words i z j ws ∷ [])
Says-opened i z j ws (Some a) (Some b) (Some c) (Some d) next ei ez ej ew h = Says-sizes i z j ws a b c d next ei ez ej ew h
Says-opened i z j ws None b c d next ei ez ej ew h = cc
Says-opened i z j ws (Some a) None c d next ei ez ej ew h = cc
Says-opened i z j ws (Some a) (Some b) None d next ei ez ej ew h = cc
Says-opened i z j ws (Some a) (Some b) (Some c) None next ei ez ej ew h = cc

Says-journal : (i z : List ℕ) (ws : List (List ℕ)) (next : Reading) → journal_line (numeral i) (numeral z) ws ≡ Ok next → Says next ((codes "volume" ∷ codes "inodes" ∷ i ∷ codes "zones" ∷ z ∷ ws) ∷ [])
Says-journal i z [] next h = cc
Says-journal i z (j ∷ []) next h = cc
Says-journal i z (j ∷ n ∷ ws) next h =
    let p = ok_under (bytes_eq j (codes "journal")) (opened (numeral i) (numeral z) (numeral n) (form_told ws)) next _ h in
    subst (λ x. Says next ((codes "volume" ∷ codes "inodes" ∷ i ∷ codes "zones" ∷ z ∷ x ∷ n ∷ ws) ∷ [])) (sym ((bytes_eq-Decides j (codes "journal")).0 p.0))
    (Says-opened i z n ws (numeral i) (numeral z) (numeral n) (form_told ws) next refl refl refl refl p.1)

Says-zones : (i : List ℕ) (ws : List (List ℕ)) (next : Reading) → zones_line (numeral i) ws ≡ Ok next → Says next ((codes "volume" ∷ codes "inodes" ∷ i ∷ ws) ∷ [])
Says-zones i [] next h = cc
Says-zones i (z ∷ []) next h = cc
Says-zones i (z ∷ n ∷ ws) next h =
    let p = ok_under (bytes_eq z (codes "zones")) (journal_line (numeral i) (numeral n) ws) next _ h in
    subst (λ x. Says next ((codes "volume" ∷ codes "inodes" ∷ i ∷ x ∷ n ∷ ws) ∷ [])) (sym ((bytes_eq-Decides z (codes "zones")).0 p.0)) (Says-journal i n ws next p.1)

Says-volume : (ws : List (List ℕ)) (next : Reading) → volume_line ws ≡ Ok next → Says next ((codes "volume" ∷ ws) ∷ [])
Says-volume [] next h = cc
Says-volume (i ∷ []) next h = cc
Says-volume (i ∷ n ∷ ws) next h =
    let p = ok_under (bytes_eq i (codes "inodes")) (zones_line (numeral n) ws) next _ h in
    subst (λ x. Says next ((codes "volume" ∷ x ∷ n ∷ ws) ∷ [])) (sym ((bytes_eq-Decides i (codes "inodes")).0 p.0)) (Says-zones n ws next p.1)

Says-known : (w : List ℕ) (v : Word) (ws : List (List ℕ)) (next : Reading) → IsNamed w v → known_first v ws ≡ Ok next → Says next ((w ∷ ws) ∷ [])
Says-known w (word.First first.Volume) ws next name h = subst (λ x. Says next ((x ∷ ws) ∷ [])) (sym name) (Says-volume ws next h)
Says-known w (word.First first.Device) ws next name h = cc
Says-known w (word.First first.Blocks) ws next name h = cc
Says-known w (word.Header v) ws next name h = cc
Says-known w word.Put ws next name h = cc
Says-known w word.Thread ws next name h = cc
Says-known w word.Events ws next name h = cc
Says-known w word.Recover ws next name h = cc
Says-known w (word.Call v) ws next name h = cc
Says-known w (word.Event v) ws next name h = cc

Says-first : (w : List ℕ) (o : Option Word) (ws : List (List ℕ)) (next : Reading) → word_of false w ≡ o → first_line o ws ≡ Ok next → Says next ((w ∷ ws) ∷ [])
Says-first w None ws next e h = cc
Says-first w (Some v) ws next e h = Says-known w v ws next (named false w v e) h

Says-words : (reading : Option Reading) (lines : List (List (List ℕ))) (line : List ℕ) (ws : List (List ℕ)) (next : Reading) → words_of line ≡ ws → read_words reading line ws ≡ Ok next → IsReadableSoFar reading → SaysSoFar reading lines → Says next (lines ++ ws ∷ [])
Says-words reading lines line [] next cut h readable is = cc
Says-words None lines line (w ∷ ws) next cut h readable is = subst (λ ls. Says next (ls ++ (w ∷ ws) ∷ [])) (sym is) (Says-first w (word_of false w) ws next refl h)
Says-words (Some r) lines line (w ∷ ws) next cut h readable is = Says-later_line r lines line w (word_of (is_behind_events r.section) w) ws next cut refl h readable is

-- ---- the script

filled_number : (name text : List ℕ) (d : ℕ) (o : Option ℕ) (lines : List (List (List ℕ))) → text ≡ decimal d → lines ≡ number_lines name o → or_default (name ∷ text ∷ []) lines ≡ number_words name (unwrap_or o d) ∷ []
filled_number name text d None lines spelled said = ap (or_default (name ∷ text ∷ [])) said ∙ ap (λ w. (name ∷ w ∷ []) ∷ []) spelled
filled_number name text d (Some n) lines spelled said = ap (or_default (name ∷ text ∷ [])) said

IsHeaderOf-said : (t : HeaderSoFar) (header : List (List (List ℕ))) → SaysHeader t header → IsHeaderOf (header_of t) header
IsHeaderOf-said t header is = record {
  depth = filled_number (codes "depth") (codes "32") DEFAULT_DEPTH t.depth (beginning (codes "depth") header) default_text (is.numbers numbers.Depth);
  queue = filled_number (codes "queue") (codes "32") DEFAULT_QUEUE t.queue (beginning (codes "queue") header) default_text (is.numbers numbers.Queue);
  limit = filled_number (codes "limit") (codes "20000") DEFAULT_LIMIT t.limit (beginning (codes "limit") header) limit_text (is.numbers numbers.Limit);
  seed = filled_number (codes "seed") (codes "1") DEFAULT_SEED t.seed (beginning (codes "seed") header) one_text (is.numbers numbers.Seed);
  fail = is.numbers numbers.Fail;
  cut = is.numbers numbers.Cut;
  flash = is.numbers numbers.Flash;
  elevator = is.elevators;
  known = is.known;
}

SaysSession-read : (r : Reading) (lines : List (List (List ℕ))) → is_behind_events r.section ≡ true → Says r lines → SaysSession (script_read r) lines
SaysSession-read r lines here is = record {
  header = is.header;
  events = is.events;
  whole = is.whole ∙ ap (λ x. volume_words r.inodes r.zones r.journal r.width r.wide ∷ is.header ++ (thread_lines 1 r.programs r.lines ++ x)) (tail_behind r.section is.events r.recovers here);
  headed = IsHeaderOf-said r.told is.header is.headed;
  said = is.said;
}

SaysSession-ended_in : (n : ℕ) (r : Reading) (section : Section) (s : SessionScript) (lines : List (List (List ℕ))) → r.section ≡ section → ended_in n r section ≡ Ok s → Says r lines → SaysSession s lines
SaysSession-ended_in n r sections.Opening s lines here h is = cc
SaysSession-ended_in n r sections.Events s lines here h is = let e : script_read r ≡ s = cc in subst (λ t. SaysSession t lines) e (SaysSession-read r lines (ap is_behind_events here) is)
SaysSession-ended_in n r sections.Recovery s lines here h is = let e : script_read r ≡ s = cc in subst (λ t. SaysSession t lines) e (SaysSession-read r lines (ap is_behind_events here) is)

SaysSession-ended : (n : ℕ) (reading : Option Reading) (s : SessionScript) (lines : List (List (List ℕ))) → ended n reading ≡ Ok s → SaysSoFar reading lines → SaysSession s lines
SaysSession-ended n None s lines h is = cc
SaysSession-ended n (Some r) s lines h is = SaysSession-ended_in n r r.section s lines refl h is

-- ---- all lines

-- what holds of a reading and the lines that were read
record Stands (reading : Option Reading) (lines : List (List (List ℕ))) : Type 0 where
  readable : IsReadableSoFar reading
  says : SaysSoFar reading lines

-- the law: a text that is accepted says its script
pub SaysSession-session_of : (bytes : List ℕ) (s : SessionScript) → session_of bytes ≡ Ok s → SaysSession s (kept_lines (lines_of bytes))
SaysSession-session_of bytes s h =
    said read_one ended Stands SaysSession
    (λ reading done l r e is. record { readable = IsReadable-read_words reading l (words_of l) r refl e is.readable; says = Says-words reading done l (words_of l) r refl e is.readable is.says })
    (λ n reading done s e is. SaysSession-ended n reading s done e is.says) (lines_of bytes) 1 None [] s h (record { readable = tt; says = refl })
