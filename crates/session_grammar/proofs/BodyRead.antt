-- Threads with their calls, event lines and `recover` lines are read to what they say.
use Rattle.std.proofs.Common.{◌≡◌, ℕ, ◌+◌, ◌<◌, ◌≤◌, Bool, true, false, not, ◌==◌, List, [], ◌∷◌, ◌++◌, length, take, drop, map, codes, decimal, Option, Some, None, Ok, Err, nat_le, refl, sym, ap, ap₂, ◌∙◌, subst, inl, inr, arith, append_assoc, append-nil, length-append, if◌then◌else◌}
use Rattle.std.specs.List.{join_with_byte}
use Rattle.std.proofs.lemmas.Bool.{and_from, le-leb, lt-ltb, eq-eqb}
use Rattle.std.proofs.lemmas.List.{take-append-drop}
use Rattle.std.proofs.lemmas.List.Splits.{join_with_byte-slice_split}
use Rattle.blk_base.specs.Members.{In}
use Rattle.tree_model.specs.declared.call.Call.{Call}
use Rattle.script_words.specs.Spelling.{words_of, count_of}
use Rattle.script_words.proofs.SpelledNumbers.{numeral-decimal}
use Rattle.script_grammar.specs.declared.kinds.ScriptKind.TheVariants as kinds
use Rattle.script_grammar.proofs.WellFormed.{ok_behind}
use Rattle.line_grammar.specs.declared.calls.words.CallWord.{CallWord}
use Rattle.line_grammar.specs.declared.calls.words.CallWord.TheVariants as calls
use Rattle.line_grammar.specs.declared.calls.words.PairWord.TheVariants as pairs
use Rattle.line_grammar.specs.declared.calls.words.PathWord.{PathWord}
use Rattle.line_grammar.specs.declared.calls.words.PathWord.TheVariants as paths
use Rattle.line_grammar.specs.declared.calls.words.PlaceWord.TheVariants as places
use Rattle.line_grammar.specs.calls.CallLines as call_lines
use Rattle.line_grammar.specs.calls.Programs.{pushed_last, last_length}
use Rattle.line_grammar.specs.calls.laws.Speller as call_speller
use Rattle.line_grammar.proofs.CallsLemmas.Names.{call_name, call_named}
use Rattle.line_grammar.specs.declared.events.event.EventLine.{EventLine}
use Rattle.line_grammar.specs.declared.events.event.CoreEvent.{CoreEvent}
use Rattle.line_grammar.specs.declared.events.event.CoreEvent.TheVariants as core
use Rattle.line_grammar.specs.declared.events.event.EventWord.{EventWord}
use Rattle.line_grammar.specs.declared.events.event.EventWord.TheVariants.{One, Round, Back}
use Rattle.script_words.specs.declared.limits.TheConstants.{MOST_EVENTS}
use Rattle.line_grammar.specs.declared.events.steer.Steer.{Steer}
use Rattle.line_grammar.specs.declared.events.words.EventFirst.{EventFirst}
use Rattle.line_grammar.specs.declared.events.words.EventFirst.TheVariants as event
use Rattle.line_grammar.specs.declared.events.words.PlainWord.TheVariants as plain
use Rattle.line_grammar.specs.declared.events.words.PickWord.TheVariants as picks
use Rattle.line_grammar.specs.declared.events.words.TurnWord.TheVariants as turns
use Rattle.line_grammar.specs.events.EventLines as event_lines
use Rattle.line_grammar.specs.events.WellFormed.{IsSteerLine}
use Rattle.line_grammar.specs.events.laws.Speller as event_speller
use Rattle.line_grammar.proofs.EventsLemmas.EventLaws as event_laws
use Rattle.line_grammar.proofs.EventsLemmas.EventNames.{event_name, event_named}
use Rattle.line_grammar.proofs.EventsLemmas.SteerLaws.{steers_read}
use Rattle.session_grammar.specs.declared.limits.TheConstants.{MOST_CALLS, MOST_RECOVERS, MOST_THREADS}
use Rattle.session_grammar.specs.declared.reading.Reading.{Reading}
use Rattle.session_grammar.specs.declared.reading.Section.{Section}
use Rattle.session_grammar.specs.declared.reading.Section.TheVariants as sections
use Rattle.session_grammar.specs.declared.session_script.SessionScript.{SessionScript}
use Rattle.session_grammar.specs.declared.words.Word.TheVariants as word
use Rattle.session_grammar.specs.Words.{word_of}
use Rattle.session_grammar.specs.Grammar.{is_submit, stands_in, has_threads, may_stand, with_thread, thread_taken, with_call, call_taken, names_thread, weight, with_event, event_taken, with_recover, recover_taken, is_behind_events, script_read, ended_in}
use Rattle.session_grammar.specs.WellFormed.{all_calls, IsLineOf, AreLinesOf, IsStepOf, IsTurnOf, IsEventOf, expanded_of}
use Rattle.session_grammar.specs.laws.Speller.{thread_words, thread_lines, recover_words}
use Rattle.session_grammar.specs.laws.Accepted.{SayEvents}
use Rattle.session_grammar.proofs.ReadsTo.{IsRead, ReadsTo, ReadsTo-line, later_line-read, IsRead-known}

-- ---- words that are known

path_known : (w : PathWord) → word_of false (call_name (calls.OfPath w)) ≡ Some (word.Call (calls.OfPath w))
path_known paths.Mkdir = refl
path_known paths.Rmdir = refl
path_known paths.Create = refl
path_known paths.Unlink = refl
path_known paths.List = refl
path_known paths.Stat = refl
path_known paths.Fsync = refl
path_known paths.Fdatasync = refl
path_known paths.Fbarrier = refl
path_known paths.Fdatabarrier = refl

call_known : (v : CallWord) → word_of false (call_name v) ≡ Some (word.Call v)
call_known (calls.OfPath w) = path_known w
call_known (calls.OfPair pairs.Link) = refl
call_known (calls.OfPair pairs.Rename) = refl
call_known (calls.OfPlace places.Write) = refl
call_known (calls.OfPlace places.Bytes) = refl
call_known (calls.OfPlace places.Read) = refl
call_known calls.Truncate = refl
call_known calls.Sync = refl

event_known : (v : EventFirst) → word_of true (event_name v) ≡ Some (word.Event v)
event_known (event.Plain plain.Submit) = refl
event_known (event.Plain plain.Accept) = refl
event_known (event.Plain plain.Receive) = refl
event_known (event.Plain plain.Commit) = refl
event_known (event.Plain plain.Flush) = refl
event_known (event.Plain plain.Answer) = refl
event_known (event.Pick picks.Call) = refl
event_known (event.Pick picks.Write) = refl
event_known (event.Pick picks.Dispatch) = refl
event_known (event.Pick picks.Transfer) = refl
event_known (event.Pick picks.Persist) = refl
event_known (event.Turn turns.Round) = refl
event_known (event.Turn turns.Back) = refl

-- ---- one call

-- behind the header lines, with so many threads
abbrev pub in_body : Reading → List (List Call) → List (List ℕ) → Reading
in_body r programs lines = record r { programs = programs; lines = lines }

call_some : (o : Option Call) (c : Call) → call_lines.call_taken o ≡ Ok c → o ≡ Some c
call_some None c h = cc
call_some (Some d) c h = let p = ok_behind (call_lines.call_fits d) d c _ h in ap Some p.1

-- the words of a call's line
record IsCallLine (l : List (List ℕ)) (c : Call) : Type 0 where
  first : List ℕ
  rest : List (List ℕ)
  cut : l ≡ first ∷ rest
  kind : CallWord
  known : call_lines.call_word first ≡ Some kind
  read : call_lines.call_of kind rest ≡ Ok c

call_line-after : (w : List ℕ) (ws : List (List ℕ)) (o : Option CallWord) (c : Call) → call_lines.call_word w ≡ o → call_speller.line_after o ws ≡ Ok c → IsCallLine (w ∷ ws) c
call_line-after w ws None c e h = cc
call_line-after w ws (Some v) c e h = record { first = w; rest = ws; cut = refl; kind = v; known = e; read = h }

call_line : (l : List (List ℕ)) (c : Call) → call_speller.line_of l ≡ Ok c → IsCallLine l c
call_line [] c h = cc
call_line (w ∷ ws) c h = call_line-after w ws (call_lines.call_word w) c refl h

call_stands : (r : Reading) (v : CallWord) → r.section ≡ sections.Opening → 0 < length r.programs → may_stand r (word.Call v) ≡ true
call_stands r v here some = ap (λ s. stands_in s (has_threads r) (word.Call v)) here ∙ lt-ltb 0 (length r.programs) some

IsRead-words : (r : Reading) (l : List ℕ) (c : Call) (is : IsCallLine (words_of l) c) → r.section ≡ sections.Opening → 0 < length r.programs → last_length r.programs < MOST_CALLS → IsRead (Some r) (is.first ∷ is.rest) (with_call r l c)
IsRead-words r l c is here some few =
    let line = join_with_byte 32 (is.first ∷ is.rest) in
    let same : line ≡ l = ap (join_with_byte 32) (sym is.cut) ∙ join_with_byte-slice_split 32 l in
    let known : word_of (is_behind_events r.section) is.first ≡ Some (word.Call is.kind) =
    ap₂ (λ (s : Section) (w : List ℕ). word_of (is_behind_events s) w) here (call_named is.first is.kind is.known) ∙ call_known is.kind in
    IsRead-known r is.first is.rest (word.Call is.kind) (with_call r l c) known
    (later_line-read r line (word.Call is.kind) is.rest (with_call r l c) (call_stands r is.kind here some) refl
    (ap (call_taken r line) is.read
    ∙ ap (λ b. if b then Ok (with_call r line c) else Err kinds.Number) (lt-ltb (last_length r.programs) MOST_CALLS few)
    ∙ ap (λ x. Ok (with_call r x c)) same))

IsRead-call : (r : Reading) (l : List ℕ) (c : Call) → r.section ≡ sections.Opening → 0 < length r.programs → last_length r.programs < MOST_CALLS → IsLineOf l c → IsRead (Some r) (words_of l) (with_call r l c)
IsRead-call r l c here some few line =
    let is = call_line (words_of l) c line in
    subst (λ ws. IsRead (Some r) ws (with_call r l c)) (sym is.cut) (IsRead-words r l c is here some few)

-- ---- the calls of a thread

pushed_last-behind : {A : Type 0} (ts : List (List A)) (t : List A) (x : A) → pushed_last (ts ++ t ∷ []) x ≡ ts ++ (t ++ x ∷ []) ∷ []
pushed_last-behind [] t x = refl
pushed_last-behind (u ∷ []) t x = refl
pushed_last-behind (u ∷ v ∷ ts) t x = ap (λ y. u ∷ y) (pushed_last-behind (v ∷ ts) t x)

last_length-behind : {A : Type 0} (ts : List (List A)) (t : List A) → last_length (ts ++ t ∷ []) ≡ length t
last_length-behind [] t = refl
last_length-behind (u ∷ []) t = refl
last_length-behind (u ∷ v ∷ ts) t = last_length-behind (v ∷ ts) t

some_behind : {A : Type 0} (ts : List A) (t : A) → 0 < length (ts ++ t ∷ [])
some_behind ts t = omega (arith, length-append ts (t ∷ []))

calls_read : (cs : List Call) (ls : List (List ℕ)) (r : Reading) (ps : List (List Call)) (p : List Call) (done : List (List ℕ)) (rest : List (List (List ℕ))) (s : SessionScript) → r.section ≡ sections.Opening → AreLinesOf ls cs → length p + length cs ≤ MOST_CALLS
    → ReadsTo (Some (in_body r (ps ++ (p ++ cs) ∷ []) (done ++ ls))) rest s → ReadsTo (Some (in_body r (ps ++ p ∷ []) done)) (map words_of ls ++ rest) s
calls_read [] [] r ps p done rest s here are few behind =
    subst (λ x. ReadsTo (Some (in_body r (ps ++ x ∷ []) done)) rest s) (append-nil p)
    (subst (λ x. ReadsTo (Some (in_body r (ps ++ (p ++ []) ∷ []) x)) rest s) (append-nil done) behind)
calls_read [] (l ∷ ls) r ps p done rest s here are few behind = absurd are
calls_read (c ∷ cs) [] r ps p done rest s here are few behind = absurd are
calls_read (c ∷ cs) (l ∷ ls) r ps p done rest s here are few behind =
    let now = in_body r (ps ++ p ∷ []) done in
    let next = in_body r (ps ++ (p ++ c ∷ []) ∷ []) (done ++ l ∷ []) in
    let size : last_length (ps ++ p ∷ []) ≡ length p = last_length-behind ps p in
    let same : with_call now l c ≡ next = ap (λ x. in_body r x (done ++ l ∷ [])) (pushed_last-behind ps p c) in
    let read : IsRead (Some now) (words_of l) next = subst (λ x. IsRead (Some now) (words_of l) x) same (IsRead-call now l c here (some_behind ps p) (omega (arith, size, few)) are.0) in
    let more = subst (λ x. ReadsTo (Some (in_body r (ps ++ x ∷ []) (done ++ l ∷ ls))) rest s) (sym (append_assoc p (c ∷ []) cs)) behind in
    let all = subst (λ x. ReadsTo (Some (in_body r (ps ++ ((p ++ c ∷ []) ++ cs) ∷ []) x)) rest s) (sym (append_assoc done (l ∷ []) ls)) more in
    ReadsTo-line (Some now) (words_of l) next (map words_of ls ++ rest) s read
    (calls_read cs ls r ps (p ++ c ∷ []) (done ++ l ∷ []) rest s here are.1 (omega (arith, few, length-append p (c ∷ []))) all)

-- ---- threads

IsRead-thread : (r : Reading) (t : ℕ) → r.section ≡ sections.Opening → t ≡ length r.programs + 1 → t ≤ MOST_THREADS → IsRead (Some r) (thread_words t) (with_thread r)
IsRead-thread r t here counted few =
    let known : word_of (is_behind_events r.section) (codes "thread") ≡ Some word.Thread = ap (λ s. word_of (is_behind_events s) (codes "thread")) here in
    IsRead-known r (codes "thread") (decimal t ∷ []) word.Thread (with_thread r) known
    (later_line-read r (join_with_byte 32 (thread_words t)) word.Thread (decimal t ∷ []) (with_thread r) (ap (λ s. stands_in s (has_threads r) word.Thread) here) refl
    (ap (thread_taken r) (numeral-decimal t (omega (arith, few)))
    ∙ ap (λ b. if b then Ok (with_thread r) else Err kinds.Number) (and_from (t == length r.programs + 1) (nat_le t MOST_THREADS) (eq-eqb t (length r.programs + 1) counted) (le-leb t MOST_THREADS few))))

-- the lines of some calls and of those behind them
pub AreLinesOf-front : (cs ds : List Call) (ls : List (List ℕ)) → AreLinesOf ls (cs ++ ds) → AreLinesOf (take (length cs) ls) cs × AreLinesOf (drop (length cs) ls) ds
AreLinesOf-front [] ds ls are = (tt, are)
AreLinesOf-front (c ∷ cs) ds [] are = absurd are
AreLinesOf-front (c ∷ cs) ds (l ∷ ls) are = let p = AreLinesOf-front cs ds ls are.1 in ((are.0, p.0), p.1)

pub threads_read : (ps : List (List Call)) (ls : List (List ℕ)) (t : ℕ) (r : Reading) (qs : List (List Call)) (done : List (List ℕ)) (rest : List (List (List ℕ))) (s : SessionScript) → r.section ≡ sections.Opening → t ≡ length qs + 1 → length qs + length ps ≤ MOST_THREADS
    → AreLinesOf ls (all_calls ps) → ((p : List Call) → In p ps → length p ≤ MOST_CALLS)
    → ReadsTo (Some (in_body r (qs ++ ps) (done ++ ls))) rest s → ReadsTo (Some (in_body r qs done)) (thread_lines t ps ls ++ rest) s
unfolding thread_lines
threads_read [] [] t r qs done rest s here counted few are each behind =
    subst (λ x. ReadsTo (Some (in_body r x done)) rest s) (append-nil qs)
    (subst (λ x. ReadsTo (Some (in_body r (qs ++ []) x)) rest s) (append-nil done) behind)
threads_read [] (l ∷ ls) t r qs done rest s here counted few are each behind = absurd are
threads_read (p ∷ ps) ls t r qs done rest s here counted few are each behind =
    let now = in_body r qs done in
    let front = take (length p) ls in
    let back = drop (length p) ls in
    let both = AreLinesOf-front p (all_calls ps) ls are in
    let started = in_body r (qs ++ [] ∷ []) done in
    let whole : (done ++ front) ++ back ≡ done ++ ls = append_assoc done front back ∙ ap (λ x. done ++ x) (take-append-drop (length p) ls) in
    let last : (qs ++ p ∷ []) ++ ps ≡ qs ++ p ∷ ps = append_assoc qs (p ∷ []) ps in
    let more = subst (λ x. ReadsTo (Some (in_body r x (done ++ ls))) rest s) (sym last) behind in
    let all = subst (λ x. ReadsTo (Some (in_body r ((qs ++ p ∷ []) ++ ps) x)) rest s) (sym whole) more in
    let others = threads_read ps back (t + 1) r (qs ++ p ∷ []) (done ++ front) rest s here (omega (arith, counted, length-append qs (p ∷ []))) (omega (arith, few, length-append qs (p ∷ []))) both.1 (λ q i. each q (inr i)) all in
    let lines = calls_read p front r qs [] done (thread_lines (t + 1) ps back ++ rest) s here both.0 (let most = each p (inl refl) in omega (arith, most)) others in
    ReadsTo-line (Some now) (thread_words t) started ((map words_of front ++ thread_lines (t + 1) ps back) ++ rest) s (IsRead-thread now t here counted (omega (arith, counted, few)))
    (subst (λ x. ReadsTo (Some started) x s) (sym (append_assoc (map words_of front) (thread_lines (t + 1) ps back) rest)) lines)

-- ---- `events`

pub IsRead-events : (r : Reading) → r.section ≡ sections.Opening → IsRead (Some r) (codes "events" ∷ []) (record r { section = sections.Events })
IsRead-events r here =
    let known : word_of (is_behind_events r.section) (codes "events") ≡ Some word.Events = ap (λ s. word_of (is_behind_events s) (codes "events")) here in
    IsRead-known r (codes "events") [] word.Events (record r { section = sections.Events }) known
    (later_line-read r (codes "events") word.Events [] (record r { section = sections.Events }) (ap (λ s. stands_in s (has_threads r) word.Events) here) refl refl)

-- ---- event lines

submit_taken : (o : Option ℕ) (e : EventLine) (threads : ℕ) → event_lines.plain_taken plain.Submit o ≡ Ok e → IsTurnOf threads e.what → ⊥
submit_taken None e threads h is = cc
submit_taken (Some n) e threads h is =
    let p = ok_behind (event_lines.is_count n) (record { what = One (event_lines.plain_event plain.Submit); count = n }) e _ h in
    subst (λ (x : EventLine). IsTurnOf threads x.what) (sym p.1) is

not_submit : (v : EventFirst) (ws : List (List ℕ)) (e : EventLine) (threads : ℕ) → event_lines.event_of v ws ≡ Ok e → IsTurnOf threads e.what → not (is_submit v) ≡ true
not_submit (event.Plain plain.Submit) ws e threads h is = absurd (submit_taken (count_of ws) e threads h is)
not_submit (event.Plain plain.Accept) ws e threads h is = refl
not_submit (event.Plain plain.Receive) ws e threads h is = refl
not_submit (event.Plain plain.Commit) ws e threads h is = refl
not_submit (event.Plain plain.Flush) ws e threads h is = refl
not_submit (event.Plain plain.Answer) ws e threads h is = refl
not_submit (event.Pick w) ws e threads h is = refl
not_submit (event.Turn w) ws e threads h is = refl

names_step : (threads : ℕ) (e : CoreEvent) → IsStepOf threads e → names_thread threads (One e) ≡ true
names_step threads (core.Call t) is = and_from (nat_le 1 t) (nat_le t threads) (le-leb 1 t is.0) (le-leb t threads is.1)
names_step threads core.Submit is = refl
names_step threads core.Commit is = refl
names_step threads core.FlushStep is = refl
names_step threads (core.Writeback pick) is = refl
names_step threads core.Accept is = refl
names_step threads (core.Dispatch pick) is = refl
names_step threads core.Receive is = refl
names_step threads (core.Transfer pick) is = refl
names_step threads (core.Persist pick) is = refl
names_step threads core.Answer is = refl

names_turn : (threads : ℕ) (what : EventWord) → IsTurnOf threads what → names_thread threads what ≡ true
names_turn threads (One e) is = names_step threads e is
names_turn threads Round is = refl
names_turn threads Back is = refl

event_stands : (r : Reading) (v : EventFirst) → r.section ≡ sections.Events → not (is_submit v) ≡ true → may_stand r (word.Event v) ≡ true
event_stands r v here other = ap (λ s. stands_in s (has_threads r) (word.Event v)) here ∙ other

IsRead-event_words : (r : Reading) (w : List ℕ) (ws : List (List ℕ)) (o : Option EventFirst) (e : EventLine) → r.section ≡ sections.Events → event_lines.event_word w ≡ o → event_speller.line_after o ws ≡ Ok e → IsEventOf (length r.programs) e → r.expanded + weight (length r.programs) e ≤ MOST_EVENTS → IsRead (Some r) (w ∷ ws) (with_event r e)
IsRead-event_words r w ws None e here named h is few = cc
IsRead-event_words r w ws (Some v) e here named h is few =
    let line = join_with_byte 32 (w ∷ ws) in
    let threads = length r.programs in
    let known : word_of (is_behind_events r.section) w ≡ Some (word.Event v) =
    ap₂ (λ (s : Section) (x : List ℕ). word_of (is_behind_events s) x) here (event_named w v named) ∙ event_known v in
    IsRead-known r w ws (word.Event v) (with_event r e) known
    (later_line-read r line (word.Event v) ws (with_event r e) (event_stands r v here (not_submit v ws e threads h is.turn)) refl
    (ap (event_taken r) h
    ∙ ap (λ b. if b then Ok (with_event r e) else Err kinds.Number) (and_from (names_thread threads e.what) (nat_le (r.expanded + weight threads e) MOST_EVENTS) (names_turn threads e.what is.turn) (le-leb (r.expanded + weight threads e) MOST_EVENTS few))))

IsRead-event : (r : Reading) (l : List (List ℕ)) (e : EventLine) → r.section ≡ sections.Events → event_speller.line_of l ≡ Ok e → IsEventOf (length r.programs) e → r.expanded + weight (length r.programs) e ≤ MOST_EVENTS → IsRead (Some r) l (with_event r e)
IsRead-event r [] e here h is few = cc
IsRead-event r (w ∷ ws) e here h is few = IsRead-event_words r w ws (event_lines.event_word w) e here refl h is few

abbrev pub in_events : Reading → List EventLine → ℕ → Reading
in_events r events expanded = record r { events = events; expanded = expanded }

pub events_read : (es : List EventLine) (ls : List (List (List ℕ))) (r : Reading) (done : List EventLine) (n : ℕ) (rest : List (List (List ℕ))) (s : SessionScript) → r.section ≡ sections.Events → SayEvents es ls → ((e : EventLine) → In e es → IsEventOf (length r.programs) e)
    → n + expanded_of (length r.programs) es ≤ MOST_EVENTS → ((m : ℕ) → ReadsTo (Some (in_events r (done ++ es) m)) rest s) → ReadsTo (Some (in_events r done n)) (ls ++ rest) s
events_read [] [] r done n rest s here say are few behind = subst (λ x. ReadsTo (Some (in_events r x n)) rest s) (append-nil done) (behind n)
events_read [] (l ∷ ls) r done n rest s here say are few behind = absurd say
events_read (e ∷ es) [] r done n rest s here say are few behind = absurd say
events_read (e ∷ es) (l ∷ ls) r done n rest s here say are few behind =
    let threads = length r.programs in
    let now = in_events r done n in
    let is = are e (inl refl) in
    let said : event_speller.line_of l ≡ Ok e = event_laws.line_of-read l e is.line say.0 in
    ReadsTo-line (Some now) l (with_event now e) (ls ++ rest) s (IsRead-event now l e here said is (omega (arith, few)))
    (events_read es ls r (done ++ e ∷ []) (n + weight threads e) rest s here say.1 (λ d i. are d (inr i)) (omega (arith, few))
    (λ m. subst (λ x. ReadsTo (Some (in_events r x m)) rest s) (sym (append_assoc done (e ∷ []) es)) (behind m)))

-- ---- `recover` lines

recover_stands : (section : Section) (threads : Bool) → is_behind_events section ≡ true → stands_in section threads word.Recover ≡ true
recover_stands sections.Opening threads h = cc
recover_stands sections.Events threads h = refl
recover_stands sections.Recovery threads h = refl

recover_known : (section : Section) → is_behind_events section ≡ true → word_of (is_behind_events section) (codes "recover") ≡ Some word.Recover
recover_known section h = ap (λ b. word_of b (codes "recover")) h

IsRead-recover : (r : Reading) (ss : List Steer) → is_behind_events r.section ≡ true → IsSteerLine ss → length r.recovers < MOST_RECOVERS → IsRead (Some r) (recover_words ss) (with_recover r ss)
IsRead-recover r ss here is few =
    let line = join_with_byte 32 (recover_words ss) in
    let ws = event_speller.steer_words ss in
    IsRead-known r (codes "recover") ws word.Recover (with_recover r ss) (recover_known r.section here)
    (later_line-read r line word.Recover ws (with_recover r ss) (recover_stands r.section (has_threads r) here) refl
    (ap (recover_taken r) (steers_read ws ss is refl)
    ∙ ap (λ b. if b then Ok (with_recover r ss) else Err kinds.Number) (lt-ltb (length r.recovers) MOST_RECOVERS few)))

ended_behind : (n : ℕ) (r : Reading) (section : Section) → is_behind_events section ≡ true → ended_in n r section ≡ Ok (script_read r)
ended_behind n r sections.Opening h = cc
ended_behind n r sections.Events h = refl
ended_behind n r sections.Recovery h = refl

abbrev pub in_recovery : Reading → Section → List (List Steer) → Reading
in_recovery r section recovers = record r { section = section; recovers = recovers }

pub recovers_read : (rs : List (List Steer)) (r : Reading) (section : Section) (done : List (List Steer)) → is_behind_events section ≡ true → ((ss : List Steer) → In ss rs → IsSteerLine ss) → length done + length rs ≤ MOST_RECOVERS
    → ReadsTo (Some (in_recovery r section done)) (map recover_words rs) (script_read (in_recovery r section (done ++ rs)))
recovers_read [] r section done here are few = λ n. ended_behind n (in_recovery r section done) section here ∙ ap (λ x. Ok (script_read (in_recovery r section x))) (sym (append-nil done))
recovers_read (ss ∷ rs) r section done here are few =
    let now = in_recovery r section done in
    let next = in_recovery r sections.Recovery (done ++ ss ∷ []) in
    let rest = recovers_read rs r sections.Recovery (done ++ ss ∷ []) refl (λ x i. are x (inr i)) (omega (arith, few, length-append done (ss ∷ []))) in
    ReadsTo-line (Some now) (recover_words ss) next (map recover_words rs) (script_read (in_recovery r section (done ++ ss ∷ rs))) (IsRead-recover now ss here (are ss (inl refl)) (omega (arith, few)))
    (subst (λ x. ReadsTo (Some next) (map recover_words rs) (script_read (in_recovery r section x))) (append_assoc done (ss ∷ []) rs) rest)
