-- Lines, each as its words, are read one after the other.
use Rattle.std.proofs.Common.{◌≡◌, ℕ, ◌+◌, ◌<◌, ◌≤◌, true, false, not, List, [], ◌∷◌, ◌++◌, length, map, codes, nat_le, nat_lt, Option, Some, None, Ok, Err, refl, sym, ap, ap₂, subst, ◌∙◌, arith, length-append, append_assoc, append-nil, if◌then◌else◌, inl, inr}
use Rattle.std.proofs.lemmas.Bool.{and_from, le-leb, lt-ltb}
use Rattle.blk_base.specs.Members.{In}
use Rattle.script_words.specs.Spelling.{lines_of, count_of}
use Rattle.script_words.specs.laws.Texts.{kept_lines}
use Rattle.script_words.specs.declared.limits.TheConstants.{MOST_EVENTS}
use Rattle.script_words.proofs.KeptLines as text
use Rattle.script_words.proofs.KeptLines.{ends_reads}
use Rattle.script_words.proofs.SpelledNumbers.{numeral-decimal}
use Rattle.script_grammar.specs.declared.kinds.ScriptKind.TheVariants as kinds
use Rattle.script_grammar.proofs.WellFormed.{ok_behind}
use Rattle.line_grammar.specs.declared.events.event.EventLine.{EventLine}
use Rattle.line_grammar.specs.declared.events.event.CoreEvent.{CoreEvent}
use Rattle.line_grammar.specs.declared.events.event.CoreEvent.TheVariants as core
use Rattle.line_grammar.specs.declared.events.event.EventWord.{EventWord}
use Rattle.line_grammar.specs.declared.events.event.EventWord.TheVariants.{One, Round, Back}
use Rattle.line_grammar.specs.declared.events.steer.Steer.{Steer}
use Rattle.line_grammar.specs.declared.events.words.EventFirst.{EventFirst}
use Rattle.line_grammar.specs.declared.events.words.EventFirst.TheVariants as event
use Rattle.line_grammar.specs.declared.events.words.PlainWord.TheVariants as plain
use Rattle.line_grammar.specs.declared.events.words.PickWord.TheVariants as picks
use Rattle.line_grammar.specs.declared.events.words.TurnWord.TheVariants as turns
use Rattle.line_grammar.specs.events.EventLines as event_lines
use Rattle.line_grammar.specs.events.WellFormed.{IsSteerLine}
use Rattle.line_grammar.specs.events.laws.Speller as event_speller
use Rattle.line_grammar.proofs.EventsLemmas.EventLaws as event_laws
use Rattle.line_grammar.proofs.EventsLemmas.EventNames.{event_name, event_named}
use Rattle.line_grammar.proofs.EventsLemmas.SteerLaws.{steers_read}
use Rattle.session_grammar.specs.declared.limits.TheConstants.{MOST_CALLS, MOST_RECOVERS}
use Rattle.session_grammar.specs.Grammar.{is_submit, names_thread, weight}
use Rattle.session_grammar.specs.WellFormed.{IsStepOf, IsTurnOf, IsEventOf, expanded_of}
use Rattle.session_grammar.specs.laws.Accepted.{SayEvents}
use Rattle.session_grammar.specs.laws.Speller.{recover_words}
use Rattle.wal_store.specs.declared.puts.Put.{Put}
use Rattle.wal_store.specs.declared.puts.Op.{Op}
use Rattle.wal_store.specs.declared.puts.Op.TheVariants as ops
use Rattle.wal_store.specs.Puts.{IsPut, is_key, is_value}
use Rattle.wal_store.specs.calls.Calls.{ArePuts, call_count, put_count}
use Rattle.store_grammar.specs.declared.limits.TheConstants.{MOST_STORE}
use Rattle.store_grammar.specs.declared.reading.Reading.{Reading}
use Rattle.store_grammar.specs.declared.reading.Section.{Section}
use Rattle.store_grammar.specs.declared.reading.Section.TheVariants as sections
use Rattle.store_grammar.specs.declared.script.StoreScript.{StoreScript}
use Rattle.store_grammar.specs.declared.words.Word.{Word}
use Rattle.store_grammar.specs.declared.words.Word.TheVariants as word
use Rattle.store_grammar.specs.Words.{word_of}
use Rattle.store_grammar.specs.Grammar.{new_reading, room_taken, put_added, stands_in, stood_before, with_put, with_flush, with_event, event_taken, with_recover, recover_taken, line_taken, later_line, is_behind_events, read_words, read_one, script_read, ended_in, ended, store_of}
use Rattle.store_grammar.specs.laws.Speller.{store_words, op_words}

-- the line with these words is read
abbrev pub IsRead : Option Reading → List (List ℕ) → Reading → Type 0
IsRead reading ws next = read_words reading ws ≡ Ok next

-- they are read one after the other, and end as the script
abbrev pub ReadsTo : Option Reading → List (List (List ℕ)) → StoreScript → Type 0
ReadsTo reading ls s = text.ReadsTo IsRead ended reading ls s

pub ReadsTo-line : (reading : Option Reading) (ws : List (List ℕ)) (next : Reading) (ls : List (List (List ℕ))) (s : StoreScript) → IsRead reading ws next → ReadsTo (Some next) ls s → ReadsTo reading (ws ∷ ls) s
ReadsTo-line reading ws next ls s is rest = (next, is, rest)

-- a later line that has no fault, of which the first word is known
pub IsRead-known : (r : Reading) (w : List ℕ) (ws : List (List ℕ)) (v : Word) (next : Reading) → word_of (is_behind_events r.section) w ≡ Some v → stands_in r.section v ≡ true → stood_before r.told v ≡ false → line_taken r v ws ≡ Ok next
    → IsRead (Some r) (w ∷ ws) next
IsRead-known r w ws v next known stands new read =
    ap (λ o. later_line r o ws) known
    ∙ ap (λ t. if not t then Err kinds.Order else (if stood_before r.told v then Err kinds.Twice else line_taken r v ws)) stands
    ∙ ap (λ t. if t then Err kinds.Twice else line_taken r v ws) new
    ∙ read

-- the text is read, where the lines that are kept are
pub store_of-reads : (bytes : List ℕ) (s : StoreScript) → ReadsTo None (kept_lines (lines_of bytes)) s → store_of bytes ≡ Ok s
store_of-reads bytes s reads = ends_reads read_one ended IsRead (λ reading l next is. is) (lines_of bytes) None s 1 reads

-- ---- the first line

pub IsRead-store : (room : ℕ) → 1 ≤ room → room ≤ MOST_STORE → IsRead None (store_words room) (new_reading room)
IsRead-store room some most =
    ap room_taken (numeral-decimal room (omega (arith, most)))
    ∙ ap (λ t. if t then Ok (new_reading room) else Err kinds.Number) (and_from (nat_le 1 room) (nat_le room MOST_STORE) (le-leb 1 room some) (le-leb room MOST_STORE most))

-- ---- what is asked

abbrev pub asked : Reading → Section → List Op → ℕ → ℕ → Reading
asked r section xs puts calls = record r { section = section; ops = xs; puts = puts; calls = calls }

put_stands : (section : Section) → is_behind_events section ≡ false → stands_in section word.Put ≡ true
put_stands sections.Header h = refl
put_stands sections.Asking h = refl
put_stands sections.Events h = cc
put_stands sections.Recovery h = cc

flush_stands : (section : Section) → is_behind_events section ≡ false → stands_in section word.Flush ≡ true
flush_stands sections.Header h = refl
flush_stands sections.Asking h = refl
flush_stands sections.Events h = cc
flush_stands sections.Recovery h = cc

events_stands : (section : Section) → is_behind_events section ≡ false → stands_in section word.Events ≡ true
events_stands sections.Header h = refl
events_stands sections.Asking h = refl
events_stands sections.Events h = cc
events_stands sections.Recovery h = cc

IsRead-put : (r : Reading) (p : Put) → is_behind_events r.section ≡ false → IsPut p → r.puts < r.room → r.calls + 2 ≤ MOST_CALLS → IsRead (Some r) (op_words (ops.Put p)) (with_put r p)
IsRead-put r p here is few most =
    IsRead-known r (codes "put") (p.key ∷ p.value ∷ []) word.Put (with_put r p)
    (ap (λ b. word_of b (codes "put")) here)
    (put_stands r.section here) refl
    (ap (λ t. if t then put_added r p else Err kinds.Word) (and_from (is_key p.key) (is_value p.value) is.key is.value)
    ∙ ap (λ t. if t then Ok (with_put r p) else Err kinds.Number) (and_from (nat_lt r.puts r.room) (nat_le (r.calls + 2) MOST_CALLS) (lt-ltb r.puts r.room few) (le-leb (r.calls + 2) MOST_CALLS most)))

IsRead-flush : (r : Reading) → is_behind_events r.section ≡ false → r.calls < MOST_CALLS → IsRead (Some r) (op_words ops.Flush) (with_flush r)
IsRead-flush r here few =
    IsRead-known r (codes "flush") [] word.Flush (with_flush r)
    (ap (λ b. word_of b (codes "flush")) here)
    (flush_stands r.section here) refl
    (ap (λ t. if t then Ok (with_flush r) else Err kinds.Number) (lt-ltb r.calls MOST_CALLS few))

pub ops_read : (xs : List Op) (r : Reading) (section : Section) (done : List Op) (puts calls : ℕ) (rest : List (List (List ℕ))) (s : StoreScript) → is_behind_events section ≡ false → ArePuts xs
    → puts + put_count xs ≤ r.room → calls + call_count xs ≤ MOST_CALLS
    → ((after : Section) (p c : ℕ) → is_behind_events after ≡ false → ReadsTo (Some (asked r after (done ++ xs) p c)) rest s)
    → ReadsTo (Some (asked r section done puts calls)) (map op_words xs ++ rest) s
ops_read [] r section done puts calls rest s here are few most behind = subst (λ x. ReadsTo (Some (asked r section x puts calls)) rest s) (append-nil done) (behind section puts calls here)
ops_read (ops.Put p ∷ xs) r section done puts calls rest s here are few most behind =
    let now = asked r section done puts calls in
    let next = asked r sections.Asking (done ++ ops.Put p ∷ []) (puts + 1) (calls + 2) in
    ReadsTo-line (Some now) (op_words (ops.Put p)) next (map op_words xs ++ rest) s (IsRead-put now p here are.0 (omega (arith, few)) (omega (arith, most)))
    (ops_read xs r sections.Asking (done ++ ops.Put p ∷ []) (puts + 1) (calls + 2) rest s refl are.1 (omega (arith, few)) (omega (arith, most))
    (λ after p' c e. subst (λ x. ReadsTo (Some (asked r after x p' c)) rest s) (sym (append_assoc done (ops.Put p ∷ []) xs)) (behind after p' c e)))
ops_read (ops.Flush ∷ xs) r section done puts calls rest s here are few most behind =
    let now = asked r section done puts calls in
    let next = asked r sections.Asking (done ++ ops.Flush ∷ []) puts (calls + 1) in
    ReadsTo-line (Some now) (op_words ops.Flush) next (map op_words xs ++ rest) s (IsRead-flush now here (omega (arith, most)))
    (ops_read xs r sections.Asking (done ++ ops.Flush ∷ []) puts (calls + 1) rest s refl are few (omega (arith, most))
    (λ after p' c e. subst (λ x. ReadsTo (Some (asked r after x p' c)) rest s) (sym (append_assoc done (ops.Flush ∷ []) xs)) (behind after p' c e)))

pub IsRead-events : (r : Reading) → is_behind_events r.section ≡ false → IsRead (Some r) (codes "events" ∷ []) (record r { section = sections.Events })
IsRead-events r here =
    IsRead-known r (codes "events") [] word.Events (record r { section = sections.Events }) (ap (λ b. word_of b (codes "events")) here) (events_stands r.section here) refl refl

-- ---- event lines

event_known : (v : EventFirst) → word_of true (event_name v) ≡ Some (word.Event v)
event_known (event.Plain plain.Submit) = refl
event_known (event.Plain plain.Accept) = refl
event_known (event.Plain plain.Receive) = refl
event_known (event.Plain plain.Commit) = refl
event_known (event.Plain plain.Flush) = refl
event_known (event.Plain plain.Answer) = refl
event_known (event.Pick picks.Call) = refl
event_known (event.Pick picks.Write) = refl
event_known (event.Pick picks.Dispatch) = refl
event_known (event.Pick picks.Transfer) = refl
event_known (event.Pick picks.Persist) = refl
event_known (event.Turn turns.Round) = refl
event_known (event.Turn turns.Back) = refl

submit_taken : (o : Option ℕ) (e : EventLine) → event_lines.plain_taken plain.Submit o ≡ Ok e → IsTurnOf 1 e.what → ⊥
submit_taken None e h is = cc
submit_taken (Some n) e h is =
    let p = ok_behind (event_lines.is_count n) (record { what = One (event_lines.plain_event plain.Submit); count = n }) e _ h in
    subst (λ (x : EventLine). IsTurnOf 1 x.what) (sym p.1) is

not_submit : (v : EventFirst) (ws : List (List ℕ)) (e : EventLine) → event_lines.event_of v ws ≡ Ok e → IsTurnOf 1 e.what → not (is_submit v) ≡ true
not_submit (event.Plain plain.Submit) ws e h is = absurd (submit_taken (count_of ws) e h is)
not_submit (event.Plain plain.Accept) ws e h is = refl
not_submit (event.Plain plain.Receive) ws e h is = refl
not_submit (event.Plain plain.Commit) ws e h is = refl
not_submit (event.Plain plain.Flush) ws e h is = refl
not_submit (event.Plain plain.Answer) ws e h is = refl
not_submit (event.Pick w) ws e h is = refl
not_submit (event.Turn w) ws e h is = refl

names_step : (e : CoreEvent) → IsStepOf 1 e → names_thread 1 (One e) ≡ true
names_step (core.Call t) is = and_from (nat_le 1 t) (nat_le t 1) (le-leb 1 t is.0) (le-leb t 1 is.1)
names_step core.Submit is = refl
names_step core.Commit is = refl
names_step core.FlushStep is = refl
names_step (core.Writeback pick) is = refl
names_step core.Accept is = refl
names_step (core.Dispatch pick) is = refl
names_step core.Receive is = refl
names_step (core.Transfer pick) is = refl
names_step (core.Persist pick) is = refl
names_step core.Answer is = refl

names_turn : (what : EventWord) → IsTurnOf 1 what → names_thread 1 what ≡ true
names_turn (One e) is = names_step e is
names_turn Round is = refl
names_turn Back is = refl

IsRead-event_words : (r : Reading) (w : List ℕ) (ws : List (List ℕ)) (o : Option EventFirst) (e : EventLine) → r.section ≡ sections.Events → event_lines.event_word w ≡ o → event_speller.line_after o ws ≡ Ok e → IsEventOf 1 e
    → r.expanded + weight 1 e ≤ MOST_EVENTS → IsRead (Some r) (w ∷ ws) (with_event r e)
IsRead-event_words r w ws None e here name h is few = cc
IsRead-event_words r w ws (Some v) e here name h is few =
    let known : word_of (is_behind_events r.section) w ≡ Some (word.Event v) =
    ap₂ (λ (s : Section) (x : List ℕ). word_of (is_behind_events s) x) here (event_named w v name) ∙ event_known v in
    IsRead-known r w ws (word.Event v) (with_event r e) known
    (ap (λ s. stands_in s (word.Event v)) here ∙ not_submit v ws e h is.turn) refl
    (ap (event_taken r) h
    ∙ ap (λ b. if b then Ok (with_event r e) else Err kinds.Number) (and_from (names_thread 1 e.what) (nat_le (r.expanded + weight 1 e) MOST_EVENTS) (names_turn e.what is.turn) (le-leb (r.expanded + weight 1 e) MOST_EVENTS few)))

IsRead-event : (r : Reading) (l : List (List ℕ)) (e : EventLine) → r.section ≡ sections.Events → event_speller.line_of l ≡ Ok e → IsEventOf 1 e → r.expanded + weight 1 e ≤ MOST_EVENTS → IsRead (Some r) l (with_event r e)
IsRead-event r [] e here h is few = cc
IsRead-event r (w ∷ ws) e here h is few = IsRead-event_words r w ws (event_lines.event_word w) e here refl h is few

abbrev pub in_events : Reading → List EventLine → ℕ → Reading
in_events r events expanded = record r { events = events; expanded = expanded }

pub events_read : (es : List EventLine) (ls : List (List (List ℕ))) (r : Reading) (done : List EventLine) (n : ℕ) (rest : List (List (List ℕ))) (s : StoreScript) → r.section ≡ sections.Events → SayEvents es ls → ((e : EventLine) → In e es → IsEventOf 1 e)
    → n + expanded_of 1 es ≤ MOST_EVENTS → ((m : ℕ) → ReadsTo (Some (in_events r (done ++ es) m)) rest s) → ReadsTo (Some (in_events r done n)) (ls ++ rest) s
events_read [] [] r done n rest s here say are few behind = subst (λ x. ReadsTo (Some (in_events r x n)) rest s) (append-nil done) (behind n)
events_read [] (l ∷ ls) r done n rest s here say are few behind = absurd say
events_read (e ∷ es) [] r done n rest s here say are few behind = absurd say
events_read (e ∷ es) (l ∷ ls) r done n rest s here say are few behind =
    let now = in_events r done n in
    let is = are e (inl refl) in
    let said : event_speller.line_of l ≡ Ok e = event_laws.line_of-read l e is.line say.0 in
    ReadsTo-line (Some now) l (with_event now e) (ls ++ rest) s (IsRead-event now l e here said is (omega (arith, few)))
    (events_read es ls r (done ++ e ∷ []) (n + weight 1 e) rest s here say.1 (λ d i. are d (inr i)) (omega (arith, few))
    (λ m. subst (λ x. ReadsTo (Some (in_events r x m)) rest s) (sym (append_assoc done (e ∷ []) es)) (behind m)))

-- ---- `recover` lines

recover_stands : (section : Section) → is_behind_events section ≡ true → stands_in section word.Recover ≡ true
recover_stands sections.Header h = cc
recover_stands sections.Asking h = cc
recover_stands sections.Events h = refl
recover_stands sections.Recovery h = refl

IsRead-recover : (r : Reading) (ss : List Steer) → is_behind_events r.section ≡ true → IsSteerLine ss → length r.recovers < MOST_RECOVERS → IsRead (Some r) (recover_words ss) (with_recover r ss)
IsRead-recover r ss here is few =
    let ws = event_speller.steer_words ss in
    IsRead-known r (codes "recover") ws word.Recover (with_recover r ss) (ap (λ b. word_of b (codes "recover")) here) (recover_stands r.section here) refl
    (ap (recover_taken r) (steers_read ws ss is refl)
    ∙ ap (λ b. if b then Ok (with_recover r ss) else Err kinds.Number) (lt-ltb (length r.recovers) MOST_RECOVERS few))

abbrev pub in_recovery : Reading → Section → List (List Steer) → Reading
in_recovery r section recovers = record r { section = section; recovers = recovers }

pub recovers_read : (rs : List (List Steer)) (r : Reading) (section : Section) (done : List (List Steer)) → is_behind_events section ≡ true → ((ss : List Steer) → In ss rs → IsSteerLine ss) → length done + length rs ≤ MOST_RECOVERS
    → ReadsTo (Some (in_recovery r section done)) (map recover_words rs) (script_read (in_recovery r section (done ++ rs)))
recovers_read [] r section done here are few =
    λ n. ap (ended_in n (in_recovery r section done)) here ∙ ap (λ x. Ok (script_read (in_recovery r section x))) (sym (append-nil done))
recovers_read (ss ∷ rs) r section done here are few =
    let now = in_recovery r section done in
    let next = in_recovery r sections.Recovery (done ++ ss ∷ []) in
    let rest = recovers_read rs r sections.Recovery (done ++ ss ∷ []) refl (λ x i. are x (inr i)) (omega (arith, few, length-append done (ss ∷ []))) in
    ReadsTo-line (Some now) (recover_words ss) next (map recover_words rs) (script_read (in_recovery r section (done ++ ss ∷ rs))) (IsRead-recover now ss here (are ss (inl refl)) (omega (arith, few)))
    (subst (λ x. ReadsTo (Some next) (map recover_words rs) (script_read (in_recovery r section x))) (append_assoc done (ss ∷ []) rs) rest)
