-- Every store's script that is read is well-formed: what holds of the reading is kept by each line.
use Rattle.std.proofs.Common.{◌≡◌, ℕ, ◌+◌, ◌<◌, ◌≤◌, List, [], ◌∷◌, ◌++◌, length, Bool, true, false, Option, Some, None, Result, Ok, Err, refl, sym, subst, ap, ◌∙◌, arith, length-append, nat_le, nat_lt, not, ◌&&◌, lit≤, IfOk, if◌then◌else◌}
use borrow.Author.Tests.{ltb-true, leb-true}
use Rattle.std.proofs.lemmas.Bool.{and_parts}
use Rattle.std.proofs.lemmas.Option.{same_Some, none-some}
use Rattle.blk_base.specs.Members.{In}
use Rattle.blk_base.specs.laws.Members.{each_push}
use Rattle.script_words.specs.declared.line_error.LineFault.{LineFault}
use Rattle.script_words.specs.declared.limits.TheConstants.{MOST_EVENTS}
use Rattle.script_words.specs.Spelling.{numeral, words_of, lines_of}
use Rattle.script_words.proofs.KeptLines.{said}
use Rattle.script_grammar.specs.declared.limits.TheConstants.{MOST_DEPTH, MOST_QUEUE, MOST_STEPS, MOST_TRANSFERS}
use Rattle.script_grammar.specs.declared.kinds.ScriptKind.{ScriptKind}
use Rattle.script_grammar.specs.declared.script_error.ScriptError.{ScriptError}
use Rattle.script_grammar.specs.code.Readers.{IsTextReadAs}
use Rattle.script_grammar.proofs.WellFormed.{ok_behind, ok_past, ok_beside}
use Rattle.line_grammar.specs.declared.events.event.EventLine.{EventLine}
use Rattle.line_grammar.specs.declared.events.steer.Steer.{Steer}
use Rattle.line_grammar.specs.declared.events.words.EventFirst.{EventFirst}
use Rattle.line_grammar.specs.events.EventLines.{event_word, event_of}
use Rattle.line_grammar.specs.events.SteerLines.{steers_of}
use Rattle.line_grammar.specs.events.WellFormed.{IsSteerLine}
use Rattle.line_grammar.specs.events.laws.Speller as event_speller
use Rattle.line_grammar.proofs.EventsLemmas.EventLaws as event_laws
use Rattle.line_grammar.proofs.EventsLemmas.SteerLaws.{steers_said}
use Rattle.session_grammar.specs.declared.limits.TheConstants.{MOST_CALLS, MOST_RECOVERS}
use Rattle.session_grammar.specs.Grammar.{is_submit, names_thread, weight}
use Rattle.session_grammar.specs.WellFormed.{IsEventOf, expanded_of}
use Rattle.session_grammar.proofs.Steps.{IsTurnOf-said}
use Rattle.wal_store.specs.declared.puts.Put.{Put}
use Rattle.wal_store.specs.declared.puts.Op.{Op}
use Rattle.wal_store.specs.declared.puts.Op.TheVariants as ops
use Rattle.wal_store.specs.Puts.{IsPut, is_key, is_value}
use Rattle.wal_store.specs.calls.Calls.{ArePuts, call_count, fill_count, put_count}
use Rattle.store_grammar.specs.declared.limits.TheConstants.{MOST_STORE}
use Rattle.store_grammar.specs.declared.reading.Reading.{Reading}
use Rattle.store_grammar.specs.declared.reading.Section.{Section}
use Rattle.store_grammar.specs.declared.reading.Section.TheVariants as sections
use Rattle.store_grammar.specs.declared.header.HeaderSoFar.{HeaderSoFar}
use Rattle.store_grammar.specs.declared.script.StoreScript.{StoreScript}
use Rattle.store_grammar.specs.declared.words.HeaderWord.{HeaderWord}
use Rattle.store_grammar.specs.declared.words.HeaderWord.TheVariants as header
use Rattle.store_grammar.specs.declared.words.Word.{Word}
use Rattle.store_grammar.specs.declared.words.Word.TheVariants as word
use Rattle.store_grammar.specs.Words.{word_of}
use Rattle.store_grammar.specs.Grammar.{new_reading, room_taken, store_line, first_line, stands_in, stood_before, number_fits, with_number, number_taken, header_line, header_taken, with_put, put_fits, put_added, put_line, with_flush, flush_line, events_line, event_fits, with_event, event_taken, with_recover, recover_taken, line_taken, later_line, is_behind_events, read_words, read_one, header_of, script_read, ended_in, ended, read_from, store_of}
use Rattle.store_grammar.specs.WellFormed.{IsHeader, IsWellFormed}
use Rattle.store_grammar.proofs.Names.{IsNamed, named}

-- ---- what holds of the reading between two lines

record AreOps (room puts calls : ℕ) (xs : List Op) : Type 0 where
  each : ArePuts xs
  puts_are : puts ≡ put_count xs
  few_puts : puts ≤ room
  calls_are : calls ≡ fill_count room + 2 + call_count xs
  few_calls : calls ≤ MOST_CALLS

record AreEvents (events : List EventLine) (expanded : ℕ) : Type 0 where
  each : (l : EventLine) → In l events → IsEventOf 1 l
  counted : expanded ≡ expanded_of 1 events
  most : expanded ≤ MOST_EVENTS

record AreRecovers (recovers : List (List Steer)) : Type 0 where
  each : (ss : List Steer) → In ss recovers → IsSteerLine ss
  few : length recovers ≤ MOST_RECOVERS

pub record IsReadable (r : Reading) : Type 0 where
  some_room : 1 ≤ r.room
  room : r.room ≤ MOST_STORE
  header : IsHeader (header_of r.told)
  ops : AreOps r.room r.puts r.calls r.ops
  events : AreEvents r.events r.expanded
  recovers : AreRecovers r.recovers

abbrev pub IsReadableSoFar : Option Reading → Type 0
IsReadableSoFar None = Unit {0}
IsReadableSoFar (Some r) = IsReadable r

-- ---- header lines

IsHeader-number : (t : HeaderSoFar) (w : HeaderWord) (n : ℕ) → number_fits w n ≡ true → IsHeader (header_of t) → IsHeader (header_of (with_number t w n))
IsHeader-number t header.Depth n fits is =
    let p = and_parts (nat_le 1 n) (nat_le n MOST_DEPTH) fits in
    record { some_depth = leb-true 1 n p.0; depth = leb-true n MOST_DEPTH p.1; some_queue = is.some_queue; queue = is.queue; least_fail = is.least_fail; most_fail = is.most_fail; cut = is.cut }
IsHeader-number t header.Queue n fits is =
    let p = and_parts (nat_le 1 n) (nat_le n MOST_QUEUE) fits in
    record { some_depth = is.some_depth; depth = is.depth; some_queue = leb-true 1 n p.0; queue = leb-true n MOST_QUEUE p.1; least_fail = is.least_fail; most_fail = is.most_fail; cut = is.cut }
IsHeader-number t header.Fail n fits is =
    let p = and_parts (nat_le 1 n) (nat_le n MOST_TRANSFERS) fits in
    record {
      some_depth = is.some_depth;
      depth = is.depth;
      some_queue = is.some_queue;
      queue = is.queue;
      least_fail = λ m e. subst (λ k. 1 ≤ k) (same_Some n m e) (leb-true 1 n p.0);
      most_fail = λ m e. subst (λ k. k ≤ MOST_TRANSFERS) (same_Some n m e) (leb-true n MOST_TRANSFERS p.1);
      cut = is.cut;
    }
IsHeader-number t header.Cut n fits is = record {
  some_depth = is.some_depth;
  depth = is.depth;
  some_queue = is.some_queue;
  queue = is.queue;
  least_fail = is.least_fail;
  most_fail = is.most_fail;
  cut = λ m e. subst (λ k. k ≤ MOST_STEPS) (same_Some n m e) (leb-true n MOST_STEPS fits);
}

IsHeader-taken : (t : HeaderSoFar) (w : HeaderWord) (o : Option ℕ) (next : HeaderSoFar) → number_taken t w o ≡ Ok next → IsHeader (header_of t) → IsHeader (header_of next)
IsHeader-taken t w None next h is = cc
IsHeader-taken t w (Some n) next h is =
    let p = ok_behind (number_fits w n) (with_number t w n) next _ h in
    subst (λ u. IsHeader (header_of u)) p.1 (IsHeader-number t w n p.0 is)

IsHeader-line : (t : HeaderSoFar) (w : HeaderWord) (ws : List (List ℕ)) (next : HeaderSoFar) → header_line t w ws ≡ Ok next → IsHeader (header_of t) → IsHeader (header_of next)
IsHeader-line t w [] next h is = cc
IsHeader-line t w (n ∷ []) next h is = IsHeader-taken t w (numeral n) next h is
IsHeader-line t w (n ∷ m ∷ ws) next h is = cc

IsReadable-header : (r : Reading) (read : Result HeaderSoFar ScriptKind) (next : Reading) → header_taken r read ≡ Ok next → ((t : HeaderSoFar) → read ≡ Ok t → IsHeader (header_of t)) → IsReadable r → IsReadable next
IsReadable-header r (Err kind) next h of is = cc
IsReadable-header r (Ok t) next h of is =
    let e : record r { told = t } ≡ next = cc in
    subst IsReadable e (record { some_room = is.some_room; room = is.room; header = of t refl; ops = is.ops; events = is.events; recovers = is.recovers })

-- ---- puts and flushes

ArePuts-put : (xs : List Op) (p : Put) → IsPut p → ArePuts xs → ArePuts (xs ++ ops.Put p ∷ [])
ArePuts-put [] p is all = (is, tt)
ArePuts-put (ops.Put q ∷ xs) p is all = (all.0, ArePuts-put xs p is all.1)
ArePuts-put (ops.Flush ∷ xs) p is all = ArePuts-put xs p is all

ArePuts-flush : (xs : List Op) → ArePuts xs → ArePuts (xs ++ ops.Flush ∷ [])
ArePuts-flush [] all = tt
ArePuts-flush (ops.Put q ∷ xs) all = (all.0, ArePuts-flush xs all.1)
ArePuts-flush (ops.Flush ∷ xs) all = ArePuts-flush xs all

put_count-put : (xs : List Op) (p : Put) → put_count (xs ++ ops.Put p ∷ []) ≡ put_count xs + 1
put_count-put [] p = refl
put_count-put (ops.Put q ∷ xs) p = omega (arith, put_count-put xs p)
put_count-put (ops.Flush ∷ xs) p = put_count-put xs p

put_count-flush : (xs : List Op) → put_count (xs ++ ops.Flush ∷ []) ≡ put_count xs
put_count-flush [] = refl
put_count-flush (ops.Put q ∷ xs) = omega (arith, put_count-flush xs)
put_count-flush (ops.Flush ∷ xs) = put_count-flush xs

call_count-put : (xs : List Op) (p : Put) → call_count (xs ++ ops.Put p ∷ []) ≡ call_count xs + 2
call_count-put [] p = refl
call_count-put (ops.Put q ∷ xs) p = omega (arith, call_count-put xs p)
call_count-put (ops.Flush ∷ xs) p = omega (arith, call_count-put xs p)

call_count-flush : (xs : List Op) → call_count (xs ++ ops.Flush ∷ []) ≡ call_count xs + 1
call_count-flush [] = refl
call_count-flush (ops.Put q ∷ xs) = omega (arith, call_count-flush xs)
call_count-flush (ops.Flush ∷ xs) = omega (arith, call_count-flush xs)

AreOps-put : (room puts calls : ℕ) (xs : List Op) (p : Put) → IsPut p → puts < room → calls + 2 ≤ MOST_CALLS → AreOps room puts calls xs → AreOps room (puts + 1) (calls + 2) (xs ++ ops.Put p ∷ [])
AreOps-put room puts calls xs p is few most all =
    let one = all.puts_are in
    let two = all.calls_are in
    record {
      each = ArePuts-put xs p is all.each;
      puts_are = omega (arith, one, put_count-put xs p);
      few_puts = omega (arith, few);
      calls_are = omega (arith, two, call_count-put xs p);
      few_calls = most;
    }

AreOps-flush : (room puts calls : ℕ) (xs : List Op) → calls < MOST_CALLS → AreOps room puts calls xs → AreOps room puts (calls + 1) (xs ++ ops.Flush ∷ [])
AreOps-flush room puts calls xs most all =
    let one = all.puts_are in
    let two = all.calls_are in
    record {
      each = ArePuts-flush xs all.each;
      puts_are = omega (arith, one, put_count-flush xs);
      few_puts = all.few_puts;
      calls_are = omega (arith, two, call_count-flush xs);
      few_calls = omega (arith, most);
    }

IsReadable-put : (r : Reading) (p : Put) → put_fits r ≡ true → IsPut p → IsReadable r → IsReadable (with_put r p)
IsReadable-put r p fits put is =
    let tests = and_parts (nat_lt r.puts r.room) (nat_le (r.calls + 2) MOST_CALLS) fits in
    record {
      some_room = is.some_room;
      room = is.room;
      header = is.header;
      ops = AreOps-put r.room r.puts r.calls r.ops p put (ltb-true r.puts r.room tests.0) (leb-true (r.calls + 2) MOST_CALLS tests.1) is.ops;
      events = is.events;
      recovers = is.recovers;
    }

IsReadable-put_added : (r : Reading) (p : Put) (next : Reading) → put_added r p ≡ Ok next → IsPut p → IsReadable r → IsReadable next
IsReadable-put_added r p next h put is =
    let x = ok_behind (put_fits r) (with_put r p) next _ h in
    subst IsReadable x.1 (IsReadable-put r p x.0 put is)

pub ok_when : {A E : Type 0} (test : Bool) (x : Result A E) (e : E) (y : A) → (if test then x else Err e) ≡ Ok y → (test ≡ true) × (x ≡ Ok y)
ok_when true x e y h = (refl, h)
ok_when false x e y h = cc

IsReadable-put_line : (r : Reading) (ws : List (List ℕ)) (next : Reading) → put_line r ws ≡ Ok next → IsReadable r → IsReadable next
IsReadable-put_line r [] next h is = cc
IsReadable-put_line r (k ∷ []) next h is = cc
IsReadable-put_line r (k ∷ v ∷ []) next h is =
    let x = ok_when (is_key k && is_value v) (put_added r (record { key = k; value = v })) _ next h in
    let tests = and_parts (is_key k) (is_value v) x.0 in
    IsReadable-put_added r (record { key = k; value = v }) next x.1 (record { key = tests.0; value = tests.1 }) is
IsReadable-put_line r (k ∷ v ∷ w ∷ ws) next h is = cc

IsReadable-flush : (r : Reading) → r.calls < MOST_CALLS → IsReadable r → IsReadable (with_flush r)
IsReadable-flush r few is = record {
  some_room = is.some_room;
  room = is.room;
  header = is.header;
  ops = AreOps-flush r.room r.puts r.calls r.ops few is.ops;
  events = is.events;
  recovers = is.recovers;
}

IsReadable-flush_line : (r : Reading) (ws : List (List ℕ)) (next : Reading) → flush_line r ws ≡ Ok next → IsReadable r → IsReadable next
IsReadable-flush_line r (w ∷ ws) next h is = cc
IsReadable-flush_line r [] next h is =
    let x = ok_behind (nat_lt r.calls MOST_CALLS) (with_flush r) next _ h in
    subst IsReadable x.1 (IsReadable-flush r (ltb-true r.calls MOST_CALLS x.0) is)

-- ---- event lines and `recover` lines

IsReadable-events_line : (r : Reading) (ws : List (List ℕ)) (next : Reading) → events_line r ws ≡ Ok next → IsReadable r → IsReadable next
IsReadable-events_line r (w ∷ ws) next h is = cc
IsReadable-events_line r [] next h is =
    let e : record r { section = sections.Events } ≡ next = cc in
    subst IsReadable e (record { some_room = is.some_room; room = is.room; header = is.header; ops = is.ops; events = is.events; recovers = is.recovers })

expanded_of-push : (ls : List EventLine) (l : EventLine) → expanded_of 1 (ls ++ l ∷ []) ≡ expanded_of 1 ls + weight 1 l
expanded_of-push [] l = omega arith
expanded_of-push (m ∷ ls) l = omega (arith, expanded_of-push ls l)

IsReadable-event : (r : Reading) (l : EventLine) → IsEventOf 1 l → r.expanded + weight 1 l ≤ MOST_EVENTS → IsReadable r → IsReadable (with_event r l)
IsReadable-event r l of most is = record {
  some_room = is.some_room;
  room = is.room;
  header = is.header;
  ops = is.ops;
  events = record {
    each = each_push (IsEventOf 1) r.events l is.events.each of;
    counted = ap (λ n. n + weight 1 l) is.events.counted ∙ sym (expanded_of-push r.events l);
    most = most;
  };
  recovers = is.recovers;
}

IsReadable-event_taken : (r : Reading) (read : Result EventLine LineFault) (next : Reading) → event_taken r read ≡ Ok next
    → ((l : EventLine) → read ≡ Ok l → names_thread 1 l.what ≡ true → IsEventOf 1 l) → IsReadable r → IsReadable next
IsReadable-event_taken r (Err fault) next h of is = cc
IsReadable-event_taken r (Ok l) next h of is =
    let p = ok_behind (event_fits r l) (with_event r l) next _ h in
    let tests = and_parts (names_thread 1 l.what) _ p.0 in
    subst IsReadable p.1 (IsReadable-event r l (of l refl tests.0) (leb-true (r.expanded + weight 1 l) MOST_EVENTS tests.1) is)

IsReadable-recover : (r : Reading) (ss : List Steer) → length r.recovers < MOST_RECOVERS → IsSteerLine ss → IsReadable r → IsReadable (with_recover r ss)
IsReadable-recover r ss few line is = record {
  some_room = is.some_room;
  room = is.room;
  header = is.header;
  ops = is.ops;
  events = is.events;
  recovers = record { each = each_push IsSteerLine r.recovers ss is.recovers.each line; few = omega (arith, few, length-append r.recovers (ss ∷ [])) };
}

IsReadable-recover_taken : (r : Reading) (ws : List (List ℕ)) (read : Result (List Steer) LineFault) (next : Reading) → steers_of ws ≡ read → recover_taken r read ≡ Ok next → IsReadable r → IsReadable next
IsReadable-recover_taken r ws (Err fault) next e h is = cc
IsReadable-recover_taken r ws (Ok ss) next e h is =
    let p = ok_behind (nat_lt (length r.recovers) MOST_RECOVERS) (with_recover r ss) next _ h in
    subst IsReadable p.1 (IsReadable-recover r ss (ltb-true (length r.recovers) MOST_RECOVERS p.0) (steers_said ws ss e).0 is)

-- ---- lines

pub event_stands : (s : Section) (w : EventFirst) → stands_in s (word.Event w) ≡ true → not (is_submit w) ≡ true
event_stands sections.Header w h = cc
event_stands sections.Asking w h = cc
event_stands sections.Events w h = h
event_stands sections.Recovery w h = cc

said_event : (w : List ℕ) (v : EventFirst) (ws : List (List ℕ)) (l : EventLine) → event_word w ≡ Some v → not (is_submit v) ≡ true → event_of v ws ≡ Ok l → names_thread 1 l.what ≡ true → IsEventOf 1 l
said_event w v ws l known other h names =
    let says : event_speller.line_of (w ∷ ws) ≡ Ok l = ap (λ o. event_speller.line_after o ws) known ∙ h in
    let line = event_laws.line_of-says (w ∷ ws) l says in
    record { line = line.0; turn = IsTurnOf-said 1 l.what l.count w ws v known other names line.1 }

IsReadable-line_taken : (r : Reading) (w : List ℕ) (v : Word) (ws : List (List ℕ)) (next : Reading) → line_taken r v ws ≡ Ok next → IsNamed w v → stands_in r.section v ≡ true → IsReadable r → IsReadable next
IsReadable-line_taken r w word.Store ws next h name stands is = cc
IsReadable-line_taken r w word.Other ws next h name stands is = cc
IsReadable-line_taken r w (word.Header v) ws next h name stands is = IsReadable-header r (header_line r.told v ws) next h (λ t e. IsHeader-line r.told v ws t e is.header) is
IsReadable-line_taken r w word.Put ws next h name stands is = IsReadable-put_line r ws next h is
IsReadable-line_taken r w word.Flush ws next h name stands is = IsReadable-flush_line r ws next h is
IsReadable-line_taken r w word.Events ws next h name stands is = IsReadable-events_line r ws next h is
IsReadable-line_taken r w (word.Event v) ws next h name stands is =
    IsReadable-event_taken r (event_of v ws) next h (λ l e names. said_event w v ws l name (event_stands r.section v stands) e names) is
IsReadable-line_taken r w word.Recover ws next h name stands is = IsReadable-recover_taken r ws (steers_of ws) next refl h is

IsReadable-later_line : (r : Reading) (w : List ℕ) (o : Option Word) (ws : List (List ℕ)) (next : Reading) → word_of (is_behind_events r.section) w ≡ o → later_line r o ws ≡ Ok next → IsReadable r → IsReadable next
IsReadable-later_line r w None ws next known h is = cc
IsReadable-later_line r w (Some v) ws next known h is =
    let placed = ok_past (stands_in r.section v) _ next _ h in
    let read = ok_beside (stood_before r.told v) _ next _ placed.1 in
    IsReadable-line_taken r w v ws next read (named (is_behind_events r.section) w v known) placed.0 is

IsReadable-new : (room : ℕ) → 1 ≤ room → room ≤ MOST_STORE → IsReadable (new_reading room)
IsReadable-new room some most = record {
  some_room = some;
  room = most;
  header = record {
    some_depth = lit≤ tt;
    depth = lit≤ tt;
    some_queue = lit≤ tt;
    queue = lit≤ tt;
    least_fail = λ n e. absurd (none-some n e);
    most_fail = λ n e. absurd (none-some n e);
    cut = λ n e. absurd (none-some n e);
  };
  ops = record { each = tt; puts_are = refl; few_puts = omega arith; calls_are = omega arith; few_calls = omega (arith, most) };
  events = record { each = λ l h. absurd h; counted = refl; most = lit≤ tt };
  recovers = record { each = λ ss h. absurd h; few = lit≤ tt };
}

IsReadable-room : (o : Option ℕ) (next : Reading) → room_taken o ≡ Ok next → IsReadable next
IsReadable-room None next h = cc
IsReadable-room (Some n) next h =
    let p = ok_behind (nat_le 1 n && nat_le n MOST_STORE) (new_reading n) next _ h in
    let tests = and_parts (nat_le 1 n) (nat_le n MOST_STORE) p.0 in
    subst IsReadable p.1 (IsReadable-new n (leb-true 1 n tests.0) (leb-true n MOST_STORE tests.1))

IsReadable-store_line : (ws : List (List ℕ)) (next : Reading) → store_line ws ≡ Ok next → IsReadable next
IsReadable-store_line [] next h = cc
IsReadable-store_line (n ∷ []) next h = IsReadable-room (numeral n) next h
IsReadable-store_line (n ∷ m ∷ ws) next h = cc

IsReadable-first_line : (o : Option Word) (ws : List (List ℕ)) (next : Reading) → first_line o ws ≡ Ok next → IsReadable next
IsReadable-first_line None ws next h = cc
IsReadable-first_line (Some word.Store) ws next h = IsReadable-store_line ws next h
IsReadable-first_line (Some (word.Header w)) ws next h = cc
IsReadable-first_line (Some word.Put) ws next h = cc
IsReadable-first_line (Some word.Flush) ws next h = cc
IsReadable-first_line (Some word.Events) ws next h = cc
IsReadable-first_line (Some word.Recover) ws next h = cc
IsReadable-first_line (Some (word.Event w)) ws next h = cc
IsReadable-first_line (Some word.Other) ws next h = cc

pub IsReadable-read_words : (reading : Option Reading) (ws : List (List ℕ)) (next : Reading) → read_words reading ws ≡ Ok next → IsReadableSoFar reading → IsReadable next
IsReadable-read_words reading [] next h is = cc
IsReadable-read_words None (w ∷ ws) next h is = IsReadable-first_line (word_of false w) ws next h
IsReadable-read_words (Some r) (w ∷ ws) next h is = IsReadable-later_line r w (word_of (is_behind_events r.section) w) ws next refl h is

-- ---- the script

IsWellFormed-script_read : (r : Reading) → IsReadable r → IsWellFormed (script_read r)
IsWellFormed-script_read r is = record {
  some_room = is.some_room;
  room = is.room;
  header = is.header;
  puts = is.ops.each;
  few_puts = subst (λ n. n ≤ r.room) is.ops.puts_are is.ops.few_puts;
  few_calls = subst (λ n. n ≤ MOST_CALLS) is.ops.calls_are is.ops.few_calls;
  events = is.events.each;
  expanded = subst (λ n. n ≤ MOST_EVENTS) is.events.counted is.events.most;
  recovers = is.recovers.each;
  few_recovers = is.recovers.few;
}

IsWellFormed-ended_in : (n : ℕ) (r : Reading) (behind : Bool) (s : StoreScript) → ended_in n r behind ≡ Ok s → IsReadable r → IsWellFormed s
IsWellFormed-ended_in n r false s h is = cc
IsWellFormed-ended_in n r true s h is = let e : script_read r ≡ s = cc in subst IsWellFormed e (IsWellFormed-script_read r is)

IsWellFormed-ended : (n : ℕ) (reading : Option Reading) (s : StoreScript) → ended n reading ≡ Ok s → IsReadableSoFar reading → IsWellFormed s
IsWellFormed-ended n None s h is = cc
IsWellFormed-ended n (Some r) s h is = IsWellFormed-ended_in n r (is_behind_events r.section) s h is

IsWellFormed-read_from : (ls : List (List ℕ)) (n : ℕ) (reading : Option Reading) (s : StoreScript) → read_from n reading ls ≡ Ok s → IsReadableSoFar reading → IsWellFormed s
IsWellFormed-read_from ls n reading s h is =
    said read_one ended (λ reading done. IsReadableSoFar reading) (λ s done. IsWellFormed s)
    (λ reading done l r e is. IsReadable-read_words reading (words_of l) r e is) (λ n reading done s e is. IsWellFormed-ended n reading s e is) ls n reading [] s h is

-- the reader's result
pub IsWellFormed-from_reads : (result : Result StoreScript ScriptError) (ls : List (List ℕ)) → IsTextReadAs result (read_from 1 None ls) → IfOk result IsWellFormed
IsWellFormed-from_reads (Ok s) ls h = IsWellFormed-read_from ls 1 None s h tt
IsWellFormed-from_reads (Err e) ls h = tt

-- the law: a script that is read is well-formed
pub IsWellFormed-store_of : (bytes : List ℕ) (s : StoreScript) → store_of bytes ≡ Ok s → IsWellFormed s
IsWellFormed-store_of bytes s h = IsWellFormed-read_from (lines_of bytes) 1 None s h tt
