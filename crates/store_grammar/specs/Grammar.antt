-- Which texts are scripts of a store, and the first faulty line of those that are none, with its kind.
use Rattle.std.specs.Prelude.{ℕ, ◌+◌, ◌&&◌, Bool, true, false, not, List, [], ◌∷◌, ◌++◌, length, Option, Some, None, is_some, nat_lt, nat_le, unwrap_or, Result, Ok, Err, if◌then◌else◌}
use Rattle.script_words.specs.declared.line_error.LineFault.{LineFault}
use Rattle.script_words.specs.declared.limits.TheConstants.{MOST_EVENTS}
use Rattle.script_words.specs.Spelling.{lines_of, words_of, numeral}
use Rattle.script_words.specs.LineByLine.{line_read, lines_read}
use Rattle.script_grammar.specs.declared.limits.TheConstants.{DEFAULT_DEPTH, DEFAULT_QUEUE, MOST_DEPTH, MOST_QUEUE, MOST_STEPS, MOST_TRANSFERS}
use Rattle.script_grammar.specs.declared.kinds.ScriptKind.{ScriptKind}
use Rattle.script_grammar.specs.declared.kinds.ScriptKind.TheVariants as kinds
use Rattle.line_grammar.specs.declared.events.event.EventLine.{EventLine}
use Rattle.line_grammar.specs.declared.events.steer.Steer.{Steer}
use Rattle.line_grammar.specs.events.EventLines.{event_of}
use Rattle.line_grammar.specs.events.SteerLines.{steers_of}
use Rattle.session_grammar.specs.declared.limits.TheConstants.{MOST_CALLS, MOST_RECOVERS}
use Rattle.session_grammar.specs.Grammar as session
use Rattle.wal_store.specs.declared.puts.Put.{Put}
use Rattle.wal_store.specs.declared.puts.Op.TheVariants as ops
use Rattle.wal_store.specs.Puts.{is_key, is_value}
use Rattle.wal_store.specs.calls.Calls.{fill_count}
use Rattle.store_grammar.specs.declared.limits.TheConstants.{MOST_STORE}
use Rattle.store_grammar.specs.declared.reading.Reading.{Reading}
use Rattle.store_grammar.specs.declared.reading.Section.{Section}
use Rattle.store_grammar.specs.declared.reading.Section.TheVariants as sections
use Rattle.store_grammar.specs.declared.header.HeaderSoFar.{HeaderSoFar}
use Rattle.store_grammar.specs.declared.script.StoreHeader.{StoreHeader}
use Rattle.store_grammar.specs.declared.script.StoreScript.{StoreScript}
use Rattle.store_grammar.specs.declared.words.HeaderWord.{HeaderWord}
use Rattle.store_grammar.specs.declared.words.HeaderWord.TheVariants as header
use Rattle.store_grammar.specs.declared.words.Word.{Word}
use Rattle.store_grammar.specs.declared.words.Word.TheVariants as word
use Rattle.store_grammar.specs.Words.{word_of}

-- ---- the first line

-- no header line was read
abbrev pub none_told : HeaderSoFar
none_told = record { depth = None; queue = None; fail = None; cut = None }

-- the log's file, its zeros and its sync are calls too
abbrev pub new_reading : ℕ → Reading
new_reading room = record { room = room; told = none_told; section = sections.Header; ops = []; puts = 0; calls = fill_count room + 2; events = []; expanded = 0; recovers = [] }

-- the log has 1 to 1,000 blocks; none stands for a number that is spelled wrongly
abbrev pub room_taken : Option ℕ → Result Reading ScriptKind
room_taken None = Err kinds.Word
room_taken (Some n) = if nat_le 1 n && nat_le n MOST_STORE then Ok (new_reading n) else Err kinds.Number

-- the number of blocks of the log stands behind `store`
abbrev pub store_line : List (List ℕ) → Result Reading ScriptKind
store_line (n ∷ []) = room_taken (numeral n)
store_line ws = Err kinds.Word

-- the first line, by the order of its faults
abbrev pub first_line : Option Word → List (List ℕ) → Result Reading ScriptKind
first_line None ws = Err kinds.Word
first_line (Some word.Store) ws = store_line ws
first_line (Some w) ws = Err kinds.Order

-- ---- where the other lines may stand

-- Header lines come first, then puts and flushes, then `events` and event lines, and last `recover` lines.
abbrev pub stands_in : Section → Word → Bool
stands_in sections.Header (word.Header w) = true
stands_in sections.Header word.Put = true
stands_in sections.Header word.Flush = true
stands_in sections.Header word.Events = true
stands_in sections.Asking word.Put = true
stands_in sections.Asking word.Flush = true
stands_in sections.Asking word.Events = true
stands_in sections.Events (word.Event w) = not (session.is_submit w)
stands_in sections.Events word.Recover = true
stands_in sections.Recovery word.Recover = true
stands_in section w = false

-- what a header line said
abbrev pub told_number : HeaderSoFar → HeaderWord → Option ℕ
told_number t header.Depth = t.depth
told_number t header.Queue = t.queue
told_number t header.Fail = t.fail
told_number t header.Cut = t.cut

-- the header line stood before
abbrev pub stood_before : HeaderSoFar → Word → Bool
stood_before t (word.Header w) = is_some (told_number t w)
stood_before t w = false

-- ---- header lines

-- the number is within the limits of its header line
abbrev pub number_fits : HeaderWord → ℕ → Bool
number_fits header.Depth n = nat_le 1 n && nat_le n MOST_DEPTH
number_fits header.Queue n = nat_le 1 n && nat_le n MOST_QUEUE
number_fits header.Fail n = nat_le 1 n && nat_le n MOST_TRANSFERS
number_fits header.Cut n = nat_le n MOST_STEPS

abbrev pub with_number : HeaderSoFar → HeaderWord → ℕ → HeaderSoFar
with_number t header.Depth n = record t { depth = Some n }
with_number t header.Queue n = record t { queue = Some n }
with_number t header.Fail n = record t { fail = Some n }
with_number t header.Cut n = record t { cut = Some n }

-- none stands for a number that is spelled wrongly
abbrev pub number_taken : HeaderSoFar → HeaderWord → Option ℕ → Result HeaderSoFar ScriptKind
number_taken t w None = Err kinds.Word
number_taken t w (Some n) = if number_fits w n then Ok (with_number t w n) else Err kinds.Number

abbrev pub header_line : HeaderSoFar → HeaderWord → List (List ℕ) → Result HeaderSoFar ScriptKind
header_line t w (n ∷ []) = number_taken t w (numeral n)
header_line t w ws = Err kinds.Word

abbrev pub header_taken : Reading → Result HeaderSoFar ScriptKind → Result Reading ScriptKind
header_taken r (Ok t) = Ok (record r { told = t })
header_taken r (Err kind) = Err kind

-- ---- puts and flushes

-- a put is two calls: its bytes, and the barrier behind them
abbrev pub with_put : Reading → Put → Reading
with_put r p = record r { section = sections.Asking; ops = r.ops ++ ops.Put p ∷ []; puts = r.puts + 1; calls = r.calls + 2 }

-- the log has a block for it, and its two calls keep the limit on calls
abbrev pub put_fits : Reading → Bool
put_fits r = nat_lt r.puts r.room && nat_le (r.calls + 2) MOST_CALLS

abbrev pub put_added : Reading → Put → Result Reading ScriptKind
put_added r p = if put_fits r then Ok (with_put r p) else Err kinds.Number

-- a key and a value stand behind `put`
abbrev pub put_line : Reading → List (List ℕ) → Result Reading ScriptKind
put_line r (k ∷ v ∷ []) = if is_key k && is_value v then put_added r (record { key = k; value = v }) else Err kinds.Word
put_line r ws = Err kinds.Word

abbrev pub with_flush : Reading → Reading
with_flush r = record r { section = sections.Asking; ops = r.ops ++ ops.Flush ∷ []; calls = r.calls + 1 }

-- nothing stands behind `flush`, which is one call
abbrev pub flush_line : Reading → List (List ℕ) → Result Reading ScriptKind
flush_line r [] = if nat_lt r.calls MOST_CALLS then Ok (with_flush r) else Err kinds.Number
flush_line r ws = Err kinds.Word

-- ---- events and attempts of recovery, as in a volume script with one thread

-- nothing stands behind `events`
abbrev pub events_line : Reading → List (List ℕ) → Result Reading ScriptKind
events_line r [] = Ok (record r { section = sections.Events })
events_line r ws = Err kinds.Word

-- a thread that it names is there, and all events so far are within the limit
abbrev pub event_fits : Reading → EventLine → Bool
event_fits r l = session.names_thread 1 l.what && nat_le (r.expanded + session.weight 1 l) MOST_EVENTS

-- one event line more, counted with its repeats
abbrev pub with_event : Reading → EventLine → Reading
with_event r l = record r { events = r.events ++ l ∷ []; expanded = r.expanded + session.weight 1 l }

abbrev pub event_added : Reading → EventLine → Result Reading ScriptKind
event_added r l = if event_fits r l then Ok (with_event r l) else Err kinds.Number

abbrev pub event_taken : Reading → Result EventLine LineFault → Result Reading ScriptKind
event_taken r (Err fault) = Err (session.kind_of fault)
event_taken r (Ok l) = event_added r l

-- one attempt of recovery more
abbrev pub with_recover : Reading → List Steer → Reading
with_recover r ss = record r { section = sections.Recovery; recovers = r.recovers ++ ss ∷ [] }

-- there are at most 100 attempts of recovery
abbrev pub recover_added : Reading → List Steer → Result Reading ScriptKind
recover_added r ss = if nat_lt (length r.recovers) MOST_RECOVERS then Ok (with_recover r ss) else Err kinds.Number

abbrev pub recover_taken : Reading → Result (List Steer) LineFault → Result Reading ScriptKind
recover_taken r (Err fault) = Err (session.kind_of fault)
recover_taken r (Ok ss) = recover_added r ss

-- ---- lines behind the first

-- the words behind the first of a line that may stand here
abbrev pub line_taken : Reading → Word → List (List ℕ) → Result Reading ScriptKind
line_taken r (word.Header w) ws = header_taken r (header_line r.told w ws)
line_taken r word.Put ws = put_line r ws
line_taken r word.Flush ws = flush_line r ws
line_taken r word.Events ws = events_line r ws
line_taken r (word.Event w) ws = event_taken r (event_of w ws)
line_taken r word.Recover ws = recover_taken r (steers_of ws)
line_taken r word.Store ws = Err kinds.Order
line_taken r word.Other ws = Err kinds.Order

-- a later line, by the order of its faults
abbrev pub later_line : Reading → Option Word → List (List ℕ) → Result Reading ScriptKind
later_line r None ws = Err kinds.Word
later_line r (Some w) ws =
    if not (stands_in r.section w) then Err kinds.Order
    else if stood_before r.told w then Err kinds.Twice
    else line_taken r w ws

-- ---- all lines

-- the line with `events` was read
abbrev pub is_behind_events : Section → Bool
is_behind_events sections.Header = false
is_behind_events sections.Asking = false
is_behind_events sections.Events = true
is_behind_events sections.Recovery = true

-- a line that is not skipped, and its words, before which nothing or this was read
abbrev pub read_words : Option Reading → List (List ℕ) → Result Reading ScriptKind
read_words reading [] = Err kinds.Word
read_words None (w ∷ ws) = first_line (word_of false w) ws
read_words (Some r) (w ∷ ws) = later_line r (word_of (is_behind_events r.section) w) ws

-- a line that is not skipped, before which nothing or this was read
abbrev pub read_one : Option Reading → List ℕ → Result Reading ScriptKind
read_one reading l = read_words reading (words_of l)

-- what is read after one line
abbrev pub read_line : ℕ → Option Reading → List ℕ → Result (Option Reading) (ℕ × ScriptKind)
read_line n reading l = line_read read_one n reading l

-- what the header lines said, with the defaults of those that were not there
abbrev pub header_of : HeaderSoFar → StoreHeader
header_of t = record { depth = unwrap_or t.depth DEFAULT_DEPTH; queue = unwrap_or t.queue DEFAULT_QUEUE; fail = t.fail; cut = t.cut }

abbrev pub script_read : Reading → StoreScript
script_read r = record { room = r.room; header = header_of r.told; ops = r.ops; events = r.events; recovers = r.recovers }

-- the script, where `events` was read; else the line after the last one is out of order
abbrev pub ended_in : ℕ → Reading → Bool → Result StoreScript (ℕ × ScriptKind)
ended_in n r false = Err (n, kinds.Order)
ended_in n r true = Ok (script_read r)

-- where nothing was read, the line after the last one is at fault
abbrev pub ended : ℕ → Option Reading → Result StoreScript (ℕ × ScriptKind)
ended n None = Err (n, kinds.Order)
ended n (Some r) = ended_in n r (is_behind_events r.section)

-- what is read of lines, of which the first has this number
abbrev pub read_from : ℕ → Option Reading → List (List ℕ) → Result StoreScript (ℕ × ScriptKind)
read_from n reading ls = lines_read read_one ended n reading ls

-- The store's script that the bytes spell, or the first faulty line, counted from 1, and its kind.
abbrev pub store_of : List ℕ → Result StoreScript (ℕ × ScriptKind)
store_of bytes = read_from 1 None (lines_of bytes)
