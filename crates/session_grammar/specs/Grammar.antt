-- Which texts are volume scripts, and the first faulty line of those that are none, with its kind.
use Rattle.std.specs.Prelude.{ℕ, ◌+◌, ◌*◌, ◌&&◌, ◌==◌, not, Bool, true, false, List, [], ◌∷◌, ◌++◌, length, Option, Some, None, is_some, nat_lt, nat_le, unwrap_or, codes, Result, Ok, Err, if◌then◌else◌}
use Rattle.std.specs.Str.{bytes_eq}
use Rattle.minix_layout.specs.Words.{first_zone}
use Rattle.tree_model.specs.declared.call.Call.{Call}
use Rattle.script_words.specs.declared.line_error.LineFault.{LineFault}
use Rattle.script_words.specs.declared.line_error.LineFault.TheVariants as faults
use Rattle.script_words.specs.Spelling.{lines_of, words_of, numeral}
use Rattle.script_words.specs.LineByLine.{line_read, lines_read}
use Rattle.script_grammar.specs.declared.limits.TheConstants.{DEFAULT_DEPTH, DEFAULT_QUEUE, FEWEST_SEGMENTS, MOST_DEPTH, MOST_QUEUE, MOST_SEGMENTS, MOST_STEPS, MOST_TRANSFERS}
use Rattle.script_grammar.specs.declared.kinds.ScriptKind.{ScriptKind}
use Rattle.script_grammar.specs.declared.kinds.ScriptKind.TheVariants as kinds
use Rattle.line_grammar.specs.calls.CallLines.{call_of}
use Rattle.line_grammar.specs.calls.Programs.{pushed_last, last_length}
use Rattle.line_grammar.specs.declared.events.event.CoreEvent.TheVariants as core
use Rattle.line_grammar.specs.declared.events.event.EventLine.{EventLine}
use Rattle.line_grammar.specs.declared.events.event.EventWord.{EventWord}
use Rattle.line_grammar.specs.declared.events.event.EventWord.TheVariants.{One, Round, Back}
use Rattle.script_words.specs.declared.limits.TheConstants.{MOST_EVENTS}
use Rattle.line_grammar.specs.declared.events.steer.Steer.{Steer}
use Rattle.line_grammar.specs.declared.events.words.EventFirst.{EventFirst}
use Rattle.line_grammar.specs.declared.events.words.EventFirst.TheVariants as event
use Rattle.line_grammar.specs.declared.events.words.PlainWord.TheVariants as plain
use Rattle.line_grammar.specs.events.EventLines.{event_of}
use Rattle.line_grammar.specs.events.SteerLines.{steers_of}
use Rattle.minix_layout.specs.declared.limits.TheConstants.{DEFAULT_WIDTH, LEAST_JOURNAL, MOST_JOURNAL, MOST_NUMBERED}
use Rattle.session_grammar.specs.declared.limits.TheConstants.{DEFAULT_LIMIT, DEFAULT_SEED, JOURNALS, MOST_CALLS, MOST_RECOVERS, MOST_SEED, MOST_SESSION, MOST_THREADS}
use Rattle.session_grammar.specs.declared.reading.Reading.{Reading}
use Rattle.session_grammar.specs.declared.reading.Section.{Section}
use Rattle.session_grammar.specs.declared.reading.Section.TheVariants as sections
use Rattle.session_grammar.specs.declared.header.HeaderSoFar.{HeaderSoFar}
use Rattle.session_grammar.specs.declared.reading.VolumeForm.{VolumeForm}
use Rattle.session_grammar.specs.declared.session_script.SessionHeader.{SessionHeader}
use Rattle.session_grammar.specs.declared.session_script.SessionScript.{SessionScript}
use Rattle.script_grammar.specs.declared.words.FirstWord.TheVariants as first
use Rattle.session_grammar.specs.declared.words.NumberWord.{NumberWord}
use Rattle.session_grammar.specs.declared.words.NumberWord.TheVariants as numbers
use Rattle.session_grammar.specs.declared.words.HeaderWord.{HeaderWord}
use Rattle.session_grammar.specs.declared.words.HeaderWord.TheVariants as header
use Rattle.session_grammar.specs.declared.words.Word.{Word}
use Rattle.session_grammar.specs.declared.words.Word.TheVariants as word
use Rattle.session_grammar.specs.Words.{word_of}

-- what is wrong with the words of a line is the fault of the line
abbrev pub kind_of : LineFault → ScriptKind
kind_of faults.Spelling = kinds.Word
kind_of faults.Number = kinds.Number

-- ---- the first line

-- 1 to 65,535 inodes and zones, and a journal whose blocks are counted in 32 bits
abbrev pub are_sizes : ℕ → ℕ → ℕ → Bool
are_sizes inodes zones journal =
    nat_le 1 inodes && (nat_le inodes MOST_NUMBERED && (nat_le 1 zones && (nat_le zones MOST_NUMBERED && nat_lt journal JOURNALS)))

-- a zone of data is left, and the journal has 128 to 16,384 blocks
abbrev pub have_geometry : ℕ → ℕ → ℕ → Bool
have_geometry inodes zones journal =
    nat_lt (first_zone inodes zones) zones && (nat_le LEAST_JOURNAL journal && nat_le journal MOST_JOURNAL)

-- no header line was read
abbrev pub none_told : HeaderSoFar
none_told = record { depth = None; queue = None; limit = None; fail = None; cut = None; seed = None; flash = None; elevator = false }

-- what is read after the first line
abbrev pub new_reading : ℕ → ℕ → ℕ → VolumeForm → Reading
new_reading inodes zones journal form = record { inodes = inodes; zones = zones; journal = journal; width = form.width; wide = form.wide; told = none_told; section = sections.Opening; programs = []; lines = []; events = []; expanded = 0; recovers = [] }

-- that a size is outside its limit counts before what volume can be made of them
abbrev pub sizes_taken : ℕ → ℕ → ℕ → VolumeForm → Result Reading ScriptKind
sizes_taken inodes zones journal form =
    if not (are_sizes inodes zones journal) then Err kinds.Number
    else if not (have_geometry inodes zones journal) then Err kinds.Geometry
    else Ok (new_reading inodes zones journal form)

-- none stands for words that are spelled wrongly
abbrev pub opened : Option ℕ → Option ℕ → Option ℕ → Option VolumeForm → Result Reading ScriptKind
opened (Some inodes) (Some zones) (Some journal) (Some form) = sizes_taken inodes zones journal form
opened inodes zones journal form = Err kinds.Word

-- what the last words say: tags of 64 bits, or nothing
abbrev pub wide_told : List (List ℕ) → Option Bool
wide_told [] = Some false
wide_told (t ∷ n ∷ []) = if bytes_eq t (codes "tags") && bytes_eq n (codes "64") then Some true else None
wide_told ws = None

abbrev pub form_with : ℕ → Option Bool → Option VolumeForm
form_with width None = None
form_with width (Some wide) = Some (record { width = width; wide = wide })

-- what the words behind the sizes say: names of 30 bytes, or nothing of names; and behind that, tags
abbrev pub form_told : List (List ℕ) → Option VolumeForm
form_told (n ∷ w ∷ ws) =
    if bytes_eq n (codes "names") && bytes_eq w (codes "30") then form_with 30 (wide_told ws)
    else form_with DEFAULT_WIDTH (wide_told (n ∷ w ∷ ws))
form_told ws = form_with DEFAULT_WIDTH (wide_told ws)

-- inodes I zones Z journal J, `names 30` for names of 30 bytes, and `tags 64` for tags of 64 bits
abbrev pub journal_line : Option ℕ → Option ℕ → List (List ℕ) → Result Reading ScriptKind
journal_line inodes zones (j ∷ n ∷ ws) = if bytes_eq j (codes "journal") then opened inodes zones (numeral n) (form_told ws) else Err kinds.Word
journal_line inodes zones ws = Err kinds.Word

-- zones Z, and what stands behind it
abbrev pub zones_line : Option ℕ → List (List ℕ) → Result Reading ScriptKind
zones_line inodes (z ∷ n ∷ ws) = if bytes_eq z (codes "zones") then journal_line inodes (numeral n) ws else Err kinds.Word
zones_line inodes ws = Err kinds.Word

-- inodes I, and what stands behind it
abbrev pub volume_line : List (List ℕ) → Result Reading ScriptKind
volume_line (i ∷ n ∷ ws) = if bytes_eq i (codes "inodes") then zones_line (numeral n) ws else Err kinds.Word
volume_line ws = Err kinds.Word

-- a first line whose word is known
abbrev pub known_first : Word → List (List ℕ) → Result Reading ScriptKind
known_first (word.First first.Volume) ws = volume_line ws
known_first w ws = Err kinds.Order

-- the first line, by the order of its faults
abbrev pub first_line : Option Word → List (List ℕ) → Result Reading ScriptKind
first_line None ws = Err kinds.Word
first_line (Some w) ws = known_first w ws

-- ---- where the other lines may stand

-- the event `submit`, which this kind of script has not: its host submits by itself
abbrev pub is_submit : EventFirst → Bool
is_submit (event.Plain plain.Submit) = true
is_submit w = false

-- Header lines come first, then threads with their calls, then `events` and event lines, and last `recover` lines.
abbrev pub stands_in : Section → Bool → Word → Bool
stands_in sections.Opening threads (word.Header w) = not threads
stands_in sections.Opening threads word.Thread = true
stands_in sections.Opening threads (word.Call w) = threads
stands_in sections.Opening threads word.Events = true
stands_in sections.Events threads (word.Event w) = not (is_submit w)
stands_in sections.Events threads word.Recover = true
stands_in sections.Recovery threads word.Recover = true
stands_in section threads w = false

abbrev pub has_threads : Reading → Bool
has_threads r = nat_lt 0 (length r.programs)

-- whether the line may stand here: header lines come before the first thread, and calls behind it
abbrev pub may_stand : Reading → Word → Bool
may_stand r w = stands_in r.section (has_threads r) w

-- what a header line with a number said
abbrev pub told_number : HeaderSoFar → NumberWord → Option ℕ
told_number t numbers.Depth = t.depth
told_number t numbers.Queue = t.queue
told_number t numbers.Limit = t.limit
told_number t numbers.Fail = t.fail
told_number t numbers.Cut = t.cut
told_number t numbers.Seed = t.seed
told_number t numbers.Flash = t.flash

-- the header line stood before
abbrev pub stood_before : HeaderSoFar → Word → Bool
stood_before t (word.Header (header.Number w)) = is_some (told_number t w)
stood_before t (word.Header header.Elevator) = t.elevator
stood_before t w = false

-- ---- header lines

-- the number is within the limits of its header line
abbrev pub number_fits : NumberWord → ℕ → Bool
number_fits numbers.Depth n = nat_le 1 n && nat_le n MOST_DEPTH
number_fits numbers.Queue n = nat_le 1 n && nat_le n MOST_QUEUE
number_fits numbers.Limit n = nat_le 1 n && nat_le n MOST_SESSION
number_fits numbers.Fail n = nat_le 1 n && nat_le n MOST_TRANSFERS
number_fits numbers.Cut n = nat_le n MOST_STEPS
number_fits numbers.Seed n = nat_le n MOST_SEED
number_fits numbers.Flash n = nat_le FEWEST_SEGMENTS n && nat_le n MOST_SEGMENTS

abbrev pub with_number : HeaderSoFar → NumberWord → ℕ → HeaderSoFar
with_number t numbers.Depth n = record t { depth = Some n }
with_number t numbers.Queue n = record t { queue = Some n }
with_number t numbers.Limit n = record t { limit = Some n }
with_number t numbers.Fail n = record t { fail = Some n }
with_number t numbers.Cut n = record t { cut = Some n }
with_number t numbers.Seed n = record t { seed = Some n }
with_number t numbers.Flash n = record t { flash = Some n }

-- none stands for a number that is spelled wrongly
abbrev pub number_taken : HeaderSoFar → NumberWord → Option ℕ → Result HeaderSoFar ScriptKind
number_taken t w None = Err kinds.Word
number_taken t w (Some n) = if number_fits w n then Ok (with_number t w n) else Err kinds.Number

-- one number stands behind the word, and nothing behind `elevator`
abbrev pub header_line : HeaderSoFar → HeaderWord → List (List ℕ) → Result HeaderSoFar ScriptKind
header_line t (header.Number w) (n ∷ []) = number_taken t w (numeral n)
header_line t header.Elevator [] = Ok (record t { elevator = true })
header_line t w ws = Err kinds.Word

abbrev pub header_taken : Reading → Result HeaderSoFar ScriptKind → Result Reading ScriptKind
header_taken r (Ok t) = Ok (record r { told = t })
header_taken r (Err kind) = Err kind

-- ---- threads and their calls

-- a thread with no calls yet
abbrev pub with_thread : Reading → Reading
with_thread r = record r { programs = r.programs ++ [] ∷ [] }

-- its number is one more than that of the last
abbrev pub thread_taken : Reading → Option ℕ → Result Reading ScriptKind
thread_taken r None = Err kinds.Word
thread_taken r (Some n) = if (n == length r.programs + 1) && nat_le n MOST_THREADS then Ok (with_thread r) else Err kinds.Number

-- the number of the thread, counted from 1, stands behind `thread`
abbrev pub thread_line : Reading → List (List ℕ) → Result Reading ScriptKind
thread_line r (n ∷ []) = thread_taken r (numeral n)
thread_line r ws = Err kinds.Word

-- one call more of the last thread, and its line
abbrev pub with_call : Reading → List ℕ → Call → Reading
with_call r line c = record r { programs = pushed_last r.programs c; lines = r.lines ++ line ∷ [] }

-- a thread has at most 10,000 calls
abbrev pub call_added : Reading → List ℕ → Call → Result Reading ScriptKind
call_added r line c = if nat_lt (last_length r.programs) MOST_CALLS then Ok (with_call r line c) else Err kinds.Number

abbrev pub call_taken : Reading → List ℕ → Result Call LineFault → Result Reading ScriptKind
call_taken r line (Err fault) = Err (kind_of fault)
call_taken r line (Ok c) = call_added r line c

-- nothing stands behind `events`
abbrev pub events_line : Reading → List (List ℕ) → Result Reading ScriptKind
events_line r [] = Ok (record r { section = sections.Events })
events_line r ws = Err kinds.Word

-- ---- event lines

-- a thread that is named is one of so many
abbrev pub names_thread : ℕ → EventWord → Bool
names_thread threads (One (core.Call t)) = nat_le 1 t && nat_le t threads
names_thread threads what = true

-- how many events a line is: a turn of the stack has eight, and a round goes through all threads besides
abbrev pub events_of : ℕ → EventWord → ℕ → ℕ
events_of threads (One e) count = count
events_of threads Round count = count * (threads + 8)
events_of threads Back count = count * 8

-- how many events the line is in a script with so many threads
abbrev pub weight : ℕ → EventLine → ℕ
weight threads l = events_of threads l.what l.count

-- a thread that it names is there, and all events so far are within the limit
abbrev pub event_fits : Reading → EventLine → Bool
event_fits r l = names_thread (length r.programs) l.what && nat_le (r.expanded + weight (length r.programs) l) MOST_EVENTS

-- one event line more, counted with its repeats
abbrev pub with_event : Reading → EventLine → Reading
with_event r l = record r { events = r.events ++ l ∷ []; expanded = r.expanded + weight (length r.programs) l }

abbrev pub event_added : Reading → EventLine → Result Reading ScriptKind
event_added r l = if event_fits r l then Ok (with_event r l) else Err kinds.Number

abbrev pub event_taken : Reading → Result EventLine LineFault → Result Reading ScriptKind
event_taken r (Err fault) = Err (kind_of fault)
event_taken r (Ok l) = event_added r l

-- ---- `recover` lines

-- one attempt of recovery more
abbrev pub with_recover : Reading → List Steer → Reading
with_recover r ss = record r { section = sections.Recovery; recovers = r.recovers ++ ss ∷ [] }

-- there are at most 100 attempts of recovery
abbrev pub recover_added : Reading → List Steer → Result Reading ScriptKind
recover_added r ss = if nat_lt (length r.recovers) MOST_RECOVERS then Ok (with_recover r ss) else Err kinds.Number

abbrev pub recover_taken : Reading → Result (List Steer) LineFault → Result Reading ScriptKind
recover_taken r (Err fault) = Err (kind_of fault)
recover_taken r (Ok ss) = recover_added r ss

-- ---- lines behind the first

-- the words behind the first of a line that may stand here
abbrev pub line_taken : Reading → List ℕ → Word → List (List ℕ) → Result Reading ScriptKind
line_taken r line (word.Header w) ws = header_taken r (header_line r.told w ws)
line_taken r line word.Thread ws = thread_line r ws
line_taken r line (word.Call w) ws = call_taken r line (call_of w ws)
line_taken r line word.Events ws = events_line r ws
line_taken r line (word.Event w) ws = event_taken r (event_of w ws)
line_taken r line word.Recover ws = recover_taken r (steers_of ws)
line_taken r line (word.First w) ws = Err kinds.Order
line_taken r line word.Put ws = Err kinds.Order

-- a later line, by the order of its faults
abbrev pub later_line : Reading → List ℕ → Option Word → List (List ℕ) → Result Reading ScriptKind
later_line r line None ws = Err kinds.Word
later_line r line (Some w) ws =
    if not (may_stand r w) then Err kinds.Order
    else if stood_before r.told w then Err kinds.Twice
    else line_taken r line w ws

-- ---- all lines

-- the line with `events` was read
abbrev pub is_behind_events : Section → Bool
is_behind_events sections.Opening = false
is_behind_events sections.Events = true
is_behind_events sections.Recovery = true

-- a line that is not skipped, and its words, before which nothing or this was read
abbrev pub read_words : Option Reading → List ℕ → List (List ℕ) → Result Reading ScriptKind
read_words reading line [] = Err kinds.Word
read_words None line (w ∷ ws) = first_line (word_of false w) ws
read_words (Some r) line (w ∷ ws) = later_line r line (word_of (is_behind_events r.section) w) ws

-- a line that is not skipped, before which nothing or this was read
abbrev pub read_one : Option Reading → List ℕ → Result Reading ScriptKind
read_one reading l = read_words reading l (words_of l)

-- what is read after one line
abbrev pub read_line : ℕ → Option Reading → List ℕ → Result (Option Reading) (ℕ × ScriptKind)
read_line n reading l = line_read read_one n reading l

-- what the header lines said, with the defaults of those that were not there
abbrev pub header_of : HeaderSoFar → SessionHeader
header_of t = record { depth = unwrap_or t.depth DEFAULT_DEPTH; queue = unwrap_or t.queue DEFAULT_QUEUE; limit = unwrap_or t.limit DEFAULT_LIMIT; fail = t.fail; cut = t.cut; seed = unwrap_or t.seed DEFAULT_SEED; flash = t.flash; elevator = t.elevator }

abbrev pub script_read : Reading → SessionScript
script_read r = record { inodes = r.inodes; zones = r.zones; journal = r.journal; width = r.width; wide = r.wide; header = header_of r.told; programs = r.programs; lines = r.lines; events = r.events; recovers = r.recovers }

-- a text that ends before `events` is no script: the line after its last one is at fault
abbrev pub ended_in : ℕ → Reading → Section → Result SessionScript (ℕ × ScriptKind)
ended_in n r sections.Opening = Err (n, kinds.Order)
ended_in n r section = Ok (script_read r)

-- the script, where `events` was read; else the line after the last one is out of order
abbrev pub ended : ℕ → Option Reading → Result SessionScript (ℕ × ScriptKind)
ended n None = Err (n, kinds.Order)
ended n (Some r) = ended_in n r r.section

-- what is read of lines, of which the first has this number
abbrev pub read_from : ℕ → Option Reading → List (List ℕ) → Result SessionScript (ℕ × ScriptKind)
read_from n reading ls = lines_read read_one ended n reading ls

-- The volume script that the bytes spell, or the first faulty line, counted from 1, and its kind.
abbrev pub session_of : List ℕ → Result SessionScript (ℕ × ScriptKind)
session_of bytes = read_from 1 None (lines_of bytes)
