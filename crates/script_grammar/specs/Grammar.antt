-- Which texts are scripts, and the first faulty line of those that are none, with its kind.
use Rattle.std.specs.Prelude.{◌≡◌, ℕ, ◌+◌, ◌&&◌, ◌||◌, ◌<◌, ◌≤◌, not, Bool, true, false, List, [], ◌∷◌, ◌++◌, length, Option, Some, None, is_some, nat_lt, nat_le, unwrap_or, Result, Ok, Err, if◌then◌else◌, slice_get}
use Rattle.blk_base.specs.Block.{filled}
use Rattle.order_model.specs.declared.request.Request.{Request}
use Rattle.order_model.specs.declared.request.Kind.TheVariants.{Put, Flush}
use Rattle.script_words.specs.declared.limits.TheConstants.{MOST_EVENTS, MOST_REPEATS, PLACES}
use Rattle.script_grammar.specs.declared.limits.TheConstants.{DEFAULT_DEPTH, DEFAULT_QUEUE, FEWEST_SEGMENTS, MOST_BLOCKS, MOST_DEPTH, MOST_QUEUE, MOST_REQUESTS, MOST_SEGMENTS, MOST_STEPS, MOST_TRANSFERS}
use Rattle.script_grammar.specs.declared.kinds.ScriptKind.{ScriptKind}
use Rattle.script_grammar.specs.declared.kinds.ScriptKind.TheVariants as kinds
use Rattle.script_grammar.specs.declared.reading.Reading.{Reading}
use Rattle.script_grammar.specs.declared.reading.Section.{Section}
use Rattle.script_grammar.specs.declared.reading.Section.TheVariants as sections
use Rattle.script_grammar.specs.declared.script.Script.{Script}
use Rattle.script_grammar.specs.declared.script.Form.{Form}
use Rattle.script_grammar.specs.declared.script.Form.TheVariants.{Device, Blocks}
use Rattle.script_grammar.specs.declared.script.EventWord.TheVariants.{One}
use Rattle.script_grammar.specs.declared.script.CoreEvent.{CoreEvent}
use Rattle.script_grammar.specs.declared.script.CoreEvent.TheVariants.{Submit, Accept, Dispatch, Receive, Transfer, Persist}
use Rattle.script_grammar.specs.declared.words.FirstWord.TheVariants as first
use Rattle.script_grammar.specs.declared.words.HeaderWord.TheVariants as header
use Rattle.script_grammar.specs.declared.words.PlainWord.{PlainWord}
use Rattle.script_grammar.specs.declared.words.PlainWord.TheVariants as plain
use Rattle.script_grammar.specs.declared.words.PickWord.{PickWord}
use Rattle.script_grammar.specs.declared.words.PickWord.TheVariants as picks
use Rattle.script_grammar.specs.declared.words.Word.{Word}
use Rattle.script_grammar.specs.declared.words.Word.TheVariants as word
use Rattle.script_grammar.specs.declared.words.Class.{Class}
use Rattle.script_grammar.specs.declared.words.Class.TheVariants as class
use Rattle.script_grammar.specs.declared.words.Line.{Line}
use Rattle.script_grammar.specs.declared.words.Line.TheVariants as line
use Rattle.script_words.specs.Spelling.{lines_of, words_of, numeral}
use Rattle.script_words.specs.LineByLine.{line_read, lines_read}
use Rattle.script_grammar.specs.Words.{word_of, line_of}

-- ---- kinds of script

-- how many blocks the script's medium has
abbrev pub form_blocks : Form → ℕ
form_blocks (Device blocks) = blocks
form_blocks (Blocks blocks) = blocks

-- the scheduler stands between
abbrev pub is_scheduled : Form → Bool
is_scheduled (Device blocks) = false
is_scheduled (Blocks blocks) = true

-- the flag says whether the scheduler stands between
abbrev pub form_of : Bool → ℕ → Form
form_of true blocks = Blocks blocks
form_of false blocks = Device blocks

-- ---- the first line

-- what is read after the first line
abbrev pub new_reading : Form → Reading
new_reading form = record { form = form; depth = None; queue = None; fail = None; cut = None; elevator = false; flash = None; section = sections.Header; puts = []; events = []; expanded = 0 }

-- a medium of so many blocks, 1 to 4,096
abbrev pub opened : Bool → Option ℕ → Result Reading ScriptKind
opened scheduled None = Err kinds.Word
opened scheduled (Some n) = if nat_le 1 n && nat_le n MOST_BLOCKS then Ok (new_reading (form_of scheduled n)) else Err kinds.Number

-- one number stands behind the first word: how many blocks there are
abbrev pub form_line : Bool → List (List ℕ) → Result Reading ScriptKind
form_line scheduled (n ∷ []) = opened scheduled (numeral n)
form_line scheduled ws = Err kinds.Word

-- a first line whose word is known
abbrev pub known_first : Word → List (List ℕ) → Result Reading ScriptKind
known_first (word.First first.Device) ws = form_line false ws
known_first (word.First first.Blocks) ws = form_line true ws
known_first w ws = Err kinds.Order

-- the first line, by the order of its faults
abbrev pub first_line : Option Word → List (List ℕ) → Result Reading ScriptKind
first_line None ws = Err kinds.Word
first_line (Some w) ws = known_first w ws

-- ---- the other lines

-- where a line may stand: header lines first, then requests, then `events`, then event lines
abbrev pub stands_in : Section → Word → Bool
stands_in sections.Header (word.Header w) = true
stands_in sections.Header (word.Body w) = true
stands_in sections.Header word.Events = true
stands_in sections.Body (word.Body w) = true
stands_in sections.Body word.Events = true
stands_in sections.Events (word.Plain w) = true
stands_in sections.Events (word.Pick w) = true
stands_in s w = false

-- the line speaks of the scheduler or its queues
abbrev pub needs_scheduler : Word → Bool
needs_scheduler (word.Header header.Queue) = true
needs_scheduler (word.Header header.Elevator) = true
needs_scheduler (word.Plain plain.Submit) = true
needs_scheduler (word.Plain plain.Accept) = true
needs_scheduler (word.Pick picks.Dispatch) = true
needs_scheduler w = false

-- the line may stand in this section of this kind of script
abbrev pub may_stand : Reading → Word → Bool
may_stand r w = stands_in r.section w && (is_scheduled r.form || not (needs_scheduler w))

-- the header line stood before
abbrev pub stood_before : Reading → Word → Bool
stood_before r (word.Header header.Depth) = is_some r.depth
stood_before r (word.Header header.Queue) = is_some r.queue
stood_before r (word.Header header.Fail) = is_some r.fail
stood_before r (word.Header header.Cut) = is_some r.cut
stood_before r (word.Header header.Elevator) = r.elevator
stood_before r (word.Header header.Flash) = is_some r.flash
stood_before r w = false

-- an event line's count keeps the limits on repeats and on all events
abbrev pub count_fits : Reading → ℕ → Bool
count_fits r count = nat_le 1 count && (nat_le count MOST_REPEATS && nat_le (r.expanded + count) MOST_EVENTS)

-- the numbers of the line are within their limits
abbrev pub fits : Reading → Line → Bool
fits r (line.Depth d) = nat_le 1 d && nat_le d MOST_DEPTH
fits r (line.Queue q) = nat_le 1 q && nat_le q MOST_QUEUE
fits r (line.Fail n) = nat_le 1 n && nat_le n MOST_TRANSFERS
fits r (line.Cut n) = nat_le n MOST_STEPS
fits r (line.Put block value k) = nat_lt block (form_blocks r.form) && nat_lt (length r.puts) MOST_REQUESTS
fits r line.Flush = nat_lt (length r.puts) MOST_REQUESTS
fits r line.Elevator = true
fits r (line.Flash n) = nat_le FEWEST_SEGMENTS n && nat_le n MOST_SEGMENTS
fits r line.Events = true
fits r (line.Plain w count) = count_fits r count
fits r (line.Pick w pick count) = nat_lt pick PLACES && count_fits r count

-- a barrier keeps the order too
abbrev pub is_ordered_class : Class → Bool
is_ordered_class class.Free = false
is_ordered_class class.Ordered = true
is_ordered_class class.Barrier = true

abbrev pub is_barrier_class : Class → Bool
is_barrier_class class.Free = false
is_barrier_class class.Ordered = false
is_barrier_class class.Barrier = true

-- a put of a block whose bytes are all the value
abbrev pub put_request : ℕ → ℕ → ℕ → Class → Request
put_request id block value k = record { id = id; kind = Put block (filled value); ordered = is_ordered_class k; barrier = is_barrier_class k }

-- a flush keeps the order and is a barrier
abbrev pub flush_request : ℕ → Request
flush_request id = record { id = id; kind = Flush; ordered = true; barrier = true }

-- one request more, after which no header line may stand
abbrev pub with_request : Reading → Request → Reading
with_request r q = record r { section = sections.Body; puts = r.puts ++ q ∷ [] }

-- one event line more, counted with its repeats
abbrev pub with_events : Reading → CoreEvent → ℕ → Reading
with_events r e count = record r { events = r.events ++ record { what = One e; count = count } ∷ []; expanded = r.expanded + count }

abbrev pub plain_event : PlainWord → CoreEvent
plain_event plain.Submit = Submit
plain_event plain.Accept = Accept
plain_event plain.Receive = Receive

abbrev pub pick_event : PickWord → ℕ → CoreEvent
pick_event picks.Dispatch pick = Dispatch pick
pick_event picks.Transfer pick = Transfer pick
pick_event picks.Persist pick = Persist pick

-- what is read after the line
abbrev pub after : Reading → Line → Reading
after r (line.Depth d) = record r { depth = Some d }
after r (line.Queue q) = record r { queue = Some q }
after r (line.Fail n) = record r { fail = Some n }
after r (line.Cut n) = record r { cut = Some n }
after r line.Elevator = record r { elevator = true }
after r (line.Flash n) = record r { flash = Some n }
after r (line.Put block value k) = with_request r (put_request (length r.puts) block value k)
after r line.Flush = with_request r (flush_request (length r.puts))
after r line.Events = record r { section = sections.Events }
after r (line.Plain w count) = with_events r (plain_event w) count
after r (line.Pick w pick count) = with_events r (pick_event w pick) count

-- a line that is spelled rightly
abbrev pub taken : Reading → Option Line → Result Reading ScriptKind
taken r None = Err kinds.Word
taken r (Some l) = if fits r l then Ok (after r l) else Err kinds.Number

-- a later line, by the order of its faults
abbrev pub later_line : Reading → Option Word → List (List ℕ) → Result Reading ScriptKind
later_line r None ws = Err kinds.Word
later_line r (Some w) ws =
    if not (may_stand r w) then Err kinds.Order
    else if stood_before r w then Err kinds.Twice
    else taken r (line_of w ws)

-- ---- all lines

-- the words of a line that is not skipped, before which nothing or this was read
abbrev pub read_words : Option Reading → List (List ℕ) → Result Reading ScriptKind
read_words reading [] = Err kinds.Word
read_words None (w ∷ ws) = first_line (word_of w) ws
read_words (Some r) (w ∷ ws) = later_line r (word_of w) ws

-- a line that is not skipped, before which nothing or this was read
abbrev pub read_one : Option Reading → List ℕ → Result Reading ScriptKind
read_one reading l = read_words reading (words_of l)

-- what is read after one line
abbrev pub read_line : ℕ → Option Reading → List ℕ → Result (Option Reading) (ℕ × ScriptKind)
read_line n reading l = line_read read_one n reading l

-- what was read, with the default depth and queue where no line says them
abbrev pub script_read : Reading → Script
script_read r = record { kind = r.form; header = record { depth = unwrap_or r.depth DEFAULT_DEPTH; queue = unwrap_or r.queue DEFAULT_QUEUE; fail = r.fail; cut = r.cut; elevator = r.elevator; flash = r.flash }; puts = r.puts; events = r.events }

-- a text that ends before `events` is no script: the line after its last one is at fault
abbrev pub ended_in : ℕ → Reading → Section → Result Script (ℕ × ScriptKind)
ended_in n r sections.Events = Ok (script_read r)
ended_in n r section = Err (n, kinds.Order)

-- the script, where `events` was read; else the line after the last one is out of order
abbrev pub ended : ℕ → Option Reading → Result Script (ℕ × ScriptKind)
ended n None = Err (n, kinds.Order)
ended n (Some r) = ended_in n r r.section

-- what is read of lines, of which the first has this number
abbrev pub read_from : ℕ → Option Reading → List (List ℕ) → Result Script (ℕ × ScriptKind)
read_from n reading ls = lines_read read_one ended n reading ls

-- The script that the bytes spell, or the first faulty line, counted from 1, and its kind.
abbrev pub script_of : List ℕ → Result Script (ℕ × ScriptKind)
script_of bytes = read_from 1 None (lines_of bytes)

-- ---- what holds of every script that is read

-- a request of a script: its id is its place, its block is below the number of blocks, and a barrier or a
-- flush keeps the order
pub record IsRequestOf (blocks id : ℕ) (q : Request) : Type 0 where
  pub named : q.id ≡ id
  pub within : (block : ℕ) (body : List ℕ) → q.kind ≡ Put block body → block < blocks
  pub ordered : q.barrier ≡ true → q.ordered ≡ true
  pub flush : q.kind ≡ Flush → (q.ordered ≡ true) × (q.barrier ≡ true)

-- how many blocks the script's medium has
abbrev pub blocks_of : Script → ℕ
blocks_of s = form_blocks s.kind

-- what a run needs of a script: blocks, depth, queue and requests are within their limits
pub record IsRunnable (s : Script) : Type 0 where
  pub some_blocks : 1 ≤ blocks_of s
  pub few_blocks : blocks_of s ≤ MOST_BLOCKS
  pub some_depth : 1 ≤ s.header.depth
  pub depth : s.header.depth ≤ MOST_DEPTH
  pub some_queue : 1 ≤ s.header.queue
  pub queue : s.header.queue ≤ MOST_QUEUE
  pub flash : (n : ℕ) → s.header.flash ≡ Some n → (FEWEST_SEGMENTS ≤ n) × (n ≤ MOST_SEGMENTS)
  pub few : length s.puts ≤ MOST_REQUESTS
  pub requests : (i : ℕ) (q : Request) → slice_get s.puts i ≡ Some q → IsRequestOf (blocks_of s) i q
