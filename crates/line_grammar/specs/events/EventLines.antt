-- Which words are event lines, and the fault of those that are none.
use Rattle.std.specs.Prelude.{ℕ, ◌*◌, ◌&&◌, Bool, nat_lt, nat_le, if◌then◌else◌, List, [], ◌∷◌, codes, Option, Some, None, Result, Ok, Err}
use Rattle.std.specs.Option.{option_map, option_or}
use Rattle.std.specs.Str.{bytes_eq}
use Rattle.line_grammar.specs.declared.events.event.CoreEvent.{CoreEvent}
use Rattle.line_grammar.specs.declared.events.event.CoreEvent.TheVariants as events
use Rattle.line_grammar.specs.declared.events.event.EventWord.{EventWord}
use Rattle.line_grammar.specs.declared.events.event.EventWord.TheVariants.{One, Round, Back}
use Rattle.line_grammar.specs.declared.events.event.EventLine.{EventLine}
use Rattle.script_words.specs.declared.limits.TheConstants.{MOST_EVENTS, MOST_REPEATS, PLACES}
use Rattle.line_grammar.specs.declared.events.words.PlainWord.{PlainWord}
use Rattle.line_grammar.specs.declared.events.words.PlainWord.TheVariants as plain
use Rattle.line_grammar.specs.declared.events.words.PickWord.{PickWord}
use Rattle.line_grammar.specs.declared.events.words.PickWord.TheVariants as picks
use Rattle.line_grammar.specs.declared.events.words.TurnWord.{TurnWord}
use Rattle.line_grammar.specs.declared.events.words.TurnWord.TheVariants as turns
use Rattle.line_grammar.specs.declared.events.words.EventFirst.{EventFirst}
use Rattle.line_grammar.specs.declared.events.words.EventFirst.TheVariants as word
use Rattle.script_words.specs.declared.line_error.LineFault.{LineFault}
use Rattle.script_words.specs.declared.line_error.LineFault.TheVariants as faults
use Rattle.script_words.specs.Spelling.{numeral, count_of}

-- ---- first words

-- words of events that pick nothing
abbrev pub plain_word : List ℕ → Option PlainWord
plain_word w =
    if bytes_eq w (codes "submit") then Some plain.Submit
    else if bytes_eq w (codes "accept") then Some plain.Accept
    else if bytes_eq w (codes "receive") then Some plain.Receive
    else if bytes_eq w (codes "commit") then Some plain.Commit
    else if bytes_eq w (codes "flush") then Some plain.Flush
    else if bytes_eq w (codes "answer") then Some plain.Answer
    else None

-- words of events that pick a thread or a place
abbrev pub pick_word : List ℕ → Option PickWord
pick_word w =
    if bytes_eq w (codes "call") then Some picks.Call
    else if bytes_eq w (codes "write") then Some picks.Write
    else if bytes_eq w (codes "dispatch") then Some picks.Dispatch
    else if bytes_eq w (codes "transfer") then Some picks.Transfer
    else if bytes_eq w (codes "persist") then Some picks.Persist
    else None

-- words of turns, which are several events
abbrev pub turn_word : List ℕ → Option TurnWord
turn_word w =
    if bytes_eq w (codes "round") then Some turns.Round
    else if bytes_eq w (codes "back") then Some turns.Back
    else None

-- the word that begins an event line, where it is known
abbrev pub event_word : List ℕ → Option EventFirst
event_word w =
    option_or (option_map word.Plain (plain_word w))
    (option_or (option_map word.Pick (pick_word w))
    (option_map word.Turn (turn_word w)))

abbrev pub plain_event : PlainWord → CoreEvent
plain_event plain.Submit = events.Submit
plain_event plain.Accept = events.Accept
plain_event plain.Receive = events.Receive
plain_event plain.Commit = events.Commit
plain_event plain.Flush = events.FlushStep
plain_event plain.Answer = events.Answer

abbrev pub pick_event : PickWord → ℕ → CoreEvent
pick_event picks.Call pick = events.Call pick
pick_event picks.Write pick = events.Writeback pick
pick_event picks.Dispatch pick = events.Dispatch pick
pick_event picks.Transfer pick = events.Transfer pick
pick_event picks.Persist pick = events.Persist pick

abbrev pub turn_event : TurnWord → EventWord
turn_event turns.Round = Round
turn_event turns.Back = Back

-- ---- the words behind the first

-- 1 to 1,000,000
abbrev pub is_count : ℕ → Bool
is_count count = nat_le 1 count && nat_le count MOST_REPEATS

-- the count is none where it is spelled wrongly
abbrev pub plain_taken : PlainWord → Option ℕ → Result EventLine LineFault
plain_taken w None = Err faults.Spelling
plain_taken w (Some count) = if is_count count then Ok (record { what = One (plain_event w); count = count }) else Err faults.Number

-- the place, or the thread, is below 2^32
abbrev pub pick_taken : PickWord → Option ℕ → Option ℕ → Result EventLine LineFault
pick_taken w (Some pick) (Some count) = if nat_lt pick PLACES && is_count count then Ok (record { what = One (pick_event w pick); count = count }) else Err faults.Number
pick_taken w pick count = Err faults.Spelling

-- so many turns, so often; each has eight events at least
abbrev pub turn_taken : TurnWord → Option ℕ → Option ℕ → Result EventLine LineFault
turn_taken w (Some n) (Some m) = if is_count n && (is_count m && nat_le (8 * (n * m)) MOST_EVENTS) then Ok (record { what = turn_event w; count = n * m }) else Err faults.Number
turn_taken w n m = Err faults.Spelling

-- the thread or place that is picked stands behind the word, and then how often
abbrev pub pick_line : PickWord → List (List ℕ) → Result EventLine LineFault
pick_line w [] = Err faults.Spelling
pick_line w (p ∷ ws) = pick_taken w (numeral p) (count_of ws)

-- the number of turns stands behind the word, and then how often
abbrev pub turn_line : TurnWord → List (List ℕ) → Result EventLine LineFault
turn_line w [] = Err faults.Spelling
turn_line w (n ∷ ws) = turn_taken w (numeral n) (count_of ws)

-- The event line that the words spell, or their fault.
abbrev pub event_of : EventFirst → List (List ℕ) → Result EventLine LineFault
event_of (word.Plain w) ws = plain_taken w (count_of ws)
event_of (word.Pick w) ws = pick_line w ws
event_of (word.Turn w) ws = turn_line w ws
