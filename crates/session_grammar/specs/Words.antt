-- The words that begin lines of volume scripts.
use Rattle.std.specs.Prelude.{ℕ, Bool, List, codes, Option, Some, None, if◌then◌else◌}
use Rattle.std.specs.Str.{bytes_eq}
use Rattle.std.specs.Option.{option_map, option_or}
use Rattle.session_grammar.specs.declared.words.NumberWord.{NumberWord}
use Rattle.session_grammar.specs.declared.words.NumberWord.TheVariants as numbers
use Rattle.session_grammar.specs.declared.words.HeaderWord.{HeaderWord}
use Rattle.session_grammar.specs.declared.words.HeaderWord.TheVariants as header
use Rattle.session_grammar.specs.declared.words.Word.{Word}
use Rattle.session_grammar.specs.declared.words.Word.TheVariants as word
use Rattle.script_grammar.specs.Words.{first_word}
use Rattle.line_grammar.specs.calls.CallLines.{call_word}
use Rattle.line_grammar.specs.events.EventLines.{event_word}

-- words of header lines with a number
abbrev pub number_word : List ℕ → Option NumberWord
number_word w =
    if bytes_eq w (codes "depth") then Some numbers.Depth
    else if bytes_eq w (codes "queue") then Some numbers.Queue
    else if bytes_eq w (codes "limit") then Some numbers.Limit
    else if bytes_eq w (codes "fail") then Some numbers.Fail
    else if bytes_eq w (codes "cut") then Some numbers.Cut
    else if bytes_eq w (codes "seed") then Some numbers.Seed
    else if bytes_eq w (codes "flash") then Some numbers.Flash
    else None

-- the word of the header line without one
abbrev pub other_header : List ℕ → Option HeaderWord
other_header w = if bytes_eq w (codes "elevator") then Some header.Elevator else None

abbrev pub header_word : List ℕ → Option HeaderWord
header_word w = option_or (option_map header.Number (number_word w)) (other_header w)

-- the words that begin parts of a script, and that of a block request
abbrev pub part_word : List ℕ → Option Word
part_word w =
    if bytes_eq w (codes "thread") then Some word.Thread
    else if bytes_eq w (codes "events") then Some word.Events
    else if bytes_eq w (codes "recover") then Some word.Recover
    else if bytes_eq w (codes "put") then Some word.Put
    else None

abbrev pub call_step : List ℕ → Option Word
call_step w = option_map word.Call (call_word w)

abbrev pub event_step : List ℕ → Option Word
event_step w = option_map word.Event (event_word w)

-- `write` begins a call, and behind `events` an event
abbrev pub step_word : Bool → List ℕ → Option Word
step_word in_events w = if in_events then option_or (event_step w) (call_step w) else option_or (call_step w) (event_step w)

-- The word that begins a line before `events` or behind it, where it is known.
abbrev pub word_of : Bool → List ℕ → Option Word
word_of in_events w =
    option_or (option_map word.First (first_word w))
    (option_or (option_map word.Header (header_word w))
    (option_or (part_word w)
    (step_word in_events w)))
