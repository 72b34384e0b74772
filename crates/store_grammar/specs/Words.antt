-- The words that begin lines of a store's script.
use Rattle.std.specs.Prelude.{ℕ, ◌&&◌, ◌||◌, Bool, not, List, codes, Option, Some, None, is_some, if◌then◌else◌}
use Rattle.std.specs.Str.{bytes_eq}
use Rattle.std.specs.Option.{option_map, option_or}
use Rattle.script_grammar.specs.Words.{first_word}
use Rattle.line_grammar.specs.calls.CallLines.{call_word}
use Rattle.line_grammar.specs.events.EventLines.{event_word}
use Rattle.store_grammar.specs.declared.words.HeaderWord.{HeaderWord}
use Rattle.store_grammar.specs.declared.words.HeaderWord.TheVariants as header
use Rattle.store_grammar.specs.declared.words.Word.{Word}
use Rattle.store_grammar.specs.declared.words.Word.TheVariants as word

abbrev pub header_word : List ℕ → Option HeaderWord
header_word w =
    if bytes_eq w (codes "depth") then Some header.Depth
    else if bytes_eq w (codes "queue") then Some header.Queue
    else if bytes_eq w (codes "fail") then Some header.Fail
    else if bytes_eq w (codes "cut") then Some header.Cut
    else None

-- words of the first line, of puts, and those that begin parts of a script
abbrev pub part_word : List ℕ → Option Word
part_word w =
    if bytes_eq w (codes "store") then Some word.Store
    else if bytes_eq w (codes "put") then Some word.Put
    else if bytes_eq w (codes "events") then Some word.Events
    else if bytes_eq w (codes "recover") then Some word.Recover
    else None

-- `flush` is asked of the store, and behind `events` an event
abbrev pub is_flush : Bool → List ℕ → Bool
is_flush in_events w = not in_events && bytes_eq w (codes "flush")

-- words of this kind of script that are no event
abbrev pub own_word : Bool → List ℕ → Option Word
own_word in_events w = option_or (option_map word.Header (header_word w)) (if is_flush in_events w then Some word.Flush else part_word w)

abbrev pub event_step : List ℕ → Option Word
event_step w = option_map word.Event (event_word w)

-- what only volume scripts have in front of their calls
abbrev pub is_header_elsewhere : List ℕ → Bool
is_header_elsewhere w =
    bytes_eq w (codes "limit") || (bytes_eq w (codes "seed") || (bytes_eq w (codes "elevator") || (bytes_eq w (codes "flash") || bytes_eq w (codes "thread"))))

-- a word of other scripts
abbrev pub is_elsewhere : List ℕ → Bool
is_elsewhere w = is_header_elsewhere w || (is_some (first_word w) || is_some (call_word w))

-- words that are known, but begin no line of this kind of script
abbrev pub other_word : List ℕ → Option Word
other_word w = if is_elsewhere w then Some word.Other else None

-- The word that begins a line before `events` or behind it, where it is known.
abbrev pub word_of : Bool → List ℕ → Option Word
word_of in_events w = option_or (own_word in_events w) (option_or (event_step w) (other_word w))
