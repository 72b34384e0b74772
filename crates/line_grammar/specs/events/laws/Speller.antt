-- A small speller of event lines and `recover` lines.
use Rattle.std.specs.Prelude.{◌≡◌, ℕ, suc, zero, ◌+◌, ◌*◌, ◌/◌, ◌==◌, ◌&&◌, nat_le, if◌then◌else◌, List, [], ◌∷◌, codes, map, Option, Some, None, Result, Err}
use Rattle.std.specs.Fmt.{decimal}
use Rattle.line_grammar.specs.declared.events.event.CoreEvent.{CoreEvent}
use Rattle.line_grammar.specs.declared.events.event.CoreEvent.TheVariants as events
use Rattle.line_grammar.specs.declared.events.event.EventWord.{EventWord}
use Rattle.line_grammar.specs.declared.events.event.EventWord.TheVariants.{One, Round, Back}
use Rattle.line_grammar.specs.declared.events.event.EventLine.{EventLine}
use Rattle.line_grammar.specs.declared.events.words.EventFirst.{EventFirst}
use Rattle.line_grammar.specs.declared.events.steer.Steer.{Steer}
use Rattle.line_grammar.specs.declared.events.steer.Steer.TheVariants as steers
use Rattle.script_words.specs.declared.limits.TheConstants.{MOST_REPEATS}
use Rattle.line_grammar.specs.events.EventLines.{event_word, event_of}
use Rattle.line_grammar.specs.events.WellFormed.{IsCount}
use Rattle.script_words.specs.declared.line_error.LineFault.{LineFault}
use Rattle.script_words.specs.declared.line_error.LineFault.TheVariants as faults
use Rattle.script_words.specs.laws.Counts.{with_count, counted}

-- ---- event lines

abbrev pub event_words : CoreEvent → List (List ℕ)
event_words (events.Call thread) = codes "call" ∷ decimal thread ∷ []
event_words events.Commit = codes "commit" ∷ []
event_words events.FlushStep = codes "flush" ∷ []
event_words (events.Writeback pick) = codes "write" ∷ decimal pick ∷ []
event_words events.Submit = codes "submit" ∷ []
event_words events.Accept = codes "accept" ∷ []
event_words (events.Dispatch pick) = codes "dispatch" ∷ decimal pick ∷ []
event_words events.Receive = codes "receive" ∷ []
event_words (events.Transfer pick) = codes "transfer" ∷ decimal pick ∷ []
event_words (events.Persist pick) = codes "persist" ∷ decimal pick ∷ []
event_words events.Answer = codes "answer" ∷ []

-- the words say so many turns, so often
pub record SayTurns (name : List ℕ) (count : ℕ) (ws : List (List ℕ)) : Type 0 where
  pub turns : ℕ
  pub repeats : ℕ
  pub some : IsCount turns
  pub often : IsCount repeats
  pub product : turns * repeats ≡ count
  pub words : with_count ws ≡ counted (name ∷ decimal turns ∷ []) repeats

abbrev pub SayEvent : EventWord → ℕ → List (List ℕ) → Type 0
SayEvent (One event) count ws = with_count ws ≡ counted (event_words event) count
SayEvent Round count ws = SayTurns (codes "round") count ws
SayEvent Back count ws = SayTurns (codes "back") count ws

-- the words of a line say this event line
abbrev pub SaysEvent : EventLine → List (List ℕ) → Type 0
SaysEvent l ws = SayEvent l.what l.count ws

-- ---- one line for each

-- how often so many turns are done at most 1,000,000 at a time: the first number from here on by which they can be parted
unfoldable pub parts_from : ℕ → ℕ → ℕ → ℕ
parts_from zero m count = m
parts_from (suc fuel) m count = if (m * (count / m) == count) && nat_le (count / m) MOST_REPEATS then m else parts_from fuel (m + 1) count

abbrev pub parts_of : ℕ → ℕ
parts_of count = parts_from MOST_REPEATS 1 count

abbrev pub turn_words : List ℕ → ℕ → List (List ℕ)
turn_words name count = counted (name ∷ decimal (count / parts_of count) ∷ []) (parts_of count)

abbrev pub what_words : EventWord → ℕ → List (List ℕ)
what_words (One event) count = counted (event_words event) count
what_words Round count = turn_words (codes "round") count
what_words Back count = turn_words (codes "back") count

-- every event line with its count
abbrev pub event_line_words : EventLine → List (List ℕ)
event_line_words l = what_words l.what l.count

abbrev pub line_after : Option EventFirst → List (List ℕ) → Result EventLine LineFault
line_after None ws = Err faults.Spelling
line_after (Some w) ws = event_of w ws

-- the event line that all words of a line spell
abbrev pub line_of : List (List ℕ) → Result EventLine LineFault
line_of [] = Err faults.Spelling
line_of (w ∷ ws) = line_after (event_word w) ws

-- ---- `recover` lines

abbrev pub steer_text : Steer → List ℕ
steer_text (steers.Transfer pick) = 116 ∷ decimal pick
steer_text (steers.Persist pick) = 112 ∷ decimal pick
steer_text (steers.Default steps) = 100 ∷ decimal steps

abbrev pub steer_words : List Steer → List (List ℕ)
steer_words ss = map steer_text ss
