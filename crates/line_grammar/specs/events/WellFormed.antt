-- What holds of every event line and every `recover` line that is read, and of no other.
use Rattle.std.specs.Prelude.{◌≡◌, ℕ, ◌*◌, ◌<◌, ◌≤◌, List, length}
use Rattle.blk_base.specs.Members.{In}
use Rattle.line_grammar.specs.declared.events.event.CoreEvent.{CoreEvent}
use Rattle.line_grammar.specs.declared.events.event.CoreEvent.TheVariants as events
use Rattle.line_grammar.specs.declared.events.event.EventWord.{EventWord}
use Rattle.line_grammar.specs.declared.events.event.EventWord.TheVariants.{One, Round, Back}
use Rattle.line_grammar.specs.declared.events.event.EventLine.{EventLine}
use Rattle.line_grammar.specs.declared.events.steer.Steer.{Steer}
use Rattle.line_grammar.specs.declared.events.steer.Steer.TheVariants as steers
use Rattle.script_words.specs.declared.limits.TheConstants.{MOST_EVENTS, MOST_REPEATS, PLACES}
use Rattle.line_grammar.specs.declared.events.limits.TheConstants.{MOST_DEFAULTS, MOST_STEERS}

-- 1 to 1,000,000
pub record IsCount (count : ℕ) : Type 0 where
  pub some : 1 ≤ count
  pub most : count ≤ MOST_REPEATS

-- threads and places are below 2^32
abbrev pub IsEvent : CoreEvent → Type 0
IsEvent (events.Call thread) = thread < PLACES
IsEvent events.Commit = Unit {0}
IsEvent events.FlushStep = Unit {0}
IsEvent (events.Writeback pick) = pick < PLACES
IsEvent events.Submit = Unit {0}
IsEvent events.Accept = Unit {0}
IsEvent (events.Dispatch pick) = pick < PLACES
IsEvent events.Receive = Unit {0}
IsEvent (events.Transfer pick) = pick < PLACES
IsEvent (events.Persist pick) = pick < PLACES
IsEvent events.Answer = Unit {0}

-- so many turns, so often, which are at most 20,000,000 events
pub record AreTurns (count : ℕ) : Type 0 where
  pub turns : ℕ
  pub repeats : ℕ
  pub some : IsCount turns
  pub often : IsCount repeats
  pub product : turns * repeats ≡ count
  pub most : 8 * count ≤ MOST_EVENTS

-- one event has a count, and turns have the product of their two numbers
abbrev pub IsLineOf : EventWord → ℕ → Type 0
IsLineOf (One event) count = IsEvent event × IsCount count
IsLineOf Round count = AreTurns count
IsLineOf Back count = AreTurns count

abbrev pub IsEventLine : EventLine → Type 0
IsEventLine l = IsLineOf l.what l.count

-- a pick is below 2^32, and a recovery takes at most 1,000,000 steps by itself for one word
abbrev pub IsSteer : Steer → Type 0
IsSteer (steers.Transfer pick) = pick < PLACES
IsSteer (steers.Persist pick) = pick < PLACES
IsSteer (steers.Default steps) = steps ≤ MOST_DEFAULTS

pub record IsSteerLine (ss : List Steer) : Type 0 where
  pub few : length ss ≤ MOST_STEERS
  pub each : (s : Steer) → In s ss → IsSteer s
