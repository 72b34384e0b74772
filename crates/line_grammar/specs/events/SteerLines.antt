-- Which words are a `recover` line, and the fault of those that are none.
use Rattle.std.specs.Prelude.{ℕ, ◌==◌, Bool, nat_lt, nat_le, if◌then◌else◌, List, [], ◌∷◌, length, Option, Some, None, Result, Ok, Err}
use Rattle.line_grammar.specs.declared.events.steer.Steer.{Steer}
use Rattle.line_grammar.specs.declared.events.steer.Steer.TheVariants as steers
use Rattle.script_words.specs.declared.limits.TheConstants.{PLACES}
use Rattle.line_grammar.specs.declared.events.limits.TheConstants.{MOST_DEFAULTS, MOST_STEERS}
use Rattle.script_words.specs.declared.line_error.LineFault.{LineFault}
use Rattle.script_words.specs.declared.line_error.LineFault.TheVariants as faults
use Rattle.script_words.specs.Spelling.{numeral}

-- a number that is not within its limit is the fault
abbrev pub if_within : Bool → Steer → Result Steer LineFault
if_within within s = if within then Ok s else Err faults.Number

-- t, p or d, and a number right behind it
abbrev pub steer_taken : ℕ → Option ℕ → Result Steer LineFault
steer_taken letter None = Err faults.Spelling
steer_taken letter (Some n) =
    if letter == 116 then if_within (nat_lt n PLACES) (steers.Transfer n)
    else if letter == 112 then if_within (nat_lt n PLACES) (steers.Persist n)
    else if letter == 100 then if_within (nat_le n MOST_DEFAULTS) (steers.Default n)
    else Err faults.Spelling

-- a letter with its number, as one word
abbrev pub steer_of : List ℕ → Result Steer LineFault
steer_of [] = Err faults.Spelling
steer_of (b ∷ bs) = steer_taken b (numeral bs)

-- a fault of the spelling counts before one of a number, wherever it stands
abbrev pub before_all : Result Steer LineFault → Result (List Steer) LineFault → Result (List Steer) LineFault
before_all (Ok s) (Ok ss) = Ok (s ∷ ss)
before_all (Ok s) (Err fault) = Err fault
before_all (Err faults.Spelling) rest = Err faults.Spelling
before_all (Err faults.Number) (Ok ss) = Err faults.Number
before_all (Err faults.Number) (Err fault) = Err fault

unfoldable pub all_of : List (List ℕ) → Result (List Steer) LineFault
all_of [] = Ok []
all_of (w ∷ ws) = before_all (steer_of w) (all_of ws)

-- The words behind `recover`, at most 1,000, or their fault.
abbrev pub steers_of : List (List ℕ) → Result (List Steer) LineFault
steers_of ws = if nat_le (length ws) MOST_STEERS then all_of ws else Err faults.Spelling
