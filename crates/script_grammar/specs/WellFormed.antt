-- What holds of every script that is read, and of no other script.
use Rattle.std.specs.Prelude.{◌≡◌, ℕ, ◌+◌, ◌<◌, ◌≤◌, Bool, true, false, List, [], ◌∷◌, Some}
use Rattle.blk_base.specs.Block.{filled}
use Rattle.blk_base.specs.Members.{In}
use Rattle.order_model.specs.declared.request.Request.{Request}
use Rattle.order_model.specs.declared.request.Kind.TheVariants.{Put}
use Rattle.script_words.specs.declared.limits.TheConstants.{MOST_EVENTS, MOST_REPEATS, PLACES}
use Rattle.script_grammar.specs.declared.limits.TheConstants.{DEFAULT_QUEUE, MOST_STEPS, MOST_TRANSFERS}
use Rattle.script_grammar.specs.declared.script.Script.{Script}
use Rattle.script_grammar.specs.declared.script.EventLine.{EventLine}
use Rattle.script_grammar.specs.declared.script.EventWord.{EventWord}
use Rattle.script_grammar.specs.declared.script.EventWord.TheVariants.{One}
use Rattle.script_grammar.specs.declared.script.CoreEvent.{CoreEvent}
use Rattle.script_grammar.specs.declared.script.CoreEvent.TheVariants.{Submit, Accept, Dispatch, Receive, Transfer, Persist}
use Rattle.script_grammar.specs.Grammar.{is_scheduled, IsRunnable}

-- the event may stand in a script of this kind, and picks below 2^32
abbrev pub IsEventOf : Bool → CoreEvent → Type 0
IsEventOf scheduled Submit = scheduled ≡ true
IsEventOf scheduled Accept = scheduled ≡ true
IsEventOf scheduled (Dispatch pick) = (scheduled ≡ true) × (pick < PLACES)
IsEventOf scheduled Receive = Unit {0}
IsEventOf scheduled (Transfer pick) = pick < PLACES
IsEventOf scheduled (Persist pick) = pick < PLACES

abbrev pub IsWordOf : Bool → EventWord → Type 0
IsWordOf scheduled (One event) = IsEventOf scheduled event

-- an event line with its count, 1 to 1,000,000
pub record IsEventLineOf (scheduled : Bool) (l : EventLine) : Type 0 where
  pub event : IsWordOf scheduled l.what
  pub some : 1 ≤ l.count
  pub most : l.count ≤ MOST_REPEATS

-- how many events the lines are, with their repeats
abbrev pub expanded_of : List EventLine → ℕ
expanded_of [] = 0
expanded_of (l ∷ ls) = l.count + expanded_of ls

-- a put's body is one byte all over
abbrev pub IsFilled : Request → Type 0
IsFilled q = (block : ℕ) (body : List ℕ) → q.kind ≡ Put block body → (value : ℕ) × (value < 256) × (body ≡ filled value)

-- a script that can be run, with events and header lines of its kind, and with numbers within their limits
pub record IsWellFormed (s : Script) : Type 0 where
  pub runnable : IsRunnable s
  -- no line of a device script speaks of the queues or the scheduler
  pub plain_queue : is_scheduled s.kind ≡ false → s.header.queue ≡ DEFAULT_QUEUE
  pub no_elevator : is_scheduled s.kind ≡ false → s.header.elevator ≡ false
  pub fail : (n : ℕ) → s.header.fail ≡ Some n → (1 ≤ n) × (n ≤ MOST_TRANSFERS)
  pub cut : (n : ℕ) → s.header.cut ≡ Some n → n ≤ MOST_STEPS
  pub filled : (q : Request) → In q s.puts → IsFilled q
  pub events : (l : EventLine) → In l s.events → IsEventLineOf (is_scheduled s.kind) l
  pub expanded : expanded_of s.events ≤ MOST_EVENTS
