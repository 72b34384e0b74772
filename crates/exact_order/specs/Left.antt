-- Which media the events of a script can leave.
use Rattle.std.specs.Prelude.{◌≡◌, ℕ, ◌≤◌, true, false, List, Option, None}
use Rattle.blk_base.specs.Members.{In}
use Rattle.order_model.specs.Device.{origin_ids}
use Rattle.script_words.specs.declared.limits.TheConstants.{MOST_EVENTS}
use Rattle.script_grammar.specs.declared.script.Script.{Script}
use Rattle.script_grammar.specs.declared.script.EventLine.{EventLine}
use Rattle.script_grammar.specs.Grammar.{IsRunnable, is_scheduled}
use Rattle.script_grammar.specs.WellFormed.{IsEventLineOf, expanded_of}
use Rattle.stack_core.specs.Core.{EndState, core}

-- where the requests of a script end under other events
abbrev pub end_under : Script → List EventLine → EndState
end_under s events = core (record s { events = events })

-- events that a text can say of a script of this kind
pub record AreEvents (s : Script) (events : List EventLine) : Type 0 where
  pub lines : (l : EventLine) → In l events → IsEventLineOf (is_scheduled s.kind) l
  pub expanded : expanded_of events ≤ MOST_EVENTS

-- Some events of the script's requests, and a power cut behind them, leave this medium, with these origins of its blocks.
pub record IsLeft (s : Script) (image : List (List ℕ)) (origins : List (Option ℕ)) : Type 0 where
  pub events : List EventLine
  pub said : AreEvents s events
  pub holds : (end_under s events).dev.surface ≡ image
  pub written : origin_ids (end_under s events).dev.took (end_under s events).dev.origins ≡ origins

-- Block requests on the model device behind the plain scheduler, of any depth and with queues of any length. No power cut of its own
-- and no transfer that fails is asked for.
pub record IsPlain (s : Script) : Type 0 where
  pub runnable : IsRunnable s
  pub scheduled : is_scheduled s.kind ≡ true
  pub elevator : s.header.elevator ≡ false
  pub flash : s.header.flash ≡ None
  pub cut : s.header.cut ≡ None
  pub fail : s.header.fail ≡ None
