-- Volume scripts with rounds behind their events, and what these bring them to.
use Rattle.std.specs.Prelude.{ℕ, ◌≤◌, [], ◌∷◌, ◌++◌}
use Rattle.line_grammar.specs.declared.events.event.EventWord.TheVariants.{Round}
use Rattle.tree_model.specs.declared.call.Call.{Call}
use Rattle.tree_model.specs.declared.call.Reply.{Reply}
use Rattle.crash_laws.specs.LegalHistory.{of_thread}
use Rattle.host_machine.specs.State.{Ending}
use Rattle.call_sessions.specs.promises.Entries.{EndsAt}
use Rattle.call_sessions.specs.promises.Legal.{events_in, program_of}
use Rattle.session_grammar.specs.declared.session_script.SessionScript.{SessionScript}
use Rattle.session_core.specs.CallEnds.{EndsByTree}
use Rattle.session_core.specs.Core.{EndState, core, opening_of}
use Rattle.session_core.specs.run.parts.Whole.{IsWhole}
use Rattle.system_laws.specs.answered.Rounds.{HaveEnded}

-- the script with a line of so many rounds behind its events
abbrev pub with_rounds : SessionScript → ℕ → SessionScript
with_rounds s n = record s { events = s.events ++ record { what = Round; count = n } ∷ [] }

-- With so many rounds behind its events, and with any more, no thread has a call left where the session ends.
pub record RoundsEnd (s : SessionScript) : Type 0 where
  pub rounds : ℕ
  pub ended : (n : ℕ) → rounds ≤ n → HaveEnded (core (with_rounds s n)).host

-- Each thread did its whole program, and each call ended with the reply that the tree of calls has for it.
pub record AreAnswered (s : SessionScript) (end : EndState) : Type 0 where
  pub whole : (t : ℕ) → IsWhole (of_thread t (events_in end.host.history)) (program_of s.programs t)
  pub by_tree : (i t : ℕ) (c : Call) (e : Ending Reply) → EndsAt end.host.history i t c e → EndsByTree (opening_of s) end.host i t c e
