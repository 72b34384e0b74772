-- The moments of a session, the script of each, and what a power cut there leaves.
use Rattle.std.specs.Prelude.{ℕ, ◌≡◌, ◌+◌, List, [], ◌∷◌, ◌++◌, length, map, take, filter, Result}
use Rattle.std.specs.List.{range_with_len}
use Rattle.order_model.specs.Machine.{Machine}
use Rattle.order_model.specs.declared.request.Request.{Request}
use Rattle.order_model.specs.OrderClosed.{is_flush}
use Rattle.schedulers.specs.reassign.Scheduler.{SchedSteps}
use Rattle.line_grammar.specs.declared.events.event.CoreEvent.{CoreEvent}
use Rattle.line_grammar.specs.declared.events.event.EventLine.{EventLine}
use Rattle.line_grammar.specs.declared.events.event.EventWord.TheVariants.{One}
use Rattle.tree_model.specs.Calls.{Tree}
use Rattle.mount_make.specs.Images.{FaultPlace, image_tree}
use Rattle.call_sessions.specs.power_cuts.calls.CallImages.{found_in}
use Rattle.session_grammar.specs.declared.session_script.SessionScript.{SessionScript}
use Rattle.session_core.specs.run.machine.Machine.{SessionState, opened_session, run_events, events_of}
use Rattle.session_core.specs.declared.report.SessionReport.{SessionReport}
use Rattle.session_core.specs.Core.{EndState, geometry_of, opening_of, start_of, core}

-- ---- moments

-- all events of a script, in order, with their repeats
abbrev pub script_events : SessionScript → List CoreEvent
script_events s = events_of (length s.programs) s.events

-- an event on a line of its own
abbrev pub alone : CoreEvent → EventLine
alone e = record { what = One e; count = 1 }

-- the script with its first i events alone, each on a line of its own
abbrev pub front : SessionScript → ℕ → SessionScript
front s i = record s { events = map alone (take i (script_events s)) }

-- where the session of a script stands after its first i events, on this scheduler and this device
abbrev pub moment : {K S : Type 0} → SessionScript → SchedSteps K → Machine S → K → S → ℕ → SessionState K S
moment s k m sched dev i = run_events (opening_of s) k m (opened_session (opening_of s) (start_of s) sched dev) (take i (script_events s))

-- ---- what a power cut leaves at a moment

-- The outcome of a session that ended so: steps of the device, calls that were answered, flushes that were submitted, how many
-- transactions recovery finds, and the tree that then is there.
pub record Outcome : Type 0 where
  pub steps : ℕ
  pub answered : ℕ
  pub flushes : ℕ
  pub found : ℕ
  pub tree : Result Tree FaultPlace

abbrev pub outcome_of : SessionScript → EndState → Outcome
outcome_of s end = record {
  steps = end.dev.steps;
  answered = length end.host.history;
  flushes = length (filter (λ (r : Request). is_flush r.kind) end.host.journal.flush.requests);
  found = found_in (geometry_of s).zones 1 end.dev.surface;
  tree = image_tree end.dev.surface;
}

-- a report says this outcome
pub record Tells (r : SessionReport) (o : Outcome) : Type 0 where
  pub steps : r.cut.trace.steps ≡ o.steps
  pub answered : length r.host.host.history ≡ o.answered
  pub flushes : length (filter (λ (x : Request). is_flush x.kind) r.host.host.journal.flush.requests) ≡ o.flushes
  pub found : r.found ≡ o.found
  pub tree : image_tree r.cut.image.items ≡ o.tree

-- what a power cut after the first i events leaves
abbrev pub outcome_at : SessionScript → ℕ → Outcome
outcome_at s i = outcome_of s (core (front s i))

-- ---- runs of equal outcomes

-- the same outcome from one moment on, for so many moments
pub record Span : Type 0 where
  pub first : ℕ
  pub count : ℕ
  pub outcome : Outcome

-- the outcomes that spans tell, one behind the other
unfoldable pub told_by : List Span → List Outcome
told_by [] = []
told_by (x ∷ xs) = map (λ _. x.outcome) (range_with_len x.first x.count) ++ told_by xs

-- the outcomes of the moments before this one
abbrev pub outcomes_before : SessionScript → ℕ → List Outcome
outcomes_before s i = map (outcome_at s) (range_with_len 0 i)

-- spans of a sweep: they tell the outcome of each moment, from before the first event to behind the last
abbrev pub AreSpansOf : SessionScript → List Span → Type 0
AreSpansOf s spans = told_by spans ≡ outcomes_before s (length (script_events s) + 1)
