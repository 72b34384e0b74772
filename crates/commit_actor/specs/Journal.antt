-- The journal's part of the host as plain data, and what is read of it.
use Rattle.std.specs.List.{list_any}
use Rattle.std.specs.Prelude.{ℕ, ◌+◌, ◌-◌, ◌==◌, Bool, true, false, nat_lt, List, Option, Some, None, if◌then◌else◌}
use Rattle.log_model.specs.Marks.{Logged}
use Rattle.journal_ring.specs.LogRing.{LogRing}
use Rattle.journal_ring.specs.running.Plan.{Planned}
use Rattle.journal_ring.specs.running.Running.{Running}
use Rattle.flush_actor.specs.Part.{FlushPart}

-- The commit block of the transaction before the running one is not submitted: what is left of its plan,
-- its bodies and revokes, and the nodes that it changed.
pub record Plan : Type 0 where
  pub rest : List Planned
  pub bodies : List Logged
  pub revokes : List ℕ
  pub changed : List ℕ

-- the running transaction goes on, or is to be closed, or the one before it still has log blocks to submit
pub data Phase : Type 0 where
  Idle : Phase
  Closing : Phase
  Committing : Plan → Phase

-- what was submitted, the ring of the log, the running transaction, and what is being done with it
pub record JournalPart : Type 0 where
  pub flush : FlushPart
  pub ring : LogRing
  pub running : Running
  pub phase : Phase

abbrev pub is_closing : Phase → Bool
is_closing Closing = true
is_closing other = false

-- the closed transaction whose log blocks are still to be submitted
abbrev pub committing : JournalPart → Option ℕ
committing j = elim j.phase as (λ _. Option ℕ) [ Idle ↦ None | Closing ↦ None | Committing p ↦ Some (j.running.number - 1) ]

-- The commit block of transaction k is submitted: all below the running one are closed, and only the last of
-- them may have a plan that is not done.
abbrev pub is_submitted : JournalPart → ℕ → Bool
is_submitted j k = elim j.phase as (λ _. Bool) [ Idle ↦ nat_lt k j.running.number | Closing ↦ nat_lt k j.running.number | Committing p ↦ nat_lt (k + 1) j.running.number ]

-- some transaction whose commit block is not submitted changed the node: the latest such one
abbrev pub latest_change : JournalPart → ℕ → Option ℕ
latest_change j f =
    if list_any (λ g. g == f) j.running.changed then Some j.running.number
    else elim j.phase as (λ _. Option ℕ) [
      | Idle ↦ None
      | Closing ↦ None
      | Committing p ↦ if list_any (λ g. g == f) p.changed then Some (j.running.number - 1) else None
    ]
