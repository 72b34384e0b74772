-- How a caller stands.
use Rattle.std.specs.Prelude.{◌≡◌, ◌≤◌, ◌^◌, ℕ, ◌-◌, ◌==◌, List, length, Option, Some, None, slice_get, slice_index_or, if◌then◌else◌}
use Rattle.tree_model.specs.declared.call.Call.{Call}
use Rattle.flush_actor.specs.conflicts.Conflicts.{least, holder}
use Rattle.flush_actor.specs.Waits.{no_wait}
use Rattle.flush_actor.specs.declared.wait.Wait.{Wait}
use Rattle.commit_actor.specs.Journal.{JournalPart}
use Rattle.host_answers.specs.declared.standing.Stand.{Stand}
use Rattle.host_answers.specs.declared.standing.Stand.TheVariants.{Fresh, Sending, Conflict, Commit, Durable}
use Rattle.host_answers.specs.declared.standing.Standing.{Standing}
use Rattle.host_machine.specs.State.{Begun, Thread}
use Rattle.host_core.specs.Now.{HostNow}

-- a call waits for transaction k
abbrev pub for_commit : JournalPart → ℕ → Stand
for_commit j k =
    if k == j.running.number then
    elim (least j.flush.conflicts) as (λ _. Stand) [ Some b ↦ Conflict b (holder j.flush.conflicts.held b) | None ↦ Commit k ]
    else Commit k

-- a call that has begun sends its pages until it is fixed what it waits for
abbrev pub begun_stand : JournalPart → Wait → Stand
begun_stand j w =
    elim w.need as (λ _. Stand) [ Some id ↦ Durable id | None ↦ elim w.target as (λ _. Stand) [ Some k ↦ for_commit j k | None ↦ Sending ] ]

-- how a caller stands whose call has begun, or who has no such call
abbrev pub stand_of : JournalPart → Wait → Option Begun → Stand
stand_of j w None = Fresh
stand_of j w (Some b) = begun_stand j w

-- threads are counted from 1
abbrev pub standing_in : HostNow → ℕ → List Call → Thread Call → Standing
standing_in h t program th = record {
  answered = length program - length th.calls;
  calls = length program;
  state = stand_of h.host.journal (slice_index_or h.host.journal.flush.waits (t - 1) no_wait) th.begun;
}

-- how a thread stands, if it is there
abbrev pub standing_of : HostNow → ℕ → Option Standing
standing_of h t =
    elim (slice_get h.programs (t - 1)) as (λ _. Option Standing) [
      | None ↦ None
      | Some program ↦ elim (slice_get h.host.threads (t - 1)) as (λ _. Option Standing) [ None ↦ None | Some th ↦ Some (standing_in h t program th) ]
    ]

-- it is of a call that waits for a transaction whose number has more than 32 bits
pub record IsTooGreat (w : Wait) : Type 0 where
  pub tx : ℕ
  pub target : w.target ≡ Some tx
  pub great : 2 ^ 32 ≤ tx
