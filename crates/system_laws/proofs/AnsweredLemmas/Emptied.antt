-- A session that stands, and one in which all that was submitted has completed in the device.
use Rattle.std.specs.Prelude.{ℕ, ◌≤◌, length}
use Rattle.order_model.specs.Machine.{Machine}
use Rattle.schedulers.specs.reassign.Scheduler.{SchedSteps, IsScheduler}
use Rattle.minix_host.specs.Sessions.{Opening}
use Rattle.session_core.specs.run.machine.Machine.{SessionState}
use Rattle.session_core.proofs.RunLemmas.MachineLemmas.Events.{Holds}
use Rattle.session_core.proofs.RunLemmas.MachineLemmas.HostFits.{HaveBlocks}
use Rattle.system_laws.proofs.AnsweredLemmas.Going.{GoesOn}

module _ {K S : Type 0} (s : Opening) (k : SchedSteps K) (m : Machine S) (sched_valid : K → Type 0) (good : S → Type 0) (left : S → ℕ) (scheduler : IsScheduler k sched_valid) (going : GoesOn m good left) where
  -- its parts fit, the puts go to blocks that are there, and queues and scheduler hold something
  pub record Stands (r : SessionState K S) : Type 0 where
    pub holds : Holds s k m sched_valid good scheduler going.device r
    pub placed : HaveBlocks (length s.image) r.host.journal.flush.requests
    pub queues : 1 ≤ r.queues.capacity
    pub waits : 1 ≤ (k.seen r.sched).capacity
