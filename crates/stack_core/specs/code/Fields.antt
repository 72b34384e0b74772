-- The fields of the queues round a scheduler, and what they keep.
use Rattle.std.specs.Prelude.{◌≡◌}
use Rattle.stack_core.specs.declared.scheduler_queues.SchedulerQueues.TheInside.{Inside}
use Rattle.stack_core.specs.BlockLayer.{QueuesState}

abbrev pub queues_of : Inside → QueuesState
queues_of s = record {
  next = s.next;
  capacity = s.submission.capacity;
  submission = s.submission.held;
  kept = s.behind.kept;
  dispatched = s.behind.dispatched;
}

-- both queues have one capacity
pub record HaveOneCapacity (s : Inside) : Type 0 where
  pub capacity : s.behind.capacity ≡ s.submission.capacity
