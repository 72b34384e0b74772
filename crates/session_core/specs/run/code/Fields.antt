-- The fields of a session's queues, and what they keep.
use Rattle.std.specs.Prelude.{◌≡◌}
use Rattle.session_core.specs.declared.run.queues.SessionQueues.TheInside.{Inside}
use Rattle.session_core.specs.run.code.Queues.{QueuesNow}

-- the fields of a session's queues as plain values
abbrev pub queues_of : Inside → QueuesNow
queues_of s = record {
  capacity = s.submission.capacity;
  submission = s.submission.held;
  dispatched = s.behind.dispatched;
  kept_command = s.behind.kept;
  completions = s.completions.held;
  kept = s.kept;
}

-- all queues have one capacity
pub record HaveOneCapacity (s : Inside) : Type 0 where
  pub dispatched : s.behind.capacity ≡ s.submission.capacity
  pub completions_are : s.completions.capacity ≡ s.submission.capacity
