-- The queue behind a scheduler by itself, and each queue of the block layer among the others.
use Rattle.std.specs.Prelude.{ℕ, List, Option}
use Rattle.order_model.specs.declared.command.Command.{Command}
use Rattle.order_model.specs.declared.request.Request.{Request}
use Rattle.stack_core.specs.BlockLayer.{QueuesState}

-- the queue behind a scheduler, and the command that it has no room for
pub record DispatchState : Type 0 where
  -- the most commands that the queue holds
  pub capacity : ℕ
  -- the command that found it full
  pub kept : Option Command
  -- the commands in it, first in first
  pub dispatched : List Command

-- the queues, with this one behind the scheduler
abbrev pub with_dispatch : QueuesState → DispatchState → QueuesState
with_dispatch s d = record { next = s.next; capacity = d.capacity; submission = s.submission; kept = d.kept; dispatched = d.dispatched }

-- the queues, with these requests before the scheduler
abbrev pub with_submission : QueuesState → List Request → QueuesState
with_submission s requests = record s { submission = requests }
