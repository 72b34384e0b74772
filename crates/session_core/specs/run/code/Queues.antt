-- The queues of a session, as plain values.
use Rattle.std.specs.Prelude.{ℕ, List, [], ◌∷◌, ◌++◌, Option, None, Some, if◌then◌else◌}
use Rattle.order_model.specs.declared.command.Command.{Command}
use Rattle.order_model.specs.declared.completion.Completion.{Completion}
use Rattle.order_model.specs.declared.request.Request.{Request}
use Rattle.stack_core.specs.BlockLayer.{QueuesState}
use Rattle.session_core.specs.run.machine.Machine.{is_full}

-- the queues between host, scheduler and device
pub record QueuesNow : Type 0 where
  -- the most items that each queue holds
  pub capacity : ℕ
  -- the requests before the scheduler, first in first
  pub submission : List Request
  -- the commands behind it, and the one that found their queue full
  pub dispatched : List Command
  pub kept_command : Option Command
  -- the completions on their way to the host, and the one that found their queue full
  pub completions : List Completion
  pub kept : Option Completion

-- empty queues of this capacity
abbrev pub no_items : ℕ → QueuesNow
no_items capacity = record { capacity = capacity; submission = []; dispatched = []; kept_command = None; completions = []; kept = None }

-- these requests go behind the others
abbrev pub with_sent : QueuesNow → List Request → QueuesNow
with_sent q requests = record q { submission = q.submission ++ requests }

-- the completion goes into its queue; where that is full, it is kept
abbrev pub with_completion : QueuesNow → Completion → QueuesNow
with_completion q c = if is_full q.capacity q.completions then record q { kept = Some c } else record q { completions = q.completions ++ c ∷ []; kept = None }

-- those of the block layer, where so many requests were submitted
abbrev pub layer_queues : ℕ → QueuesNow → QueuesState
layer_queues submitted q = record { next = submitted; capacity = q.capacity; submission = q.submission; kept = q.kept_command; dispatched = q.dispatched }
