-- Host, scheduler and device that ran apart, and how they fit once they are brought together.
use Rattle.std.specs.Prelude.{List}
use Rattle.order_model.specs.declared.completion.Completion.{Completion}
use Rattle.order_model.specs.declared.request.Request.{Request}
use Rattle.order_model.specs.Carrying.{SchedSeen, IsPrefixOf}
use Rattle.order_model.specs.Device.{Seen, IsSurface, KeepsEpochOrder, KeepsFlush, Completes}

-- what the laws of devices say of the state that a device is in
pub record IsLawful (d : Seen) : Type 0 where
  -- each block holds the body of a part that was transferred, or what the device was made with
  pub surface : IsSurface d
  -- where a part after a barrier is kept, so are all up to the barrier; parts of one block are kept in order
  pub epochs : KeepsEpochOrder d
  -- where a flush completed, all before it is kept
  pub flush : KeepsFlush d
  -- each id completes at most once; only moved parts complete as moved, and only such are kept
  pub completes : Completes d

-- What the scheduler accepted are the first requests that were submitted, what the device took are the first commands that were
-- sent out, and the completions that the host took are the first that the device sent. Nothing else is known of when each came.
pub record PartsFit (requests : List Request) (taken : List Completion) (p : SchedSeen) (d : Seen) : Type 0 where
  pub accepted : IsPrefixOf p.accepted requests
  pub received : IsPrefixOf d.took p.sent_out
  pub taken_is : IsPrefixOf taken d.sent
