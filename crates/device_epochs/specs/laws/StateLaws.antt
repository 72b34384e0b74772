-- What waits in the queue of a state, and what was not done.
use Rattle.std.specs.Prelude.{◌≡◌, ◌≤◌, false, [], None}
use Rattle.std.proofs.Common.{sym, subst, arith}
use Rattle.blk_base.specs.Members.{In}
use Rattle.device_epochs.specs.queue.Queue.{Waiting, AreNumbered}
use Rattle.device_epochs.specs.queue.Facts.{PendingFacts, QueueFacts, with_waiting}
use Rattle.device_epochs.specs.queue.laws.PendingLaws.{waits-pending, nothing-lost, all-wait, in_queue-numbered, empty-waits, two-or-one}
use Rattle.device_epochs.specs.Device.{DeviceState}
use Rattle.device_epochs.specs.laws.Valid.{IsValid}

pub waits : (s : DeviceState) (v : IsValid s) (w : Waiting) → In w s.queue.waiting → In w v.pending
waits s v w h = waits-pending s.queue.waiting v.pending v.lost s.failed w v.losses h

pub numbered : (s : DeviceState) → IsValid s → AreNumbered s.queue.next s.queue.waiting
numbered s v = subst (AreNumbered s.queue.next) (sym v.losses.queue) (in_queue-numbered s.queue.next v.lost v.pending v.queue.numbered)

pub pending-is : (s : DeviceState) (v : IsValid s) → s.failed ≡ false → v.pending ≡ s.queue.waiting
pending-is s v n = sym (all-wait s.queue.waiting v.pending v.lost s.failed v.losses n)

pub lost-none : (s : DeviceState) (v : IsValid s) → s.failed ≡ false → v.lost ≡ None
lost-none s v n = nothing-lost s.queue.waiting v.pending v.lost s.failed v.losses n

pub none-pending : (s : DeviceState) (v : IsValid s) → v.pending ≡ [] → (s.queue.waiting ≡ []) × (s.failed ≡ false)
none-pending s v e = empty-waits s.queue.waiting v.lost s.failed (subst (λ ws. PendingFacts s.queue.waiting ws v.lost s.failed) e v.losses)

-- where no transfer failed, the facts are those of the queue
pub queue-facts : (s : DeviceState) → IsValid s → s.failed ≡ false → QueueFacts s.took s.queue
queue-facts s v n =
    let f = subst (λ ws. QueueFacts s.took (with_waiting s.queue ws)) (pending-is s v n) v.queue in
    record { some_depth = f.some_depth; next = f.next; numbered = f.numbered; queued = f.queued; passed = f.passed }

-- there is room in the count for one more
pub faults-lt : (s : DeviceState) → IsValid s → s.faults ≤ 2
faults-lt s v = let few = v.faults.few in let most = two-or-one s.failed in omega arith
