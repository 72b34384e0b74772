-- What waits in a device's queue, and what was not done.
use Rattle.std.specs.Prelude.{◌≡◌, false, [], None}
use Rattle.std.proofs.Common.{sym, subst}
use Rattle.blk_base.specs.Members.{In}
use Rattle.device_epochs.specs.queue.Queue.{Waiting, AreNumbered}
use Rattle.device_epochs.specs.queue.laws.PendingLaws.{waits-pending, nothing-lost, all-wait, in_queue-numbered, empty-waits}
use Rattle.device_epochs.specs.queue.Facts.{PendingFacts}
use Rattle.flog_device.specs.Device.{FlogState}
use Rattle.flog_device.specs.laws.Valid.{IsValid}

pub waits : (s : FlogState) (v : IsValid s) (w : Waiting) → In w s.queue.waiting → In w v.pending
waits s v w h = waits-pending s.queue.waiting v.pending v.lost s.failed w v.losses h

pub numbered : (s : FlogState) → IsValid s → AreNumbered s.queue.next s.queue.waiting
numbered s v = subst (AreNumbered s.queue.next) (sym v.losses.queue) (in_queue-numbered s.queue.next v.lost v.pending v.queue.numbered)

pub pending-is : (s : FlogState) (v : IsValid s) → s.failed ≡ false → v.pending ≡ s.queue.waiting
pending-is s v n = sym (all-wait s.queue.waiting v.pending v.lost s.failed v.losses n)

pub lost-none : (s : FlogState) (v : IsValid s) → s.failed ≡ false → v.lost ≡ None
lost-none s v n = nothing-lost s.queue.waiting v.pending v.lost s.failed v.losses n

pub none-pending : (s : FlogState) (v : IsValid s) → v.pending ≡ [] → (s.queue.waiting ≡ []) × (s.failed ≡ false)
none-pending s v e = empty-waits s.queue.waiting v.lost s.failed (subst (λ ws. PendingFacts s.queue.waiting ws v.lost s.failed) e v.losses)
