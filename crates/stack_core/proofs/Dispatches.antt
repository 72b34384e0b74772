-- The queue behind a scheduler: what is kept, and what is first.
use Rattle.std.proofs.Common.{◌≡◌, ℕ, List, [], ◌∷◌, drop, Option, Some, None, slice_get, sym, ap, ◌∙◌}
use Rattle.std.proofs.lemmas.Option.{none-some, same_Some}
use Rattle.order_model.specs.declared.command.Command.{Command}
use Rattle.schedulers.specs.reassign.Scheduler.{SchedSteps}
use Rattle.stack_core.specs.BlockLayer.{QueuesState, queued_or_kept_option, layer_dispatched}
use Rattle.stack_core.specs.Dispatching.{DispatchState, with_dispatch}

-- the first of a list, and the others
pub first_is : (l : List Command) (c : Command) → Some c ≡ slice_get l 0 → l ≡ c ∷ drop 1 l
first_is [] c e = absurd (none-some c (sym e))
first_is (x ∷ xs) c e = ap (λ y. y ∷ xs) (same_Some x c (sym e))

module _ {K : Type 0} (k : SchedSteps K) (q : QueuesState) (old now : DispatchState) (s : K) (pick : ℕ) where
  -- the command that was kept was sent
  pub sends_kept : (c : Command) → old.kept ≡ Some c → with_dispatch q now ≡ queued_or_kept_option (with_dispatch q old) old.kept
      → record { queues = with_dispatch q now; sched = s } ≡ layer_dispatched k (record { queues = with_dispatch q old; sched = s }) pick
  sends_kept c some sent = rw some (ap (λ x. record { queues = x; sched = s }) (sent ∙ ap (queued_or_kept_option (with_dispatch q old)) some))

  -- where none was, the scheduler's was kept, and then sent
  pub sends_picked : (new : K) (o : Option Command) → old.kept ≡ None → k.command s pick ≡ o → new ≡ k.dispatched s pick
      → with_dispatch q now ≡ queued_or_kept_option (with_dispatch q (record old { kept = o })) o
      → record { queues = with_dispatch q now; sched = new } ≡ layer_dispatched k (record { queues = with_dispatch q old; sched = s }) pick
  sends_picked new None none command state sent = rw (none, command, state) (ap (λ x. record { queues = x; sched = k.dispatched s pick }) sent)
  sends_picked new (Some c) none command state sent = rw (none, command, state) (ap (λ x. record { queues = x; sched = k.dispatched s pick }) sent)
