-- What a dispatch does with the command that is kept, from its definition.
use Rattle.std.specs.Prelude.{◌≡◌, ◌<◌, ◌≤◌, ◌++◌, ℕ, [], ◌∷◌, length, Option, Some, None, refl}
use Rattle.std.proofs.Common.{sym, ap, ◌∙◌}
use Rattle.std.proofs.lemmas.Bool.{lt-ltb, le-ltb}
use Rattle.order_model.specs.declared.command.Command.{Command}
use Rattle.schedulers.specs.reassign.Scheduler.{SchedSteps}
use Rattle.stack_core.specs.BlockLayer.{QueuesState, BlockLayer, queued_or_kept, queued_or_kept_option, dispatched_from, layer_dispatched}

in_room : (q : QueuesState) (c : Command) → length q.dispatched < q.capacity → queued_or_kept q c ≡ record q { kept = None; dispatched = q.dispatched ++ c ∷ [] }
in_room q c few = rw (lt-ltb (length q.dispatched) q.capacity few) refl

without_room : (q : QueuesState) (c : Command) → q.capacity ≤ length q.dispatched → queued_or_kept q c ≡ record q { kept = Some c }
without_room q c full = rw (le-ltb (length q.dispatched) q.capacity full) refl

module _ (K : Type 0) (k : SchedSteps K) (layer : BlockLayer K) (pick : ℕ) (c : Command) where
  pub found_full : layer.queues.kept ≡ None → k.command layer.sched pick ≡ Some c → layer.queues.capacity ≤ length layer.queues.dispatched
      → layer_dispatched k layer pick ≡ record { queues = record layer.queues { kept = Some c }; sched = k.dispatched layer.sched pick }
  found_full none comes full =
      ap (dispatched_from k layer pick) none
      ∙ ap (λ (q : QueuesState). let next : BlockLayer K = record { queues = q; sched = k.dispatched layer.sched pick } in next)
      (ap (queued_or_kept_option layer.queues) comes ∙ without_room layer.queues c full)

  pub sent_alone : layer.queues.kept ≡ Some c → length layer.queues.dispatched < layer.queues.capacity
      → layer_dispatched k layer pick ≡ record layer { queues = record layer.queues { kept = None; dispatched = layer.queues.dispatched ++ c ∷ [] } }
  sent_alone kept few =
      ap (dispatched_from k layer pick) kept
      ∙ ap (λ (q : QueuesState). let next : BlockLayer K = record { queues = q; sched = layer.sched } in next) (in_room layer.queues c few)

  pub waits_on : layer.queues.kept ≡ Some c → layer.queues.capacity ≤ length layer.queues.dispatched → layer_dispatched k layer pick ≡ layer
  waits_on kept full =
      ap (dispatched_from k layer pick) kept
      ∙ ap (λ (q : QueuesState). let next : BlockLayer K = record { queues = q; sched = layer.sched } in next)
      (without_room layer.queues c full ∙ ap (λ (o : Option Command). record layer.queues { kept = o }) (sym kept))
