-- What the events of one request do to a stack with empty queues.
use Rattle.std.proofs.Common.{◌≡◌, ℕ, ◌+◌, ◌<◌, true, Bool, List, [], ◌∷◌, length, Some, None, slice_get, if◌then◌else◌, refl, ap, ◌∙◌}
use Rattle.std.specs.Option.{option_map}
use Rattle.std.proofs.lemmas.Bool.{lt-ltb}
use Rattle.order_model.specs.declared.command.Command.{Command}
use Rattle.order_model.specs.declared.request.Request.{Request}
use Rattle.schedulers.specs.reassign.Epoch.{Waiting, can_accept, picked}
use Rattle.schedulers.specs.reassign.Sched.{SchedState, sched_steps, accepted, sent, command_of}
use Rattle.device_epochs.specs.Device.{DeviceState, has_room, received}
use Rattle.script_grammar.specs.declared.script.EventLine.{EventLine}
use Rattle.script_grammar.specs.declared.script.CoreEvent.TheVariants.{Submit, Accept, Dispatch, Receive, Transfer, Persist}
use Rattle.stack_core.specs.declared.request_path.RequestPath.TheVariants.{Scheduled}
use Rattle.stack_core.specs.BlockLayer.{QueuesState, submitted, queued_or_kept_option}
use Rattle.stack_core.specs.Core.{RunState, happens, run_lines, epoch_machine}
use Rattle.exact_order.specs.Events.{sent_through, left_waiting}
use Rattle.exact_order.proofs.Alone.{passed}

-- these many requests were submitted, and the queues hold these requests and these commands
abbrev queues : ℕ → ℕ → List Request → List Command → QueuesState
queues capacity next submission dispatched = record { next = next; capacity = capacity; submission = submission; kept = None; dispatched = dispatched }

abbrev layer : QueuesState → SchedState → DeviceState → RunState SchedState DeviceState
layer queues sched dev = record { path = Scheduled queues; sched = sched; dev = dev }

-- nothing is between host, scheduler and device
abbrev pub resting : ℕ → ℕ → SchedState → DeviceState → RunState SchedState DeviceState
resting capacity next sched dev = layer (queues capacity next [] []) sched dev

-- where the run of requests ends from this state, under these events
abbrev pub run : List Request → RunState SchedState DeviceState → List EventLine → RunState SchedState DeviceState
run rs r events = run_lines sched_steps epoch_machine rs r events

module _ (rs : List Request) (q n : ℕ) (p : Request) (some : 0 < q) (at : slice_get rs n ≡ Some p) (s : SchedState) (d : DeviceState) (can : can_accept s.queue ≡ true) where
  submitted-is : submitted rs (queues q n [] []) ≡ queues q (n + 1) (p ∷ []) []
  submitted-is = rw (lt-ltb 0 q some) (rw at refl)

  submit-is : happens sched_steps epoch_machine rs (resting q n s d) Submit ≡ layer (queues q (n + 1) (p ∷ []) []) s d
  submit-is = ap (λ x. layer x s d) submitted-is

  accept-is : happens sched_steps epoch_machine rs (layer (queues q (n + 1) (p ∷ []) []) s d) Accept ≡ resting q (n + 1) (accepted s p) d
  accept-is = rw can refl

  -- submitted and accepted
  pub run-waiting : (rest : List EventLine) → run rs (resting q n s d) (left_waiting rest) ≡ run rs (resting q (n + 1) (accepted s p) d) rest
  unfolding run_lines
  run-waiting rest =
      ap (λ r. run_lines sched_steps epoch_machine rs (happens sched_steps epoch_machine rs r Accept) rest) submit-is
      ∙ ap (λ r. run_lines sched_steps epoch_machine rs r rest) accept-is

  module _ (pick : ℕ) (w : Waiting) (leaves : picked (accepted s p).queue pick ≡ Some w) (room : has_room d ≡ true) where
    abbrev command : Command
    command = command_of (accepted s p).queue w

    dispatch-is : happens sched_steps epoch_machine rs (resting q (n + 1) (accepted s p) d) (Dispatch pick) ≡ layer (queues q (n + 1) [] (command ∷ [])) (sent (accepted s p) (Some w)) d
    dispatch-is =
        ap (λ o. layer (queued_or_kept_option (queues q (n + 1) [] []) (option_map (command_of (accepted s p).queue) o)) (sent (accepted s p) o) d) leaves
        ∙ ap (λ (b : Bool). layer (if b then queues q (n + 1) [] (command ∷ []) else record (queues q (n + 1) [] []) { kept = Some command }) (sent (accepted s p) (Some w)) d) (lt-ltb 0 q some)

    receive-is : happens sched_steps epoch_machine rs (layer (queues q (n + 1) [] (command ∷ [])) (sent (accepted s p) (Some w)) d) Receive ≡ resting q (n + 1) (sent (accepted s p) (Some w)) (received d command)
    receive-is = rw room refl

    -- submitted, accepted, sent out, received, transferred and written
    pub run-through : (held : List ℕ) → length held ≡ pick → (rest : List EventLine)
        → run rs (resting q n s d) (sent_through held rest) ≡ run rs (resting q (n + 1) (sent (accepted s p) (Some w)) (passed d command)) rest
    unfolding run_lines
    run-through held same rest =
        let go : RunState SchedState DeviceState → RunState SchedState DeviceState = λ r. run_lines sched_steps epoch_machine rs (happens sched_steps epoch_machine rs (happens sched_steps epoch_machine rs r (Transfer 0)) (Persist 0)) rest in
        ap (λ r. go (happens sched_steps epoch_machine rs (happens sched_steps epoch_machine rs (happens sched_steps epoch_machine rs r Accept) (Dispatch (length held))) Receive)) submit-is
        ∙ ap (λ r. go (happens sched_steps epoch_machine rs (happens sched_steps epoch_machine rs r (Dispatch (length held))) Receive)) accept-is
        ∙ ap (λ k. go (happens sched_steps epoch_machine rs (happens sched_steps epoch_machine rs (resting q (n + 1) (accepted s p) d) (Dispatch k)) Receive)) same
        ∙ ap (λ r. go (happens sched_steps epoch_machine rs r Receive)) dispatch-is
        ∙ ap go receive-is
