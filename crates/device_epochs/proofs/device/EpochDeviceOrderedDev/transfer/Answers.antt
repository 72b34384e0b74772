use Rattle.std.proofs.Common.{◌<◌, ◌++◌, List, length, length-append, sym, ap, subst, ◌∙◌, arith}
use Rattle.circular_buffer.specs.Buffer.{Buffer}
use Rattle.order_model.specs.declared.part.Part.{Part}
use Rattle.order_model.specs.declared.completion.Completion.{Completion}
use Rattle.order_model.specs.declared.history.Transfer.{Transfer}
use Rattle.order_model.specs.History.{HistoryState}
use Rattle.device_epochs.specs.queue.Queue.{Waiting, departed}
use Rattle.order_model.specs.Received.{transfers}
use Rattle.device_epochs.specs.Cache.{entries, put_all}
use Rattle.device_epochs.specs.Device.{DeviceState, transferable, transferred}
use Rattle.device_epochs.specs.laws.Valid.{IsValid}
use Rattle.device_epochs.specs.code.Fields.{state_of}
use Rattle.device_epochs.specs.queue.laws.CompletionLaws.{failures-split}
use Rattle.device_epochs.specs.queue.laws.EpochLaws.{length-transfers}
use Rattle.device_epochs.specs.laws.StepLaws.{no_transfer}
use Rattle.device_epochs.proofs.Moves.{can_move_from, failed_to, moved_to, a_step, no_step, held-le, no_command-le}
use Rattle.device_epochs.proofs.device.EpochDeviceOrderedDev.transfer.Goals as goal

pub returns-then-is_held-clause-when : goal.returns-then-is_held-clause-when
returns-then-is_held-clause-when c =
    no_step (length (transferable c.args.self.now)) c.args.pick (held-le c.args.self.now c.args.pick c.is_held.ensures.valid c.if-is_held.ensures.value)

pub returns-then-is_held-clause-state : goal.returns-then-is_held-clause-state
returns-then-is_held-clause-state c =
    sym (no_transfer c.args.self.now c.args.pick (held-le c.args.self.now c.args.pick c.is_held.ensures.valid c.if-is_held.ensures.value))

pub returns-in_default-clause-when : goal.returns-in_default-clause-when
returns-in_default-clause-when c =
    no_step (length (transferable c.args.self.now)) c.args.pick
    (no_command-le c.self.inside c.args.self.now c.args.pick c.self.invariant c.self.view_is c.if-is_held.ensures.value c.in_default.ensures)

pub returns-in_default-clause-state : goal.returns-in_default-clause-state
returns-in_default-clause-state c =
    sym (no_transfer c.args.self.now c.args.pick
    (no_command-le c.self.inside c.args.self.now c.args.pick c.self.invariant c.self.view_is c.if-is_held.ensures.value c.in_default.ensures))

-- ---- the transfer fails

pub complete_failed-requires : goal.complete_failed-requires
complete_failed-requires c =
    let can = can_move_from c.self.inside c.args.self.now c.args.pick c.in-Some.number c.in-Some-peek.command.now c.self.invariant c.self.view_is c.if-is_held.ensures.value c.in-Some.ensures c.in-Some-peek.ensures in
    let room = c.self.invariant.waiting in
    let few = can.failures in
    let split = ap length (failures-split c.in-Some-peek.command.now) in
    omega (arith, few, room, split)

pub overflow_add-self : goal.overflow_add-self
overflow_add-self c =
    let can = can_move_from c.self.inside c.args.self.now c.args.pick c.in-Some.number c.in-Some-peek.command.now c.self.invariant c.self.view_is c.if-is_held.ensures.value c.in-Some.ensures c.in-Some-peek.ensures in
    omega (arith, can.made, c.self.invariant.few)

pub overflow_add-self-then-is_number : goal.overflow_add-self-then-is_number
overflow_add-self-then-is_number c =
    let can = can_move_from c.self.inside c.args.self.now c.args.pick c.in-Some.number c.in-Some-peek.command.now c.self.invariant c.self.view_is c.if-is_held.ensures.value c.in-Some.ensures c.in-Some-peek.ensures in
    omega (arith, can.steps, c.self.invariant.few)

pub invariant_of-self : goal.invariant_of-self
invariant_of-self c =
    let can = can_move_from c.self.inside c.args.self.now c.args.pick c.in-Some.number c.in-Some-peek.command.now c.self.invariant c.self.view_is c.if-is_held.ensures.value c.in-Some.ensures c.in-Some-peek.ensures in
    let d = c.self.inside in
    let s = state_of d in
    let h = c.self.invariant in
    let w : Waiting = record { number = c.in-Some.number; command = c.in-Some-peek.command.now } in
    let waiting = ap (λ (b : Buffer Completion). b.items) c.complete_failed.ensures ∙ ap (λ (l : List Completion). s.waiting ++ l) (sym (failures-split w.command)) in
    let queue = c.leave.ensures ∙ ap (departed d.queue) can.picked in
    let to = failed_to s w c.complete_failed.new.waiting.items c.leave.new.self waiting queue in
    let waiting_room = ap (λ (b : Buffer Completion). b.capacity) c.complete_failed.ensures in
    record {
      valid = subst IsValid (can.fails (sym c.if-is_number.ensures) ∙ sym to) can.valid;
      few = h.few;
      took = h.took;
      moved = h.moved;
      sent = h.sent;
      waiting = omega (arith, waiting_room, h.waiting);
      cache = h.cache;
      blocks = h.blocks;
      appended = h.appended;
    }

pub returns-then-is_number-clause-when : goal.returns-then-is_number-clause-when
returns-then-is_number-clause-when c =
    let can = can_move_from c.self.inside c.args.self.now c.args.pick c.in-Some.number c.in-Some-peek.command.now c.self.invariant c.self.view_is c.if-is_held.ensures.value c.in-Some.ensures c.in-Some-peek.ensures in
    a_step (length (transferable c.args.self.now)) c.args.pick (subst (λ (t : DeviceState). c.args.pick < length (transferable t)) c.self.view_is can.within)

pub returns-then-is_number-clause-state : goal.returns-then-is_number-clause-state
returns-then-is_number-clause-state c =
    let can = can_move_from c.self.inside c.args.self.now c.args.pick c.in-Some.number c.in-Some-peek.command.now c.self.invariant c.self.view_is c.if-is_held.ensures.value c.in-Some.ensures c.in-Some-peek.ensures in
    let d = c.self.inside in
    let s = state_of d in
    let w : Waiting = record { number = c.in-Some.number; command = c.in-Some-peek.command.now } in
    let waiting = ap (λ (b : Buffer Completion). b.items) c.complete_failed.ensures ∙ ap (λ (l : List Completion). s.waiting ++ l) (sym (failures-split w.command)) in
    let queue = c.leave.ensures ∙ ap (departed d.queue) can.picked in
    let to = failed_to s w c.complete_failed.new.waiting.items c.leave.new.self waiting queue in
    to ∙ sym (can.fails (sym c.if-is_number.ensures)) ∙ ap (λ (t : DeviceState). transferred t c.args.pick) c.self.view_is

-- ---- the command is performed

pub first_part-first-requires : goal.first_part-first-requires
first_part-first-requires c =
    let can = can_move_from c.self.inside c.args.self.now c.args.pick c.in-Some.number c.in-Some-peek.command.now c.self.invariant c.self.view_is c.if-is_held.ensures.value c.in-Some.ensures c.in-Some-peek.ensures in
    omega (arith, can.number)

pub note_transfers-requires-clause-room : goal.note_transfers-requires-clause-room
note_transfers-requires-clause-room c =
    let can = can_move_from c.self.inside c.args.self.now c.args.pick c.in-Some.number c.in-Some-peek.command.now c.self.invariant c.self.view_is c.if-is_held.ensures.value c.in-Some.ensures c.in-Some-peek.ensures in
    let slice = ap length c.as_slice-parts.ensures in
    omega (arith, can.moved, c.self.invariant.moved, slice)

pub note_transfers-requires-clause-places : goal.note_transfers-requires-clause-places
note_transfers-requires-clause-places c =
    let can = can_move_from c.self.inside c.args.self.now c.args.pick c.in-Some.number c.in-Some-peek.command.now c.self.invariant c.self.view_is c.if-is_held.ensures.value c.in-Some.ensures c.in-Some-peek.ensures in
    let slice = ap length c.as_slice-parts.ensures in
    let first = c.first_part-first.ensures in
    omega (arith, can.places, c.self.invariant.few, slice, first)

pub put_parts-requires-clause-room : goal.put_parts-requires-clause-room
put_parts-requires-clause-room c =
    let can = can_move_from c.self.inside c.args.self.now c.args.pick c.in-Some.number c.in-Some-peek.command.now c.self.invariant c.self.view_is c.if-is_held.ensures.value c.in-Some.ensures c.in-Some-peek.ensures in
    let slice = ap length c.as_slice-parts.ensures in
    omega (arith, can.cache, c.self.invariant.cache, slice)

pub put_parts-requires-clause-blocks : goal.put_parts-requires-clause-blocks
put_parts-requires-clause-blocks c =
    let can = can_move_from c.self.inside c.args.self.now c.args.pick c.in-Some.number c.in-Some-peek.command.now c.self.invariant c.self.view_is c.if-is_held.ensures.value c.in-Some.ensures c.in-Some-peek.ensures in
    let h = c.self.invariant in rw (c.as_slice-parts.ensures, h.blocks) can.blocks

pub put_parts-requires-clause-appended : goal.put_parts-requires-clause-appended
put_parts-requires-clause-appended c =
    let can = can_move_from c.self.inside c.args.self.now c.args.pick c.in-Some.number c.in-Some-peek.command.now c.self.invariant c.self.view_is c.if-is_held.ensures.value c.in-Some.ensures c.in-Some-peek.ensures in
    let slice = ap length c.as_slice-parts.ensures in
    let h = c.self.invariant in
    omega (arith, can.moved, h.appended, h.few, slice)

pub put_parts-requires-clause-last : goal.put_parts-requires-clause-last
put_parts-requires-clause-last c =
    let can = can_move_from c.self.inside c.args.self.now c.args.pick c.in-Some.number c.in-Some-peek.command.now c.self.invariant c.self.view_is c.if-is_held.ensures.value c.in-Some.ensures c.in-Some-peek.ensures in
    can.last

pub put_parts-requires-clause-places : goal.put_parts-requires-clause-places
put_parts-requires-clause-places c =
    let can = can_move_from c.self.inside c.args.self.now c.args.pick c.in-Some.number c.in-Some-peek.command.now c.self.invariant c.self.view_is c.if-is_held.ensures.value c.in-Some.ensures c.in-Some-peek.ensures in
    let slice = ap length c.as_slice-parts.ensures in
    let first = c.first_part-first.ensures in
    omega (arith, can.places, c.self.invariant.few, slice, first)

pub complete-requires : goal.complete-requires
complete-requires c =
    let can = can_move_from c.self.inside c.args.self.now c.args.pick c.in-Some.number c.in-Some-peek.command.now c.self.invariant c.self.view_is c.if-is_held.ensures.value c.in-Some.ensures c.in-Some-peek.ensures in
    let room = c.self.invariant.waiting in
    let few = can.completions in
    omega (arith, few, room)

pub next_epoch-self-inside-requires : goal.next_epoch-self-inside-requires
next_epoch-self-inside-requires c =
    let can = can_move_from c.self.inside c.args.self.now c.args.pick c.in-Some.number c.in-Some-peek.command.now c.self.invariant c.self.view_is c.if-is_held.ensures.value c.in-Some.ensures c.in-Some-peek.ensures in
    omega (arith, can.epoch, c.self.invariant.few)

pub overflow_add-trace : goal.overflow_add-trace
overflow_add-trace c =
    let can = can_move_from c.self.inside c.args.self.now c.args.pick c.in-Some.number c.in-Some-peek.command.now c.self.invariant c.self.view_is c.if-is_held.ensures.value c.in-Some.ensures c.in-Some-peek.ensures in
    omega (arith, can.steps, c.self.invariant.few)

pub invariant_of-self-2 : goal.invariant_of-self-2
invariant_of-self-2 c =
    let can = can_move_from c.self.inside c.args.self.now c.args.pick c.in-Some.number c.in-Some-peek.command.now c.self.invariant c.self.view_is c.if-is_held.ensures.value c.in-Some.ensures c.in-Some-peek.ensures in
    let d = c.self.inside in
    let s = state_of d in
    let h = c.self.invariant in
    let w : Waiting = record { number = c.in-Some.number; command = c.in-Some-peek.command.now } in
    let first = c.first_part-first.result in
    let slice = c.as_slice-parts.ensures in
    let moved = ap (λ (t : HistoryState Transfer). t.items) c.note_transfers.ensures ∙ ap (λ (ps : List Part). s.moved ++ transfers s.epoch first ps) slice in
    let waiting = ap (λ (b : Buffer Completion). b.items) c.complete.ensures in
    let queue = c.leave-2.ensures ∙ ap (departed d.queue) can.picked in
    let cache = c.put_parts.ensures.items ∙ ap (λ (ps : List Part). put_all (entries s.epoch first ps) s.cache) slice in
    let to = moved_to s w first c.note_transfers.new.moved.items c.complete.new.waiting.items c.leave-2.new.self c.put_parts.new.self.items c.next_epoch-self-inside.result
    c.first_part-first.ensures moved waiting queue cache c.next_epoch-self-inside.ensures in
    let moved_room = ap (λ (t : HistoryState Transfer). t.room) c.note_transfers.ensures in
    let waiting_room = ap (λ (b : Buffer Completion). b.capacity) c.complete.ensures in
    record {
      valid = subst IsValid (can.moves (sym c.if-is_number.ensures) ∙ sym to) can.valid;
      few = h.few;
      took = h.took;
      moved = omega (arith, moved_room, h.moved);
      sent = h.sent;
      waiting = omega (arith, waiting_room, h.waiting);
      cache = omega (arith, c.put_parts.ensures.room, h.cache);
      blocks = c.put_parts.ensures.blocks ∙ h.blocks;
      appended =
          let more = ap length moved ∙ length-append s.moved (transfers s.epoch first w.command.parts) in
          let new = length-transfers s.epoch first w.command.parts in
          let parts = ap length slice in
          omega (arith, c.put_parts.ensures.appended, h.appended);
    }

pub returns-clause-when : goal.returns-clause-when
returns-clause-when c =
    let can = can_move_from c.self.inside c.args.self.now c.args.pick c.in-Some.number c.in-Some-peek.command.now c.self.invariant c.self.view_is c.if-is_held.ensures.value c.in-Some.ensures c.in-Some-peek.ensures in
    a_step (length (transferable c.args.self.now)) c.args.pick (subst (λ (t : DeviceState). c.args.pick < length (transferable t)) c.self.view_is can.within)

pub returns-clause-state : goal.returns-clause-state
returns-clause-state c =
    let can = can_move_from c.self.inside c.args.self.now c.args.pick c.in-Some.number c.in-Some-peek.command.now c.self.invariant c.self.view_is c.if-is_held.ensures.value c.in-Some.ensures c.in-Some-peek.ensures in
    let d = c.self.inside in
    let s = state_of d in
    let h = c.self.invariant in
    let w : Waiting = record { number = c.in-Some.number; command = c.in-Some-peek.command.now } in
    let first = c.first_part-first.result in
    let slice = c.as_slice-parts.ensures in
    let moved = ap (λ (t : HistoryState Transfer). t.items) c.note_transfers.ensures ∙ ap (λ (ps : List Part). s.moved ++ transfers s.epoch first ps) slice in
    let waiting = ap (λ (b : Buffer Completion). b.items) c.complete.ensures in
    let queue = c.leave-2.ensures ∙ ap (departed d.queue) can.picked in
    let cache = c.put_parts.ensures.items ∙ ap (λ (ps : List Part). put_all (entries s.epoch first ps) s.cache) slice in
    let to = moved_to s w first c.note_transfers.new.moved.items c.complete.new.waiting.items c.leave-2.new.self c.put_parts.new.self.items c.next_epoch-self-inside.result
    c.first_part-first.ensures moved waiting queue cache c.next_epoch-self-inside.ensures in
    to ∙ sym (can.moves (sym c.if-is_number.ensures)) ∙ ap (λ (t : DeviceState). transferred t c.args.pick) c.self.view_is
