use Rattle.std.proofs.Common.{◌<◌, ◌++◌, List, length, sym, ap, subst, ◌∙◌, arith}
use Rattle.circular_buffer.specs.Buffer.{Buffer}
use Rattle.order_model.specs.declared.part.Part.{Part}
use Rattle.order_model.specs.declared.completion.Completion.{Completion}
use Rattle.order_model.specs.declared.history.Transfer.{Transfer}
use Rattle.order_model.specs.History.{HistoryState}
use Rattle.device_epochs.specs.queue.Queue.{Waiting, departed}
use Rattle.order_model.specs.Received.{transfers}
use Rattle.flog_device.specs.Log.{pages}
use Rattle.flog_device.specs.Device.{FlogState, transferable, transferred}
use Rattle.flog_device.specs.laws.Valid.{IsValid}
use Rattle.flog_device.specs.code.Fields.{state_of}
use Rattle.device_epochs.specs.queue.laws.CompletionLaws.{failures-split}
use Rattle.flog_device.proofs.Moves.{can_move_from, orderly_from, failed_to, moved_to, a_step, no_step, none_fits}
use Rattle.flog_device.proofs.device.FlogDeviceOrderedDev.transfer.Goals as goal

pub returns-in_default-clause-when : goal.returns-in_default-clause-when
returns-in_default-clause-when c =
    no_step (length (transferable c.args.self.now)) c.args.pick
    (none_fits c.self.inside c.args.self.now c.args.pick c.free_places-free.result c.all_programmed-programmed.result c.self.view_is c.if-has_stopped.ensures c.free_places-free.ensures c.all_programmed-programmed.ensures c.in_default.ensures)

-- ---- the transfer fails

pub complete_failed-requires : goal.complete_failed-requires
complete_failed-requires c =
    let can = can_move_from c.self.inside c.args.self.now c.args.pick c.in-Some.at c.in-Some-number.number c.in-Some-peek.command.now c.free_places-free.result c.all_programmed-programmed.result c.self.invariant c.self.view_is c.if-has_stopped.ensures c.free_places-free.ensures c.all_programmed-programmed.ensures c.in-Some.ensures c.in-Some-number.ensures c.in-Some-peek.ensures in
    let room = c.self.invariant.waiting in
    let few = can.failures in
    let split = ap length (failures-split c.in-Some-peek.command.now) in
    omega (arith, few, room, split)

pub overflow_add-self : goal.overflow_add-self
overflow_add-self c =
    let can = can_move_from c.self.inside c.args.self.now c.args.pick c.in-Some.at c.in-Some-number.number c.in-Some-peek.command.now c.free_places-free.result c.all_programmed-programmed.result c.self.invariant c.self.view_is c.if-has_stopped.ensures c.free_places-free.ensures c.all_programmed-programmed.ensures c.in-Some.ensures c.in-Some-number.ensures c.in-Some-peek.ensures in
    omega (arith, can.made, c.self.invariant.few)

pub overflow_add-self-then-is_number : goal.overflow_add-self-then-is_number
overflow_add-self-then-is_number c =
    let can = can_move_from c.self.inside c.args.self.now c.args.pick c.in-Some.at c.in-Some-number.number c.in-Some-peek.command.now c.free_places-free.result c.all_programmed-programmed.result c.self.invariant c.self.view_is c.if-has_stopped.ensures c.free_places-free.ensures c.all_programmed-programmed.ensures c.in-Some.ensures c.in-Some-number.ensures c.in-Some-peek.ensures in
    omega (arith, can.steps, c.self.invariant.few)

pub invariant_of-self : goal.invariant_of-self
invariant_of-self c =
    let can = can_move_from c.self.inside c.args.self.now c.args.pick c.in-Some.at c.in-Some-number.number c.in-Some-peek.command.now c.free_places-free.result c.all_programmed-programmed.result c.self.invariant c.self.view_is c.if-has_stopped.ensures c.free_places-free.ensures c.all_programmed-programmed.ensures c.in-Some.ensures c.in-Some-number.ensures c.in-Some-peek.ensures in
    let d = c.self.inside in
    let s = state_of d in
    let h = c.self.invariant in
    let w : Waiting = record { number = c.in-Some-number.number; command = c.in-Some-peek.command.now } in
    let waiting = ap (λ (b : Buffer Completion). b.items) c.complete_failed.ensures ∙ ap (λ (l : List Completion). s.waiting ++ l) (sym (failures-split w.command)) in
    let queue = c.leave.ensures ∙ ap (departed d.queue) can.picked in
    let to = failed_to s w c.complete_failed.new.waiting.items c.leave.new.self waiting queue in
    let waiting_room = ap (λ (b : Buffer Completion). b.capacity) c.complete_failed.ensures in
    record {
      valid = subst IsValid (can.fails (sym c.if-is_number.ensures) ∙ sym to) can.valid;
      few = h.few;
      took = h.took;
      moved = h.moved;
      sent = h.sent;
      waiting = omega (arith, waiting_room, h.waiting);
      log = h.log;
      area = h.area;
    }

pub returns-then-is_number-clause-when : goal.returns-then-is_number-clause-when
returns-then-is_number-clause-when c =
    let can = can_move_from c.self.inside c.args.self.now c.args.pick c.in-Some.at c.in-Some-number.number c.in-Some-peek.command.now c.free_places-free.result c.all_programmed-programmed.result c.self.invariant c.self.view_is c.if-has_stopped.ensures c.free_places-free.ensures c.all_programmed-programmed.ensures c.in-Some.ensures c.in-Some-number.ensures c.in-Some-peek.ensures in
    a_step (length (transferable c.args.self.now)) c.args.pick (subst (λ (t : FlogState). c.args.pick < length (transferable t)) c.self.view_is can.within)

pub returns-then-is_number-clause-state : goal.returns-then-is_number-clause-state
returns-then-is_number-clause-state c =
    let can = can_move_from c.self.inside c.args.self.now c.args.pick c.in-Some.at c.in-Some-number.number c.in-Some-peek.command.now c.free_places-free.result c.all_programmed-programmed.result c.self.invariant c.self.view_is c.if-has_stopped.ensures c.free_places-free.ensures c.all_programmed-programmed.ensures c.in-Some.ensures c.in-Some-number.ensures c.in-Some-peek.ensures in
    let d = c.self.inside in
    let s = state_of d in
    let w : Waiting = record { number = c.in-Some-number.number; command = c.in-Some-peek.command.now } in
    let waiting = ap (λ (b : Buffer Completion). b.items) c.complete_failed.ensures ∙ ap (λ (l : List Completion). s.waiting ++ l) (sym (failures-split w.command)) in
    let queue = c.leave.ensures ∙ ap (departed d.queue) can.picked in
    let to = failed_to s w c.complete_failed.new.waiting.items c.leave.new.self waiting queue in
    to ∙ sym (can.fails (sym c.if-is_number.ensures)) ∙ ap (λ (t : FlogState). transferred t c.args.pick) c.self.view_is

-- ---- the command is performed

pub first_part-first-requires : goal.first_part-first-requires
first_part-first-requires c =
    let can = can_move_from c.self.inside c.args.self.now c.args.pick c.in-Some.at c.in-Some-number.number c.in-Some-peek.command.now c.free_places-free.result c.all_programmed-programmed.result c.self.invariant c.self.view_is c.if-has_stopped.ensures c.free_places-free.ensures c.all_programmed-programmed.ensures c.in-Some.ensures c.in-Some-number.ensures c.in-Some-peek.ensures in
    omega (arith, can.number)

pub note_transfers-requires-clause-room : goal.note_transfers-requires-clause-room
note_transfers-requires-clause-room c =
    let can = can_move_from c.self.inside c.args.self.now c.args.pick c.in-Some.at c.in-Some-number.number c.in-Some-peek.command.now c.free_places-free.result c.all_programmed-programmed.result c.self.invariant c.self.view_is c.if-has_stopped.ensures c.free_places-free.ensures c.all_programmed-programmed.ensures c.in-Some.ensures c.in-Some-number.ensures c.in-Some-peek.ensures in
    let slice = ap length c.as_slice-parts.ensures in
    omega (arith, can.moved, c.self.invariant.moved, slice)

pub note_transfers-requires-clause-places : goal.note_transfers-requires-clause-places
note_transfers-requires-clause-places c =
    let can = can_move_from c.self.inside c.args.self.now c.args.pick c.in-Some.at c.in-Some-number.number c.in-Some-peek.command.now c.free_places-free.result c.all_programmed-programmed.result c.self.invariant c.self.view_is c.if-has_stopped.ensures c.free_places-free.ensures c.all_programmed-programmed.ensures c.in-Some.ensures c.in-Some-number.ensures c.in-Some-peek.ensures in
    let slice = ap length c.as_slice-parts.ensures in
    let first = c.first_part-first.ensures in
    omega (arith, can.places, c.self.invariant.few, slice, first)

pub append-requires-clause-room : goal.append-requires-clause-room
append-requires-clause-room c =
    let can = can_move_from c.self.inside c.args.self.now c.args.pick c.in-Some.at c.in-Some-number.number c.in-Some-peek.command.now c.free_places-free.result c.all_programmed-programmed.result c.self.invariant c.self.view_is c.if-has_stopped.ensures c.free_places-free.ensures c.all_programmed-programmed.ensures c.in-Some.ensures c.in-Some-number.ensures c.in-Some-peek.ensures in
    let slice = ap length c.as_slice-parts.ensures in
    let room = c.self.invariant.log in
    λ some. let n = can.log (subst (λ k. 0 < k) slice some) in omega (arith, n, slice, room)

pub append-requires-clause-places : goal.append-requires-clause-places
append-requires-clause-places c =
    let can = can_move_from c.self.inside c.args.self.now c.args.pick c.in-Some.at c.in-Some-number.number c.in-Some-peek.command.now c.free_places-free.result c.all_programmed-programmed.result c.self.invariant c.self.view_is c.if-has_stopped.ensures c.free_places-free.ensures c.all_programmed-programmed.ensures c.in-Some.ensures c.in-Some-number.ensures c.in-Some-peek.ensures in
    let slice = ap length c.as_slice-parts.ensures in
    let first = c.first_part-first.ensures in
    omega (arith, can.places, c.self.invariant.few, slice, first)

pub complete-requires : goal.complete-requires
complete-requires c =
    let can = can_move_from c.self.inside c.args.self.now c.args.pick c.in-Some.at c.in-Some-number.number c.in-Some-peek.command.now c.free_places-free.result c.all_programmed-programmed.result c.self.invariant c.self.view_is c.if-has_stopped.ensures c.free_places-free.ensures c.all_programmed-programmed.ensures c.in-Some.ensures c.in-Some-number.ensures c.in-Some-peek.ensures in
    let room = c.self.invariant.waiting in
    let few = can.completions in
    omega (arith, few, room)

pub next_epoch-self-inside-requires : goal.next_epoch-self-inside-requires
next_epoch-self-inside-requires c =
    let can = can_move_from c.self.inside c.args.self.now c.args.pick c.in-Some.at c.in-Some-number.number c.in-Some-peek.command.now c.free_places-free.result c.all_programmed-programmed.result c.self.invariant c.self.view_is c.if-has_stopped.ensures c.free_places-free.ensures c.all_programmed-programmed.ensures c.in-Some.ensures c.in-Some-number.ensures c.in-Some-peek.ensures in
    omega (arith, can.epoch, c.self.invariant.few)

pub overflow_add-trace : goal.overflow_add-trace
overflow_add-trace c =
    let can = can_move_from c.self.inside c.args.self.now c.args.pick c.in-Some.at c.in-Some-number.number c.in-Some-peek.command.now c.free_places-free.result c.all_programmed-programmed.result c.self.invariant c.self.view_is c.if-has_stopped.ensures c.free_places-free.ensures c.all_programmed-programmed.ensures c.in-Some.ensures c.in-Some-number.ensures c.in-Some-peek.ensures in
    omega (arith, can.steps, c.self.invariant.few)

pub invariant_of-self-2 : goal.invariant_of-self-2
invariant_of-self-2 c =
    let can = can_move_from c.self.inside c.args.self.now c.args.pick c.in-Some.at c.in-Some-number.number c.in-Some-peek.command.now c.free_places-free.result c.all_programmed-programmed.result c.self.invariant c.self.view_is c.if-has_stopped.ensures c.free_places-free.ensures c.all_programmed-programmed.ensures c.in-Some.ensures c.in-Some-number.ensures c.in-Some-peek.ensures in
    let d = c.self.inside in
    let s = state_of d in
    let h = c.self.invariant in
    let w : Waiting = record { number = c.in-Some-number.number; command = c.in-Some-peek.command.now } in
    let first = c.first_part-first.result in
    let slice = c.as_slice-parts.ensures in
    let moved = ap (λ (t : HistoryState Transfer). t.items) c.note_transfers.ensures ∙ ap (λ (ps : List Part). s.moved ++ transfers s.epoch first ps) slice in
    let waiting = ap (λ (b : Buffer Completion). b.items) c.complete.ensures in
    let queue = c.leave-2.ensures ∙ ap (departed d.queue) can.picked in
    let log = c.append.ensures.items ∙ ap (λ (ps : List Part). s.log ++ pages first ps) slice in
    let to = moved_to s w first c.note_transfers.new.moved.items c.complete.new.waiting.items c.leave-2.new.self c.append.new.self.items c.next_epoch-self-inside.result
    c.first_part-first.ensures moved waiting queue log c.next_epoch-self-inside.ensures in
    let moved_room = ap (λ (t : HistoryState Transfer). t.room) c.note_transfers.ensures in
    let waiting_room = ap (λ (b : Buffer Completion). b.capacity) c.complete.ensures in
    record {
      valid = subst IsValid (can.moves (sym c.if-is_number.ensures) ∙ sym to) can.valid;
      few = h.few;
      took = h.took;
      moved = omega (arith, moved_room, h.moved);
      sent = h.sent;
      waiting = omega (arith, waiting_room, h.waiting);
      log = omega (arith, c.append.ensures.capacity, h.log);
      area = c.append.ensures.size ∙ h.area;
    }

pub returns-clause-when : goal.returns-clause-when
returns-clause-when c =
    let can = can_move_from c.self.inside c.args.self.now c.args.pick c.in-Some.at c.in-Some-number.number c.in-Some-peek.command.now c.free_places-free.result c.all_programmed-programmed.result c.self.invariant c.self.view_is c.if-has_stopped.ensures c.free_places-free.ensures c.all_programmed-programmed.ensures c.in-Some.ensures c.in-Some-number.ensures c.in-Some-peek.ensures in
    a_step (length (transferable c.args.self.now)) c.args.pick (subst (λ (t : FlogState). c.args.pick < length (transferable t)) c.self.view_is can.within)

pub returns-clause-state : goal.returns-clause-state
returns-clause-state c =
    let can = can_move_from c.self.inside c.args.self.now c.args.pick c.in-Some.at c.in-Some-number.number c.in-Some-peek.command.now c.free_places-free.result c.all_programmed-programmed.result c.self.invariant c.self.view_is c.if-has_stopped.ensures c.free_places-free.ensures c.all_programmed-programmed.ensures c.in-Some.ensures c.in-Some-number.ensures c.in-Some-peek.ensures in
    let d = c.self.inside in
    let s = state_of d in
    let h = c.self.invariant in
    let w : Waiting = record { number = c.in-Some-number.number; command = c.in-Some-peek.command.now } in
    let first = c.first_part-first.result in
    let slice = c.as_slice-parts.ensures in
    let moved = ap (λ (t : HistoryState Transfer). t.items) c.note_transfers.ensures ∙ ap (λ (ps : List Part). s.moved ++ transfers s.epoch first ps) slice in
    let waiting = ap (λ (b : Buffer Completion). b.items) c.complete.ensures in
    let queue = c.leave-2.ensures ∙ ap (departed d.queue) can.picked in
    let log = c.append.ensures.items ∙ ap (λ (ps : List Part). s.log ++ pages first ps) slice in
    let to = moved_to s w first c.note_transfers.new.moved.items c.complete.new.waiting.items c.leave-2.new.self c.append.new.self.items c.next_epoch-self-inside.result
    c.first_part-first.ensures moved waiting queue log c.next_epoch-self-inside.ensures in
    to ∙ sym (can.moves (sym c.if-is_number.ensures)) ∙ ap (λ (t : FlogState). transferred t c.args.pick) c.self.view_is

pub find_fitting-requires : goal.find_fitting-requires
find_fitting-requires c = orderly_from c.self.inside c.args.self.now c.self.invariant c.self.view_is c.if-has_stopped.ensures
