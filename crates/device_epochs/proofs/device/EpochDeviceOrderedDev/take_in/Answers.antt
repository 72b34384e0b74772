use Rattle.std.proofs.Common.{◌≡◌, true, sym, ap, subst, arith}
use Rattle.order_model.specs.declared.command.Command.{Command}
use Rattle.order_model.specs.History.{HistoryState}
use Rattle.order_model.specs.Device.{IsReceivable}
use Rattle.device_epochs.specs.queue.Queue.{arrived}
use Rattle.device_epochs.specs.Device.{DeviceState, seen, has_room}
use Rattle.device_epochs.specs.laws.Valid.{IsValid}
use Rattle.device_epochs.specs.code.Fields.{state_of}
use Rattle.device_epochs.specs.laws.BoundLaws.{receivable-fits}
use Rattle.device_epochs.specs.laws.ReachableLaws.{received-valid}
use Rattle.device_epochs.proofs.Moves.{room-fits, received_to}
use Rattle.device_epochs.proofs.device.EpochDeviceOrderedDev.take_in.Goals as goal

pub push-requires-clause-commands : goal.push-requires-clause-commands
push-requires-clause-commands c =
    let s = state_of c.self.inside in
    let may = subst (λ (t : DeviceState). IsReceivable (seen t) c.args.c.now) (sym c.self.view_is) c.requires.command in
    let fits = receivable-fits s c.args.c.now c.self.invariant.valid may in
    let room = c.self.invariant.took in
    omega (arith, fits.0)

pub push-requires-clause-parts : goal.push-requires-clause-parts
push-requires-clause-parts c =
    let s = state_of c.self.inside in
    let may = subst (λ (t : DeviceState). IsReceivable (seen t) c.args.c.now) (sym c.self.view_is) c.requires.command in
    let fits = receivable-fits s c.args.c.now c.self.invariant.valid may in
    let room = c.self.invariant.took in
    omega (arith, fits.1)

pub push-requires-2-clause-next : goal.push-requires-2-clause-next
push-requires-2-clause-next c =
    let s = state_of c.self.inside in
    let may = subst (λ (t : DeviceState). IsReceivable (seen t) c.args.c.now) (sym c.self.view_is) c.requires.command in
    let fits = receivable-fits s c.args.c.now c.self.invariant.valid may in
    let next = c.self.invariant.valid.queue.next in
    let few = c.self.invariant.few in
    omega (arith, fits.0, next, few)

pub push-requires-2-clause-room : goal.push-requires-2-clause-room
push-requires-2-clause-room c =
    room-fits (state_of c.self.inside) (subst (λ (t : DeviceState). has_room t ≡ true) (sym c.self.view_is) c.requires.room)

pub invariant_of-self : goal.invariant_of-self
invariant_of-self c =
    let d = c.self.inside in
    let s = state_of d in
    let h = c.self.invariant in
    let may = subst (λ (t : DeviceState). IsReceivable (seen t) c.args.c.now) (sym c.self.view_is) c.requires.command in
    let room = subst (λ (t : DeviceState). has_room t ≡ true) (sym c.self.view_is) c.requires.room in
    let queue : c.push-2.new.self ≡ arrived d.queue c.args.c.now = c.push-2.ensures in
    let to = received_to s c.args.c.now c.push.new.self.items c.push-2.new.self (ap (λ (t : HistoryState Command). t.items) c.push.ensures) queue in
    let took = ap (λ (t : HistoryState Command). t.room) c.push.ensures in
    record {
      valid = subst IsValid (sym to) (received-valid s c.args.c.now h.valid may room);
      few = h.few;
      took = omega (arith, took, h.took);
      moved = h.moved;
      sent = h.sent;
      waiting = h.waiting;
      cache = h.cache;
      blocks = h.blocks;
      appended = h.appended;
    }
