use Rattle.std.proofs.Common.{◌<◌, length, sym, ap, subst, arith}
use Rattle.std.proofs.lemmas.List.{length-set}
use Rattle.device_epochs.specs.Device.{DeviceState, persistable}
use Rattle.device_epochs.specs.laws.Valid.{IsValid}
use Rattle.device_epochs.specs.code.Fields.{state_of}
use Rattle.device_epochs.proofs.Moves.{can_write_from, written_to, a_step}
use Rattle.device_epochs.proofs.device.EpochDeviceOrderedDev.persist.Goals as goal

pub body_of-body-requires-clause-there : goal.body_of-body-requires-clause-there
body_of-body-requires-clause-there c =
    let can = can_write_from c.self.inside c.args.self.now c.args.pick c.in-Some.entry c.self.invariant c.self.view_is c.if-is_off.ensures.value c.in-Some.ensures.entry in
    omega (arith, can.part)

pub body_of-body-requires-clause-few : goal.body_of-body-requires-clause-few
body_of-body-requires-clause-few c =
    let can = can_write_from c.self.inside c.args.self.now c.args.pick c.in-Some.entry c.self.invariant c.self.view_is c.if-is_off.ensures.value c.in-Some.ensures.entry in
    omega (arith, can.few, c.self.invariant.few)

pub put-requires : goal.put-requires
put-requires c =
    let can = can_write_from c.self.inside c.args.self.now c.args.pick c.in-Some.entry c.self.invariant c.self.view_is c.if-is_off.ensures.value c.in-Some.ensures.entry in
    can.surface

pub index_mut-requires : goal.index_mut-requires
index_mut-requires c =
    let can = can_write_from c.self.inside c.args.self.now c.args.pick c.in-Some.entry c.self.invariant c.self.view_is c.if-is_off.ensures.value c.in-Some.ensures.entry in
    let long = c.self.inside.origins.ok in
    omega (arith, can.origins, long)

pub overflow_add-self : goal.overflow_add-self
overflow_add-self c =
    let can = can_write_from c.self.inside c.args.self.now c.args.pick c.in-Some.entry c.self.invariant c.self.view_is c.if-is_off.ensures.value c.in-Some.ensures.entry in
    omega (arith, can.steps, c.self.invariant.few)

pub invariant_of-self-2 : goal.invariant_of-self-2
invariant_of-self-2 c =
    let can = can_write_from c.self.inside c.args.self.now c.args.pick c.in-Some.entry c.self.invariant c.self.view_is c.if-is_off.ensures.value c.in-Some.ensures.entry in
    let d = c.self.inside in
    let s = state_of d in
    let h = c.self.invariant in
    let e = c.in-Some.entry in
    let body = c.body_of-body.ensures in
    let to = written_to s e c.body_of-body.result c.put.new.self c.take_entry.new.self.items body c.put.ensures c.in-Some.ensures.rest in
    record {
      valid = subst IsValid (sym to) can.valid;
      few = h.few;
      took = h.took;
      moved = h.moved;
      sent = h.sent;
      waiting = h.waiting;
      cache = omega (arith, c.take_entry.ensures.room, h.cache);
      blocks = let wide = ap length c.put.ensures in let same = length-set d.surface e.block c.body_of-body.result in omega (arith, c.take_entry.ensures.blocks, h.blocks);
      appended = omega (arith, c.take_entry.ensures.appended, h.appended);
    }

pub returns-clause-when : goal.returns-clause-when
returns-clause-when c =
    let can = can_write_from c.self.inside c.args.self.now c.args.pick c.in-Some.entry c.self.invariant c.self.view_is c.if-is_off.ensures.value c.in-Some.ensures.entry in
    a_step (length (persistable c.args.self.now)) c.args.pick (subst (λ (t : DeviceState). c.args.pick < length (persistable t)) c.self.view_is can.within)
