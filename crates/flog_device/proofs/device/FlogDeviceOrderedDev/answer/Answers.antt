use Rattle.std.proofs.Common.{sym, ap, subst, arith}
use Rattle.circular_buffer.specs.Buffer.{Buffer}
use Rattle.order_model.specs.declared.completion.Completion.{Completion}
use Rattle.order_model.specs.History.{HistoryState}
use Rattle.flog_device.specs.laws.Valid.{IsValid}
use Rattle.flog_device.specs.code.Fields.{state_of}
use Rattle.flog_device.specs.laws.ReachableLaws.{answered-valid}
use Rattle.flog_device.proofs.Moves.{told_to}
use Rattle.flog_device.proofs.device.FlogDeviceOrderedDev.answer.Goals as goal

pub invariant_of-self-then-not-self : goal.invariant_of-self-then-not-self
invariant_of-self-then-not-self c =
    let d = c.self.inside in
    let s = state_of d in
    let h = c.self.invariant in
    let to = told_to s c.pop_front.new.self.items c.push-then-not-self.new.self.items c.in_default.ensures.value
    (ap (λ (b : Buffer Completion). b.items) c.pop_front.ensures.items) (sym c.if-is_number.ensures) c.if-not-self.true
    (ap (λ (t : HistoryState Completion). t.items) c.push-then-not-self.ensures) in
    let sent = ap (λ (t : HistoryState Completion). t.room) c.push-then-not-self.ensures in
    let waiting = ap (λ (b : Buffer Completion). b.capacity) c.pop_front.ensures.items in
    record {
      valid = subst IsValid (sym to) (answered-valid s h.valid);
      few = h.few;
      took = h.took;
      moved = h.moved;
      sent = omega (arith, sent, h.sent);
      waiting = omega (arith, waiting, h.waiting);
      log = h.log;
      area = h.area;
    }
