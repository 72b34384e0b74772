use Rattle.std.proofs.Common.{length, sym, ap, subst, ◌∙◌, arith, rules}
use Rattle.circular_buffer.specs.Buffer.{Buffer}
use Rattle.blk_base.specs.code.Bodies.{blocks_of}
use Rattle.order_model.specs.declared.completion.Completion.{Completion}
use Rattle.order_model.specs.declared.history.DeviceRecord.{DeviceRecord}
use Rattle.flog_device.specs.laws.Valid.{IsValid}
use Rattle.flog_device.specs.laws.ReachableLaws.{opened-valid}
use Rattle.flog_device.proofs.Moves.{opened_to}
use Rattle.flog_device.proofs.device.FlogDevice.make.Goals as goal

pub invariant_of-result-2 : goal.invariant_of-result-2
invariant_of-result-2 c =
    let depth = c.requires.depth in
    let segments = c.requires.segments in
    let trace = c.in_ok-empty_record.ensures in
    let took = ap (λ (r : DeviceRecord). r.took.room) trace in
    let moved = ap (λ (r : DeviceRecord). r.moved.room) trace in
    let sent = ap (λ (r : DeviceRecord). r.sent.room) trace in
    let waiting = c.in_ok-with_capacity-2.ensures in
    let log = c.in_ok-with_capacity.ensures in
    let room = ap (λ (b : Buffer Completion). b.capacity) waiting in
    let items = ap (λ (b : Buffer Completion). b.items) waiting in
    let to = opened_to c.args.image c.of_image-base.result.items (blocks_of c.image.inside.bodies.items c.image.inside.places.items) c.args.setup c.len-blocks.result
    c.in_ok-origins.origins.items c.in_ok-empty_record.field-0 c.in_ok-with_capacity-2.field-0.items c.in_ok-make.field-0 c.in_ok-with_capacity.field-0.items
    c.of_image-base.ensures c.image.view_is (c.len-blocks.ensures ∙ ap length (sym c.image.view_is)) c.in_ok-origins.ensures trace items c.in_ok-make.ensures log.items in
    record {
      valid = subst IsValid to (opened-valid c.args.image c.args.setup (omega (arith, depth.0)) segments.0);
      few = search rules;
      took = omega (arith, took);
      moved = omega (arith, moved);
      sent = omega (arith, sent);
      waiting = omega (arith, room);
      log = let n = log.capacity in omega (arith, n);
      area = log.size ∙ c.len-blocks.ensures ∙ ap length (sym c.image.view_is);
    }
