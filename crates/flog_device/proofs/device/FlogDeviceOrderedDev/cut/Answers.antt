use Rattle.std.proofs.Common.{map, ap, ◌∙◌, arith}
use Rattle.order_model.specs.Received.{all_parts}
use Rattle.device_epochs.specs.queue.Told.{id_at}
use Rattle.order_model.specs.Device.{origin_ids}
use Rattle.flog_device.specs.Device.{FlogState, surface_origins}
use Rattle.flog_device.specs.laws.BoundLaws.{all_parts-le}
use Rattle.flog_device.specs.code.Fields.{state_of}
use Rattle.flog_device.proofs.Moves.{pages_of}
use Rattle.flog_device.proofs.device.FlogDeviceOrderedDev.cut.Goals as goal

pub lay_over-requires-clause-pages : goal.lay_over-requires-clause-pages
lay_over-requires-clause-pages c = pages_of (state_of c.self.inside) c.self.invariant.valid

pub lay_over-requires-clause-few : goal.lay_over-requires-clause-few
lay_over-requires-clause-few c =
    let all = all_parts-le (state_of c.self.inside) c.self.invariant.valid in
    let few = c.self.invariant.few in
    omega (arith, all, few)

pub returns-clause-origins : goal.returns-clause-origins
returns-clause-origins c =
    let s = state_of c.self.inside in
    c.new.ensures
    ∙ c.read_ids-ids.ensures
    ∙ ap (map (id_at (all_parts s.took))) c.lay_over.ensures.origins
    ∙ ap (λ (t : FlogState). origin_ids t.took (surface_origins t)) c.self.view_is
