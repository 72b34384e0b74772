use Rattle.std.proofs.Common.{ℕ, List, length, sym, subst, arith}
use Rattle.std.specs.List.{All}
use Rattle.order_model.specs.Received.{all_parts}
use Rattle.flog_device.specs.laws.BoundLaws.{all_parts-le}
use Rattle.flog_device.specs.code.Helpers.{IsPageOf}
use Rattle.flog_device.specs.code.Fields.{state_of}
use Rattle.flog_device.proofs.Moves.{pages_of}
use Rattle.flog_device.proofs.device.FlogDevice.medium.Goals as goal

pub lay_over-requires-clause-pages : goal.lay_over-requires-clause-pages
lay_over-requires-clause-pages c =
    let s = state_of c.self.inside in
    subst (λ (area : List (List ℕ)). All (IsPageOf (length (all_parts s.took)) (length area)) s.log) (sym c.in_ok-image.ensures)
    (pages_of s c.self.invariant.valid)

pub lay_over-requires-clause-few : goal.lay_over-requires-clause-few
lay_over-requires-clause-few c =
    let all = all_parts-le (state_of c.self.inside) c.self.invariant.valid in
    let few = c.self.invariant.few in
    omega (arith, all, few)
