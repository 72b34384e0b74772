use Rattle.std.proofs.Common.{subst}
use Rattle.blk_base.specs.Members.{In}
use Rattle.blk_base.specs.laws.Members.{In-take, In-append_left}
use Rattle.order_model.proofs.OrderToTheMedium.{IsRun, order_closed, keeps_flushed}
use Rattle.session_core.proofs.run.parts.laws.joined_parts_keep_the_order.Goals as goal

pub returns : goal.returns
returns c = record {
  order = λ requests taken p d ids carries lawful fit.
      let run : IsRun requests p d = record { ids = ids; fits = record { accepted = fit.accepted; took = fit.received }; carries = carries; surface = lawful.surface } in
      record { closed = order_closed requests p d run lawful.epochs; flushed = keeps_flushed requests p d run lawful.flush lawful.completes };
  taken = λ requests taken p d x fit here. In-append_left d.sent d.waiting x (In-take fit.taken_is.0 d.sent x (subst (In x) fit.taken_is.1 here));
}
