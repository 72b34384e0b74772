-- What is left is order-closed by the law of each run, and each order-closed medium has its events.
use Rattle.exact_order.specs.Events.{events_to}
use Rattle.exact_order.proofs.Forward.{left-closed}
use Rattle.exact_order.proofs.Leaving.{closed-left}
use Rattle.exact_order.proofs.Said.{events-said}
use Rattle.exact_order.proofs.laws.left_media_are_the_closed_ones.Goals as goal

pub returns : goal.returns
returns g = record {
  each = λ s p held image origins. (
    λ l. left-closed s p image origins l,
    λ c.
        let left = closed-left s p held image origins c in
        record { events = events_to s.puts origins; said = events-said s p held image origins c; holds = left.holds; written = left.written },
  );
  no_other = left-closed;
}
