use Rattle.exact_order.proofs.Leaving.{closed-left}
use Rattle.exact_order.proofs.Said.{events-said}
use Rattle.exact_order.proofs.laws.events_leave_closed_media.Goals as goal

pub returns : goal.returns
returns g = record {
  said = λ s image origins p held c. events-said s p held image origins c;
  image = λ s image origins p held c. (closed-left s p held image origins c).holds;
  origins = λ s image origins p held c. (closed-left s p held image origins c).written;
}
