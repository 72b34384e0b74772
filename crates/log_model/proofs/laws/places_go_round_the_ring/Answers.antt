use Rattle.log_model.proofs.Ring.{places_on-up, place_after-last, places_on-place, places_on-add, no_return, once_round, places_from-add}
use Rattle.log_model.proofs.laws.places_go_round_the_ring.Goals as goal

pub returns : goal.returns
returns c = record {
  up = places_on-up;
  over_the_end = place_after-last;
  within = places_on-place;
  on = places_on-add;
  no_return = no_return;
  once_round = once_round;
  listed = places_from-add;
}
