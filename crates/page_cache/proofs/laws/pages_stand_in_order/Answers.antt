use Rattle.page_cache.specs.laws.Order.{put-rising, drop-rising, mark-rising, keyed, put-new, put-known}
use Rattle.page_cache.proofs.laws.pages_stand_in_order.Goals as goal

pub returns : goal.returns
returns c = record {
  put = put-rising;
  dropped = drop-rising;
  marked = mark-rising;
  found = keyed;
  new = put-new;
  known = put-known;
}
