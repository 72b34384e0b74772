use Rattle.exact_order.proofs.Members.{before_barrier-plain, around_flush-plain, past-left, fenced-not_left, flushed-not_left}
use Rattle.exact_order.proofs.laws.order_says_what_may_be_lost.Goals as goal

pub returns : goal.returns
returns g = record {
  plain = before_barrier-plain;
  plain_flush = around_flush-plain;
  overtaken = past-left;
  fenced = fenced-not_left;
  flushed = flushed-not_left;
}
