use Rattle.log_model.proofs.Marks.{mark_in-append, replayed-append, transactions_from-split}
use Rattle.log_model.proofs.laws.ranges_of_transactions_join.Goals as goal

pub returns : goal.returns
returns c = record {
  mark = mark_in-append;
  replay = replayed-append;
  numbers = transactions_from-split;
}
