use Rattle.std.proofs.Common.{arith}
use Rattle.std.proofs.lemmas.List.FromFn.{map-range_with_len_more}
use Rattle.session_moments.specs.Moments.{outcome_at}
use Rattle.session_moments.proofs.Spans.{longer, begun}
use Rattle.session_moments.proofs.laws.spans_go_on.Goals as goal

pub returns : goal.returns
returns c = record {
  longer = longer;
  begun = begun;
  all = λ s i. map-range_with_len_more (outcome_at s) 0 i i (omega arith);
}
