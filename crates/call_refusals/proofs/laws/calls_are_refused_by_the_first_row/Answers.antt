-- The order of refusals.
use Rattle.call_refusals.proofs.Calls.{refused_first, done_where_none}
use Rattle.call_refusals.proofs.laws.calls_are_refused_by_the_first_row.Goals as goal

pub returns : goal.returns
returns c = record {
  refused = λ room tree plain n born call reply. refused_first room tree plain n born call reply;
  done = λ room tree plain n born call. done_where_none room tree plain n born call;
}
