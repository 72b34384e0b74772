use Rattle.std.proofs.Common.{◌≡◌, ◌+◌, ◌≤◌, drop}
use Rattle.std.specs.List.{count_by}
use Rattle.session_report.specs.bulk.Summary.{is_ok}
use Rattle.session_report.proofs.bulk.summary.count_ok.Given as goal

abbrev pub invariant-loop-entry : goal.invariant-loop-entry
invariant-loop-entry l = record {
  counted : l.count + count_by is_ok (drop l.entry-index l.history) ≡ count_by is_ok l.history;
  small : l.count ≤ l.entry-index;
}
