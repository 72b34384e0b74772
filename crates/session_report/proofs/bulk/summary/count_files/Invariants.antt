use Rattle.std.proofs.Common.{◌≡◌, ◌+◌}
use Rattle.std.specs.List.{count_by}
use Rattle.session_report.specs.bulk.Summary.{is_file}
use Rattle.session_report.proofs.bulk.summary.count_files.Given as goal

abbrev pub invariant-loop-node : goal.invariant-loop-node
invariant-loop-node l = l.count + count_by is_file l.node-iterator ≡ count_by is_file l.tree
