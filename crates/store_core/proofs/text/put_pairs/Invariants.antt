use Rattle.std.proofs.Common.{◌≡◌, ◌++◌}
use Rattle.std.specs.String.{string_bytes}
use Rattle.store_core.specs.Runs.{ArePairs}
use Rattle.store_core.specs.SummaryText.{pair_lines}
use Rattle.store_core.proofs.text.put_pairs.Given as goal

abbrev pub invariant-loop-key : goal.invariant-loop-key
invariant-loop-key l = record {
  written : string_bytes l.out ++ pair_lines l.key-iterator ≡ string_bytes l.fn.out ++ pair_lines l.pairs;
  pairs : ArePairs l.key-iterator;
}
