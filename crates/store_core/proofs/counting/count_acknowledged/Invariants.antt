use Rattle.std.proofs.Common.{◌≡◌, ◌≤◌, drop, map}
use Rattle.session_core.specs.Core.{entry_in}
use Rattle.store_core.specs.Stores.{acknowledged_from}
use Rattle.store_core.proofs.counting.count_acknowledged.Given as goal

abbrev pub invariant-loop-entry : goal.invariant-loop-entry
invariant-loop-entry l = record {
  counted : acknowledged_from l.puts l.last (map (entry_in l.programs) (drop l.entry-index l.history)) ≡ acknowledged_from 0 0 (map (entry_in l.programs) l.history);
  small : l.puts ≤ l.entry-index;
}
