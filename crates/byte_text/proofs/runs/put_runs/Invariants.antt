use Rattle.std.proofs.Common.{◌≡◌, ◌+◌, ◌≤◌, ◌++◌, drop}
use Rattle.std.specs.String.{string_bytes}
use Rattle.byte_text.specs.Runs.{runs_behind, joined, runs_text}
use Rattle.byte_text.proofs.runs.put_runs.Given as goal

abbrev pub invariant-loop-b : goal.invariant-loop-b
invariant-loop-b l = record {
  bound : l.len ≤ l.b-index + 1;
  text : string_bytes l.out ++ joined (runs_behind l.len l.value (drop l.b-index l.rest)) ≡ string_bytes l.fn.out ++ runs_text l.fn.bytes;
}
