use Rattle.std.proofs.Common.{◌≡◌, ◌+◌, map, drop}
use Rattle.barrierfs_top.specs.Runs.{flash_line}
use Rattle.barrierfs_top.proofs.threads_script.flash_line.Given as goal

abbrev pub invariant-loop-line : goal.invariant-loop-line
invariant-loop-line l = record {
  same : flash_line l.number (map (λ x. x.now) (drop l.line-index l.lines)) ≡ flash_line 1 (map (λ x. x.now) l.lines);
  counted : l.number ≡ l.line-index + 1;
}
