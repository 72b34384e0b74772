use Rattle.std.proofs.Common.{◌≡◌, ◌++◌, drop, map}
use Rattle.session_report.specs.bulk.Workload.{thread_calls}
use Rattle.session_report.specs.bulk.code.Lines.{threads_lines}
use Rattle.session_report.proofs.bulk.workload.threads_of.Given as goal

abbrev pub invariant-loop-thread : goal.invariant-loop-thread
invariant-loop-thread l = record {
  calls : l.programs ++ map (thread_calls l.words) (drop l.thread-index l.threads) ≡ map (thread_calls l.words) l.threads;
  lines : l.lines ++ threads_lines l.words (drop l.thread-index l.threads) ≡ l.fn.lines ++ threads_lines l.words l.threads;
}
