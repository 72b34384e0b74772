use Rattle.std.proofs.Common.{◌≡◌, ◌++◌, drop, map}
use Rattle.session_report.specs.bulk.Workload.{words_for, word_call, call_line, thread_calls}
use Rattle.session_report.specs.bulk.code.Lines.{thread_lines}
use Rattle.session_report.proofs.bulk.workload.thread_of.Given as goal

abbrev pub invariant-loop-place : goal.invariant-loop-place
invariant-loop-place l = record {
  calls : l.program ++ map word_call (words_for l.thread l.place (drop l.place l.words)) ≡ thread_calls l.words l.thread;
  lines : l.lines ++ map (λ w. call_line (word_call w)) (words_for l.thread l.place (drop l.place l.words)) ≡ l.fn.lines ++ thread_lines l.words l.thread;
}
