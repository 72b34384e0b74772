use Rattle.std.proofs.Common.{◌≡◌, ◌+◌, ◌++◌, drop}
use Rattle.std.specs.String.{string_bytes}
use Rattle.session_report.specs.ReportText.{threads_text}
use Rattle.session_report.proofs.lines.put_threads.Given as goal

abbrev pub invariant-loop-standing : goal.invariant-loop-standing
invariant-loop-standing l =
    (l.thread ≡ l.fn.first + l.standing-index) × (string_bytes l.out ++ threads_text l.thread (drop l.standing-index l.standings) ≡ string_bytes l.fn.out ++ threads_text l.fn.first l.standings)
