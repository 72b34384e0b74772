use Rattle.std.proofs.Common.{◌≡◌, ◌++◌, drop}
use Rattle.std.specs.String.{string_bytes}
use Rattle.session_report.specs.ReportText.{answers_text}
use Rattle.session_report.proofs.lines.put_answers.Given as goal

abbrev pub invariant-loop-entry : goal.invariant-loop-entry
invariant-loop-entry l =
    string_bytes l.out ++ answers_text l.programs l.lines (drop l.entry-index l.history) ≡ string_bytes l.fn.out ++ answers_text l.programs l.lines l.history
