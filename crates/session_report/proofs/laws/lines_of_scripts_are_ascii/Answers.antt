use Rattle.session_report.proofs.AsciiLines.{script_lines}
use Rattle.session_report.proofs.laws.lines_of_scripts_are_ascii.Goals as goal

pub returns : goal.returns
returns c s is = script_lines s is
