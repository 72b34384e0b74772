use Rattle.session_threads.proofs.FoundInReports.{found_all, found_freely}
use Rattle.session_threads.proofs.laws.unstopped_runs_find_all_that_they_closed.Goals as goal

pub returns : goal.returns
returns c = record { unstopped = found_all; free = found_freely }
