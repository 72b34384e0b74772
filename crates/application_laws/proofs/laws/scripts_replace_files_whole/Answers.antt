use Rattle.application_laws.proofs.Threads.{program_replaced, program_waits}
use Rattle.application_laws.proofs.laws.scripts_replace_files_whole.Goals as goal

pub returns : goal.returns
returns c = record { replaced = program_replaced; waits = program_waits }
