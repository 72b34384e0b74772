use Rattle.std.proofs.Common.{Some, ◌∙◌}
use Rattle.barrierfs_top.proofs.program.run_program.Goals as goal

pub returns-in-Err : goal.returns-in-Err
returns-in-Err g c = (Some c.in-Err.fault, c.from.ensures ∙ c.status.ensures)
