use Rattle.journal_blocks.specs.laws.Logs.{done-stays, log_counts, fault_there, mark-inside}
use Rattle.journal_blocks.proofs.laws.logs_hold_whole_transactions.Goals as goal

pub returns : goal.returns
returns c = record { end = done-stays; counts = log_counts; fault = fault_there; inside = mark-inside }
