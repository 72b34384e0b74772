use Rattle.journal_blocks.specs.Log.{GoesOn}
use Rattle.journal_blocks.specs.laws.Logs.{revoke_suspected, descriptor_suspected, suspect_counts, fault_stays}
use Rattle.journal_blocks.proofs.laws.faults_count_in_whole_transactions.Goals as goal

pub returns : goal.returns
returns c = record { revoke = revoke_suspected; descriptor = descriptor_suspected; whole = suspect_counts; first = λ wide zones r entries at e. fault_stays wide zones (GoesOn r) entries at e }
