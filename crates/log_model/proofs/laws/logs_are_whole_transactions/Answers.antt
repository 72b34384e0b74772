use Rattle.log_model.proofs.Grammar.{read_is_log, log_is_read}
use Rattle.log_model.proofs.laws.logs_are_whole_transactions.Goals as goal

pub returns : goal.returns
returns c = record { read = read_is_log; only = log_is_read }
