use Rattle.log_model.proofs.Parts.{parts_spell}
use Rattle.log_model.proofs.laws.written_transactions_are_read.Goals as goal

pub returns : goal.returns
returns c = record {
  read = parts_spell;
}
