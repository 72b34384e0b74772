use Rattle.system_laws.proofs.TransactionSizeLemmas.AnyCall.{few_blocks, few_revokes}
use Rattle.system_laws.proofs.TransactionSizeLemmas.Still.{still_quiet}
use Rattle.system_laws.proofs.transaction_size.laws.calls_add_little_to_a_transaction.Goals as goal

pub returns : goal.returns
returns c = record {
  blocks = few_blocks;
  revokes = few_revokes;
  no_blocks = λ v n tx c h still. (still_quiet tx v n c h still).blocks;
  no_revokes = λ v n tx c h still. (still_quiet tx v n c h still).revoked;
}
