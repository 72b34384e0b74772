use Rattle.system_laws.proofs.TransactionSizeLemmas.MadeShare.{session_share, session_room}
use Rattle.system_laws.proofs.transaction_size.laws.transactions_keep_their_share.Goals as goal

pub returns : goal.returns
returns c =
    let bytes = c.calls_of_scripts_write_bytes.ensures in
    record {
      share = λ g journal wide limit programs events sound least most words lines. session_share g journal wide limit programs events sound least most words lines bytes (c.new_volumes_are_in_use.ensures g sound);
      room = λ g journal wide limit programs events sound least most words lines. session_room g journal wide limit programs events sound least most words lines bytes (c.new_volumes_are_in_use.ensures g sound);
    }
