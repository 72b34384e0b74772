use Rattle.minix_host.proofs.Asked.{refusal_is, needed_is}
use Rattle.minix_host.proofs.laws.promises.calls_are_asked_without_a_number.Goals as goal

pub returns : goal.returns
returns c = record { refusal = refusal_is; needed = needed_is }
