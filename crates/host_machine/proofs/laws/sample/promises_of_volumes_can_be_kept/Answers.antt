use Rattle.host_machine.proofs.Sample.{told_contract, begun_keeps, both_keep}
use Rattle.host_machine.proofs.laws.sample.promises_of_volumes_can_be_kept.Goals as goal

pub returns : goal.returns
returns c = record { contract = told_contract; opened = begun_keeps; done = both_keep }
