use Rattle.minix_host.proofs.Promises.{promises, blocks_are_whole}
use Rattle.minix_host.proofs.laws.promises.volumes_keep_their_promises.Goals as goal

pub returns : goal.returns
returns c = record { contract = promises; blocks = blocks_are_whole }
