use Rattle.system_laws.proofs.WidenedLemmas.WidenedClean.{mounted_clean, volume_clean}
use Rattle.system_laws.proofs.widened.laws.widened_volumes_are_clean.Goals as goal

pub returns-clause-mounted : goal.returns-clause-mounted
returns-clause-mounted c = λ blocks image v w h. mounted_clean blocks image v h w

pub returns-clause-written : goal.returns-clause-written
returns-clause-written c = volume_clean
