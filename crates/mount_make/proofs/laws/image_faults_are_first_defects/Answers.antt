use Rattle.mount_make.specs.laws.ImageLaws.{journal_told, image_first, image_told}
use Rattle.mount_make.proofs.laws.image_faults_are_first_defects.Goals as goal

pub returns : goal.returns
returns c = record { journal = journal_told; first = image_first; told = image_told }
