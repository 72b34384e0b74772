use Rattle.mount_make.specs.laws.ImageLaws.{same_image_trees}
use Rattle.mount_make.proofs.laws.image_metadata_gives_trees.Goals as goal

pub returns : goal.returns
returns c = record { alike = same_image_trees }
