use Rattle.mount_make.specs.laws.ImageLaws.{image_has_tree, one_image_tree}
use Rattle.mount_make.proofs.laws.images_have_one_tree.Goals as goal

pub returns : goal.returns
returns c = record { both_ways = image_has_tree; one = one_image_tree }
