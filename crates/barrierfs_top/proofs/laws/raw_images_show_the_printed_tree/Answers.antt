use Rattle.barrierfs_top.proofs.RawImages.{shows_the_tree}
use Rattle.barrierfs_top.proofs.laws.raw_images_show_the_printed_tree.Goals as goal

pub returns : goal.returns
returns c = shows_the_tree
