use Rattle.volume_model.proofs.FoundNodes.{found_stands}
use Rattle.volume_model.proofs.FromImages.{contents_plain, contents_tree}
use Rattle.volume_model.proofs.laws.plain_images_can_change.Goals as goal

pub returns : goal.returns
returns c = record {
  stands = contents_plain;
  tree = contents_tree;
  found = λ g blocks tree all some h w. found_stands g blocks tree some h all w;
}
