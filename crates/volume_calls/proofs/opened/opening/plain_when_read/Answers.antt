use Rattle.volume_model.specs.ImageNodes.{IsImage}
use Rattle.volume_ops.specs.Volume.{walked}
use Rattle.volume_calls.proofs.OpenedLemmas.Reading.{ok_of, same_zones}
use Rattle.volume_calls.proofs.opened.opening.plain_when_read.Goals as goal

pub returns : goal.returns
returns c tree plain =
    let g = c.args.g.now in
    let blocks = c.args.disk.now in
    let some = c.requires.sound.some_inode in
    let image : IsImage g blocks = record { whole = c.blocks_are_whole.ensures.whole; size = c.requires.size; bytes = c.blocks_are_whole.ensures.bytes } in
    let w = ok_of (walked g blocks) c.requires.readable in
    let change = c.plain_images_can_change.ensures in
    let stands = change.stands g blocks tree image some plain in
    record {
      sound = c.requires.sound;
      found = w.0;
      is = w.1;
      tree_is = c.volumes_have_one_tree.ensures.by_walk g blocks tree some plain.stands;
      stands = stands;
      stands_for = change.tree g blocks tree image some plain;
      nodes = change.found g blocks tree w.0 some plain w.1;
      zones = same_zones g blocks tree w.0 w.1 stands (c.plain_volumes_are_read_back.ensures.zones g) (c.walks_end_well_without_fault.ensures.zones g blocks w.0 some w.1);
    }
