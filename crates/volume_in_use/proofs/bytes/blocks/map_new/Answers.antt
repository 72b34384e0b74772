use Rattle.std.proofs.Common.{rules, ap, ◌∙◌}
use Rattle.volume_steps.specs.Now.{VolumeNow}
use Rattle.volume_in_use.specs.bytes.code.Work.{map_work}
use Rattle.volume_in_use.proofs.BytesLemmas.Steps.{mapped_as, mapped_noted}
use Rattle.volume_in_use.proofs.bytes.blocks.map_new.Goals as goal

pub returns-clause-work : goal.returns-clause-work
returns-clause-work c =
    let v : VolumeNow = record { geometry = c.v.inside.geometry; contents = record { blocks = c.v.inside.blocks; nodes = c.v.inside.nodes.entries }; zones = c.v.inside.zones } in
    mapped_as c.args.content.now c.args.index v c.args.file.now c.args.touched.now.touched c.note_node.new.self.touched
    (record { data_zone = c.take_zones-taken.result.data_zone; outer = c.take_zones-taken.result.outer; second = c.take_zones-taken.result.second })
    c.take_zones-taken.new.zones c.take_zones-taken.new.blocks c.map_block.new.blocks c.write_inode.new.blocks c.copy_inode-before.result c.map_block.new.inode c.set_zone.new.self
    c.take_zones-taken.ensures.zones c.take_zones-taken.ensures.taken c.take_zones-taken.ensures.blocks c.map_block.ensures c.copy_inode-before.ensures c.write_inode.ensures.blocks c.set_zone.ensures
    (mapped_noted c.args.touched.now.touched _ c.take_zones-taken.new.touched c.note_numbers.new.touched c.write_inode.new.touched c.note_page.new.self c.note_node.new.self c.args.file.now.birth _ _ _
    c.take_zones-taken.ensures.touched c.note_numbers.ensures.told c.write_inode.ensures.touched c.note_page.ensures c.note_node.ensures)
    ∙ ap (λ (v : VolumeNow). map_work c.args.content.now c.args.index (record { volume = v; file = c.args.file.now; touched = c.args.touched.now.touched })) c.v.view_is
