use Rattle.std.proofs.Common.{ap, ◌∙◌, refl, sym, subst}
use Rattle.minix_layout.specs.Geometry.{IsSound}
use Rattle.volume_steps.specs.Now.{VolumeNow, Change}
use Rattle.volume_steps.specs.Steps.{drop_node}
use Rattle.volume_names.specs.code.Steps.{After}
use Rattle.volume_names.proofs.Changed.{volume_of}
use Rattle.volume_in_use.specs.bytes.code.Cutting.{blocks_freed}
use Rattle.volume_names.specs.removals.code.Dropping.{MayDrop}
use Rattle.volume_names.proofs.RemovalsLemmas.Dropped.{blocks_used, metadata_used, same_geometry, node_gone, noted_node}
use Rattle.volume_names.proofs.removals.nodes.drop_node.Goals as goal

pub free_blocks-requires-clause-used : goal.free_blocks-requires-clause-used
free_blocks-requires-clause-used c =
    let v = c.v.inside in
    let now = volume_of v.geometry v.blocks v.nodes.entries v.zones in
    let h : MayDrop now c.args.tx c.args.n c.args.metadata.now = subst (λ s. MayDrop s c.args.tx c.args.n c.args.metadata.now) (sym c.v.view_is) c.requires.may in
    let one : Change = record { volume = volume_of v.geometry c.mark_inode.new.blocks c.remove.new.self.entries v.zones; touched = c.mark_inode.new.touched.touched } in
    blocks_used now c.args.tx c.args.n c.args.metadata.now h c.in-Some.node (sym c.remove.ensures.value ∙ c.in-Some.is) c.blocks_in.result.now c.blocks_in.ensures c.mark_inode.new.blocks c.remove.new.self.entries
    one (blocks_freed c.args.tx c.args.n c.blocks_in.result.now one) one refl refl

pub free_numbers-requires-clause-sound : goal.free_numbers-requires-clause-sound
free_numbers-requires-clause-sound c =
    let v = c.v.inside in
    let now = volume_of v.geometry v.blocks v.nodes.entries v.zones in
    let h : MayDrop now c.args.tx c.args.n c.args.metadata.now = subst (λ s. MayDrop s c.args.tx c.args.n c.args.metadata.now) (sym c.v.view_is) c.requires.may in
    let one : Change = record { volume = volume_of v.geometry c.mark_inode.new.blocks c.remove.new.self.entries v.zones; touched = c.mark_inode.new.touched.touched } in
    let two : Change = record { volume = c.free_blocks.new.v; touched = c.free_blocks.new.touched.touched } in
    subst IsSound
    (sym (same_geometry now c.args.tx c.args.n c.args.metadata.now h c.in-Some.node (sym c.remove.ensures.value ∙ c.in-Some.is) c.blocks_in.result.now c.blocks_in.ensures c.mark_inode.new.blocks c.remove.new.self.entries
    one two one refl c.free_blocks.ensures.change)) h.sound

pub free_numbers-requires-clause-used : goal.free_numbers-requires-clause-used
free_numbers-requires-clause-used c =
    let v = c.v.inside in
    let now = volume_of v.geometry v.blocks v.nodes.entries v.zones in
    let h : MayDrop now c.args.tx c.args.n c.args.metadata.now = subst (λ s. MayDrop s c.args.tx c.args.n c.args.metadata.now) (sym c.v.view_is) c.requires.may in
    let one : Change = record { volume = volume_of v.geometry c.mark_inode.new.blocks c.remove.new.self.entries v.zones; touched = c.mark_inode.new.touched.touched } in
    let two : Change = record { volume = c.free_blocks.new.v; touched = c.free_blocks.new.touched.touched } in
    metadata_used now c.args.tx c.args.n c.args.metadata.now h c.in-Some.node (sym c.remove.ensures.value ∙ c.in-Some.is) c.blocks_in.result.now c.blocks_in.ensures c.mark_inode.new.blocks c.remove.new.self.entries
    one two one refl c.free_blocks.ensures.change

pub returns : goal.returns
returns c =
    let v = c.v.inside in
    let w = c.v-2.inside in
    let now = volume_of v.geometry v.blocks v.nodes.entries v.zones in
    let h : MayDrop now c.args.tx c.args.n c.args.metadata.now = subst (λ s. MayDrop s c.args.tx c.args.n c.args.metadata.now) (sym c.v.view_is) c.requires.may in
    let one : Change = record { volume = volume_of v.geometry c.mark_inode.new.blocks c.remove.new.self.entries v.zones; touched = c.mark_inode.new.touched.touched } in
    let two : Change = record { volume = c.free_blocks.new.v; touched = c.free_blocks.new.touched.touched } in
    let three : Change = record { volume = volume_of w.geometry w.blocks w.nodes.entries w.zones; touched = c.free_numbers.new.touched.touched } in
    let last : VolumeNow = volume_of w.geometry c.put_inode.new.blocks w.nodes.entries w.zones in
    record {
      done = subst (λ s. After c.args.touched.now.touched (drop_node s c.args.tx c.args.n) last c.note_node.new.self.touched) c.v.view_is
          (node_gone now c.args.tx c.args.n c.args.metadata.now h c.in-Some.node (sym c.remove.ensures.value ∙ c.in-Some.is) c.blocks_in.result.now c.blocks_in.ensures c.mark_inode.new.blocks c.remove.new.self.entries
          one two three refl c.free_blocks.ensures.change c.args.touched.now.touched c.mark_inode.ensures.touched c.mark_inode.ensures.blocks c.remove.ensures.entries
          (ap (λ (v : VolumeNow). record { volume = v; touched = c.free_numbers.new.touched.touched }) c.v-2.view_is ∙ c.free_numbers.ensures.change)
          c.zeros.result c.zeros.ensures c.put_inode.new.blocks c.put_inode.ensures c.note_node.new.self.touched
          (noted_node c.free_numbers.new.touched c.note_block.new.self c.note_node.new.self c.table_block.result _ c.args.n c.note_block.ensures c.table_block.ensures c.note_node.ensures));
    }
