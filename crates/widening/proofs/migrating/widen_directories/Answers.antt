use Rattle.std.proofs.Common.{sym, ap, subst, ◌∙◌}
use Rattle.minix_layout.specs.Geometry.{IsSound}
use Rattle.volume_model.specs.Edits.{edited}
use Rattle.widening.specs.Widened.{wide, magic_edit}
use Rattle.widening.specs.code.Steps.{nodes_written}
use Rattle.widening.proofs.Fitting.{read_fits, wide_sound}
use Rattle.widening.proofs.RoomSteps.{image_of, by_nodes, ok_after, told_after}
use Rattle.widening.proofs.migrating.widen_directories.Goals as goal

pub widen_nodes-requires-clause-sound : goal.widen_nodes-requires-clause-sound
widen_nodes-requires-clause-sound c = subst (λ h. IsSound (wide h)) (sym c.geometry.ensures) (wide_sound c.args.volume.now.geometry c.disk.ensures.sound)

pub widen_nodes-requires-clause-fits : goal.widen_nodes-requires-clause-fits
widen_nodes-requires-clause-fits c = read_fits c.args.volume.now.geometry c.args.volume.now.blocks c.in_ok-tree.tree c.disk.ensures.sound c.in_ok-tree.ensures

pub returns-clause-image : goal.returns-clause-image
returns-clause-image c =
    let v = c.args.volume.now in
    let image = c.args.image.now in
    let tree = c.in_ok-tree.tree in
    let free = c.in_ok-free.free in
    ok_after c.widen_nodes.result _ _ _
    (ap (λ h. image_of (nodes_written (wide h) c.disk.result.now tree (record { image = c.put_entry.new.blocks; free = free }))) c.geometry.ensures
    ∙ (ap (λ b. image_of (nodes_written (wide v.geometry) b tree (record { image = c.put_entry.new.blocks; free = free }))) c.disk.ensures.blocks
    ∙ by_nodes v image c.put_entry.new.blocks tree free c.requires c.in_ok-tree.ensures (λ all walks. c.in_ok-free.ensures all walks) (c.put_entry.ensures ∙ ap (λ h. edited (wide h) image magic_edit) c.geometry.ensures)))
    c.widen_nodes.ensures.ok

pub returns-clause-fault : goal.returns-clause-fault
returns-clause-fault c =
    let v = c.args.volume.now in
    let image = c.args.image.now in
    let tree = c.in_ok-tree.tree in
    let free = c.in_ok-free.free in
    told_after c.widen_nodes.result _ _
    (ap (λ h. image_of (nodes_written (wide h) c.disk.result.now tree (record { image = c.put_entry.new.blocks; free = free }))) c.geometry.ensures
    ∙ (ap (λ b. image_of (nodes_written (wide v.geometry) b tree (record { image = c.put_entry.new.blocks; free = free }))) c.disk.ensures.blocks
    ∙ by_nodes v image c.put_entry.new.blocks tree free c.requires c.in_ok-tree.ensures (λ all walks. c.in_ok-free.ensures all walks) (c.put_entry.ensures ∙ ap (λ h. edited (wide h) image magic_edit) c.geometry.ensures)))
    c.widen_nodes.ensures.fault
