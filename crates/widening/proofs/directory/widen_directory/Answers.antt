use Rattle.std.proofs.Common.{◌≡◌, ap, ◌∙◌, arith, rules, length, take, ◌++◌, ◌-◌}
use Rattle.volume_model.specs.Edits.{edited_all}
use Rattle.widening.specs.Directories.{zones_needed, kept_by}
use Rattle.widening.specs.code.Steps.{write_edits}
use Rattle.widening.proofs.WriteSteps.{kept_there, kept_none, written_ok}
use Rattle.widening.proofs.directory.widen_directory.Goals as goal
use Rattle.widening.proofs.directory.widen_directory.Goals.{then-needed-gt7, else-needed-gt7}

pub returns-clause-ok : goal.returns-clause-ok
returns-clause-ok c =
    let g = c.args.g.now in
    let needed = c.div_ceil-needed.result in
    let inode = c.inode_at-inode.result in
    let own = c.len-own.result in
    let kept : c.if-needed-gt7.kept ≡ kept_by inode needed = elim c.if-needed-gt7.branch [
      | then-needed-gt7 w ↦ kept_there inode needed c.if-needed-gt7.kept w.if-needed-gt7.true (w.kept-is ∙ w.zone-kept.ensures)
      | else-needed-gt7 w ↦ kept_none inode needed c.if-needed-gt7.kept w.if-needed-gt7.false w.kept-is
    ] in
    let few = c.if-needed-gt-MOST_ZONES.false in
    let room = c.if-len-taken.false in
    let left = c.len-2.ensures in
    let size : own ≡ length c.in_ok-zones.zones.items = search rules in
    written_ok g c.args.disk.now c.args.number c.args.d.now (record { image = c.args.image.now; free = c.args.free.now }) needed inode c.if-needed-gt7.kept own c.saturating_sub-taken.result
    c.take_into.new.zones.items c.in_ok-slots.slots.items c.write_directory.new.image c.take_into.new.self
    (c.div_ceil-needed.ensures ∙ ap zones_needed c.len.ensures.len) c.inode_at-inode.ensures.value kept (size ∙ ap length c.in_ok-zones.ensures)
    (c.saturating_sub-taken.ensures ∙ ap (λ n. n - own) c.all_needed.ensures)
    (c.in_ok-take_into.ensures.zones ∙ ap (λ zs. zs ++ take c.saturating_sub-taken.result c.args.free.now) c.in_ok-zones.ensures) c.in_ok-slots.ensures
    (omega (arith, few)) (omega (arith, room, left))
    (c.write_directory.ensures ∙ ap (λ ss. edited_all g c.args.image.now (write_edits g c.args.number inode ss c.take_into.new.zones.items own needed c.if-needed-gt7.kept)) c.deref.ensures.value)
    c.in_ok-take_into.ensures.left
