use Rattle.std.proofs.Common.{rules, ap, sym, refl, ◌∙◌, ◌≡◌, ℕ, subst, ◌++◌}
use Rattle.std.specs.Int.{div_ceil}
use Rattle.volume_model.specs.declared.editing.freed.CutZones.{CutZones}
use Rattle.volume_model.specs.declared.editing.written.WrittenZones.{WrittenZones}
use Rattle.volume_steps.specs.Now.{VolumeNow}
use Rattle.volume_in_use.specs.bytes.code.Cutting.{MayGive}
use Rattle.volume_in_use.specs.bytes.code.Listed.{IsListed}
use Rattle.volume_in_use.proofs.BytesLemmas.Freeing.{zones_of}
use Rattle.volume_in_use.proofs.BytesLemmas.WholeCuts.{zones_may_go, after_cut, after_tail, number_after, there_after, cut_closed}
use Rattle.volume_in_use.proofs.bytes.truncating.truncate.Goals as goal

listed_of : (v : VolumeNow) (birth size from : ℕ) (gone : CutZones) (written : WrittenZones) → from ≡ div_ceil size 1024 → IsListed v birth from gone written → IsListed v birth (div_ceil size 1024) gone written
listed_of v birth size from gone written e l = subst (λ from. IsListed v birth from gone written) e l

pub cut_blocks-requires-clause-used : goal.cut_blocks-requires-clause-used
cut_blocks-requires-clause-used c =
    subst (λ (v : VolumeNow). MayGive c.args.tx v.zones (zones_of c.in_ok-gone.gone.blocks.items ++ c.in_ok-gone.gone.numbers.items)) (sym c.open_file-file.ensures.volume)
    (zones_may_go c.args.v.now c.args.tx c.args.birth c.args.size c.requires c.in_ok-gone.gone c.in_ok-gone.written (listed_of c.args.v.now c.args.birth c.args.size c.div_ceil-from.result c.in_ok-gone.gone c.in_ok-gone.written c.div_ceil-from.ensures c.in_ok-gone.ensures) c.open_file-file.result c.open_file-file.ensures.birth c.open_file-file.ensures.node)

pub set_size-requires-clause-number : goal.set_size-requires-clause-number
set_size-requires-clause-number c =
    number_after c.args.v.now c.args.tx c.args.birth c.args.size c.requires c.in_ok-gone.gone c.in_ok-gone.written (listed_of c.args.v.now c.args.birth c.args.size c.div_ceil-from.result c.in_ok-gone.gone c.in_ok-gone.written c.div_ceil-from.ensures c.in_ok-gone.ensures) c.open_file-file.result c.open_file-file.ensures.birth c.open_file-file.ensures.node
    (record { volume = c.cut_blocks.new.v; file = c.cut_blocks.new.file; touched = c.cut_blocks.new.touched.touched })
    (after_cut c.args.v.now c.args.tx c.args.birth c.args.size c.requires c.in_ok-gone.gone c.in_ok-gone.written (listed_of c.args.v.now c.args.birth c.args.size c.div_ceil-from.result c.in_ok-gone.gone c.in_ok-gone.written c.div_ceil-from.ensures c.in_ok-gone.ensures) c.open_file-file.result c.open_file-file.ensures.birth c.open_file-file.ensures.node c.div_ceil-from.result _ (record { volume = c.cut_blocks.new.v; file = c.cut_blocks.new.file; touched = c.cut_blocks.new.touched.touched }) c.div_ceil-from.ensures c.open_file-file.ensures.volume refl (search rules) c.cut_blocks.ensures.work)

pub close_file-requires : goal.close_file-requires
close_file-requires c =
    there_after c.args.v.now c.args.tx c.args.birth c.args.size c.requires c.in_ok-gone.gone c.in_ok-gone.written (listed_of c.args.v.now c.args.birth c.args.size c.div_ceil-from.result c.in_ok-gone.gone c.in_ok-gone.written c.div_ceil-from.ensures c.in_ok-gone.ensures) c.open_file-file.result c.open_file-file.ensures.birth c.open_file-file.ensures.node
    (record { volume = c.clear_tail.new.v; file = c.cut_blocks.new.file; touched = c.clear_tail.new.touched.touched })
    (record { volume = c.set_size.new.v; file = c.set_size.new.file; touched = c.set_size.new.touched.touched })
    (after_tail c.args.v.now c.args.tx c.args.birth c.args.size c.requires c.in_ok-gone.gone c.in_ok-gone.written (listed_of c.args.v.now c.args.birth c.args.size c.div_ceil-from.result c.in_ok-gone.gone c.in_ok-gone.written c.div_ceil-from.ensures c.in_ok-gone.ensures) c.open_file-file.result c.open_file-file.ensures.birth c.open_file-file.ensures.node (record { volume = c.cut_blocks.new.v; file = c.cut_blocks.new.file; touched = c.cut_blocks.new.touched.touched }) (record { volume = c.clear_tail.new.v; file = c.cut_blocks.new.file; touched = c.clear_tail.new.touched.touched })
    (after_cut c.args.v.now c.args.tx c.args.birth c.args.size c.requires c.in_ok-gone.gone c.in_ok-gone.written (listed_of c.args.v.now c.args.birth c.args.size c.div_ceil-from.result c.in_ok-gone.gone c.in_ok-gone.written c.div_ceil-from.ensures c.in_ok-gone.ensures) c.open_file-file.result c.open_file-file.ensures.birth c.open_file-file.ensures.node c.div_ceil-from.result _ (record { volume = c.cut_blocks.new.v; file = c.cut_blocks.new.file; touched = c.cut_blocks.new.touched.touched }) c.div_ceil-from.ensures c.open_file-file.ensures.volume refl (search rules) c.cut_blocks.ensures.work)
    c.clear_tail.ensures.work)
    c.set_size.ensures

pub returns-clause-done : goal.returns-clause-done
returns-clause-done c =
    ap (λ v. record { volume = v; touched = c.set_size.new.touched.touched }) c.close_file.ensures
    ∙ cut_closed c.args.v.now c.args.tx c.args.birth c.args.size c.requires c.in_ok-gone.gone c.in_ok-gone.written (listed_of c.args.v.now c.args.birth c.args.size c.div_ceil-from.result c.in_ok-gone.gone c.in_ok-gone.written c.div_ceil-from.ensures c.in_ok-gone.ensures) c.open_file-file.result c.open_file-file.ensures.birth c.open_file-file.ensures.node
    (record { volume = c.clear_tail.new.v; file = c.cut_blocks.new.file; touched = c.clear_tail.new.touched.touched })
    (record { volume = c.set_size.new.v; file = c.set_size.new.file; touched = c.set_size.new.touched.touched })
    (after_tail c.args.v.now c.args.tx c.args.birth c.args.size c.requires c.in_ok-gone.gone c.in_ok-gone.written (listed_of c.args.v.now c.args.birth c.args.size c.div_ceil-from.result c.in_ok-gone.gone c.in_ok-gone.written c.div_ceil-from.ensures c.in_ok-gone.ensures) c.open_file-file.result c.open_file-file.ensures.birth c.open_file-file.ensures.node (record { volume = c.cut_blocks.new.v; file = c.cut_blocks.new.file; touched = c.cut_blocks.new.touched.touched }) (record { volume = c.clear_tail.new.v; file = c.cut_blocks.new.file; touched = c.clear_tail.new.touched.touched })
    (after_cut c.args.v.now c.args.tx c.args.birth c.args.size c.requires c.in_ok-gone.gone c.in_ok-gone.written (listed_of c.args.v.now c.args.birth c.args.size c.div_ceil-from.result c.in_ok-gone.gone c.in_ok-gone.written c.div_ceil-from.ensures c.in_ok-gone.ensures) c.open_file-file.result c.open_file-file.ensures.birth c.open_file-file.ensures.node c.div_ceil-from.result _ (record { volume = c.cut_blocks.new.v; file = c.cut_blocks.new.file; touched = c.cut_blocks.new.touched.touched }) c.div_ceil-from.ensures c.open_file-file.ensures.volume refl (search rules) c.cut_blocks.ensures.work)
    c.clear_tail.ensures.work)
    c.set_size.ensures
