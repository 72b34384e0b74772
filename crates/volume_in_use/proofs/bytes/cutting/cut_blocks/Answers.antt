use Rattle.std.proofs.Common.{sym, subst, List, ℕ}
use Rattle.minix_layout.specs.Geometry.{IsSound}
use Rattle.volume_ops.specs.declared.found.Mapped.{Mapped}
use Rattle.minix_tables.specs.zones.Zones.{Zones}
use Rattle.volume_in_use.specs.bytes.code.Cutting.{MayGive}
use Rattle.volume_in_use.proofs.BytesLemmas.Freeing.{blocks_leave, give_first, give_rest, zones_of}
use Rattle.volume_in_use.proofs.bytes.cutting.cut_blocks.Goals as goal

pub free_blocks-requires-clause-used : goal.free_blocks-requires-clause-used
free_blocks-requires-clause-used c =
    subst (λ (ms : List Mapped). MayGive c.args.tx c.args.v.now.zones (zones_of ms)) (sym c.deref.ensures.value)
    (give_first c.args.tx (zones_of c.args.gone.now.blocks.items) c.args.gone.now.numbers.items c.args.v.now.zones c.requires.used)

pub free_numbers-requires-clause-sound : goal.free_numbers-requires-clause-sound
free_numbers-requires-clause-sound c =
    subst IsSound (sym (blocks_leave c.args.tx c.args.file.now.birth c.args.gone.now.blocks.items c.deref.result.now (record { volume = c.args.v.now; touched = c.args.touched.now.touched }) (record { volume = c.free_blocks.new.v; touched = c.free_blocks.new.touched.touched })
    c.free_blocks.ensures.change c.deref.ensures.value).0) c.requires.sound

pub free_numbers-requires-clause-used : goal.free_numbers-requires-clause-used
free_numbers-requires-clause-used c =
    subst (λ (zs : List ℕ). MayGive c.args.tx c.free_blocks.new.v.zones zs) (sym c.deref-2.ensures.value)
    (subst (λ (m : Zones). MayGive c.args.tx m c.args.gone.now.numbers.items)
    (sym (blocks_leave c.args.tx c.args.file.now.birth c.args.gone.now.blocks.items c.deref.result.now (record { volume = c.args.v.now; touched = c.args.touched.now.touched }) (record { volume = c.free_blocks.new.v; touched = c.free_blocks.new.touched.touched })
    c.free_blocks.ensures.change c.deref.ensures.value).1)
    (give_rest c.args.tx (zones_of c.args.gone.now.blocks.items) c.args.gone.now.numbers.items c.args.v.now.zones c.requires.used))
