use Rattle.std.proofs.Common.{ap, ◌∙◌, sym, subst, List}
use Rattle.volume_model.specs.declared.placed.Placed.{Placed}
use Rattle.volume_model.specs.declared.placed.Part.TheVariants as parts
use Rattle.volume_ops.specs.declared.found.Mapped.{Mapped}
use Rattle.minix_layout.specs.declared.inode.Inode.{Inode}
use Rattle.minix_tables.specs.directories.Slots.{place_of}
use Rattle.volume_steps.specs.Steps.{new_file_inode}
use Rattle.volume_steps.specs.Calls.{create_in}
use Rattle.volume_names.specs.code.NewSlot.{new_slot}
use Rattle.volume_names.specs.May.{MayCreate}
use Rattle.volume_names.specs.code.Steps.{entered, name_written}
use Rattle.tree_model.specs.Maps.{put_number}
use Rattle.volume_in_use.specs.now.Noted.{Noted}
use Rattle.volume_names.proofs.Changed.{volume_of, lowest_in}
use Rattle.volume_names.proofs.Creates.{after_then, after_nothing, none, apart, no_place, some, may_be_written, created}
use Rattle.volume_names.proofs.creation.create.Goals as goal

pub enter_new-requires-clause-birth : goal.enter_new-requires-clause-birth
enter_new-requires-clause-birth c =
    let v = c.v.inside in
    none (volume_of v.geometry v.blocks v.nodes.entries v.zones) c.args.n c.args.parent c.args.name.now (subst (λ s. MayCreate s c.args.n c.args.parent c.args.name.now) (sym c.v.view_is) c.requires.may)

pub enter_new-requires-clause-slot : goal.enter_new-requires-clause-slot
enter_new-requires-clause-slot c = λ p d at is.
    let v = c.v.inside in
    ap (λ slot. place_of d.slots slot.name) c.slot_of.ensures
    ∙ no_place (volume_of v.geometry v.blocks v.nodes.entries v.zones) c.args.n c.args.parent c.args.name.now (subst (λ s. MayCreate s c.args.n c.args.parent c.args.name.now) (sym c.v.view_is) c.requires.may) p d at is

pub enter_new-requires-clause-apart : goal.enter_new-requires-clause-apart
enter_new-requires-clause-apart c = apart c.args.v.now c.args.n c.args.parent c.args.name.now c.requires.may

pub write_file-requires-clause-number : goal.write_file-requires-clause-number
write_file-requires-clause-number c =
    let v = c.v.inside in
    some (volume_of v.geometry v.blocks v.nodes.entries v.zones) c.args.n c.args.parent c.args.name.now (subst (λ s. MayCreate s c.args.n c.args.parent c.args.name.now) (sym c.v.view_is) c.requires.may)
    c.args.number (lowest_in v.geometry v.blocks v.nodes.entries v.zones c.args.v.now c.v.view_is c.args.number c.requires.number)

pub write_name-requires-clause-may : goal.write_name-requires-clause-may
write_name-requires-clause-may c =
    let v = c.v.inside in
    let now = volume_of v.geometry v.blocks v.nodes.entries v.zones in
    let h : MayCreate now c.args.n c.args.parent c.args.name.now = subst (λ s. MayCreate s c.args.n c.args.parent c.args.name.now) (sym c.v.view_is) c.requires.may in
    let file : Placed = record { number = c.args.number; inode = c.new_file_inode.result; part = parts.File c.new.result } in
    let slots = c.slot_of.ensures ∙ sym c.slot_of-slot.ensures in
    may_be_written now c.args.n c.args.parent c.args.name.now h c.args.number (lowest_in v.geometry v.blocks v.nodes.entries v.zones c.args.v.now c.v.view_is c.args.number c.requires.number) c.slot_of-slot.result c.slot_of-slot.ensures file
    (ap (λ (i : Inode). record { number = c.args.number; inode = i; part = parts.File c.new.result }) c.new_file_inode.ensures
    ∙ ap (λ (zones : List Mapped). record { number = c.args.number; inode = new_file_inode; part = parts.File zones }) c.new.ensures)
    c.enter_new.new.nodes.entries
    (c.in_ok-new.ensures.nodes h.place.placed h.place.part h.place.stands h.place.is
    ∙ ap (λ slot. entered (put_number v.nodes.entries c.args.n file) c.args.parent h.place.placed h.place.part slot c.args.n) slots)
    c.in_ok-new.new
    (c.in_ok-new.ensures.place h.place.placed h.place.part h.place.stands h.place.is ∙ ap (new_slot h.place.part) slots)
    c.write_file.new.v c.write_file.ensures.done.volume_is

pub returns-clause-done : goal.returns-clause-done
returns-clause-done c =
    let v = c.v.inside in
    let now = volume_of v.geometry v.blocks v.nodes.entries v.zones in
    let h : MayCreate now c.args.n c.args.parent c.args.name.now = subst (λ s. MayCreate s c.args.n c.args.parent c.args.name.now) (sym c.v.view_is) c.requires.may in
    let file : Placed = record { number = c.args.number; inode = c.new_file_inode.result; part = parts.File c.new.result } in
    let slots = c.slot_of.ensures ∙ sym c.slot_of-slot.ensures in
    after_nothing c.in_ok-touched.touched.touched _ c.write_name.new.v c.write_name.new.touched.touched (ap (λ (t : Noted). t.touched) c.in_ok-touched.ensures)
    (after_then c.in_ok-touched.touched.touched _ (λ u. name_written u c.args.parent c.slot_of-slot.result c.in_ok-new.new) c.write_file.new.v c.write_name.new.v c.write_file.new.touched.touched c.write_name.new.touched.touched
    c.write_file.ensures.done c.write_name.ensures.done)
    ∙ (created now c.args.n c.args.parent c.args.name.now h c.args.number (lowest_in v.geometry v.blocks v.nodes.entries v.zones c.args.v.now c.v.view_is c.args.number c.requires.number) c.slot_of-slot.result c.slot_of-slot.ensures file
    (ap (λ (i : Inode). record { number = c.args.number; inode = i; part = parts.File c.new.result }) c.new_file_inode.ensures
    ∙ ap (λ (zones : List Mapped). record { number = c.args.number; inode = new_file_inode; part = parts.File zones }) c.new.ensures)
    c.enter_new.new.nodes.entries
    (c.in_ok-new.ensures.nodes h.place.placed h.place.part h.place.stands h.place.is
    ∙ ap (λ slot. entered (put_number v.nodes.entries c.args.n file) c.args.parent h.place.placed h.place.part slot c.args.n) slots)
    c.in_ok-new.new
    (c.in_ok-new.ensures.place h.place.placed h.place.part h.place.stands h.place.is ∙ ap (new_slot h.place.part) slots)
    ∙ ap (λ s. create_in s c.args.n c.args.parent c.args.name.now) c.v.view_is)
