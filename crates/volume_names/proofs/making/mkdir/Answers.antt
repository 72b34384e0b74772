use Rattle.std.proofs.Common.{ap, ◌∙◌, sym, subst}
use Rattle.minix_layout.specs.declared.slot.Slot.{Slot}
use Rattle.minix_tables.specs.directories.Slots.{place_of}
use Rattle.tree_model.specs.Maps.{put_number}
use Rattle.volume_steps.specs.Now.{followed_by}
use Rattle.volume_steps.specs.Calls.{mkdir_in}
use Rattle.volume_in_use.specs.now.Noted.{Noted}
use Rattle.volume_names.specs.May.{MayMkdir}
use Rattle.volume_names.specs.code.NewSlot.{new_slot}
use Rattle.volume_names.specs.code.Steps.{entered, name_written, more_links}
use Rattle.volume_names.proofs.Changed.{volume_of, lowest_in}
use Rattle.volume_names.proofs.Creates.{after_then, after_nothing}
use Rattle.volume_names.proofs.Makes.{none, apart, no_place, numbered, may_be_written, parent_stays, made_as}
use Rattle.volume_names.proofs.making.mkdir.Goals as goal

pub enter_new-requires-clause-birth : goal.enter_new-requires-clause-birth
enter_new-requires-clause-birth c =
    let v = c.v.inside in
    none (volume_of v.geometry v.blocks v.nodes.entries v.zones) c.args.n c.args.parent c.args.name.now (subst (λ s. MayMkdir s c.args.n c.args.parent c.args.name.now) (sym c.v.view_is) c.requires.may)

pub enter_new-requires-clause-slot : goal.enter_new-requires-clause-slot
enter_new-requires-clause-slot c = λ p d at is.
    let v = c.v.inside in
    ap (λ (slot : Slot). place_of d.slots slot.name) c.slot_of.ensures
    ∙ no_place (volume_of v.geometry v.blocks v.nodes.entries v.zones) c.args.n c.args.parent c.args.name.now (subst (λ s. MayMkdir s c.args.n c.args.parent c.args.name.now) (sym c.v.view_is) c.requires.may) p d at is

pub enter_new-requires-clause-apart : goal.enter_new-requires-clause-apart
enter_new-requires-clause-apart c = apart c.args.v.now c.args.n c.args.parent c.args.name.now c.requires.may

pub write_directory-requires-clause-numbers : goal.write_directory-requires-clause-numbers
write_directory-requires-clause-numbers c =
    let v = c.v.inside in
    let now = volume_of v.geometry v.blocks v.nodes.entries v.zones in
    let h : MayMkdir now c.args.n c.args.parent c.args.name.now = subst (λ s. MayMkdir s c.args.n c.args.parent c.args.name.now) (sym c.v.view_is) c.requires.may in
    numbered now c.args.n c.args.parent c.args.name.now h c.args.number (lowest_in v.geometry v.blocks v.nodes.entries v.zones c.args.v.now c.v.view_is c.args.number c.requires.number) c.number_of-above.result (c.number_of-above.ensures h.place.placed h.place.stands)
    c.slot_of.result c.slot_of.ensures c.in_ok-directory.directory c.in_ok-directory.ensures c.enter_new.new.nodes.entries (c.in_ok-new.ensures.nodes h.place.placed h.place.part h.place.stands h.place.is)
    c.in_ok-new.new (c.in_ok-new.ensures.place h.place.placed h.place.part h.place.stands h.place.is)

pub write_name-requires-clause-may : goal.write_name-requires-clause-may
write_name-requires-clause-may c =
    let v = c.v.inside in
    let now = volume_of v.geometry v.blocks v.nodes.entries v.zones in
    let h : MayMkdir now c.args.n c.args.parent c.args.name.now = subst (λ s. MayMkdir s c.args.n c.args.parent c.args.name.now) (sym c.v.view_is) c.requires.may in
    let slots = c.slot_of.ensures ∙ sym c.slot_of-slot.ensures in
    may_be_written now c.args.n c.args.parent c.args.name.now h c.args.number (lowest_in v.geometry v.blocks v.nodes.entries v.zones c.args.v.now c.v.view_is c.args.number c.requires.number) c.number_of-above.result (c.number_of-above.ensures h.place.placed h.place.stands)
    c.slot_of-slot.result c.slot_of-slot.ensures c.in_ok-directory.directory c.in_ok-directory.ensures c.enter_new.new.nodes.entries
    (c.in_ok-new.ensures.nodes h.place.placed h.place.part h.place.stands h.place.is
    ∙ ap (λ slot. entered (put_number v.nodes.entries c.args.n c.in_ok-directory.directory) c.args.parent h.place.placed h.place.part slot c.args.n) slots)
    c.in_ok-new.new (c.in_ok-new.ensures.place h.place.placed h.place.part h.place.stands h.place.is ∙ ap (new_slot h.place.part) slots)
    c.write_directory.new.v c.write_directory.ensures.done.volume_is

pub add_link-requires-clause-numbers : goal.add_link-requires-clause-numbers
add_link-requires-clause-numbers c = λ p found.
    let v = c.v.inside in
    let now = volume_of v.geometry v.blocks v.nodes.entries v.zones in
    let h : MayMkdir now c.args.n c.args.parent c.args.name.now = subst (λ s. MayMkdir s c.args.n c.args.parent c.args.name.now) (sym c.v.view_is) c.requires.may in
    let slots = c.slot_of.ensures ∙ sym c.slot_of-slot.ensures in
    (parent_stays now c.args.n c.args.parent c.args.name.now h c.args.number (lowest_in v.geometry v.blocks v.nodes.entries v.zones c.args.v.now c.v.view_is c.args.number c.requires.number) c.number_of-above.result (c.number_of-above.ensures h.place.placed h.place.stands)
    c.slot_of-slot.result c.slot_of-slot.ensures c.in_ok-directory.directory c.in_ok-directory.ensures c.enter_new.new.nodes.entries
    (c.in_ok-new.ensures.nodes h.place.placed h.place.part h.place.stands h.place.is
    ∙ ap (λ slot. entered (put_number v.nodes.entries c.args.n c.in_ok-directory.directory) c.args.parent h.place.placed h.place.part slot c.args.n) slots)
    c.in_ok-new.new (c.in_ok-new.ensures.place h.place.placed h.place.part h.place.stands h.place.is ∙ ap (new_slot h.place.part) slots)
    c.write_directory.new.v c.write_name.new.v c.write_directory.ensures.done.volume_is c.write_name.ensures.done.volume_is p found).0

pub add_link-requires-clause-links : goal.add_link-requires-clause-links
add_link-requires-clause-links c = λ p found.
    let v = c.v.inside in
    let now = volume_of v.geometry v.blocks v.nodes.entries v.zones in
    let h : MayMkdir now c.args.n c.args.parent c.args.name.now = subst (λ s. MayMkdir s c.args.n c.args.parent c.args.name.now) (sym c.v.view_is) c.requires.may in
    let slots = c.slot_of.ensures ∙ sym c.slot_of-slot.ensures in
    (parent_stays now c.args.n c.args.parent c.args.name.now h c.args.number (lowest_in v.geometry v.blocks v.nodes.entries v.zones c.args.v.now c.v.view_is c.args.number c.requires.number) c.number_of-above.result (c.number_of-above.ensures h.place.placed h.place.stands)
    c.slot_of-slot.result c.slot_of-slot.ensures c.in_ok-directory.directory c.in_ok-directory.ensures c.enter_new.new.nodes.entries
    (c.in_ok-new.ensures.nodes h.place.placed h.place.part h.place.stands h.place.is
    ∙ ap (λ slot. entered (put_number v.nodes.entries c.args.n c.in_ok-directory.directory) c.args.parent h.place.placed h.place.part slot c.args.n) slots)
    c.in_ok-new.new (c.in_ok-new.ensures.place h.place.placed h.place.part h.place.stands h.place.is ∙ ap (new_slot h.place.part) slots)
    c.write_directory.new.v c.write_name.new.v c.write_directory.ensures.done.volume_is c.write_name.ensures.done.volume_is p found).1

pub returns-clause-done : goal.returns-clause-done
returns-clause-done c =
    let v = c.v.inside in
    let now = volume_of v.geometry v.blocks v.nodes.entries v.zones in
    let h : MayMkdir now c.args.n c.args.parent c.args.name.now = subst (λ s. MayMkdir s c.args.n c.args.parent c.args.name.now) (sym c.v.view_is) c.requires.may in
    let slots = c.slot_of.ensures ∙ sym c.slot_of-slot.ensures in
    after_nothing c.in_ok-touched.touched.touched _ c.add_link.new.v c.add_link.new.touched.touched (ap (λ (t : Noted). t.touched) c.in_ok-touched.ensures)
    (after_then c.in_ok-touched.touched.touched _ (λ u. followed_by (name_written u c.args.parent c.slot_of-slot.result c.in_ok-new.new) (λ w. more_links w c.args.parent))
    c.write_directory.new.v c.add_link.new.v c.write_directory.new.touched.touched c.add_link.new.touched.touched c.write_directory.ensures.done
    (after_then c.write_directory.new.touched.touched (name_written c.write_directory.new.v c.args.parent c.slot_of-slot.result c.in_ok-new.new) (λ w. more_links w c.args.parent)
    c.write_name.new.v c.add_link.new.v c.write_name.new.touched.touched c.add_link.new.touched.touched c.write_name.ensures.done c.add_link.ensures.done))
    ∙ (made_as now c.args.n c.args.parent c.args.name.now h c.args.number (lowest_in v.geometry v.blocks v.nodes.entries v.zones c.args.v.now c.v.view_is c.args.number c.requires.number) c.number_of-above.result (c.number_of-above.ensures h.place.placed h.place.stands)
    c.slot_of-slot.result c.slot_of-slot.ensures c.in_ok-directory.directory c.in_ok-directory.ensures c.enter_new.new.nodes.entries
    (c.in_ok-new.ensures.nodes h.place.placed h.place.part h.place.stands h.place.is
    ∙ ap (λ slot. entered (put_number v.nodes.entries c.args.n c.in_ok-directory.directory) c.args.parent h.place.placed h.place.part slot c.args.n) slots)
    c.in_ok-new.new (c.in_ok-new.ensures.place h.place.placed h.place.part h.place.stands h.place.is ∙ ap (new_slot h.place.part) slots)
    ∙ ap (λ s. mkdir_in s c.args.n c.args.parent c.args.name.now) c.v.view_is)
