-- Names and slots that came in memory.
use Rattle.std.specs.Prelude.{◌≡◌, ◌<◌, ◌&&◌, ◌%◌, ℕ, nat_eq, false, List, length, Some, Result, Ok, Err, OnOk, OnErr}
use Rattle.std.specs.BTreeMap.{is_at}
use Rattle.std.specs.Map.{set_value}
use Rattle.std.specs.Ordering.{nat_cmp}
use Rattle.std.proofs.Common.{sym, ap, ◌∙◌, arith}
use Rattle.std.proofs.lemmas.Bool.{ne_eqb}
use Rattle.std.proofs.lemmas.Map.Steps.{set_value_same}
use Rattle.std.proofs.lemmas.Option.{same_Some}
use Rattle.blk_base.specs.declared.memory.NoMemory.{NoMemory}
use Rattle.minix_layout.specs.Widths.{slots_a_block}
use Rattle.minix_layout.specs.declared.slot.Slot.{Slot}
use Rattle.minix_tables.specs.directories.Slots.{room, with_slot}
use Rattle.tree_model.specs.Maps.{at_number, put_name}
use Rattle.tree_model.specs.laws.MapOrder.{InOrder}
use Rattle.volume_model.specs.declared.placed.Placed.{Placed}
use Rattle.volume_model.specs.declared.placed.Part.TheVariants as parts
use Rattle.volume_model.specs.declared.placed.DirectoryPart.{DirectoryPart}
use Rattle.volume_model.specs.laws.Trees.{set_is_put}
use Rattle.volume_names.specs.declared.directories.NewSlot.{NewSlot}
use Rattle.volume_names.specs.code.NewSlot.{new_slot}
use Rattle.volume_names.proofs.Entered.{same_directory}
use Rattle.volume_names.specs.renames.code.Parts.{node_put, name_put}

module _ (nodes later : List (ℕ × Placed)) (n : ℕ) (p : Placed) (d : DirectoryPart) (at : at_number nodes n ≡ Some p) (is : p.part ≡ parts.Directory d) where
  -- a directory was written through a borrow
  pub part_is_put : (order : InOrder nodes) (change : DirectoryPart → DirectoryPart) (e : DirectoryPart) → later ≡ set_value (is_at (nat_cmp n)) nodes (record { number = p.number; inode = p.inode; part = parts.Directory e }) →
      e ≡ change d → (q : Placed) (f : DirectoryPart) → at_number nodes n ≡ Some q → q.part ≡ parts.Directory f → later ≡ node_put nodes n q (parts.Directory (change f))
  part_is_put order change e set made q f there also =
      let one : p ≡ q = same_Some p q (sym at ∙ there) in
      let two : d ≡ f = same_directory d f (sym is ∙ (ap (λ (p : Placed). p.part) one ∙ also)) in
      set
      ∙ (set_is_put nodes n (record { number = p.number; inode = p.inode; part = parts.Directory e }) p order at
      ∙ (ap (λ e. node_put nodes n p (parts.Directory e)) made ∙ (λ i. node_put nodes n (one i) (parts.Directory (change (two i))))))

  abbrev with_names : List (List ℕ × ℕ) → DirectoryPart
  with_names names = record { parent = d.parent; width = d.width; names = names; slots = d.slots }

  module _ (names : List (List ℕ × ℕ)) (set : later ≡ set_value (is_at (nat_cmp n)) nodes (record { number = p.number; inode = p.inode; part = parts.Directory (with_names names) })) where
    pub name_ok : {A : Type 0} (order : InOrder nodes) (r : Result A NoMemory) (name : List ℕ) (birth : ℕ) → OnOk r (names ≡ put_name d.names name birth) →
        OnOk r ((q : Placed) (f : DirectoryPart) → at_number nodes n ≡ Some q → q.part ≡ parts.Directory f → later ≡ node_put nodes n q (parts.Directory (name_put f name birth)))
    name_ok order (Err fault) name birth h = h
    name_ok order (Ok done) name birth h = part_is_put order (λ d. name_put d name birth) (with_names names) set (ap with_names h)

    pub name_err : {A : Type 0} (r : Result A NoMemory) → OnErr r (names ≡ d.names) → OnErr r (later ≡ nodes)
    name_err (Ok done) h = h
    name_err (Err fault) h =
        set
        ∙ (ap (λ part. set_value (is_at (nat_cmp n)) nodes (record { number = p.number; inode = p.inode; part = part })) (ap (λ names. parts.Directory (with_names names)) h ∙ sym is)
        ∙ set_value_same (is_at (nat_cmp n)) nodes p at)

-- a slot that came at a free place begins no block
pub slot_inside : (d : DirectoryPart) (s : Slot) (at slots : ℕ) → room d.slots < length d.slots → at ≡ room d.slots → slots ≡ length (with_slot d.slots at s) →
    ◌≡◌ {A = NewSlot} (record { at = at; begins = false; slots = slots }) (new_slot d s)
slot_inside d s at slots free e f = λ i. record {
  at = e i;
  begins = sym (ap (λ b. b && nat_eq (length d.slots % slots_a_block d.width) 0) (ne_eqb (room d.slots) (length d.slots) (λ same. (omega arith)))) i;
  slots = (f ∙ ap (λ at. length (with_slot d.slots at s)) e) i;
}
