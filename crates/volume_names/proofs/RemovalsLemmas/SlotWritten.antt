-- A slot of a directory that keeps its size is written: what the code did is the step.
use Rattle.std.specs.Prelude.{◌≡◌, ◌*◌, ◌/◌, ◌%◌, ℕ, List, [], ◌∷◌, length, Option, Some, refl}
use Rattle.std.specs.BTreeMap.{is_at}
use Rattle.std.specs.Map.{set_value}
use Rattle.std.specs.Ordering.{nat_cmp}
use Rattle.std.proofs.Common.{sym, ap, ◌∙◌}
use Rattle.minix_layout.specs.Widths.{slot_size, slots_a_block}
use Rattle.minix_layout.specs.declared.division.Geometry.{Geometry}
use Rattle.minix_layout.specs.declared.inode.Inode.{Inode}
use Rattle.minix_layout.specs.declared.slot.Slot.{Slot}
use Rattle.tree_model.specs.Maps.{at_number, put_number}
use Rattle.tree_model.specs.laws.MapOrder.{InOrder}
use Rattle.volume_model.specs.declared.placed.Placed.{Placed}
use Rattle.volume_model.specs.declared.placed.Part.TheVariants as parts
use Rattle.volume_model.specs.declared.placed.DirectoryPart.{DirectoryPart}
use Rattle.volume_model.specs.Edits.{put_slot, edited}
use Rattle.volume_model.specs.Volume.{block, zone_in}
use Rattle.volume_model.specs.Moves.{with_size, inode_back, back_told, inode_written, inode_told}
use Rattle.volume_model.specs.Touched.{Touched, and_then}
use Rattle.volume_model.specs.laws.Back.{fields_same}
use Rattle.volume_model.specs.laws.Trees.{set_is_put}
use Rattle.volume_steps.specs.Now.{VolumeNow}
use Rattle.volume_steps.specs.Steps.{tells_node, slot_told}
use Rattle.volume_names.specs.code.Steps.{After}
use Rattle.volume_names.proofs.Changed.{volume_of}
use Rattle.volume_names.specs.removals.code.Naming.{slot_change}

-- an inode that stays is not written, and nothing is told of it
back_same : (g : Geometry) (blocks : List (List ℕ)) (p : Placed) → inode_back g blocks p p.inode ≡ blocks
unfolding inode_written
back_same g blocks p = rw (fields_same p.inode) refl

none_told : (g : Geometry) (p : Placed) → back_told g p p.inode ≡ []
unfolding inode_told
none_told g p = rw (fields_same p.inode) refl

module _ (v : VolumeNow) (n : ℕ) (p : Placed) (d : DirectoryPart) (order : InOrder v.contents.nodes) (stands : at_number v.contents.nodes n ≡ Some p) (size : p.inode.size ≡ slot_size v.geometry.width * length d.slots)
    (k : ℕ) (o : Option Slot) (next : DirectoryPart) (long : length next.slots ≡ length d.slots) where
  abbrev end_inode : Inode
  end_inode = with_size p.inode (slot_size v.geometry.width * length next.slots)

  -- the directory keeps its size
  same_size : end_inode ≡ p.inode
  same_size = ap (with_size p.inode) (ap (λ k. slot_size v.geometry.width * k) long ∙ sym size)

  pub slot_is_written : (zone : ℕ) (after : DirectoryPart) (first : List (List ℕ)) (nodes : List (ℕ × Placed)) (before touched : Touched) → after ≡ next →
      zone ≡ zone_in v.contents.blocks p.inode (block (k / slots_a_block v.geometry.width)) → first ≡ edited v.geometry v.contents.blocks (put_slot zone (k % slots_a_block v.geometry.width) o) →
      nodes ≡ set_value (is_at (nat_cmp n)) v.contents.nodes (record { number = p.number; inode = p.inode; part = parts.Directory after }) →
      touched ≡ and_then before (tells_node n (zone ∷ [])) → After before (slot_change v n p k o next) (volume_of v.geometry first nodes v.zones) touched
  slot_is_written zone after first nodes before touched after_is zone_is first_is set told = record {
    volume_is = λ i. volume_of v.geometry (blocks_here i) (nodes_here i) v.zones;
    touched_is = told ∙ (λ i. and_then before (tells_node n (told_here i)));
  }
    where
      first_here : first ≡ edited v.geometry v.contents.blocks (put_slot (zone_in v.contents.blocks p.inode (block (k / slots_a_block v.geometry.width))) (k % slots_a_block v.geometry.width) o)
      first_here = first_is ∙ ap (λ zone. edited v.geometry v.contents.blocks (put_slot zone (k % slots_a_block v.geometry.width) o)) zone_is

      blocks_here : first ≡ inode_back v.geometry (edited v.geometry v.contents.blocks (put_slot (zone_in v.contents.blocks p.inode (block (k / slots_a_block v.geometry.width))) (k % slots_a_block v.geometry.width) o)) p end_inode
      blocks_here = first_here ∙ (sym (back_same v.geometry _ p)
          ∙ ap (inode_back v.geometry (edited v.geometry v.contents.blocks (put_slot (zone_in v.contents.blocks p.inode (block (k / slots_a_block v.geometry.width))) (k % slots_a_block v.geometry.width) o)) p) (sym same_size))

      told_here : zone ∷ [] ≡ slot_told v p k next
      told_here = ap (λ zone. zone ∷ []) zone_is ∙ ap (λ bs. zone_in v.contents.blocks p.inode (block (k / slots_a_block v.geometry.width)) ∷ bs) (sym (none_told v.geometry p) ∙ ap (back_told v.geometry p) (sym same_size))

      nodes_here : nodes ≡ put_number v.contents.nodes n (record { number = p.number; inode = end_inode; part = parts.Directory next })
      nodes_here =
          set ∙ (set_is_put v.contents.nodes n (record { number = p.number; inode = p.inode; part = parts.Directory after }) p order stands
          ∙ (λ i. put_number v.contents.nodes n (record { number = p.number; inode = sym same_size i; part = parts.Directory (after_is i) })))
