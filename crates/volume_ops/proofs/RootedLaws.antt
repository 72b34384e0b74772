-- The tree of a volume hangs together.
use Rattle.std.specs.Prelude.{◌≡◌, ◌≢◌, ℕ, ◌≤◌, ◌/◌, ◌%◌, ◌==◌, Bool, true, false, if◌then◌else◌, List, [], length, take, drop, Option, Some, None, Result, Ok, Err, refl}
use Rattle.std.proofs.Common.{sym, ap, subst, ◌∙◌, ⊎_elim, arith}
use Rattle.std.specs.List.{position_or_len}
use Rattle.std.specs.List.Sorted.{IsStrictlySortedBy}
use Rattle.std.specs.Map.{keys_of}
use Rattle.std.proofs.lemmas.Option.{none-some, same_Some}
use Rattle.std.proofs.lemmas.List.{length-take}
use Rattle.byte_fields.specs.Fields.{record_at, bytes_at}
use Rattle.minix_layout.specs.laws.SlotLaws.{short_name}
use Rattle.minix_layout.specs.Widths.{slot_size, slots_a_block}
use Rattle.minix_layout.specs.declared.division.Geometry.{Geometry}
use Rattle.minix_layout.specs.declared.slot.Slot.{Slot}
use Rattle.minix_layout.specs.declared.fault.LayoutFault.{LayoutFault}
use Rattle.minix_layout.specs.declared.fault.LayoutFault.TheVariants.{BadSlot}
use Rattle.minix_layout.specs.Slots.{slot_of, inode_in, is_bad_name, name_in}
use Rattle.tree_model.specs.declared.node.Node.{Node}
use Rattle.tree_model.specs.declared.node.Node.TheVariants as nodes
use Rattle.tree_model.specs.declared.node.Directory.{Directory}
use Rattle.tree_model.specs.Maps.{at_number, name_cmp}
use Rattle.tree_model.specs.Rooted.{HasEntry, IsRooted}
use Rattle.volume_ops.specs.declared.found.Found.{Found}
use Rattle.volume_ops.specs.declared.found.Found.TheVariants as found
use Rattle.volume_ops.specs.laws.ReadsLaws.{err-ok, same_Ok}
use Rattle.volume_ops.specs.Zones.{Fault}
use Rattle.volume_ops.specs.Walk.{Walked}
use Rattle.volume_ops.specs.Places.{inode_of_birth}
use Rattle.volume_ops.specs.Volume.{disk_of, walked, node_of, put_nodes, tree_found, tree_of}
use Rattle.volume_ops.specs.VolumeFields.{inode_at, zone_behind, IsTreeOf}
use Rattle.volume_ops.proofs.VisitLaws.{names_in}
use Rattle.volume_ops.proofs.WalkLaws.{Ends, walk_volume-ends}
use Rattle.volume_ops.proofs.TreeLaws.{was_found, named_of, tree_of-fields, tree_of-reached}
use Rattle.volume_ops.proofs.SortedLaws.{HasSorted, walked_sorted, nodes_sorted}

-- ---- names are not longer than the width

short_by : (width n : ℕ) (name : List ℕ) (free bad : Bool) (slot : Slot) → length name ≤ width →
    ◌≡◌ {A = Result (Option Slot) LayoutFault} (if free then Ok None else if bad then Err BadSlot else Ok (Some (record { inode = n; name = name }))) (Ok (Some slot)) → length slot.name ≤ width
short_by width n name true bad slot short h = absurd (none-some slot (same_Ok None (Some slot) h))
short_by width n name false true slot short h = absurd (err-ok BadSlot (Some slot) h)
short_by width n name false false slot short h =
    subst (λ (slot : Slot). length slot.name ≤ width) (same_Some _ slot (same_Ok _ (Some slot) h)) short

slot_of-short : (width : ℕ) (bytes : List ℕ) (slot : Slot) → slot_of width bytes ≡ Ok (Some slot) → length slot.name ≤ width
unfolding slot_of
slot_of-short width bytes slot h = short_by width (inode_in bytes) (name_in width bytes) (inode_in bytes == 0) (is_bad_name (name_in width bytes)) slot (short_name width bytes) h

behind_by : (width : ℕ) (hole : Bool) (bytes : List ℕ) (slot : Slot) →
    ◌≡◌ {A = Result (Option Slot) LayoutFault} (if hole then Ok None else slot_of width bytes) (Ok (Some slot)) → length slot.name ≤ width
behind_by width true bytes slot h = absurd (none-some slot (same_Ok None (Some slot) h))
behind_by width false bytes slot h = slot_of-short width bytes slot h

-- ---- the nodes that the walk found

tree_walked : (g : Geometry) (blocks : List (List ℕ)) (tree : List (ℕ × Node)) (r : Result Walked Fault) → walked g blocks ≡ r →
    tree_found blocks r ≡ Ok tree → (all : Walked) × (walked g blocks ≡ Ok all) × (put_nodes blocks all.nodes [] ≡ tree)
tree_walked g blocks tree (Ok all) w r = (all, w, same_Ok (put_nodes blocks all.nodes []) tree r)
tree_walked g blocks tree (Err fault) w r = absurd (err-ok fault tree r)

walked_ends : (g : Geometry) (blocks : List (List ℕ)) (all : Walked) → walked g blocks ≡ Ok all → Ends g blocks all.nodes
unfolding walked
walked_ends g blocks all w = walk_volume-ends g blocks all w

-- a directory was found as such
sorted_by : (blocks : List (List ℕ)) (f : Found) (d : Directory) → node_of blocks f ≡ nodes.Directory d → HasSorted f → IsStrictlySortedBy name_cmp (keys_of d.names)
sorted_by blocks (found.Directory c) d is h = subst (λ (names : List (List ℕ × ℕ)). IsStrictlySortedBy name_cmp (keys_of names)) (ap (λ (node : Node). names_in node) is) h
sorted_by blocks (found.File f) d is h = absurd (let k : node_of blocks (found.File f) ≡ nodes.Directory d = is in cc)
sorted_by blocks (found.Other mode) d is h = absurd (let k : node_of blocks (found.Other mode) ≡ nodes.Directory d = is in cc)

module _ (g : Geometry) (blocks : List (List ℕ)) (all : Walked) (walk : walked g blocks ≡ Ok all) where
  abbrev found_tree : List (ℕ × Node)
  found_tree = put_nodes blocks all.nodes []

  names_sorted : (birth : ℕ) (d : Directory) → at_number found_tree birth ≡ Some (nodes.Directory d) → IsStrictlySortedBy name_cmp (keys_of d.names)
  names_sorted birth d is =
      ⊎_elim
      (λ none. absurd (none-some (nodes.Directory d) none))
      (λ x. sorted_by blocks x.one.found d x.node_is (walked_sorted g blocks all walk x.one x.within))
      (was_found blocks all.nodes [] birth (nodes.Directory d) is)

  no_root_named : (parent : ℕ) (name : List ℕ) (birth : ℕ) → HasEntry found_tree parent name birth → birth ≢ 0
  no_root_named parent name birth n =
      let ends = walked_ends g blocks all walk in
      let here : HasEntry (put_nodes blocks ends.state.nodes []) parent name birth = subst (λ ms. HasEntry (put_nodes blocks ms []) parent name birth) (sym ends.nodes) n in
      ends.walked.no_root parent name birth (named_of g blocks (all.nodes, ends) parent name birth here)

  found_rooted : tree_of g blocks ≡ Ok found_tree → IsRooted found_tree
  found_rooted r =
      let t : IsTreeOf g blocks found_tree = tree_of-fields g blocks found_tree r in
      record {
        in_order = nodes_sorted blocks all.nodes;
        names_in_order = names_sorted;
        root = (t.root.0, t.root.1);
        width = g.width;
        of_width = λ birth d is. (t.each birth (nodes.Directory d) is).width;
        short = λ parent name birth n.
            let has = ((t.each parent (nodes.Directory n.directory) n.stands).names name birth).0 n.named in
            subst (λ (name : List ℕ). length name ≤ g.width) has.name_is
            (behind_by g.width (zone_behind blocks (inode_at g blocks (inode_of_birth parent)) (has.place / slots_a_block g.width) == 0)
            (record_at (slot_size g.width) (has.place % slots_a_block g.width) (disk_of blocks (zone_behind blocks (inode_at g blocks (inode_of_birth parent)) (has.place / slots_a_block g.width)))) has.slot has.stands);
        leads = λ parent name birth n. let x = t.leads parent name birth n in (x.0, x.1);
        no_root = no_root_named;
        one_name = t.one_name;
        led_to = tree_of-reached g blocks found_tree r;
      }

pub tree_of-rooted : (g : Geometry) (blocks : List (List ℕ)) (tree : List (ℕ × Node)) → tree_of g blocks ≡ Ok tree → IsRooted tree
tree_of-rooted g blocks tree r =
    let x = tree_walked g blocks tree (walked g blocks) refl r in
    subst (λ tree. IsRooted tree) x.2 (found_rooted g blocks x.0 x.1 (r ∙ ap Ok (sym x.2)))
