-- Steps that take and free no zone: links are set, and names come and go.
use Rattle.std.specs.Prelude.{◌≡◌, ◌≤◌, ℕ, List, [], ◌∷◌, length, Option, Some, None, refl}
use Rattle.std.specs.List.Sorted.{IsStrictlySortedBy}
use Rattle.std.specs.Map.{keys_of, set_value}
use Rattle.std.specs.BTreeMap.{is_at}
use Rattle.std.specs.Ordering.{nat_cmp}
use Rattle.std.proofs.Common.{sym, ap, inl, inr, ◌∙◌, arith}
use Rattle.std.proofs.lemmas.Bool.{cases_Bool}
use Rattle.std.proofs.lemmas.Option.{same_Some}
use Rattle.minix_layout.specs.declared.division.Geometry.{Geometry}
use Rattle.minix_layout.specs.declared.inode.Inode.{Inode}
use Rattle.tree_model.specs.declared.node.Node.TheVariants as nodes
use Rattle.tree_model.specs.declared.node.File.{File}
use Rattle.tree_model.specs.Maps.{at_number, put_number}
use Rattle.tree_model.specs.Calls.{node_zones, used_zones, put_file, with_links as file_with_links}
use Rattle.volume_ops.specs.declared.found.Mapped.{Mapped}
use Rattle.volume_model.specs.declared.placed.Placed.{Placed}
use Rattle.volume_model.specs.declared.placed.Part.{Part}
use Rattle.volume_model.specs.declared.placed.Part.TheVariants as parts
use Rattle.volume_model.specs.declared.placed.DirectoryPart.{DirectoryPart}
use Rattle.volume_model.specs.Volume.{Place, block, indirect, double, inner, zone_in, IsPart}
use Rattle.volume_model.specs.MapBlock.{OpenInode}
use Rattle.volume_model.specs.Moves.{IsVolume, closed, back_told}
use Rattle.volume_model.specs.Touched.{Contents}
use Rattle.volume_model.specs.Trees.{node_from, node_now}
use Rattle.volume_model.specs.laws.Trees.{set_is_put}
use Rattle.volume_model.specs.laws.ZoneMoves.{MayMove}
use Rattle.volume_steps.specs.Now.{VolumeNow, Change, tree_of_now, with_contents, unchanged}
use Rattle.volume_steps.specs.Steps.{at_node, at_directory, with_links, inode_put, set_links}
use Rattle.volume_steps.specs.Plain.{IsInUse}
use Rattle.volume_steps.specs.laws.Steady.{IsSteady, TellsNodes}
use Rattle.volume_steps.proofs.Listed.{same_told}
use Rattle.volume_steps.proofs.Grows.{GrowsTo, takes_none, grown_steady}
use Rattle.volume_steps.proofs.NodeSteps.{MayGrow, IsSettled, AreSlotted, closed_grows, closed_maps, closed_numbers, closed_settled, closed_slotted, zones_settled}
use Rattle.volume_steps.proofs.SameZones.{same_move, same_grow, same_stands}
use Rattle.minix_layout.specs.Inodes.{FitInode}
use Rattle.volume_steps.proofs.TreeSteps.{KeepsPages, grown_pages, tree_put, tree_at, tree_in_order, used_put_same, node_same}
use Rattle.volume_steps.proofs.Marked.{marks_same, SameNumbers}

-- ---- at a node

pub at_node_is : (v : VolumeNow) (n : ℕ) (p : Placed) (change : Placed → Change) → at_number v.contents.nodes n ≡ Some p → at_node v n change ≡ change p
at_node_is v n p change at = ap (λ (o : Option Placed). elim o as (λ _. Change) [ None ↦ unchanged v | Some p ↦ change p ]) at

pub at_directory_is : (v : VolumeNow) (n : ℕ) (p : Placed) (d : DirectoryPart) (change : Placed → DirectoryPart → Change) → at_number v.contents.nodes n ≡ Some p → p.part ≡ parts.Directory d →
    at_directory v n change ≡ change p d
at_directory_is v n p d change at is =
    at_node_is v n p (λ p. elim p.part as (λ _. Change) [ parts.Directory d ↦ change p d | parts.File zones ↦ unchanged v ]) at
    ∙ ap (λ (part : Part). elim part as (λ _. Change) [ parts.Directory d ↦ change p d | parts.File zones ↦ unchanged v ]) is

-- ---- a node changes, and takes no zone

module _ (tx : ℕ) (v : VolumeNow) (in_use : IsInUse v) (n : ℕ) (p : Placed) (at : at_number v.contents.nodes n ≡ Some p) (u : OpenInode) (part : Part) (Z : ℕ → Type 0)
    (may : MayMove v.geometry in_use.sound v.contents.blocks v.contents.nodes n p in_use.volume.0 at u part Z) (blocks listed : List ℕ)
    (grow : MayGrow v.geometry in_use.sound v.contents n p in_use.volume at u part Z may blocks [])
    (stands : IsVolume v.geometry (closed v.geometry v.contents n p u part)) where
  abbrev after : Contents
  after = closed v.geometry v.contents n p u part

  grows : GrowsTo v.geometry v.contents after blocks []
  grows = closed_grows v.geometry in_use.sound v.contents n p in_use.volume at u part Z may blocks [] grow

  pub quiet_pages : KeepsPages v.contents.blocks after.blocks v.contents.nodes
  quiet_pages = grown_pages v.geometry v.contents after blocks [] listed grows in_use.volume.0 stands.0

  abbrev pub quiet : Change
  quiet = record { volume = with_contents v after; touched = record { blocks = blocks; freed = []; revoked = []; pages = []; dropped = []; nodes = listed } }

  pub quiet_tree : tree_of_now quiet.volume ≡ put_number (tree_of_now v) n (node_from after.blocks u.inode part)
  quiet_tree = tree_put v.contents.blocks after.blocks v.contents.nodes in_use.volume.0.in_order quiet_pages n (record { number = p.number; inode = u.inode; part = part })

  pub quiet_steady : node_zones (node_from after.blocks u.inode part) ≡ node_zones (node_now v.contents.blocks p) → TellsNodes v.geometry v.contents after quiet.touched → IsSteady tx v quiet (λ birth index. ⊥)
  quiet_steady same told = grown_steady tx v after v.zones blocks [] listed in_use stands grows (takes_none v.zones)
      (in_use.counted ∙ sym (ap used_zones quiet_tree
      ∙ used_put_same (tree_of_now v) n (node_now v.contents.blocks p) (node_from after.blocks u.inode part) (tree_in_order v.contents.blocks v.contents.nodes in_use.volume.0.in_order)
      (tree_at v.contents.blocks v.contents.nodes n p at) same)) told
      (marks_same v.geometry in_use.sound v.contents after v.zones in_use.volume.0.whole in_use.volume.0.size
      (closed_maps v.geometry in_use.sound v.contents n p in_use.volume at u part Z may blocks [] grow) (closed_numbers v.geometry in_use.sound v.contents n p in_use.volume at u part Z may blocks [] grow))

-- ---- a map in which a value is put again

pub put_again : {X : Type 0} (es : List (ℕ × X)) (k : ℕ) (x : X) → IsStrictlySortedBy nat_cmp (keys_of es) → at_number es k ≡ Some x → put_number es k x ≡ es
put_again {X = X} es k x sorted found = sym (set_is_put es k x x sorted found) ∙ set_again es found
  where
    set_again : (es : List (ℕ × X)) → at_number es k ≡ Some x → set_value (is_at (nat_cmp k)) es x ≡ es
    set_again [] found = refl
    set_again (e ∷ es) found = elim (cases_Bool (is_at (nat_cmp k) e.0)) [
      | inl t ↦ rw t (let same : e.1 ≡ x = same_Some e.1 x (rw t at found) in ap (λ y. (e.0, y) ∷ es) (sym same))
      | inr f ↦ rw f (ap (λ more. e ∷ more) (set_again es (rw f at found)))
    ]

-- ---- links

linked_zone : (blocks : List (List ℕ)) (i : Inode) (links : ℕ) (x : Place) → zone_in blocks (with_links i links) x ≡ zone_in blocks i x
linked_zone blocks i links (block index) = refl
linked_zone blocks i links indirect = refl
linked_zone blocks i links double = refl
linked_zone blocks i links (inner k) = refl

linked_part : (g : Geometry) (blocks : List (List ℕ)) (i : Inode) (links : ℕ) (part : Part) → IsPart g blocks i part → IsPart g blocks (with_links i links) part
linked_part g blocks i links (parts.Directory d) h = record {
  kind = h.kind;
  width = h.width;
  size = h.size;
  slots = λ k s at. (let old = h.slots k s at in record { mapped = old.mapped; stands = old.stands });
}
linked_part g blocks i links (parts.File zones) h = record { kind = h.kind; listed = h.listed; full = h.full; rising = h.rising }

module _ (tx : ℕ) (v : VolumeNow) (in_use : IsInUse v) (n : ℕ) (p : Placed) (at : at_number v.contents.nodes n ≡ Some p) (links : ℕ) (few : links ≤ 250) where
  abbrev g : Geometry
  g = v.geometry

  abbrev u : OpenInode
  u = record { blocks = v.contents.blocks; inode = with_links p.inode links }

  fit : FitInode (with_links p.inode links)
  fit = (let f = (in_use.volume.0.each n p at).fits in record { mode = f.mode; uid = f.uid; size = f.size; time = f.time; gid = f.gid; links = omega arith; nine = f.nine; zones = f.zones })

  abbrev may : MayMove g in_use.sound v.contents.blocks v.contents.nodes n p in_use.volume.0 at u p.part (λ _. ⊥)
  may = same_move v in_use n p at (with_links p.inode links) (linked_zone v.contents.blocks p.inode links) fit (linked_part g v.contents.blocks p.inode links p.part (in_use.volume.0.each n p at).part)

  abbrev grow : MayGrow g in_use.sound v.contents n p in_use.volume at u p.part (λ _. ⊥) may (back_told g p (with_links p.inode links)) []
  grow = same_grow v in_use n p at (with_links p.inode links) (linked_zone v.contents.blocks p.inode links) fit (linked_part g v.contents.blocks p.inode links p.part (in_use.volume.0.each n p at).part)

  stands : IsVolume g (closed g v.contents n p u p.part)
  stands = same_stands v in_use n p at (with_links p.inode links) (linked_zone v.contents.blocks p.inode links) fit (linked_part g v.contents.blocks p.inode links p.part (in_use.volume.0.each n p at).part)

  -- the node has so many links
  abbrev pub linked : Change
  linked = record { volume = inode_put v n p (with_links p.inode links); touched = record { blocks = back_told g p (with_links p.inode links); freed = []; revoked = []; pages = []; dropped = []; nodes = [] } }

  linked_bodies : node_from linked.volume.contents.blocks (with_links p.inode links) p.part ≡ node_from v.contents.blocks (with_links p.inode links) p.part
  linked_bodies = node_same v.contents.blocks linked.volume.contents.blocks (with_links p.inode links) p.part
      (λ zones is m i. quiet_pages tx v in_use n p at u p.part (λ _. ⊥) may (back_told g p (with_links p.inode links)) [] grow stands n p zones at is m i)

  needs_same : (part : Part) → node_zones (node_from v.contents.blocks (with_links p.inode links) part) ≡ node_zones (node_from v.contents.blocks p.inode part)
  needs_same (parts.Directory d) = refl
  needs_same (parts.File zones) = refl

  pub linked_steady : IsSteady tx v linked (λ birth index. ⊥)
  linked_steady = quiet_steady tx v in_use n p at u p.part (λ _. ⊥) may (back_told g p (with_links p.inode links)) [] grow stands (ap node_zones linked_bodies ∙ needs_same p.part)
      (same_told g v.contents linked.volume.contents linked.touched n p (record { number = p.number; inode = with_links p.inode links; part = p.part }) refl at refl refl)

  pub linked_tree : tree_of_now linked.volume ≡ put_number (tree_of_now v) n (node_from v.contents.blocks (with_links p.inode links) p.part)
  linked_tree = quiet_tree tx v in_use n p at u p.part (λ _. ⊥) may (back_told g p (with_links p.inode links)) [] grow stands ∙ ap (λ node. put_number (tree_of_now v) n node) linked_bodies

  -- of a directory the tree does not tell them
  pub linked_directory : (d : DirectoryPart) → p.part ≡ parts.Directory d → tree_of_now linked.volume ≡ tree_of_now v
  linked_directory d is =
      linked_tree
      ∙ (ap (λ part. put_number (tree_of_now v) n (node_from v.contents.blocks (with_links p.inode links) part)) is
      ∙ put_again (tree_of_now v) n (node_from v.contents.blocks p.inode (parts.Directory d)) (tree_in_order v.contents.blocks v.contents.nodes in_use.volume.0.in_order)
      (tree_at v.contents.blocks v.contents.nodes n p at ∙ ap (λ part. Some (node_from v.contents.blocks p.inode part)) is))

  -- of a file it does
  pub linked_file : (zones : List Mapped) (f : File) → p.part ≡ parts.File zones → at_number (tree_of_now v) n ≡ Some (nodes.File f) →
      tree_of_now linked.volume ≡ put_file (tree_of_now v) n (file_with_links f links)
  linked_file zones f is found =
      linked_tree ∙ ap (λ node. put_number (tree_of_now v) n node)
      (ap (node_from v.contents.blocks (with_links p.inode links)) is ∙ ap (λ f. nodes.File (file_with_links f links))
      (same_file _ f (same_Some _ _ (sym (tree_at v.contents.blocks v.contents.nodes n p at ∙ ap (λ part. Some (node_from v.contents.blocks p.inode part)) is) ∙ found))))
    where
      same_file : (e f : File) → nodes.File e ≡ nodes.File f → e ≡ f
      same_file e f same = cc

  pub linked_settled : IsSettled v.contents → IsSettled linked.volume.contents
  linked_settled old = closed_settled g in_use.sound v.contents n p in_use.volume at u p.part (λ _. ⊥) may (back_told g p (with_links p.inode links)) [] grow
      (record {
        sizes = λ zones is. old.sizes n p zones at is;
        dots = λ d is. old.dots n p d at is;
        few_links = few;
      }) old

  pub linked_slotted : AreSlotted v.geometry (λ a. ⊥) v.contents → AreSlotted linked.volume.geometry (λ a. ⊥) linked.volume.contents
  linked_slotted old = closed_slotted g in_use.sound v.contents n p in_use.volume at u p.part (λ _. ⊥) may (back_told g p (with_links p.inode links)) [] grow
      (λ a r d found is apart. old a r d found is (λ z. z))
      (λ d is. zones_settled v.geometry v.contents.blocks v.contents.blocks p.inode (with_links p.inode links) (length d.slots) (linked_zone v.contents.blocks p.inode links) (old n p d at is (λ z. z)))

  pub linked_numbers : SameNumbers v.contents.nodes linked.volume.contents.nodes
  linked_numbers = closed_numbers g in_use.sound v.contents n p in_use.volume at u p.part (λ _. ⊥) may (back_told g p (with_links p.inode links)) [] grow

  pub set_links_is : (change : ℕ → ℕ) → change p.inode.links ≡ links → set_links v n change ≡ linked
  set_links_is change e =
      at_node_is v n p (λ p. record {
        volume = inode_put v n p (with_links p.inode (change p.inode.links));
        touched = record { blocks = back_told v.geometry p (with_links p.inode (change p.inode.links)); freed = []; revoked = []; pages = []; dropped = []; nodes = [] };
      }) at
      ∙ ap (λ links. record {
        volume = inode_put v n p (with_links p.inode links);
        touched = record { blocks = back_told v.geometry p (with_links p.inode links); freed = []; revoked = []; pages = []; dropped = []; nodes = [] };
      }) e
