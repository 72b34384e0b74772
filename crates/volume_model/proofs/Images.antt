-- Plain volumes that change, and the images that their blocks are.
use Rattle.std.specs.Prelude.{◌≡◌, ℕ, true, List, [], Ok, ◌⊎◌, ◌↔◌}
use Rattle.std.proofs.Common.{sym, ap, subst, ◌∙◌}
use Rattle.minix_layout.specs.declared.division.Geometry.{Geometry}
use Rattle.minix_layout.specs.declared.inode.Inode.{Inode}
use Rattle.tree_model.specs.declared.node.Node.{Node}
use Rattle.tree_model.specs.Trees.{IsSameButBirths}
use Rattle.volume_ops.specs.Faultless.{IsUsed}
use Rattle.volume_ops.specs.Marks.{is_marked}
use Rattle.volume_ops.specs.Places.{is_directory, is_file}
use Rattle.volume_ops.specs.Volume.{walked, put_nodes, tree_found, tree_of}
use Rattle.volume_ops.specs.Walk.{Walked}
use Rattle.volume_ops.specs.ZonePlaces.{zone_in as zone_walked}
use Rattle.volume_ops.proofs.WalkTests.{faultless_walked, walked_used}
use Rattle.volume_ops.proofs.TreeUnique.{walked_tree}
use Rattle.volume_model.specs.Touched.{Contents}
use Rattle.volume_model.specs.Trees.{tree_now}
use Rattle.volume_model.specs.Plain.{HasZone, IsPlainVolume, IsPlainContents}
use Rattle.volume_model.proofs.Nodes.{faultless, kind_of, reached_node, some_inodes, stored, zone_is}
use Rattle.volume_model.proofs.Places.{from_walk, to_walk, zone_to_walk}
use Rattle.volume_model.proofs.SameTrees.{node_reached, same_but_births, plain_image}

pub read_back : (g : Geometry) (v : Contents) → IsPlainContents g v → (tree : List (ℕ × Node)) × (tree_of g v.blocks ≡ Ok tree) × IsSameButBirths (tree_now v.blocks v.nodes) tree
read_back g v h =
    let some = some_inodes g v h in
    let x = faultless_walked g v.blocks some (faultless g v h) in
    let tree = put_nodes v.blocks x.0.nodes [] in
    let is : tree_of g v.blocks ≡ Ok tree = ap (tree_found v.blocks) x.1 in
    (tree, is, same_but_births g v h tree (walked_tree g v.blocks tree some is))

pub image_plain : (g : Geometry) (v : Contents) (tree : List (ℕ × Node)) → IsPlainContents g v → tree_of g v.blocks ≡ Ok tree → IsPlainVolume g v.blocks tree
image_plain g v tree h is = plain_image g v h tree (walked_tree g v.blocks tree (some_inodes g v h) is)

-- ---- the zones that the walk meets

module _ (g : Geometry) (v : Contents) (h : IsPlainContents g v) (zone : ℕ) where
  node_has : IsUsed g v.blocks zone → HasZone v zone
  node_has u =
      let x = reached_node g v h u.reached in
      record { birth = x.birth; placed = x.node; place = from_walk u.place; stands = x.stands; zone_is = sym (zone_is g v h x u.place) ∙ u.stands; some = u.some }

  is_used : HasZone v zone → IsUsed g v.blocks zone
  is_used z =
      let t = read_back g v h in
      let p = stored g v h z.birth z.placed z.stands in
      record {
        inode = z.placed.number;
        place = to_walk z.place;
        reached = node_reached g v h t.0 (walked_tree g v.blocks t.0 (some_inodes g v h) t.1) z.birth z.placed z.stands;
        kind = subst (λ (i : Inode). (is_directory i.mode ≡ true) ⊎ (is_file i.mode ≡ true)) (sym p.inode) (kind_of g v.blocks z.placed.inode z.placed.part p.part);
        some = z.some;
        stands = ap (λ i. zone_walked v.blocks i (to_walk z.place)) p.inode ∙ (sym (zone_to_walk v.blocks z.placed.inode h.volume.0.whole z.place) ∙ z.zone_is);
      }

pub zones_met : (g : Geometry) (v : Contents) (found : Walked) → IsPlainContents g v → walked g v.blocks ≡ Ok found → (zone : ℕ) → (is_marked found.zones zone ≡ true) ↔ HasZone v zone
zones_met g v found h w zone =
    let x = walked_used g v.blocks found (some_inodes g v h) w zone in
    (λ met. node_has g v h zone (x.0 met), λ z. x.1 (is_used g v h zone z))
