-- Each tree that hangs together has a place for each index of each of its files.
use Rattle.std.specs.Prelude.{◌≡◌, ℕ, List, [], Option, Some, None, Result, Ok, Err, refl}
use Rattle.std.proofs.Common.{sym, ap, ◌∙◌}
use Rattle.std.proofs.lemmas.Option.{none-some}
use Rattle.minix_layout.specs.declared.division.Geometry.{Geometry}
use Rattle.tree_model.specs.declared.node.Node.{Node}
use Rattle.tree_model.specs.Calls.{Tree}
use Rattle.tree_model.specs.Rooted.{IsRooted}
use Rattle.tree_model.specs.Maps.{at_number}
use Rattle.tree_model.specs.Trees.{Refusal, node_of_path, AreAlike}
use Rattle.tree_model.specs.laws.Alike.{path_stands, node_has_path}
use Rattle.volume_ops.proofs.AlikeLaws.{same_paths_found}
use Rattle.volume_ops.specs.Volume.{put_nodes, walked, tree_found}
use Rattle.crash_laws.specs.TreeHistory.{zone_in, zone_in_walk, IsPlaceIn}
use Rattle.crash_laws.specs.Volumes.{WalkEnd}

module _ (tree : Tree) (rooted : IsRooted tree) where
  -- a path that leads to a node, where the tree has it
  abbrev path_by : (birth : ℕ) (o : Option Node) → at_number tree birth ≡ o → Option (List (List ℕ))
  path_by birth None e = None
  path_by birth (Some node) e = Some (node_has_path tree rooted birth node e).0

  abbrev zone_by : WalkEnd → Option (List (List ℕ)) → ℕ → ℕ
  zone_by found None index = 0
  zone_by found (Some names) index = zone_in_walk [] found names index

  abbrev pub place_of : WalkEnd → ℕ → ℕ → ℕ
  place_of found birth index = zone_by found (path_by birth (at_number tree birth) refl) index

  -- in a volume whose tree is alike, two paths to one node find one zone
  zone_same : (blocks : List (List ℕ)) (names more : List (List ℕ)) (birth index : ℕ) (found : WalkEnd) (other : Tree) → tree_found blocks found ≡ Ok other → AreAlike tree other
      → node_of_path tree names ≡ Ok birth → node_of_path tree more ≡ Ok birth → zone_in_walk [] found names index ≡ zone_in_walk blocks found more index
  zone_same blocks names more birth index (Err fault) other e alike path another = refl
  zone_same blocks names more birth index (Ok met) other e alike path another =
      let same : put_nodes blocks met.nodes [] ≡ other = cc in
      ap (λ (r : Result ℕ Refusal). elim r as (λ _. ℕ) [ Err refusal ↦ 0 | Ok b ↦ zone_in met.nodes b index ])
      (same_paths_found blocks [] met.nodes names
      ∙ ap (λ t. node_of_path t names) same
      ∙ alike.same_paths names birth path
      ∙ sym (alike.same_paths more birth another)
      ∙ sym (ap (λ t. node_of_path t more) same))

  by_node : (blocks : List (List ℕ)) (more : List (List ℕ)) (birth index : ℕ) (found : WalkEnd) (other : Tree) → tree_found blocks found ≡ Ok other → AreAlike tree other → node_of_path tree more ≡ Ok birth
      → (o : Option Node) (e : at_number tree birth ≡ o) (node : Node) → o ≡ Some node → zone_by found (path_by birth o e) index ≡ zone_in_walk blocks found more index
  by_node blocks more birth index found other t alike path None e node there = absurd (none-some node there)
  by_node blocks more birth index found other t alike path (Some node) e other_node there =
      let has = node_has_path tree rooted birth node e in
      zone_same blocks has.0 more birth index found other t alike has.1 path

  pub place_is : (g : Geometry) → IsPlaceIn g tree place_of
  place_is g blocks other names birth index is alike path =
      let node = path_stands tree rooted names birth path in
      by_node blocks names birth index (walked g blocks) other is alike path (at_number tree birth) refl node.0 node.1
