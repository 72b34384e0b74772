-- A rename whose names are of one node keeps the tree, and needs no zone.
use Rattle.std.specs.Prelude.{◌≡◌, ℕ, ◌-◌, ◌==◌, Bool, true, false, if◌then◌else◌, List, Option, Some, None, Result, Ok, Err, refl}
use Rattle.std.proofs.Common.{sym, ap, ◌∙◌, arith}
use Rattle.std.proofs.lemmas.Bool.{false≢true}
use Rattle.tree_model.specs.declared.call.Call.TheVariants as calls
use Rattle.tree_model.specs.declared.call.Reply.{Reply}
use Rattle.tree_model.specs.declared.call.Room.{Room}
use Rattle.tree_model.specs.declared.node.Node.{Node}
use Rattle.tree_model.specs.Maps.{at_number, at_name}
use Rattle.tree_model.specs.Calls.{Tree, Row, Done, Found, Place, Move, row, outcome, needs, used_zones, tree_after, tree_from, walk, walk_path, target_at, stays, tree_moved, and_then}
use Rattle.tree_model.specs.Histories.{is_found_at}
use Rattle.tree_model.proofs.Rows.{walk_ok, parent_ok, place_names}
use Rattle.volume_steps.proofs.CallPaths.{done_row}
use Rattle.volume_steps.proofs.RenameTree.{Renames, renames}
use Rattle.minix_host.specs.Calls.{names_one}
use Rattle.tree_model.specs.declared.call.Reply.TheVariants as replies

-- what stands at a place
pub target_is : (tree : Tree) (p : Place) (birth : ℕ) (node : Node) → at_name p.directory.names p.name ≡ Some birth → at_number tree birth ≡ Some node → target_at tree p ≡ Some (record { birth = birth; node = node })
target_is tree p birth node named there =
    ap (λ o. elim o as (λ _. Option Found) [ None ↦ None | Some b ↦ elim (at_number tree b) as (λ _. Option Found) [ None ↦ None | Some y ↦ Some (record { birth = b; node = y }) ] ]) named
    ∙ ap (λ o. elim o as (λ _. Option Found) [ None ↦ None | Some y ↦ Some (record { birth = birth; node = y }) ]) there

module _ (tree : Tree) (n : ℕ) (path other : List ℕ) (same : names_one tree path other ≡ true) where
  pub same_names_stay : (d : Done) → row tree n (calls.Rename path other) ≡ Ok d → d.tree ≡ tree
  same_names_stay d h = r.tree_is ∙ ap (λ (b : Bool). if b then tree else tree_moved tree m) (by (walk tree r.more) refl found_there)
    where
      r : Renames tree path other d
      r = renames tree n path other d h

      m : Move
      m = record { moved = r.found; from = r.from; to = r.to; target = target_at tree r.to }

      found_there : is_found_at (walk tree r.more) r.found.birth ≡ true
      found_there =
          sym (ap (λ (x : Result Found Reply). elim x as (λ _. Bool) [ Err reply ↦ false | Ok found ↦ is_found_at (walk_path tree other) found.birth ]) (ap (λ x. and_then x (walk tree)) r.named ∙ r.walked)
          ∙ ap (λ x. is_found_at (and_then x (walk tree)) r.found.birth) r.also) ∙ same

      by : (x : Result Found Reply) → walk tree r.more ≡ x → is_found_at x r.found.birth ≡ true → stays (record { moved = r.found; from = r.from; to = r.to; target = target_at tree r.to }) ≡ true
      by (Err reply) e t = absurd (false≢true t)
      by (Ok found) e t =
          let f = walk_ok tree r.more found e in
          let p = parent_ok replies.Invalid tree r.more r.to r.to_is in
          ap (λ (o : Option Found). elim o as (λ _. Bool) [ None ↦ false | Some t ↦ t.birth == r.found.birth ])
          (target_is tree r.to found.birth found.node (place_names tree r.more r.to found p f) f.stands) ∙ t

  pub same_names_need_none : needs tree n (calls.Rename path other) ≡ 0
  unfolding needs
  same_names_need_none = by (row tree n (calls.Rename path other)) refl
    where
      by : (x : Row) → row tree n (calls.Rename path other) ≡ x → (elim x as (λ _. ℕ) [ Err reply ↦ 0 | Ok d ↦ used_zones d.tree - used_zones tree ]) ≡ 0
      by (Err reply) e = refl
      by (Ok d) e = (let same_zones = ap used_zones (same_names_stay d e) in omega arith)

pub same_names_keep_tree : (room : Room) (tree : Tree) (n : ℕ) (path other : List ℕ) → names_one tree path other ≡ true → tree_after room tree n (calls.Rename path other) ≡ tree
unfolding tree_after
same_names_keep_tree room tree n path other same = by (outcome room tree n (calls.Rename path other)) refl
  where
    by : (x : Row) → outcome room tree n (calls.Rename path other) ≡ x → tree_from tree x ≡ tree
    by (Err reply) e = refl
    by (Ok d) e = same_names_stay tree n path other same d (done_row room tree n (calls.Rename path other) d e).0
