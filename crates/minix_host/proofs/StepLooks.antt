-- What holds after a step or a call holds where it looks: at a node, a directory, a file, or along a path.
use Rattle.std.specs.Prelude.{◌≡◌, ℕ, Bool, true, false, if◌then◌else◌, List, Option, Some, None, Result, Ok, Err, refl, ◌&&◌}
use Rattle.tree_model.specs.declared.call.Reply.{Reply}
use Rattle.tree_model.specs.declared.call.Reply.TheVariants as replies
use Rattle.tree_model.specs.Calls.{Place, Found, Move, names_in, parent_of, walk_path, and_then, stays, moves_directory, changes_parent}
use Rattle.tree_model.specs.Maps.{at_number}
use Rattle.volume_ops.specs.declared.found.Mapped.{Mapped}
use Rattle.volume_model.specs.declared.placed.Placed.{Placed}
use Rattle.volume_model.specs.declared.placed.Part.{Part}
use Rattle.volume_model.specs.declared.placed.Part.TheVariants as parts
use Rattle.volume_model.specs.declared.placed.DirectoryPart.{DirectoryPart}
use Rattle.volume_model.specs.Moves.{name_removed, without_name}
use Rattle.volume_model.specs.Touched.{Contents}
use Rattle.minix_layout.specs.declared.slot.Slot.{Slot}
use Rattle.volume_steps.specs.Now.{VolumeNow, Change, tree_of_now, unchanged, with_contents}
use Rattle.volume_steps.specs.Steps.{at_node, at_directory, at_file, tells_node, slot_told}
use Rattle.volume_steps.specs.Calls.{at_place, at_path, at_found, move_in, move_below, replace_in, renamed}

-- a name that is taken out of a directory, with the slot at this place
abbrev pub taken_out : VolumeNow → ℕ → Placed → DirectoryPart → ℕ → Slot → Change
taken_out v n p d k s = record {
  volume = with_contents v (name_removed v.geometry v.contents n p d k s);
  touched = tells_node n (slot_told v p k (without_name d k s));
}

module _ (P : Contents → Type 0) where
  abbrev InChange : Change → Type 0
  InChange c = P c.volume.contents

  pub by_node : (v : VolumeNow) (n : ℕ) (change : Placed → Change) → P v.contents → ((p : Placed) → at_number v.contents.nodes n ≡ Some p → InChange (change p)) → InChange (at_node v n change)
  by_node v n change r h = by (at_number v.contents.nodes n) refl
    where
      by : (o : Option Placed) → at_number v.contents.nodes n ≡ o → InChange (elim o as (λ _. Change) [ None ↦ unchanged v | Some p ↦ change p ])
      by None e = r
      by (Some p) e = h p e

  pub by_directory : (v : VolumeNow) (n : ℕ) (change : Placed → DirectoryPart → Change) → P v.contents →
      ((p : Placed) (d : DirectoryPart) → at_number v.contents.nodes n ≡ Some p → p.part ≡ parts.Directory d → InChange (change p d)) → InChange (at_directory v n change)
  by_directory v n change r h = by_node v n (λ p. elim p.part as (λ _. Change) [ parts.Directory d ↦ change p d | parts.File zones ↦ unchanged v ]) r (λ p at. by p at p.part refl)
    where
      by : (p : Placed) → at_number v.contents.nodes n ≡ Some p → (part : Part) → p.part ≡ part → InChange (elim part as (λ _. Change) [ parts.Directory d ↦ change p d | parts.File zones ↦ unchanged v ])
      by p at (parts.Directory d) e = h p d at e
      by p at (parts.File zones) e = r

  pub by_file : (v : VolumeNow) (n : ℕ) (change : Placed → List Mapped → Change) → P v.contents →
      ((p : Placed) (zones : List Mapped) → at_number v.contents.nodes n ≡ Some p → p.part ≡ parts.File zones → InChange (change p zones)) → InChange (at_file v n change)
  by_file v n change r h = by_node v n (λ p. elim p.part as (λ _. Change) [ parts.Directory d ↦ unchanged v | parts.File zones ↦ change p zones ]) r (λ p at. by p at p.part refl)
    where
      by : (p : Placed) → at_number v.contents.nodes n ≡ Some p → (part : Part) → p.part ≡ part → InChange (elim part as (λ _. Change) [ parts.Directory d ↦ unchanged v | parts.File zones ↦ change p zones ])
      by p at (parts.Directory d) e = r
      by p at (parts.File zones) e = h p zones at e

  pub by_test : (t : Bool) (one other : Change) → InChange one → InChange other → InChange (if t then one else other)
  by_test true one other h k = h
  by_test false one other h k = k

  pub by_place : (v : VolumeNow) (path : List ℕ) (change : Place → Change) → P v.contents →
      ((place : Place) → and_then (names_in path) (parent_of replies.Invalid (tree_of_now v)) ≡ Ok place → InChange (change place)) → InChange (at_place v path change)
  by_place v path change r h = by (and_then (names_in path) (parent_of replies.Invalid (tree_of_now v))) refl
    where
      by : (x : Result Place Reply) → and_then (names_in path) (parent_of replies.Invalid (tree_of_now v)) ≡ x → InChange (elim x as (λ _. Change) [ Err reply ↦ unchanged v | Ok place ↦ change place ])
      by (Err reply) e = r
      by (Ok place) e = h place e

  pub by_path : (v : VolumeNow) (path : List ℕ) (change : ℕ → Change) → P v.contents → ((found : Found) → walk_path (tree_of_now v) path ≡ Ok found → InChange (change found.birth)) → InChange (at_path v path change)
  by_path v path change r h = by (walk_path (tree_of_now v) path) refl
    where
      by : (x : Result Found Reply) → walk_path (tree_of_now v) path ≡ x → InChange (elim x as (λ _. Change) [ Err reply ↦ unchanged v | Ok found ↦ change found.birth ])
      by (Err reply) e = r
      by (Ok found) e = h found e

  pub by_found : (v : VolumeNow) (path : List ℕ) (change : Found → Change) → P v.contents → ((found : Found) → walk_path (tree_of_now v) path ≡ Ok found → InChange (change found)) → InChange (at_found v path change)
  by_found v path change r h = by (walk_path (tree_of_now v) path) refl
    where
      by : (x : Result Found Reply) → walk_path (tree_of_now v) path ≡ x → InChange (elim x as (λ _. Change) [ Err reply ↦ unchanged v | Ok found ↦ change found ])
      by (Err reply) e = r
      by (Ok found) e = h found e

  -- a rename, by what stands at the new place
  pub by_rename : (v : VolumeNow) (tx : ℕ) (m : Move) → P v.contents →
      ((t : Found) → m.target ≡ Some t → InChange (replace_in v tx m.from.parent m.from.name m.to.parent m.to.name m.moved.birth t.birth)) →
      InChange (move_below v m.from.parent m.from.name m.to.parent m.to.name m.moved.birth) → InChange (move_in v m.from.parent m.from.name m.to.parent m.to.name m.moved.birth) → InChange (renamed v tx m)
  by_rename v tx m r replaced below moved = by_test (stays m) _ _ r (by m.target refl)
    where
      by : (o : Option Found) → m.target ≡ o → InChange (elim o as (λ _. Change) [
        | Some t ↦ replace_in v tx m.from.parent m.from.name m.to.parent m.to.name m.moved.birth t.birth
        | None ↦ if moves_directory m && changes_parent m then move_below v m.from.parent m.from.name m.to.parent m.to.name m.moved.birth else move_in v m.from.parent m.from.name m.to.parent m.to.name m.moved.birth
      ])
      by (Some t) e = replaced t e
      by None e = by_test (moves_directory m && changes_parent m) _ _ below moved
