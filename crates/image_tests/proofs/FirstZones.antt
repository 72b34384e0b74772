-- Which zone a new directory takes: what its call does to the nodes.
use Rattle.std.specs.Prelude.{◌≡◌, ◌≢◌, ℕ, ◌+◌, ◌%◌, ◌/◌, nat_eq, Bool, true, false, ◌&&◌, if◌then◌else◌, List, length, slice_index, Option, Some, None, Result, Ok, Err, refl}
use Rattle.std.proofs.Common.{sym, ap, subst, ◌∙◌, inl, inr}
use Rattle.std.proofs.lemmas.Bool.{cases_eq}
use Rattle.std.proofs.lemmas.Option.{none-some, same_Some}
use Rattle.minix_layout.specs.Widths.{slots_a_block}
use Rattle.tree_model.specs.declared.call.Call.TheVariants as calls
use Rattle.tree_model.specs.declared.call.Reply.{Reply}
use Rattle.tree_model.specs.declared.call.Reply.TheVariants as replies
use Rattle.tree_model.specs.Maps.{at_number}
use Rattle.tree_model.specs.Calls.{Place, Row, outcome, names_in, parent_of, and_then as and_then_row}
use Rattle.tree_model.specs.laws.MapsLaws.{at_put_number, at_put_number_apart}
use Rattle.minix_tables.specs.directories.Slots.{room}
use Rattle.volume_model.specs.declared.placed.Placed.{Placed}
use Rattle.volume_model.specs.declared.placed.Part.{Part}
use Rattle.volume_model.specs.declared.placed.Part.TheVariants as parts
use Rattle.volume_model.specs.declared.placed.DirectoryPart.{DirectoryPart}
use Rattle.volume_steps.specs.Now.{VolumeNow, Change, tree_of_now, room_of, unchanged}
use Rattle.volume_steps.specs.Steps.{at_node, at_directory, set_links, make_directory, map_directory_block, make_room, put_name_slot, add_name}
use Rattle.volume_steps.specs.Calls.{mkdir_in, mkdir, changed, called, called_by}
use Rattle.volume_steps.specs.Called.{FindsRoom}
use Rattle.volume_steps.specs.Zones.{next_zone}
use Rattle.volume_steps.proofs.CallEnds.{birth_is_new}

-- what stands at a birth
abbrev NodeOf : VolumeNow → ℕ → Option Placed
NodeOf v a = at_number v.contents.nodes a

-- ---- a step at a node

-- what holds without it, and with each node that may be there, holds of it
node_case : (P : VolumeNow → Type 0) (v : VolumeNow) (n : ℕ) (change : Placed → Change) → P v → ((p : Placed) → P (change p).volume) → P (at_node v n change).volume
node_case P v n change none each = by (at_number v.contents.nodes n)
  where
    by : (o : Option Placed) → P (elim o as (λ _. Change) [ None ↦ unchanged v | Some p ↦ change p ]).volume
    by None = none
    by (Some p) = each p

directory_case : (P : VolumeNow → Type 0) (v : VolumeNow) (n : ℕ) (change : Placed → DirectoryPart → Change) → P v → ((p : Placed) (d : DirectoryPart) → P (change p d).volume) → P (at_directory v n change).volume
directory_case P v n change none each = node_case P v n (λ p. elim p.part as (λ _. Change) [ parts.Directory d ↦ change p d | parts.File zones ↦ unchanged v ]) none (λ p. by p p.part)
  where
    by : (p : Placed) (part : Part) → P (elim part as (λ _. Change) [ parts.Directory d ↦ change p d | parts.File zones ↦ unchanged v ]).volume
    by p (parts.Directory d) = each p d
    by p (parts.File zones) = none

-- a node that is not there does not come by a step at it
still_none : (v : VolumeNow) (n : ℕ) (change : Placed → Change) → NodeOf v n ≡ None → NodeOf (at_node v n change).volume n ≡ None
still_none v n change none = ap (λ (o : Option Placed). NodeOf (elim o as (λ _. Change) [ None ↦ unchanged v | Some p ↦ change p ]).volume n) none ∙ none

-- ---- a step at another node

links_apart : (v : VolumeNow) (n a : ℕ) (change : ℕ → ℕ) → a ≢ n → NodeOf (set_links v n change).volume a ≡ NodeOf v a
links_apart v n a change far = node_case (λ w. NodeOf w a ≡ NodeOf v a) v n _ refl (λ p. at_put_number_apart v.contents.nodes n _ a far)

room_apart : (v : VolumeNow) (n a : ℕ) → a ≢ n → NodeOf (make_room v n).volume a ≡ NodeOf v a
room_apart v n a far = directory_case (λ w. NodeOf w a ≡ NodeOf v a) v n _ refl
    (λ p d. by p d (nat_eq (room d.slots) (length d.slots) && nat_eq (length d.slots % slots_a_block v.geometry.width) 0))
  where
    by : (p : Placed) (d : DirectoryPart) (b : Bool) → NodeOf (if b then map_directory_block v n p d (length d.slots / slots_a_block v.geometry.width) else unchanged v).volume a ≡ NodeOf v a
    by p d true = at_put_number_apart v.contents.nodes n _ a far
    by p d false = refl

slot_apart : (v : VolumeNow) (n a : ℕ) (name : List ℕ) (birth : ℕ) → a ≢ n → NodeOf (put_name_slot v n name birth).volume a ≡ NodeOf v a
slot_apart v n a name birth far = directory_case (λ w. NodeOf w a ≡ NodeOf v a) v n _ refl
    (λ p d. node_case (λ w. NodeOf w a ≡ NodeOf v a) v birth _ refl (λ child. at_put_number_apart v.contents.nodes n _ a far))

name_apart : (v : VolumeNow) (n a : ℕ) (name : List ℕ) (birth : ℕ) → a ≢ n → NodeOf (add_name v n name birth).volume a ≡ NodeOf v a
name_apart v n a name birth far = slot_apart (make_room v n).volume n a name birth far ∙ room_apart v n a far

-- ---- the new directory

module _ (v : VolumeNow) (n : ℕ) (new : NodeOf v n ≡ None) where
  abbrev HasLowest : VolumeNow → Type 0
  HasLowest w = (p : Placed) → NodeOf w n ≡ Some p → slice_index p.inode.zones 0 ≡ next_zone v.zones

  as_before : (w : VolumeNow) → NodeOf w n ≡ NodeOf v n → HasLowest w
  as_before w same p at = absurd (none-some p (sym (same ∙ new) ∙ at))

  made : (parent : ℕ) → HasLowest (make_directory v n parent).volume
  made parent = node_case HasLowest v parent _ (as_before v refl)
      (λ q p at. ap (λ (p : Placed). slice_index p.inode.zones 0) (sym (same_Some _ p (sym (at_put_number v.contents.nodes n _) ∙ at))))

  -- where the parent is another node, the rest of the call leaves the new one
  in_parent : (parent : ℕ) (name : List ℕ) → n ≢ parent → HasLowest (mkdir_in v n parent name).volume
  in_parent parent name far p at =
      let u = (make_directory v n parent).volume in
      let w = (add_name u parent name n).volume in
      made parent p (sym (links_apart w parent n (λ links. links + 1) far ∙ name_apart u parent n name n far) ∙ at)

  -- and it is no parent itself
  in_itself : (name : List ℕ) → HasLowest (mkdir_in v n n name).volume
  in_itself name p at =
      let u = (make_directory v n n).volume in
      let r = (make_room u n).volume in
      let w = (add_name u n name n).volume in
      let one : NodeOf u n ≡ None = still_none v n _ new in
      let two : NodeOf r n ≡ None = still_none u n _ one in
      let three : NodeOf w n ≡ None = still_none r n _ two in
      let four : NodeOf (mkdir_in v n n name).volume n ≡ None = still_none w n _ three in
      absurd (none-some p (sym four ∙ at))

  of_mkdir : (path : List ℕ) → HasLowest (mkdir v n path).volume
  of_mkdir path = by (and_then_row (names_in path) (parent_of replies.Invalid (tree_of_now v)))
    where
      by : (r : Result Place Reply) → HasLowest (elim r as (λ _. Change) [ Err reply ↦ unchanged v | Ok place ↦ mkdir_in v n place.parent place.name ]).volume
      by (Err reply) = as_before v refl
      by (Ok place) = elim (cases_eq n place.parent) [
        | inl same ↦ subst (λ parent. HasLowest (mkdir_in v n parent place.name).volume) same (in_itself place.name)
        | inr far ↦ in_parent place.parent place.name far
      ]

pub lowest_first : (v : VolumeNow) (n tx : ℕ) (path : List ℕ) (p : Placed) → FindsRoom v n (calls.Mkdir path) →
    at_number (called v n tx (calls.Mkdir path)).change.volume.contents.nodes n ≡ Some p → slice_index p.inode.zones 0 ≡ next_zone v.zones
unfolding called changed
lowest_first v n tx path p room = by (outcome (room_of v.geometry) (tree_of_now v) n (calls.Mkdir path)) p
  where
    new : NodeOf v n ≡ None
    new = birth_is_new v n room.born

    by : (r : Row) → HasLowest v n new (called_by v n tx (calls.Mkdir path) r).change.volume
    by (Err why) = as_before v n new v refl
    by (Ok done) = of_mkdir v n new path
