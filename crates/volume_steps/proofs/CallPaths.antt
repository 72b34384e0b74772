-- Where a call's row and its steps go by a path, and which names come.
use Rattle.std.specs.Prelude.{◌≡◌, ◌<◌, ◌≤◌, ◌^◌, ◌-◌, ℕ, ◌==◌, nat_le, nat_lt, Bool, true, false, not, ◌&&◌, List, [], ◌∷◌, length, Some, Ok, Err, refl}
use Rattle.std.specs.List.{list_all}
use Rattle.std.proofs.Common.{subst, sym, ap, ◌∙◌, arith}
use Rattle.std.proofs.lemmas.Bool.{and_parts, false≢true}
use Rattle.minix_layout.specs.Slots.{IsEntry}
use Rattle.tree_model.specs.declared.call.Call.{Call}
use Rattle.tree_model.specs.declared.call.Reply.{Reply}
use Rattle.tree_model.specs.declared.call.Reply.TheVariants as replies
use Rattle.tree_model.specs.declared.call.Room.{Room}
use Rattle.tree_model.specs.declared.node.Node.TheVariants as nodes
use Rattle.tree_model.specs.declared.node.Directory.{Directory}
use Rattle.tree_model.specs.Maps.{at_number}
use Rattle.tree_model.specs.Paths.{is_name_byte, is_dot}
use Rattle.tree_model.specs.Calls.{Tree, Done, Place, Found, names_in, parent_of, walk, and_then, refuse_if, row, outcome, if_room, HasInode, used_zones, used_zones}
use Rattle.tree_model.proofs.Hanging.{IsGoodName}
use Rattle.tree_model.proofs.NameTexts.{name_fits, no_byte, not_true}
use Rattle.tree_model.proofs.Rows.{ok_ok, err_ok, then_ok, refuse_ok}
use Rattle.minix_layout.specs.Widths.{IsWidth, of_14, of_30}
use Rattle.volume_model.specs.Volume.{IsPart, IsDirectoryPart}
use Rattle.volume_steps.specs.Plain.{IsInUse}
use Rattle.volume_model.specs.declared.placed.Placed.{Placed}
use Rattle.volume_model.specs.declared.placed.Part.{Part}
use Rattle.volume_model.specs.declared.placed.Part.TheVariants as parts
use Rattle.volume_model.specs.declared.placed.DirectoryPart.{DirectoryPart}
use Rattle.volume_model.specs.Trees.{directory_from, node_from, node_now}
use Rattle.volume_steps.specs.Now.{VolumeNow, Change, tree_of_now, unchanged}
use Rattle.volume_steps.specs.Calls.{at_place, at_path}
use Rattle.volume_steps.proofs.TreeSteps.{tree_back}

-- ---- names

plain_parts : (name : List ℕ) → IsGoodName name → (list_all is_name_byte name ≡ true) × (not (is_dot name) ≡ true)
plain_parts name good =
    and_parts (list_all is_name_byte name) (not (is_dot name)) (and_parts (not (length name == 0)) (list_all is_name_byte name && not (is_dot name)) good.plain).1

-- a name of a path is no dot
pub good_no_dot : (name : List ℕ) → IsGoodName name → is_dot name ≡ false
good_no_dot name good = not_true (is_dot name) (plain_parts name good).1

narrow_name : (width long : ℕ) → IsWidth width → long ≤ width → long ≤ 30
narrow_name width long of_14 short = omega arith
narrow_name width long of_30 short = omega arith

-- and stands in a slot of a directory for which it is not too long
pub good_entry : (width : ℕ) (name : List ℕ) (number : ℕ) → IsWidth width → IsGoodName name → length name ≤ width → 0 < number → number < 2 ^ 16 → IsEntry width (record { inode = number; name = name })
good_entry width name number is good short some fits = record {
  used = some;
  fits = fits;
  name = name_fits name (narrow_name width (length name) is short) good.plain;
  short = short;
  no_slash = no_byte 47 refl name (plain_parts name good).0;
}

-- ---- rows

-- a call that is done has its row, and an inode for a node that it makes
pub done_row : (room : Room) (tree : Tree) (n : ℕ) (c : Call) (d : Done) → outcome room tree n c ≡ Ok d → (row tree n c ≡ Ok d) × HasInode room tree d
unfolding outcome
done_row room tree n c d h =
    let one = then_ok (row tree n c) (if_room room tree) d h in
    let inode = refuse_ok (one.0.takes_inode && nat_le room.inodes (length tree)) replies.NoInode
    (refuse_if (nat_lt (room.capacity - used_zones tree) (used_zones one.0.tree - used_zones tree)) replies.NoSpace (Ok one.0)) d one.2 in
    let space = refuse_ok (nat_lt (room.capacity - used_zones tree) (used_zones one.0.tree - used_zones tree)) replies.NoSpace (Ok one.0) d inode.1 in
    let same = ok_ok one.0 d space.1 in
    (one.1 ∙ ap Ok same, λ takes. few one.0.takes_inode (ap (λ (d : Done). d.takes_inode) same ∙ takes) inode.0)
  where
    few : (takes : Bool) → takes ≡ true → (takes && nat_le room.inodes (length tree)) ≡ false → length tree < room.inodes
    few true e f = grind arith
    few false e f = absurd (false≢true e)

-- ---- where a path leads

-- the reply for the root matters only there
pub parent_any : (one other : Reply) (tree : Tree) (names : List (List ℕ)) (p : Place) → parent_of one tree names ≡ Ok p → parent_of other tree names ≡ Ok p
parent_any one other tree [] p h = err_ok one p h
parent_any one other tree (name ∷ names) p h = h

pub at_place_is : (v : VolumeNow) (path : List ℕ) (names : List (List ℕ)) (p : Place) (reply : Reply) (change : Place → Change) → names_in path ≡ Ok names → parent_of reply (tree_of_now v) names ≡ Ok p →
    at_place v path change ≡ change p
at_place_is v path names p reply change e h =
    ap (λ r. elim r as (λ _. Change) [ Err reply ↦ unchanged v | Ok place ↦ change place ])
    (ap (λ x. and_then x (parent_of replies.Invalid (tree_of_now v))) e ∙ parent_any reply replies.Invalid (tree_of_now v) names p h)

pub at_path_is : (v : VolumeNow) (path : List ℕ) (names : List (List ℕ)) (found : Found) (change : ℕ → Change) → names_in path ≡ Ok names → walk (tree_of_now v) names ≡ Ok found →
    at_path v path change ≡ change found.birth
at_path_is v path names found change e h =
    ap (λ r. elim r as (λ _. Change) [ Err reply ↦ unchanged v | Ok found ↦ change found.birth ])
    (ap (λ x. and_then x (walk (tree_of_now v))) e ∙ h)

-- ---- directories of the tree

-- a directory of the tree is one of the volume
pub record DirectoryAt (v : VolumeNow) (birth : ℕ) (directory : Directory) : Type 0 where
  pub placed : Placed
  pub part : DirectoryPart
  pub stands : at_number v.contents.nodes birth ≡ Some placed
  pub is : placed.part ≡ parts.Directory part
  pub same : directory_from part ≡ directory

pub directory_at : (v : VolumeNow) (birth : ℕ) (directory : Directory) → at_number (tree_of_now v) birth ≡ Some (nodes.Directory directory) → DirectoryAt v birth directory
directory_at v birth directory found =
    let w = tree_back v.contents.blocks v.contents.nodes birth (nodes.Directory directory) found in
    by w.0 w.0.part refl w.1 w.2
  where
    by : (p : Placed) (part : Part) → p.part ≡ part → at_number v.contents.nodes birth ≡ Some p → node_now v.contents.blocks p ≡ nodes.Directory directory → DirectoryAt v birth directory
    by p (parts.Directory d) is at e = record { placed = p; part = d; stands = at; is = is; same = (let f = sym (ap (node_from v.contents.blocks p.inode) is) ∙ e in cc) }
    by p (parts.File zones) is at e = absurd (cc (sym (ap (node_from v.contents.blocks p.inode) is) ∙ e))

-- its names have the width of the volume
pub at_width : (v : VolumeNow) (birth : ℕ) (directory : Directory) → IsInUse v → DirectoryAt v birth directory → directory.width ≡ v.geometry.width
at_width v birth directory in_use x =
    let part : IsDirectoryPart v.geometry v.contents.blocks x.placed.inode x.part = subst (IsPart v.geometry v.contents.blocks x.placed.inode) x.is (in_use.volume.0.each birth x.placed x.stands).part in
    ap (λ (d : Directory). d.width) (sym x.same) ∙ part.width

-- and a name that is not too long for it stands in a slot of it
pub entry_at : (v : VolumeNow) (birth : ℕ) (directory : Directory) → IsInUse v → DirectoryAt v birth directory → (name : List ℕ) (number : ℕ) → IsGoodName name → length name ≤ directory.width → 0 < number → number < 2 ^ 16 →
    IsEntry v.geometry.width (record { inode = number; name = name })
entry_at v birth directory in_use x name number good short some fits =
    let same = at_width v birth directory in_use x in
    good_entry v.geometry.width name number in_use.sound.width good (omega arith) some fits
