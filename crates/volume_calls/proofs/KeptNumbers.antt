-- Which inodes the nodes have after each step of a call, and after each call.
use Rattle.std.specs.Prelude.{◌≡◌, ℕ, ◌+◌, ◌-◌, ◌==◌, nat_le, Bool, true, false, not, ◌&&◌, if◌then◌else◌, List, [], ◌∷◌, length, Option, Some, None, option_map, unwrap_or, refl}
use Rattle.std.proofs.Common.{sym, ap, subst, inl}
use Rattle.std.specs.Int.{div_ceil}
use Rattle.std.specs.List.{slice_get}
use Rattle.minix_layout.specs.declared.slot.Slot.{Slot}
use Rattle.tree_model.specs.Calls.{max, touched_blocks}
use Rattle.tree_model.specs.Maps.{at_number}
use Rattle.tree_model.specs.laws.MapOrder.{InOrder, at_without_here, at_without_apart}
use Rattle.volume_ops.specs.declared.found.Mapped.{Mapped}
use Rattle.volume_model.specs.declared.placed.Placed.{Placed}
use Rattle.volume_model.specs.declared.placed.Part.{Part}
use Rattle.volume_model.specs.declared.placed.Part.TheVariants as parts
use Rattle.volume_model.specs.declared.placed.DirectoryPart.{DirectoryPart}
use Rattle.volume_model.specs.Moves.{name_removed, without_name}
use Rattle.volume_steps.specs.Now.{VolumeNow, Change, followed_by, unchanged, with_contents}
use Rattle.volume_steps.specs.Zones.{new_number}
use Rattle.volume_steps.specs.Steps.{at_node, at_directory, at_file, set_links, resize, make_file, make_directory, make_room, put_name_slot, add_name, place_of, take_name, set_parent, lead_name, node_dropped, drop_node, write_block, write_blocks, cut_blocks, clear_tail, tells_node, slot_told}
use Rattle.volume_steps.specs.Calls.{create_in, mkdir_in, link_in, unlink_in, rmdir_in, lose_link, move_in, move_below, replace_in, write_at, truncate_at}
use Rattle.volume_steps.proofs.NewDirectories.{make_directory_is}
use Rattle.volume_names.specs.renames.Renamed.{birth_named, is_directory_at, renamed_at, renamed_by}
use Rattle.volume_names.specs.May.{MayCreate, MayMkdir}
use Rattle.volume_names.proofs.Creates.{none as file_none}
use Rattle.volume_names.proofs.Makes.{none as directory_none}
use Rattle.volume_names.proofs.InodeMarks.{KeepsNumbers, keeps_all, keeps_then, keeps_put, Comes, comes_put, comes_then, Loses, loses_then, loses_none}

-- ---- steps that change nodes in place

abbrev pub Keeps : VolumeNow → Change → Type 0
Keeps v c = KeepsNumbers v.contents.nodes c.volume.contents.nodes

pub keeps_next : (v : VolumeNow) (c : Change) (next : VolumeNow → Change) → Keeps v c → Keeps c.volume (next c.volume) → Keeps v (followed_by c next)
keeps_next v c next h k = keeps_then v.contents.nodes c.volume.contents.nodes (next c.volume).volume.contents.nodes h k

nothing : (v : VolumeNow) → Keeps v (unchanged v)
nothing v = keeps_all v.contents.nodes

either : (v : VolumeNow) (b : Bool) (c d : Change) → Keeps v c → Keeps v d → Keeps v (if b then c else d)
either v true c d h k = h
either v false c d h k = k

node_keeps : (v : VolumeNow) (n : ℕ) (change : Placed → Change) → ((p : Placed) → at_number v.contents.nodes n ≡ Some p → Keeps v (change p)) → Keeps v (at_node v n change)
node_keeps v n change each = by (at_number v.contents.nodes n) refl
  where
    by : (o : Option Placed) → at_number v.contents.nodes n ≡ o → Keeps v (elim o as (λ _. Change) [ None ↦ unchanged v | Some p ↦ change p ])
    by None e = nothing v
    by (Some p) e = each p e

directory_keeps : (v : VolumeNow) (n : ℕ) (change : Placed → DirectoryPart → Change) → ((p : Placed) (d : DirectoryPart) → at_number v.contents.nodes n ≡ Some p → Keeps v (change p d)) →
    Keeps v (at_directory v n change)
directory_keeps v n change each = node_keeps v n (λ p. elim p.part as (λ _. Change) [ parts.Directory d ↦ change p d | parts.File zones ↦ unchanged v ]) (λ p at. by p p.part at)
  where
    by : (p : Placed) (part : Part) → at_number v.contents.nodes n ≡ Some p → Keeps v (elim part as (λ _. Change) [ parts.Directory d ↦ change p d | parts.File zones ↦ unchanged v ])
    by p (parts.Directory d) at = each p d at
    by p (parts.File zones) at = nothing v

file_keeps : (v : VolumeNow) (n : ℕ) (change : Placed → List Mapped → Change) → ((p : Placed) (zones : List Mapped) → at_number v.contents.nodes n ≡ Some p → Keeps v (change p zones)) →
    Keeps v (at_file v n change)
file_keeps v n change each = node_keeps v n (λ p. elim p.part as (λ _. Change) [ parts.Directory d ↦ unchanged v | parts.File zones ↦ change p zones ]) (λ p at. by p p.part at)
  where
    by : (p : Placed) (part : Part) → at_number v.contents.nodes n ≡ Some p → Keeps v (elim part as (λ _. Change) [ parts.Directory d ↦ unchanged v | parts.File zones ↦ change p zones ])
    by p (parts.Directory d) at = nothing v
    by p (parts.File zones) at = each p zones at

links_keep : (v : VolumeNow) (n : ℕ) (change : ℕ → ℕ) → Keeps v (set_links v n change)
links_keep v n change = node_keeps v n _ (λ p at. keeps_put v.contents.nodes n p _ at refl)

size_keeps : (v : VolumeNow) (n : ℕ) (change : ℕ → ℕ) → Keeps v (resize v n change)
size_keeps v n change = node_keeps v n _ (λ p at. either v (change p.inode.size == p.inode.size) _ _ (nothing v) (keeps_put v.contents.nodes n p _ at refl))

room_keeps : (v : VolumeNow) (n : ℕ) → Keeps v (make_room v n)
room_keeps v n = directory_keeps v n _ (λ p d at. either v _ _ _ (keeps_put v.contents.nodes n p _ at refl) (nothing v))

slot_keeps : (v : VolumeNow) (n : ℕ) (name : List ℕ) (birth : ℕ) → Keeps v (put_name_slot v n name birth)
slot_keeps v n name birth = directory_keeps v n _ (λ p d at. node_keeps v birth _ (λ child also. keeps_put v.contents.nodes n p _ at refl))

name_keeps : (v : VolumeNow) (n : ℕ) (name : List ℕ) (birth : ℕ) → Keeps v (add_name v n name birth)
name_keeps v n name birth = keeps_next v (make_room v n) (λ w. put_name_slot w n name birth) (room_keeps v n) (slot_keeps (make_room v n).volume n name birth)

no_name_keeps : (v : VolumeNow) (n : ℕ) (name : List ℕ) → Keeps v (take_name v n name)
no_name_keeps v n name = directory_keeps v n _ (λ p d at. by p d at (slice_get d.slots (place_of name d.slots)))
  where
    by : (p : Placed) (d : DirectoryPart) → at_number v.contents.nodes n ≡ Some p → (o : Option (Option Slot)) → Keeps v (elim o as (λ _. Change) [
      | None ↦ unchanged v
      | Some o ↦ elim o as (λ _. Change) [
        | None ↦ unchanged v
        | Some s ↦ record {
          volume = with_contents v (name_removed v.geometry v.contents n p d (place_of name d.slots) s);
          touched = tells_node n (slot_told v p (place_of name d.slots) (without_name d (place_of name d.slots) s));
        }
      ]
    ])
    by p d at None = nothing v
    by p d at (Some None) = nothing v
    by p d at (Some (Some s)) = keeps_put v.contents.nodes n p _ at refl

parent_keeps : (v : VolumeNow) (n parent : ℕ) → Keeps v (set_parent v n parent)
parent_keeps v n parent = directory_keeps v n _ (λ p d at. node_keeps v parent _ (λ above also. keeps_put v.contents.nodes n p _ at refl))

lead_keeps : (v : VolumeNow) (n : ℕ) (name : List ℕ) (birth : ℕ) → Keeps v (lead_name v n name birth)
lead_keeps v n name birth = directory_keeps v n _ (λ p d at. node_keeps v birth _ (λ child also. keeps_put v.contents.nodes n p _ at refl))

block_keeps : (v : VolumeNow) (n off : ℕ) (bytes : List ℕ) (index : ℕ) → Keeps v (write_block v n off bytes index)
block_keeps v n off bytes index = file_keeps v n _ (λ p zones at. either v _ _ _ (keeps_put v.contents.nodes n p _ at refl) (keeps_all v.contents.nodes))

blocks_keep : (v : VolumeNow) (n off : ℕ) (bytes indices : List ℕ) → Keeps v (write_blocks v n off bytes indices)
blocks_keep v n off bytes [] = nothing v
blocks_keep v n off bytes (index ∷ indices) =
    keeps_next v (write_block v n off bytes index) (λ w. write_blocks w n off bytes indices) (block_keeps v n off bytes index) (blocks_keep (write_block v n off bytes index).volume n off bytes indices)

cut_keeps : (v : VolumeNow) (tx n from : ℕ) → Keeps v (cut_blocks v tx n from)
cut_keeps v tx n from = file_keeps v n _ (λ p zones at. either v _ _ _ (keeps_put v.contents.nodes n p _ at refl) (nothing v))

tail_keeps : (v : VolumeNow) (n size : ℕ) → Keeps v (clear_tail v n size)
tail_keeps v n size = file_keeps v n _ (λ p zones at. either v _ _ _ (nothing v) (keeps_all v.contents.nodes))

-- ---- calls that change nodes in place

pub link_keeps : (v : VolumeNow) (birth parent : ℕ) (name : List ℕ) → Keeps v (link_in v birth parent name)
link_keeps v birth parent name =
    let first = set_links v birth (λ links. links + 1) in
    keeps_next v first (λ w. add_name w parent name birth) (links_keep v birth (λ links. links + 1)) (name_keeps first.volume parent name birth)

pub write_keeps : (v : VolumeNow) (birth off : ℕ) (bytes : List ℕ) → Keeps v (write_at v birth off bytes)
write_keeps v birth off bytes =
    let first = write_blocks v birth off bytes (touched_blocks off (length bytes)) in
    keeps_next v first (λ w. resize w birth (λ size. max size (off + length bytes))) (blocks_keep v birth off bytes (touched_blocks off (length bytes))) (size_keeps first.volume birth (λ size. max size (off + length bytes)))

pub truncate_keeps : (v : VolumeNow) (tx birth size : ℕ) → Keeps v (truncate_at v tx birth size)
truncate_keeps v tx birth size =
    let first = cut_blocks v tx birth (div_ceil size 1024) in
    let second = clear_tail first.volume birth size in
    keeps_next v first (λ u. followed_by (clear_tail u birth size) (λ w. resize w birth (λ old. size))) (cut_keeps v tx birth (div_ceil size 1024))
    (keeps_next first.volume second (λ w. resize w birth (λ old. size)) (tail_keeps first.volume birth size) (size_keeps second.volume birth (λ old. size)))

-- ---- calls that make a node

pub create_comes : (v : VolumeNow) (n parent : ℕ) (name : List ℕ) → MayCreate v n parent name →
    Comes v.contents.nodes (create_in v n parent name).volume.contents.nodes n (new_number v.geometry v.contents.nodes)
create_comes v n parent name h =
    let made = (make_file v n).volume in
    comes_then v.contents.nodes made.contents.nodes (create_in v n parent name).volume.contents.nodes n (new_number v.geometry v.contents.nodes)
    (comes_put v.contents.nodes n _ (file_none v n parent name h))
    (name_keeps made parent name n)

pub mkdir_comes : (v : VolumeNow) (n parent : ℕ) (name : List ℕ) → MayMkdir v n parent name →
    Comes v.contents.nodes (mkdir_in v n parent name).volume.contents.nodes n (new_number v.geometry v.contents.nodes)
mkdir_comes v n parent name h =
    let none = directory_none v n parent name h in
    let made = (make_directory v n parent).volume in
    let named = (add_name made parent name n).volume in
    let first : Comes v.contents.nodes made.contents.nodes n (new_number v.geometry v.contents.nodes) =
    subst (λ (c : Change). Comes v.contents.nodes c.volume.contents.nodes n (new_number v.geometry v.contents.nodes))
    (sym (make_directory_is 0 v h.plain.in_use n none h.inode parent h.place.placed h.place.stands h.some_zone))
    (comes_put v.contents.nodes n _ none) in
    comes_then v.contents.nodes named.contents.nodes (mkdir_in v n parent name).volume.contents.nodes n (new_number v.geometry v.contents.nodes)
    (comes_then v.contents.nodes made.contents.nodes named.contents.nodes n (new_number v.geometry v.contents.nodes) first (name_keeps made parent name n))
    (links_keep named parent (λ links. links + 1))

-- ---- calls that may drop a node

drop_loses : (v : VolumeNow) (tx n : ℕ) → InOrder v.contents.nodes → Loses v.contents.nodes (drop_node v tx n).volume.contents.nodes n
drop_loses v tx n sorted = by (at_number v.contents.nodes n)
  where
    by : (o : Option Placed) → Loses v.contents.nodes (elim o as (λ _. Change) [ None ↦ unchanged v | Some p ↦ node_dropped v tx n p ]).volume.contents.nodes n
    by None = loses_none v.contents.nodes v.contents.nodes n (keeps_all v.contents.nodes)
    by (Some p) = record {
      others = λ birth far. ap (option_map (λ (p : Placed). p.number)) (at_without_apart v.contents.nodes n birth sorted far);
      here = inl (ap (option_map (λ (p : Placed). p.number)) (at_without_here v.contents.nodes n sorted));
    }

link_loses : (v : VolumeNow) (tx n : ℕ) → InOrder v.contents.nodes → Loses v.contents.nodes (lose_link v tx n).volume.contents.nodes n
link_loses v tx n sorted = by (at_number v.contents.nodes n)
  where
    if_last : (b : Bool) → Loses v.contents.nodes (if b then drop_node v tx n else set_links v n (λ links. links - 1)).volume.contents.nodes n
    if_last true = drop_loses v tx n sorted
    if_last false = loses_none v.contents.nodes (set_links v n (λ links. links - 1)).volume.contents.nodes n (links_keep v n (λ links. links - 1))

    by : (o : Option Placed) → Loses v.contents.nodes (elim o as (λ _. Change) [
      | None ↦ unchanged v
      | Some p ↦ if nat_le p.inode.links 1 then drop_node v tx n else set_links v n (λ links. links - 1)
    ]).volume.contents.nodes n
    by None = loses_none v.contents.nodes v.contents.nodes n (keeps_all v.contents.nodes)
    by (Some p) = if_last (nat_le p.inode.links 1)

pub unlink_loses : (v : VolumeNow) (tx parent : ℕ) (name : List ℕ) (birth : ℕ) → InOrder v.contents.nodes → Loses v.contents.nodes (unlink_in v tx parent name birth).volume.contents.nodes birth
unlink_loses v tx parent name birth sorted =
    let first = (take_name v parent name).volume in
    let kept = no_name_keeps v parent name in
    loses_then v.contents.nodes first.contents.nodes (unlink_in v tx parent name birth).volume.contents.nodes birth kept (link_loses first tx birth (kept.order sorted))

pub rmdir_loses : (v : VolumeNow) (tx parent : ℕ) (name : List ℕ) (birth : ℕ) → InOrder v.contents.nodes → Loses v.contents.nodes (rmdir_in v tx parent name birth).volume.contents.nodes birth
rmdir_loses v tx parent name birth sorted =
    let first = (take_name v parent name).volume in
    let second = (set_links first parent (λ links. links - 1)).volume in
    let kept = keeps_then v.contents.nodes first.contents.nodes second.contents.nodes (no_name_keeps v parent name) (links_keep first parent (λ links. links - 1)) in
    loses_then v.contents.nodes second.contents.nodes (rmdir_in v tx parent name birth).volume.contents.nodes birth kept (drop_loses second tx birth (kept.order sorted))

-- ---- renames

move_keeps : (v : VolumeNow) (from : ℕ) (name : List ℕ) (to : ℕ) (other : List ℕ) (birth : ℕ) → Keeps v (move_in v from name to other birth)
move_keeps v from name to other birth =
    let first = take_name v from name in
    keeps_next v first (λ w. add_name w to other birth) (no_name_keeps v from name) (name_keeps first.volume to other birth)

below_keeps : (v : VolumeNow) (from : ℕ) (name : List ℕ) (to : ℕ) (other : List ℕ) (birth : ℕ) → Keeps v (move_below v from name to other birth)
below_keeps v from name to other birth =
    let first = take_name v from name in
    let second = set_links first.volume from (λ links. links - 1) in
    let third = set_parent second.volume birth to in
    let fourth = set_links third.volume to (λ links. links + 1) in
    keeps_next v first (λ u. followed_by (set_links u from (λ links. links - 1)) (λ w. followed_by (set_parent w birth to) (λ x. followed_by (set_links x to (λ links. links + 1)) (λ y. add_name y to other birth)))) (no_name_keeps v from name)
    (keeps_next first.volume second (λ w. followed_by (set_parent w birth to) (λ x. followed_by (set_links x to (λ links. links + 1)) (λ y. add_name y to other birth))) (links_keep first.volume from (λ links. links - 1))
    (keeps_next second.volume third (λ x. followed_by (set_links x to (λ links. links + 1)) (λ y. add_name y to other birth)) (parent_keeps second.volume birth to)
    (keeps_next third.volume fourth (λ y. add_name y to other birth) (links_keep third.volume to (λ links. links + 1)) (name_keeps fourth.volume to other birth))))

replace_loses : (v : VolumeNow) (tx from : ℕ) (name : List ℕ) (to : ℕ) (other : List ℕ) (birth gone : ℕ) → InOrder v.contents.nodes →
    Loses v.contents.nodes (replace_in v tx from name to other birth gone).volume.contents.nodes gone
replace_loses v tx from name to other birth gone sorted =
    let first = take_name v from name in
    let second = lead_name first.volume to other birth in
    let kept = keeps_then v.contents.nodes first.volume.contents.nodes second.volume.contents.nodes (no_name_keeps v from name) (lead_keeps first.volume to other birth) in
    loses_then v.contents.nodes second.volume.contents.nodes (replace_in v tx from name to other birth gone).volume.contents.nodes gone kept (link_loses second.volume tx gone (kept.order sorted))

-- what has the new name may be lost
pub rename_loses : (v : VolumeNow) (tx from : ℕ) (name : List ℕ) (to : ℕ) (other : List ℕ) (birth : ℕ) → InOrder v.contents.nodes →
    Loses v.contents.nodes (renamed_at v tx from name to other birth).volume.contents.nodes (unwrap_or (birth_named v.contents.nodes to other) birth)
rename_loses v tx from name to other birth sorted = by (birth_named v.contents.nodes to other)
  where
    moves : (b : Bool) → Keeps v (if b then move_below v from name to other birth else move_in v from name to other birth)
    moves true = below_keeps v from name to other birth
    moves false = move_keeps v from name to other birth

    meets : (gone : ℕ) (b : Bool) → Loses v.contents.nodes (if b then unchanged v else replace_in v tx from name to other birth gone).volume.contents.nodes gone
    meets gone true = loses_none v.contents.nodes v.contents.nodes gone (keeps_all v.contents.nodes)
    meets gone false = replace_loses v tx from name to other birth gone sorted

    by : (o : Option ℕ) → Loses v.contents.nodes (renamed_by v tx from name to other birth o).volume.contents.nodes (unwrap_or o birth)
    by None = loses_none v.contents.nodes _ birth (moves (is_directory_at v.contents.nodes birth && not (to == from)))
    by (Some gone) = meets gone (gone == birth)
