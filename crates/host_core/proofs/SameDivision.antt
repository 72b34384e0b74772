-- A call leaves the division of the volume as it is.
use Rattle.std.specs.Prelude.{◌&&◌}
use Rattle.std.proofs.Common.{◌≡◌, ◌+◌, ◌-◌, ℕ, Bool, true, false, List, [], ◌∷◌, length, replicate, Option, Some, None, Result, Ok, Err, slice_get, if◌then◌else◌, refl, ◌∙◌}
use Rattle.std.specs.Int.{div_ceil}
use Rattle.minix_layout.specs.declared.slot.Slot.{Slot}
use Rattle.tree_model.specs.declared.call.Call.{Call}
use Rattle.tree_model.specs.declared.call.Call.TheVariants as calls
use Rattle.tree_model.specs.declared.call.Reply.{Reply}
use Rattle.tree_model.specs.declared.call.Reply.TheVariants as replies
use Rattle.tree_model.specs.Calls.{Found, Place, Row, names_in, parent_of, walk_path, touched_blocks, outcome, max, and_then as and_then_row, Move, target_at, stays, moves_directory, changes_parent}
use Rattle.tree_model.specs.Maps.{at_number}
use Rattle.volume_ops.specs.declared.found.Mapped.{Mapped}
use Rattle.volume_model.specs.declared.placed.Placed.{Placed}
use Rattle.volume_model.specs.declared.placed.Part.{Part}
use Rattle.volume_model.specs.declared.placed.Part.TheVariants as parts
use Rattle.volume_model.specs.declared.placed.DirectoryPart.{DirectoryPart}
use Rattle.volume_steps.specs.Now.{VolumeNow, Change, unchanged, followed_by, tree_of_now, room_of}
use Rattle.volume_steps.specs.Steps.{at_node, at_directory, at_file, set_links, resize, make_file, make_directory, make_room, put_name_slot, add_name, take_name, place_of, drop_node, write_block, write_blocks, cut_blocks, clear_tail, set_parent, lead_name}
use Rattle.volume_steps.specs.Calls.{at_place, at_path, mkdir, create, rmdir, lose_link, unlink, link, write, truncate, changed, called, called_by, at_found, move_in, move_below, replace_in, renamed, rename}

record Same (v : VolumeNow) (c : Change) : Type 0 where
  is : c.volume.geometry ≡ v.geometry

test_same : (v : VolumeNow) (b : Bool) (c d : Change) → Same v c → Same v d → Same v (if b then c else d)
test_same v true c d h k = h
test_same v false c d h k = k

followed_same : (v : VolumeNow) (c : Change) (next : VolumeNow → Change) → Same v c → ((w : VolumeNow) → Same w (next w)) → Same v (followed_by c next)
followed_same v c next h k = record { is = (k c.volume).is ∙ h.is }

node_same : (v : VolumeNow) (n : ℕ) (change : Placed → Change) → ((p : Placed) → Same v (change p)) → Same v (at_node v n change)
node_same v n change h = by (at_number v.contents.nodes n)
  where
    by : (o : Option Placed) → Same v (elim o as (λ _. Change) [ None ↦ unchanged v | Some p ↦ change p ])
    by None = record { is = refl }
    by (Some p) = h p

directory_same : (v : VolumeNow) (n : ℕ) (change : Placed → DirectoryPart → Change) → ((p : Placed) (d : DirectoryPart) → Same v (change p d)) → Same v (at_directory v n change)
directory_same v n change h = node_same v n _ (λ p. by p p.part)
  where
    by : (p : Placed) (x : Part) → Same v (elim x as (λ _. Change) [ parts.Directory d ↦ change p d | parts.File zones ↦ unchanged v ])
    by p (parts.Directory d) = h p d
    by p (parts.File zones) = record { is = refl }

file_same : (v : VolumeNow) (n : ℕ) (change : Placed → List Mapped → Change) → ((p : Placed) (zones : List Mapped) → Same v (change p zones)) → Same v (at_file v n change)
file_same v n change h = node_same v n _ (λ p. by p p.part)
  where
    by : (p : Placed) (x : Part) → Same v (elim x as (λ _. Change) [ parts.Directory d ↦ unchanged v | parts.File zones ↦ change p zones ])
    by p (parts.Directory d) = record { is = refl }
    by p (parts.File zones) = h p zones

place_same : (v : VolumeNow) (path : List ℕ) (change : Place → Change) → ((place : Place) → Same v (change place)) → Same v (at_place v path change)
place_same v path change h = by (and_then_row (names_in path) (parent_of replies.Invalid (tree_of_now v)))
  where
    by : (r : Result Place Reply) → Same v (elim r as (λ _. Change) [ Err reply ↦ unchanged v | Ok place ↦ change place ])
    by (Err reply) = record { is = refl }
    by (Ok place) = h place

path_same : (v : VolumeNow) (path : List ℕ) (change : ℕ → Change) → ((birth : ℕ) → Same v (change birth)) → Same v (at_path v path change)
path_same v path change h = by (walk_path (tree_of_now v) path)
  where
    by : (r : Result Found Reply) → Same v (elim r as (λ _. Change) [ Err reply ↦ unchanged v | Ok found ↦ change found.birth ])
    by (Err reply) = record { is = refl }
    by (Ok found) = h found.birth

-- ---- steps

links_same : (v : VolumeNow) (n : ℕ) (change : ℕ → ℕ) → Same v (set_links v n change)
links_same v n change = node_same v n _ (λ p. (record { is = refl }))

resize_same : (v : VolumeNow) (n : ℕ) (change : ℕ → ℕ) → Same v (resize v n change)
resize_same v n change = node_same v n _ (λ p. test_same v _ _ _ (record { is = refl }) (record { is = refl }))

directory_comes : (v : VolumeNow) (n parent : ℕ) → Same v (make_directory v n parent)
directory_comes v n parent = node_same v parent _ (λ p. (record { is = refl }))

room_same : (v : VolumeNow) (n : ℕ) → Same v (make_room v n)
room_same v n = directory_same v n _ (λ p d. test_same v _ _ _ (record { is = refl }) (record { is = refl }))

slot_same : (v : VolumeNow) (n : ℕ) (name : List ℕ) (birth : ℕ) → Same v (put_name_slot v n name birth)
slot_same v n name birth = directory_same v n _ (λ p d. node_same v birth _ (λ child. (record { is = refl })))

name_comes : (v : VolumeNow) (n : ℕ) (name : List ℕ) (birth : ℕ) → Same v (add_name v n name birth)
name_comes v n name birth = followed_same v (make_room v n) _ (room_same v n) (λ w. slot_same w n name birth)

name_goes : (v : VolumeNow) (n : ℕ) (name : List ℕ) → Same v (take_name v n name)
name_goes v n name = directory_same v n _ (λ p d. by (slice_get d.slots (place_of name d.slots)) (λ s. _) (λ s. (record { is = refl })))
  where
    by : (o : Option (Option Slot)) (change : Slot → Change) → ((s : Slot) → Same v (change s)) →
        Same v (elim o as (λ _. Change) [ None ↦ unchanged v | Some x ↦ elim x as (λ _. Change) [ None ↦ unchanged v | Some s ↦ change s ] ])
    by None change h = record { is = refl }
    by (Some None) change h = record { is = refl }
    by (Some (Some s)) change h = h s

node_goes : (v : VolumeNow) (tx n : ℕ) → Same v (drop_node v tx n)
node_goes v tx n = node_same v n _ (λ p. (record { is = refl }))

block_same : (v : VolumeNow) (n off : ℕ) (bytes : List ℕ) (index : ℕ) → Same v (write_block v n off bytes index)
block_same v n off bytes index =
    file_same v n _ (λ p zones.
    test_same v _ _ _ (record { is = refl }) (record { is = refl }))

blocks_same : (v : VolumeNow) (n off : ℕ) (bytes : List ℕ) (indices : List ℕ) → Same v (write_blocks v n off bytes indices)
blocks_same v n off bytes [] = record { is = refl }
blocks_same v n off bytes (index ∷ indices) = followed_same v (write_block v n off bytes index) _ (block_same v n off bytes index) (λ w. blocks_same w n off bytes indices)

cut_same : (v : VolumeNow) (tx n from : ℕ) → Same v (cut_blocks v tx n from)
cut_same v tx n from =
    file_same v n _ (λ p zones.
    test_same v _ _ _ (record { is = refl }) (record { is = refl }))

tail_same : (v : VolumeNow) (n size : ℕ) → Same v (clear_tail v n size)
tail_same v n size =
    file_same v n _ (λ p zones.
    test_same v _ _ _ (record { is = refl }) (record { is = refl }))

-- ---- calls

mkdir_same : (v : VolumeNow) (n : ℕ) (path : List ℕ) → Same v (mkdir v n path)
mkdir_same v n path =
    place_same v path _ (λ place.
    followed_same v (make_directory v n place.parent) _ (directory_comes v n place.parent) (λ u.
    followed_same u (add_name u place.parent place.name n) _ (name_comes u place.parent place.name n) (λ w.
    links_same w place.parent (λ links. links + 1))))

create_same : (v : VolumeNow) (n : ℕ) (path : List ℕ) → Same v (create v n path)
create_same v n path = place_same v path _ (λ place. followed_same v (make_file v n) _ (record { is = refl }) (λ w. name_comes w place.parent place.name n))

rmdir_same : (v : VolumeNow) (tx : ℕ) (path : List ℕ) → Same v (rmdir v tx path)
rmdir_same v tx path =
    place_same v path _ (λ place. path_same v path _ (λ birth.
    followed_same v (take_name v place.parent place.name) _ (name_goes v place.parent place.name) (λ u.
    followed_same u (set_links u place.parent (λ links. links - 1)) _ (links_same u place.parent (λ links. links - 1)) (λ w.
    node_goes w tx birth))))

link_goes : (v : VolumeNow) (tx n : ℕ) → Same v (lose_link v tx n)
link_goes v tx n = node_same v n _ (λ p. test_same v _ _ _ (node_goes v tx n) (links_same v n (λ links. links - 1)))

unlink_same : (v : VolumeNow) (tx : ℕ) (path : List ℕ) → Same v (unlink v tx path)
unlink_same v tx path =
    place_same v path _ (λ place. path_same v path _ (λ birth.
    followed_same v (take_name v place.parent place.name) _ (name_goes v place.parent place.name) (λ w. link_goes w tx birth)))

link_same : (v : VolumeNow) (path other : List ℕ) → Same v (link v path other)
link_same v path other =
    path_same v path _ (λ birth. place_same v other _ (λ place.
    followed_same v (set_links v birth (λ links. links + 1)) _ (links_same v birth (λ links. links + 1)) (λ w. name_comes w place.parent place.name birth)))

-- another name for a node, by what stands there
parent_same : (v : VolumeNow) (n parent : ℕ) → Same v (set_parent v n parent)
parent_same v n parent = directory_same v n _ (λ p d. node_same v parent _ (λ above. (record { is = refl })))

name_led : (v : VolumeNow) (n : ℕ) (name : List ℕ) (birth : ℕ) → Same v (lead_name v n name birth)
name_led v n name birth = directory_same v n _ (λ p d. node_same v birth _ (λ child. (record { is = refl })))

below_same : (v : VolumeNow) (from : ℕ) (name : List ℕ) (to : ℕ) (other : List ℕ) (birth : ℕ) → Same v (move_below v from name to other birth)
below_same v from name to other birth =
    followed_same v (take_name v from name) _ (name_goes v from name) (λ u.
    followed_same u (set_links u from (λ links. links - 1)) _ (links_same u from (λ links. links - 1)) (λ w.
    followed_same w (set_parent w birth to) _ (parent_same w birth to) (λ x.
    followed_same x (set_links x to (λ links. links + 1)) _ (links_same x to (λ links. links + 1)) (λ y.
    name_comes y to other birth))))

renamed_same : (v : VolumeNow) (tx : ℕ) (m : Move) → Same v (renamed v tx m)
renamed_same v tx m = test_same v (stays m) _ _ (record { is = refl }) (by m.target)
  where
    by : (o : Option Found) → Same v (elim o as (λ _. Change) [
      | Some t ↦ replace_in v tx m.from.parent m.from.name m.to.parent m.to.name m.moved.birth t.birth
      | None ↦ if moves_directory m && changes_parent m then move_below v m.from.parent m.from.name m.to.parent m.to.name m.moved.birth else move_in v m.from.parent m.from.name m.to.parent m.to.name m.moved.birth
    ])
    by (Some t) =
        followed_same v (take_name v m.from.parent m.from.name) _ (name_goes v m.from.parent m.from.name) (λ u.
        followed_same u (lead_name u m.to.parent m.to.name m.moved.birth) _ (name_led u m.to.parent m.to.name m.moved.birth) (λ w. link_goes w tx t.birth))
    by None = test_same v (moves_directory m && changes_parent m) _ _ (below_same v m.from.parent m.from.name m.to.parent m.to.name m.moved.birth)
        (followed_same v (take_name v m.from.parent m.from.name) _ (name_goes v m.from.parent m.from.name) (λ w. name_comes w m.to.parent m.to.name m.moved.birth))

found_same : (v : VolumeNow) (path : List ℕ) (change : Found → Change) → ((found : Found) → Same v (change found)) → Same v (at_found v path change)
found_same v path change h = by (walk_path (tree_of_now v) path)
  where
    by : (r : Result Found Reply) → Same v (elim r as (λ _. Change) [ Err reply ↦ unchanged v | Ok found ↦ change found ])
    by (Err reply) = record { is = refl }
    by (Ok found) = h found

rename_same : (v : VolumeNow) (tx : ℕ) (path other : List ℕ) → Same v (rename v tx path other)
rename_same v tx path other =
    found_same v path _ (λ found. place_same v path _ (λ from. place_same v other _ (λ to.
    renamed_same v tx (record { moved = found; from = from; to = to; target = target_at (tree_of_now v) to }))))

write_same : (v : VolumeNow) (path : List ℕ) (off : ℕ) (bytes : List ℕ) → Same v (write v path off bytes)
write_same v path off bytes =
    path_same v path _ (λ birth.
    followed_same v (write_blocks v birth off bytes (touched_blocks off (length bytes))) _ (blocks_same v birth off bytes (touched_blocks off (length bytes))) (λ w.
    resize_same w birth (λ size. max size (off + length bytes))))

truncate_same : (v : VolumeNow) (tx : ℕ) (path : List ℕ) (size : ℕ) → Same v (truncate v tx path size)
truncate_same v tx path size =
    path_same v path _ (λ birth.
    followed_same v (cut_blocks v tx birth (div_ceil size 1024)) _ (cut_same v tx birth (div_ceil size 1024)) (λ u.
    followed_same u (clear_tail u birth size) _ (tail_same u birth size) (λ w.
    resize_same w birth (λ old. size))))

changed_same : (v : VolumeNow) (n tx : ℕ) (c : Call) → Same v (changed v n tx c)
unfolding changed
changed_same v n tx (calls.Mkdir path) = mkdir_same v n path
changed_same v n tx (calls.Create path) = create_same v n path
changed_same v n tx (calls.Rmdir path) = rmdir_same v tx path
changed_same v n tx (calls.Unlink path) = unlink_same v tx path
changed_same v n tx (calls.Link path other) = link_same v path other
changed_same v n tx (calls.Write path off len value) = write_same v path off (replicate len value)
changed_same v n tx (calls.Bytes path off bytes) = write_same v path off bytes
changed_same v n tx (calls.Truncate path size) = truncate_same v tx path size
changed_same v n tx (calls.Rename path other) = rename_same v tx path other
changed_same v n tx (calls.Read path off len) = record { is = refl }
changed_same v n tx (calls.List path) = record { is = refl }
changed_same v n tx (calls.Stat path) = record { is = refl }
changed_same v n tx (calls.Fsync path) = record { is = refl }
changed_same v n tx (calls.Fdatasync path) = record { is = refl }
changed_same v n tx (calls.Fbarrier path) = record { is = refl }
changed_same v n tx (calls.Fdatabarrier path) = record { is = refl }
changed_same v n tx calls.Sync = record { is = refl }

pub called_same : (v : VolumeNow) (n tx : ℕ) (c : Call) → (called v n tx c).change.volume.geometry ≡ v.geometry
unfolding called
called_same v n tx c = (by (outcome (room_of v.geometry) (tree_of_now v) n c)).is
  where
    by : (r : Row) → Same v (called_by v n tx c r).change
    by (Err reply) = record { is = refl }
    by (Ok d) = changed_same v n tx c
