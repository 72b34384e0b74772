-- Calls on a volume: which steps each one is made of. What refuses a call, and what it replies, is the tree's matter.
use Rattle.std.specs.Prelude.{ℕ, ◌+◌, ◌-◌, nat_le, ◌&&◌, if◌then◌else◌, List, length, replicate, Some, None, Ok, Err}
use Rattle.std.specs.Int.{div_ceil}
use Rattle.tree_model.specs.declared.call.Call.{Call}
use Rattle.tree_model.specs.declared.call.Call.TheVariants as calls
use Rattle.tree_model.specs.declared.call.Reply.{Reply}
use Rattle.tree_model.specs.declared.call.Reply.TheVariants as replies
use Rattle.tree_model.specs.Calls.{Place, Found, Move, names_in, parent_of, walk_path, target_at, stays, moves_directory, changes_parent, touched_blocks, max, Row, outcome, and_then as and_then_row}
use Rattle.minix_tables.specs.zones.Zones.{released}
use Rattle.volume_steps.specs.Now.{VolumeNow, Change, tree_of_now, room_of, unchanged, followed_by, with_zone_states}
use Rattle.volume_steps.specs.Steps.{at_node, set_links, resize, make_file, make_directory, add_name, take_name, set_parent, lead_name, drop_node, write_blocks, cut_blocks, clear_tail}

-- ---- where a path leads

-- what to do at the parent and the last name of a path; where these are refused, nothing changes
abbrev pub at_place : VolumeNow → List ℕ → (Place → Change) → Change
at_place v path change =
    elim (and_then_row (names_in path) (parent_of replies.Invalid (tree_of_now v))) as (λ _. Change) [ Err reply ↦ unchanged v | Ok place ↦ change place ]

-- what to do at the birth of the node to which a path leads; where it leads to none, nothing changes
abbrev pub at_path : VolumeNow → List ℕ → (ℕ → Change) → Change
at_path v path change = elim (walk_path (tree_of_now v) path) as (λ _. Change) [ Err reply ↦ unchanged v | Ok found ↦ change found.birth ]

-- so, with the node itself
abbrev pub at_found : VolumeNow → List ℕ → (Found → Change) → Change
at_found v path change = elim (walk_path (tree_of_now v) path) as (λ _. Change) [ Err reply ↦ unchanged v | Ok found ↦ change found ]

-- ---- what each call does, where nothing refuses it

-- a directory comes under this name, in the directory with this birth
abbrev pub mkdir_in : VolumeNow → ℕ → ℕ → List ℕ → Change
mkdir_in v n parent name =
    followed_by (make_directory v n parent) (λ u.
    followed_by (add_name u parent name n) (λ w.
    set_links w parent (λ links. links + 1)))

abbrev pub mkdir : VolumeNow → ℕ → List ℕ → Change
mkdir v n path = at_place v path (λ place. mkdir_in v n place.parent place.name)

-- so does a file
abbrev pub create_in : VolumeNow → ℕ → ℕ → List ℕ → Change
create_in v n parent name = followed_by (make_file v n) (λ w. add_name w parent name n)

abbrev pub create : VolumeNow → ℕ → List ℕ → Change
create v n path = at_place v path (λ place. create_in v n place.parent place.name)

-- the directory with this birth goes, with its name
abbrev pub rmdir_in : VolumeNow → ℕ → ℕ → List ℕ → ℕ → Change
rmdir_in v tx parent name birth =
    followed_by (take_name v parent name) (λ u.
    followed_by (set_links u parent (λ links. links - 1)) (λ w.
    drop_node w tx birth))

abbrev pub rmdir : VolumeNow → ℕ → List ℕ → Change
rmdir v tx path = at_place v path (λ place. at_path v path (λ birth. rmdir_in v tx place.parent place.name birth))

-- a file has one link less; at no links it is gone
abbrev pub lose_link : VolumeNow → ℕ → ℕ → Change
lose_link v tx n = at_node v n (λ p. if nat_le p.inode.links 1 then drop_node v tx n else set_links v n (λ links. links - 1))

-- a name of the file with this birth goes
abbrev pub unlink_in : VolumeNow → ℕ → ℕ → List ℕ → ℕ → Change
unlink_in v tx parent name birth = followed_by (take_name v parent name) (λ w. lose_link w tx birth)

abbrev pub unlink : VolumeNow → ℕ → List ℕ → Change
unlink v tx path = at_place v path (λ place. at_path v path (λ birth. unlink_in v tx place.parent place.name birth))

-- the file with this birth gets a name more
abbrev pub link_in : VolumeNow → ℕ → ℕ → List ℕ → Change
link_in v birth parent name = followed_by (set_links v birth (λ links. links + 1)) (λ w. add_name w parent name birth)

abbrev pub link : VolumeNow → List ℕ → List ℕ → Change
link v path other = at_path v path (λ birth. at_place v other (λ place. link_in v birth place.parent place.name))

-- a node gets another name, which no node has
abbrev pub move_in : VolumeNow → ℕ → List ℕ → ℕ → List ℕ → ℕ → Change
move_in v from name to other birth = followed_by (take_name v from name) (λ w. add_name w to other birth)

-- so does a directory, below another parent: that has one link more, and the old one has one less
abbrev pub move_below : VolumeNow → ℕ → List ℕ → ℕ → List ℕ → ℕ → Change
move_below v from name to other birth =
    followed_by (take_name v from name) (λ u.
    followed_by (set_links u from (λ links. links - 1)) (λ w.
    followed_by (set_parent w birth to) (λ x.
    followed_by (set_links x to (λ links. links + 1)) (λ y.
    add_name y to other birth))))

-- a file gets the name of another one, which has one link less; at no links that is gone
abbrev pub replace_in : VolumeNow → ℕ → ℕ → List ℕ → ℕ → List ℕ → ℕ → ℕ → Change
replace_in v tx from name to other birth gone =
    followed_by (take_name v from name) (λ u.
    followed_by (lead_name u to other birth) (λ w.
    lose_link w tx gone))

-- where both names are of one node, nothing changes
abbrev pub renamed : VolumeNow → ℕ → Move → Change
renamed v tx m =
    if stays m then unchanged v
    else elim m.target as (λ _. Change) [
      | Some t ↦ replace_in v tx m.from.parent m.from.name m.to.parent m.to.name m.moved.birth t.birth
      | None ↦
          if moves_directory m && changes_parent m then move_below v m.from.parent m.from.name m.to.parent m.to.name m.moved.birth
          else move_in v m.from.parent m.from.name m.to.parent m.to.name m.moved.birth
    ]

abbrev pub rename : VolumeNow → ℕ → List ℕ → List ℕ → Change
rename v tx path other =
    at_found v path (λ found.
    at_place v path (λ from.
    at_place v other (λ to.
    renamed v tx (record { moved = found; from = from; to = to; target = target_at (tree_of_now v) to }))))

-- ---- bytes

-- bytes are written from `off` on, and the size is at least where they end
abbrev pub write_at : VolumeNow → ℕ → ℕ → List ℕ → Change
write_at v birth off bytes =
    followed_by (write_blocks v birth off bytes (touched_blocks off (length bytes))) (λ w.
    resize w birth (λ size. max size (off + length bytes)))

abbrev pub write : VolumeNow → List ℕ → ℕ → List ℕ → Change
write v path off bytes = at_path v path (λ birth. write_at v birth off bytes)

-- the file with this birth gets this size, in bytes, and zones that go wait for the transaction
abbrev pub truncate_at : VolumeNow → ℕ → ℕ → ℕ → Change
truncate_at v tx birth size =
    followed_by (cut_blocks v tx birth (div_ceil size 1024)) (λ u.
    followed_by (clear_tail u birth size) (λ w.
    resize w birth (λ old. size)))

abbrev pub truncate : VolumeNow → ℕ → List ℕ → ℕ → Change
truncate v tx path size = at_path v path (λ birth. truncate_at v tx birth size)

-- The call with number n, in transaction tx.
unfoldable pub changed : VolumeNow → ℕ → ℕ → Call → Change
changed v n tx (calls.Mkdir path) = mkdir v n path
changed v n tx (calls.Create path) = create v n path
changed v n tx (calls.Rmdir path) = rmdir v tx path
changed v n tx (calls.Unlink path) = unlink v tx path
changed v n tx (calls.Link path other) = link v path other
changed v n tx (calls.Rename path other) = rename v tx path other
changed v n tx (calls.Write path off len value) = write v path off (replicate len value)
changed v n tx (calls.Bytes path off bytes) = write v path off bytes
changed v n tx (calls.Truncate path size) = truncate v tx path size
changed v n tx other = unchanged v

-- ---- a call

-- what a call changes, and its reply
pub record Called : Type 0 where
  pub change : Change
  pub reply : Reply

-- by what the tree says of the call; one that is refused changes nothing
abbrev pub called_by : VolumeNow → ℕ → ℕ → Call → Row → Called
called_by v n tx c (Err reply) = record { change = unchanged v; reply = reply }
called_by v n tx c (Ok done) = record { change = changed v n tx c; reply = done.reply }

-- the call with number `n`, in transaction `tx`
unfoldable pub called : VolumeNow → ℕ → ℕ → Call → Called
called v n tx c = called_by v n tx c (outcome (room_of v.geometry) (tree_of_now v) n c)

-- the zones that waited for a transaction are free
abbrev pub after_release : VolumeNow → ℕ → VolumeNow
after_release v tx = with_zone_states v (released v.zones tx)
