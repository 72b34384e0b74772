-- How much each call tells.
use Rattle.std.specs.Prelude.{◌&&◌, Option, Some, None}
use Rattle.std.proofs.Common.{◌≡◌, ℕ, ◌+◌, ◌-◌, ◌*◌, ◌/◌, ◌<◌, ◌≤◌, ◌==◌, nat_le, nat_lt, Bool, true, false, if◌then◌else◌, List, [], length, replicate, Option, Some, None, Ok, Err, refl, ap, ⊎_elim, arith}
use Rattle.std.specs.Int.{div_ceil}
use Rattle.std.specs.List.{range_with_len, slice_get}
use Rattle.std.proofs.lemmas.List.{length-replicate}
use Rattle.std.proofs.lemmas.List.FromFn.{length-range_with_len}
use Rattle.std.proofs.lemmas.List.Sums.{count_by-le-length}
use Rattle.std.proofs.lemmas.Bool.{ltb-false}
use Rattle.std.proofs.lemmas.Option.{none-some, slice_get_within}
use Rattle.blk_base.specs.Members.{In}
use Rattle.tree_model.specs.declared.call.Call.{Call}
use Rattle.tree_model.specs.declared.call.Call.TheVariants as calls
use Rattle.tree_model.specs.declared.call.Reply.TheVariants as replies
use Rattle.tree_model.specs.Calls.{Place, Row, names_in, parent_of, walk_path, touched_blocks, max, outcome, and_then as and_then_row, Move, Found, target_at, stays, moves_directory, changes_parent}
use Rattle.minix_tables.specs.declared.zones.zone_state.ZoneState.TheVariants as states
use Rattle.minix_tables.specs.zones.Zones.{Zones, state_of, is_quarantined}
use Rattle.volume_steps.specs.Now.{VolumeNow, Change, tree_of_now, room_of, unchanged, followed_by}
use Rattle.volume_steps.specs.Steps.{set_links, resize, make_file, make_directory, add_name, take_name, drop_node, write_blocks, cut_blocks, clear_tail, set_parent, lead_name}
use Rattle.volume_steps.specs.Calls.{at_place, at_path, mkdir_in, mkdir, create_in, create, rmdir_in, rmdir, lose_link, unlink_in, unlink, link_in, link, write_at, write, truncate_at, truncate, changed, called, called_by, move_in, move_below, replace_in, renamed, rename}
use Rattle.volume_steps.specs.Called.{FindsRoom}
use Rattle.volume_steps.proofs.AllCalls.{any_call}
use Rattle.host_core.specs.lengths.Lengths.{notes_in, blocks_in}
use Rattle.host_core.proofs.LengthsLemmas.Few.{Few, few_more, none_few, followed_few, if_few, node_few, row_few}
use Rattle.host_core.proofs.LengthsLemmas.Steps.{links_few, resize_few, make_file_few, make_directory_few, add_name_few, take_name_few, drop_node_few, write_blocks_few, cut_blocks_few, clear_tail_few, set_parent_few, lead_name_few}

place_few : (n p : ℕ) (v : VolumeNow) (path : List ℕ) (change : Place → Change) → ((x : Place) → Few n p (change x).touched) → Few n p (at_place v path change).touched
place_few n p v path change f = row_few n p v (and_then_row (names_in path) (parent_of replies.Invalid (tree_of_now v))) change f

path_few : (n p : ℕ) (v : VolumeNow) (path : List ℕ) (change : ℕ → Change) → ((birth : ℕ) → Few n p (change birth).touched) → Few n p (at_path v path change).touched
path_few n p v path change f = row_few n p v (walk_path (tree_of_now v) path) (λ found. change found.birth) (λ found. f found.birth)

mkdir_few : (v : VolumeNow) (n : ℕ) (path : List ℕ) → Few 22 0 (mkdir v n path).touched
mkdir_few v n path = place_few 22 0 v path (λ place. mkdir_in v n place.parent place.name) (λ x.
    followed_few 7 15 0 0 (make_directory v n x.parent) (λ u. followed_by (add_name u x.parent x.name n) (λ w. set_links w x.parent (λ links. links + 1))) (make_directory_few v n x.parent) (λ u.
    followed_few 14 1 0 0 (add_name u x.parent x.name n) (λ w. set_links w x.parent (λ links. links + 1)) (add_name_few u x.parent x.name n) (λ w. links_few w x.parent (λ links. links + 1))))

create_few : (v : VolumeNow) (n : ℕ) (path : List ℕ) → Few 17 0 (create v n path).touched
create_few v n path = place_few 17 0 v path (λ place. create_in v n place.parent place.name) (λ x.
    followed_few 3 14 0 0 (make_file v n) (λ w. add_name w x.parent x.name n) (make_file_few v n) (λ w. add_name_few w x.parent x.name n))

rmdir_few : (v : VolumeNow) (tx : ℕ) (path : List ℕ) → Few 7 0 (rmdir v tx path).touched
rmdir_few v tx path = place_few 7 0 v path (λ place. at_path v path (λ birth. rmdir_in v tx place.parent place.name birth)) (λ x.
    path_few 7 0 v path (λ birth. rmdir_in v tx x.parent x.name birth) (λ birth.
    followed_few 3 4 0 0 (take_name v x.parent x.name) (λ u. followed_by (set_links u x.parent (λ links. links - 1)) (λ w. drop_node w tx birth)) (take_name_few v x.parent x.name) (λ u.
    followed_few 1 3 0 0 (set_links u x.parent (λ links. links - 1)) (λ w. drop_node w tx birth) (links_few u x.parent (λ links. links - 1)) (λ w. drop_node_few w tx birth))))

lose_few : (v : VolumeNow) (tx n : ℕ) → Few 3 0 (lose_link v tx n).touched
lose_few v tx n = node_few 3 0 v n _ (λ p. if_few 3 0 (nat_le p.inode.links 1) (drop_node v tx n) (set_links v n (λ links. links - 1)) (drop_node_few v tx n)
    (few_more 1 3 0 0 (set_links v n (λ links. links - 1)).touched (omega arith) (omega arith) (links_few v n (λ links. links - 1))))

unlink_few : (v : VolumeNow) (tx : ℕ) (path : List ℕ) → Few 6 0 (unlink v tx path).touched
unlink_few v tx path = place_few 6 0 v path (λ place. at_path v path (λ birth. unlink_in v tx place.parent place.name birth)) (λ x.
    path_few 6 0 v path (λ birth. unlink_in v tx x.parent x.name birth) (λ birth.
    followed_few 3 3 0 0 (take_name v x.parent x.name) (λ w. lose_link w tx birth) (take_name_few v x.parent x.name) (λ w. lose_few w tx birth)))

link_few : (v : VolumeNow) (path other : List ℕ) → Few 15 0 (link v path other).touched
link_few v path other = path_few 15 0 v path (λ birth. at_place v other (λ place. link_in v birth place.parent place.name)) (λ birth.
    place_few 15 0 v other (λ place. link_in v birth place.parent place.name) (λ x.
    followed_few 1 14 0 0 (set_links v birth (λ links. links + 1)) (λ w. add_name w x.parent x.name birth) (links_few v birth (λ links. links + 1)) (λ w. add_name_few w x.parent x.name birth)))

-- another name: with the old one gone, the new one comes; a directory may get another parent, and a file may lose a link
move_few : (v : VolumeNow) (from : ℕ) (name : List ℕ) (to : ℕ) (other : List ℕ) (birth : ℕ) → Few 22 0 (move_in v from name to other birth).touched
move_few v from name to other birth = few_more 17 22 0 0 (move_in v from name to other birth).touched (omega arith) (omega arith)
    (followed_few 3 14 0 0 (take_name v from name) (λ w. add_name w to other birth) (take_name_few v from name) (λ w. add_name_few w to other birth))

below_few : (v : VolumeNow) (from : ℕ) (name : List ℕ) (to : ℕ) (other : List ℕ) (birth : ℕ) → Few 22 0 (move_below v from name to other birth).touched
below_few v from name to other birth =
    followed_few 3 19 0 0 (take_name v from name) (λ u. followed_by (set_links u from (λ links. links - 1)) (λ w. followed_by (set_parent w birth to) (λ x. followed_by (set_links x to (λ links. links + 1)) (λ y. add_name y to other birth)))) (take_name_few v from name) (λ u.
    followed_few 1 18 0 0 (set_links u from (λ links. links - 1)) (λ w. followed_by (set_parent w birth to) (λ x. followed_by (set_links x to (λ links. links + 1)) (λ y. add_name y to other birth))) (links_few u from (λ links. links - 1)) (λ w.
    followed_few 3 15 0 0 (set_parent w birth to) (λ x. followed_by (set_links x to (λ links. links + 1)) (λ y. add_name y to other birth)) (set_parent_few w birth to) (λ x.
    followed_few 1 14 0 0 (set_links x to (λ links. links + 1)) (λ y. add_name y to other birth) (links_few x to (λ links. links + 1)) (λ y. add_name_few y to other birth))))

replace_few : (v : VolumeNow) (tx from : ℕ) (name : List ℕ) (to : ℕ) (other : List ℕ) (birth gone : ℕ) → Few 22 0 (replace_in v tx from name to other birth gone).touched
replace_few v tx from name to other birth gone = few_more 9 22 0 0 (replace_in v tx from name to other birth gone).touched (omega arith) (omega arith)
    (followed_few 3 6 0 0 (take_name v from name) (λ u. followed_by (lead_name u to other birth) (λ w. lose_link w tx gone)) (take_name_few v from name) (λ u.
    followed_few 3 3 0 0 (lead_name u to other birth) (λ w. lose_link w tx gone) (lead_name_few u to other birth) (λ w. lose_few w tx gone)))

renamed_few : (v : VolumeNow) (tx : ℕ) (m : Move) → Few 22 0 (renamed v tx m).touched
renamed_few v tx m = if_few 22 0 (stays m) (unchanged v) _ (none_few 22 0) (by m.target)
  where
    by : (o : Option Found) → Few 22 0 (elim o as (λ _. Change) [
      | Some t ↦ replace_in v tx m.from.parent m.from.name m.to.parent m.to.name m.moved.birth t.birth
      | None ↦ if moves_directory m && changes_parent m then move_below v m.from.parent m.from.name m.to.parent m.to.name m.moved.birth else move_in v m.from.parent m.from.name m.to.parent m.to.name m.moved.birth
    ]).touched
    by (Some t) = replace_few v tx m.from.parent m.from.name m.to.parent m.to.name m.moved.birth t.birth
    by None = if_few 22 0 (moves_directory m && changes_parent m) _ _ (below_few v m.from.parent m.from.name m.to.parent m.to.name m.moved.birth) (move_few v m.from.parent m.from.name m.to.parent m.to.name m.moved.birth)

rename_few : (v : VolumeNow) (tx : ℕ) (path other : List ℕ) → Few 22 0 (rename v tx path other).touched
rename_few v tx path other =
    row_few 22 0 v (walk_path (tree_of_now v) path) (λ found. at_place v path (λ from. at_place v other (λ to. renamed v tx (record { moved = found; from = from; to = to; target = target_at (tree_of_now v) to })))) (λ found.
    place_few 22 0 v path (λ from. at_place v other (λ to. renamed v tx (record { moved = found; from = from; to = to; target = target_at (tree_of_now v) to }))) (λ from.
    place_few 22 0 v other (λ to. renamed v tx (record { moved = found; from = from; to = to; target = target_at (tree_of_now v) to })) (λ to.
    renamed_few v tx (record { moved = found; from = from; to = to; target = target_at (tree_of_now v) to }))))

blocks_few : (off len : ℕ) → length (touched_blocks off len) ≤ len / 1024 + 2
blocks_few off len = by (len == 0)
  where
    by : (b : Bool) → length (if b then [] else range_with_len (off / 1024) ((off + len - 1) / 1024 - off / 1024 + 1)) ≤ len / 1024 + 2
    by true = omega arith
    by false = (let size = length-range_with_len (off / 1024) ((off + len - 1) / 1024 - off / 1024 + 1) in omega (arith, size))

write_few : (v : VolumeNow) (path : List ℕ) (off len : ℕ) (bytes : List ℕ) → length bytes ≡ len → Few (11 * (len / 1024 + 2) + 2) (len / 1024 + 2) (write v path off bytes).touched
write_few v path off len bytes same = path_few (11 * (len / 1024 + 2) + 2) (len / 1024 + 2) v path (λ birth. write_at v birth off bytes) (λ birth.
    let few = blocks_few off (length bytes) in
    few_more (11 * length (touched_blocks off (length bytes)) + 2) (11 * (len / 1024 + 2) + 2) (length (touched_blocks off (length bytes)) + 0) (len / 1024 + 2) (write_at v birth off bytes).touched (omega (arith, few, same)) (omega (arith, few, same))
    (followed_few (11 * length (touched_blocks off (length bytes))) 2 (length (touched_blocks off (length bytes))) 0 (write_blocks v birth off bytes (touched_blocks off (length bytes))) (λ w. resize w birth (λ size. max size (off + length bytes)))
    (write_blocks_few v birth off bytes (touched_blocks off (length bytes))) (λ w. resize_few w birth (λ size. max size (off + length bytes)))))

truncate_few : (v : VolumeNow) (tx : ℕ) (path : List ℕ) (size : ℕ) → Few 6 1 (truncate v tx path size).touched
truncate_few v tx path size = path_few 6 1 v path (λ birth. truncate_at v tx birth size) (λ birth.
    followed_few 4 2 0 1 (cut_blocks v tx birth (div_ceil size 1024)) (λ u. followed_by (clear_tail u birth size) (λ w. resize w birth (λ old. size))) (cut_blocks_few v tx birth (div_ceil size 1024)) (λ u.
    followed_few 0 2 1 0 (clear_tail u birth size) (λ w. resize w birth (λ old. size)) (clear_tail_few u birth size) (λ w. resize_few w birth (λ old. size))))

-- ---- all calls

changed_few : (v : VolumeNow) (n tx : ℕ) (c : Call) → Few (11 * blocks_in c + 30) (blocks_in c) (changed v n tx c).touched
unfolding changed
changed_few v n tx (calls.Mkdir path) = few_more 22 52 0 2 (mkdir v n path).touched (omega arith) (omega arith) (mkdir_few v n path)
changed_few v n tx (calls.Create path) = few_more 17 52 0 2 (create v n path).touched (omega arith) (omega arith) (create_few v n path)
changed_few v n tx (calls.Rmdir path) = few_more 7 52 0 2 (rmdir v tx path).touched (omega arith) (omega arith) (rmdir_few v tx path)
changed_few v n tx (calls.Unlink path) = few_more 6 52 0 2 (unlink v tx path).touched (omega arith) (omega arith) (unlink_few v tx path)
changed_few v n tx (calls.Link path other) = few_more 15 52 0 2 (link v path other).touched (omega arith) (omega arith) (link_few v path other)
changed_few v n tx (calls.Write path off len value) =
    few_more (11 * (len / 1024 + 2) + 2) (11 * (len / 1024 + 2) + 30) (len / 1024 + 2) (len / 1024 + 2) (write v path off (replicate len value)).touched (omega arith) (omega arith) (write_few v path off len (replicate len value) (length-replicate len value))
changed_few v n tx (calls.Bytes path off bytes) =
    few_more (11 * (length bytes / 1024 + 2) + 2) (11 * (length bytes / 1024 + 2) + 30) (length bytes / 1024 + 2) (length bytes / 1024 + 2) (write v path off bytes).touched (omega arith) (omega arith) (write_few v path off (length bytes) bytes refl)
changed_few v n tx (calls.Truncate path size) = few_more 6 52 1 2 (truncate v tx path size).touched (omega arith) (omega arith) (truncate_few v tx path size)
changed_few v n tx (calls.Rename path other) = few_more 22 52 0 2 (rename v tx path other).touched (omega arith) (omega arith) (rename_few v tx path other)
changed_few v n tx (calls.Read path off len) = none_few 52 2
changed_few v n tx (calls.List path) = none_few 52 2
changed_few v n tx (calls.Stat path) = none_few 52 2
changed_few v n tx (calls.Fsync path) = none_few 52 2
changed_few v n tx (calls.Fdatasync path) = none_few 52 2
changed_few v n tx (calls.Fbarrier path) = none_few 52 2
changed_few v n tx (calls.Fdatabarrier path) = none_few 52 2
changed_few v n tx calls.Sync = none_few 52 2

called_few : (v : VolumeNow) (n tx : ℕ) (c : Call) → Few (11 * blocks_in c + 30) (blocks_in c) (called v n tx c).change.touched
unfolding called
called_few v n tx c = by (outcome (room_of v.geometry) (tree_of_now v) n c)
  where
    by : (r : Row) → Few (11 * blocks_in c + 30) (blocks_in c) (called_by v n tx c r).change.touched
    by (Err why) = none_few (11 * blocks_in c + 30) (blocks_in c)
    by (Ok d) = changed_few v n tx c

-- ---- what is freed

freed_few : (v : VolumeNow) (n tx : ℕ) (c : Call) → FindsRoom v n c → length (called v n tx c).change.touched.freed ≤ length v.zones.states
freed_few v n tx c h =
    let k = any_call tx v n c h in
    let w = (called v n tx c).change.volume in
    let counted = k.waiting in
    let most = count_by-le-length is_quarantined w.zones.states in
    let size = k.steady.in_use.size in
    let before = h.plain.in_use.size in
    let same = ap (λ g. g.zones - g.first) k.steady.geometry in
    omega (arith, counted, most, size, before, same)

pub notes_few : (v : VolumeNow) (n tx : ℕ) (c : Call) → FindsRoom v n c → notes_in (called v n tx c).change.touched ≤ 2 * length v.zones.states + 11 * blocks_in c + 30
notes_few v n tx c h = let few = (called_few v n tx c).noted in let freed = freed_few v n tx c h in omega (arith, few, freed)

pub pages_few : (v : VolumeNow) (n tx : ℕ) (c : Call) → FindsRoom v n c → length (called v n tx c).change.touched.pages ≤ blocks_in c
pages_few v n tx c h = (called_few v n tx c).written

-- ---- which blocks

used_inside : (m : Zones) (first zones zone : ℕ) → m.first ≡ first → length m.states ≡ zones - first → state_of m zone ≡ Some states.Used → zone < zones
used_inside m first zones zone at size is = by (nat_lt zone m.first) refl is
  where
    by : (b : Bool) → nat_lt zone m.first ≡ b → (if b then None else slice_get m.states (zone - m.first)) ≡ Some states.Used → zone < zones
    by true e none = absurd (none-some states.Used none)
    by false e some = (let inside = slice_get_within m.states (zone - m.first) states.Used some in let above = ltb-false zone m.first e in omega (arith, inside, above, at, size))

pub blocks_inside : (v : VolumeNow) (n tx : ℕ) (c : Call) → FindsRoom v n c → (b : ℕ) → In b (called v n tx c).change.touched.blocks → b < v.geometry.zones
blocks_inside v n tx c h b i =
    let s = (any_call tx v n c h).steady in
    ⊎_elim
    (λ revoked. used_inside v.zones v.geometry.first v.geometry.zones b h.plain.in_use.first h.plain.in_use.size (s.was_used b (s.told.revoked_are_left b revoked).0))
    (λ meta. meta.2)
    (s.told.touched_are_meta b i)
