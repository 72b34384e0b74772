-- Calls as the host sees them: their kinds, what refuses them, what they need, and what they do.
use Rattle.std.specs.Prelude.{ℕ, Bool, true, false, not, map, Option, Some, None, List, Ok, Err}
use Rattle.tree_model.specs.declared.call.Call.{Call}
use Rattle.tree_model.specs.declared.call.Call.TheVariants as calls
use Rattle.tree_model.specs.declared.call.Reply.{Reply}
use Rattle.tree_model.specs.Calls.{Tree, Row, walk_path, needs, outcome}
use Rattle.tree_model.specs.Histories.{is_found_at}
use Rattle.volume_model.specs.Touched.{Page, Touched}
use Rattle.volume_steps.specs.Now.{VolumeNow, tree_of_now, room_of}
use Rattle.volume_steps.specs.Calls.{Called, called}
use Rattle.host_machine.specs.Model as host
use Rattle.host_machine.specs.Model.{FileBlock, Applied}
use Rattle.flush_actor.specs.declared.call_kind.CallKind.{CallKind}
use Rattle.flush_actor.specs.declared.call_kind.CallKind.TheVariants.{Reading, Changing, FileBarrier, DataBarrier, FileSync, DataSync, WholeSync}
use Rattle.minix_host.specs.Numbers.{next_birth, number_in}
pub use Rattle.volume_steps.specs.Cuts.{keeps_file, keeps_size, cuts_nothing}

abbrev pub kind_of : Call → CallKind
kind_of (calls.Read path off len) = Reading
kind_of (calls.List path) = Reading
kind_of (calls.Stat path) = Reading
kind_of (calls.Fsync path) = FileSync
kind_of (calls.Fdatasync path) = DataSync
kind_of (calls.Fbarrier path) = FileBarrier
kind_of (calls.Fdatabarrier path) = DataBarrier
kind_of calls.Sync = WholeSync
kind_of other = Changing

-- the path of the node that a call is on; a sync call of all has none
abbrev pub path_of_call : Call → Option (List ℕ)
path_of_call (calls.Mkdir path) = Some path
path_of_call (calls.Rmdir path) = Some path
path_of_call (calls.Create path) = Some path
path_of_call (calls.Unlink path) = Some path
path_of_call (calls.Link path other) = Some path
path_of_call (calls.Rename path other) = Some path
path_of_call (calls.Truncate path size) = Some path
path_of_call (calls.Write path off len value) = Some path
path_of_call (calls.Bytes path off bytes) = Some path
path_of_call (calls.Read path off len) = Some path
path_of_call (calls.List path) = Some path
path_of_call (calls.Stat path) = Some path
path_of_call (calls.Fsync path) = Some path
path_of_call (calls.Fdatasync path) = Some path
path_of_call (calls.Fbarrier path) = Some path
path_of_call (calls.Fdatabarrier path) = Some path
path_of_call calls.Sync = None

-- the birth of the node to which a path leads; the root's where it leads to none
abbrev pub birth_on : Tree → List ℕ → ℕ
birth_on tree path = elim (walk_path tree path) as (λ _. ℕ) [ Err reply ↦ 0 | Ok found ↦ found.birth ]

-- a call without a path has the root's birth
abbrev pub node_of : VolumeNow → Call → ℕ
node_of v c = elim (path_of_call c) as (λ _. ℕ) [ None ↦ 0 | Some path ↦ birth_on (tree_of_now v) path ]

-- ---- what a call is told before it is done

-- the reply of a call that the tree refuses; none where it does not
abbrev pub refused_by : Row → Option Reply
refused_by (Err why) = Some why
refused_by (Ok done) = None

-- no number of the call changes what refuses it, or how many zones it needs
unfoldable pub refusal : VolumeNow → Call → Option Reply
refusal v c = refused_by (outcome (room_of v.geometry) (tree_of_now v) (next_birth (tree_of_now v)) c)

unfoldable pub needed : VolumeNow → Call → ℕ
needed v c = needs (tree_of_now v) (next_birth (tree_of_now v)) c

-- both paths lead to one node
abbrev pub names_one : Tree → List ℕ → List ℕ → Bool
names_one tree path other = elim (walk_path tree path) as (λ _. Bool) [ Err reply ↦ false | Ok found ↦ is_found_at (walk_path tree other) found.birth ]

-- a call that nothing refuses would change the tree or a page
unfoldable pub would_change : VolumeNow → Call → Bool
would_change v (calls.Mkdir path) = true
would_change v (calls.Rmdir path) = true
would_change v (calls.Create path) = true
would_change v (calls.Unlink path) = true
would_change v (calls.Link path other) = true
would_change v (calls.Rename path other) = not (names_one (tree_of_now v) path other)
would_change v (calls.Truncate path size) = not (cuts_nothing (tree_of_now v) path size)
would_change v (calls.Write path off len value) = true
would_change v (calls.Bytes path off bytes) = true
would_change v other = false

-- ---- a call

abbrev pub file_block : Page → FileBlock
file_block x = record { birth = x.birth; index = x.index; block = x.zone }

-- what a call did to the volume, as the host reads it
abbrev pub told : Touched → host.Touched
told t = record { blocks = t.blocks; freed = t.freed; revoked = t.revoked; pages = map file_block t.pages; dropped = map file_block t.dropped; nodes = t.nodes }

-- what a call left and answered, as the host reads it
abbrev pub applied : Called → Applied VolumeNow Reply
applied c = record { volume = c.change.volume; reply = c.reply; touched = told c.change.touched }

-- what a call with this number does, in this transaction
unfoldable pub done_as : VolumeNow → ℕ → ℕ → Call → Applied VolumeNow Reply
done_as v n transaction c = applied (called v (number_in (tree_of_now v) n) transaction c)
