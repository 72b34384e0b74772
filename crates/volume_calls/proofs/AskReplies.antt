-- From where a path leads to what a call is answered that changes nothing.
use Rattle.std.proofs.Common.{◌≡◌, ℕ, ◌-◌, nat_lt, true, false, List, Result, Ok, Err, refl, ap, arith}
use Rattle.std.proofs.lemmas.Bool.{false≢true, le-ltb}
use Rattle.tree_model.specs.declared.call.Call.{Call}
use Rattle.tree_model.specs.declared.call.Call.TheVariants as calls
use Rattle.tree_model.specs.declared.call.Reply.{Reply}
use Rattle.tree_model.specs.declared.call.Reply.TheVariants as replies
use Rattle.tree_model.specs.declared.call.Room.{Room}
use Rattle.tree_model.specs.declared.node.Node.{Node}
use Rattle.tree_model.specs.declared.node.Node.TheVariants as nodes
use Rattle.tree_model.specs.Calls.{Tree, Row, Done, Found, and_then, answers, reply_from, if_room, used_zones, walk_path, leaves_tree, row, outcome, reply_of}
use Rattle.volume_in_use.specs.reads.Replies.{read_at, list_at, stat_at}

-- ---- nothing refuses a call that leaves the tree and takes no inode

abbrev Stays : Tree → Row → Type 0
Stays tree (Err reply) = Unit {0}
Stays tree (Ok d) = (d.tree ≡ tree) × (d.takes_inode ≡ false)

none_more : (room : Room) (tree : Tree) (d : Done) → d.tree ≡ tree → nat_lt (room.capacity - used_zones tree) (used_zones d.tree - used_zones tree) ≡ false
none_more room tree d same = let e = ap used_zones same in le-ltb (room.capacity - used_zones tree) (used_zones d.tree - used_zones tree) (omega arith)

stays_reply : (room : Room) (tree : Tree) (r : Row) → Stays tree r → reply_from r ≡ reply_from (and_then r (if_room room tree))
stays_reply room tree (Err reply) h = refl
stays_reply room tree (Ok d) h = rw (h.1, none_more room tree d h.0) refl

read_stays : (tree : Tree) (off len : ℕ) (node : Node) → Stays tree (read_at tree off len node)
read_stays tree off len (nodes.File f) = (refl, refl)
read_stays tree off len (nodes.Directory d) = tt
read_stays tree off len (nodes.Other mode) = tt

list_stays : (tree : Tree) (node : Node) → Stays tree (list_at tree node)
list_stays tree (nodes.Directory d) = (refl, refl)
list_stays tree (nodes.File f) = tt
list_stays tree (nodes.Other mode) = tt

stat_stays : (tree : Tree) (node : Node) → Stays tree (stat_at tree node)
stat_stays tree (nodes.Directory d) = (refl, refl)
stat_stays tree (nodes.File f) = (refl, refl)
stat_stays tree (nodes.Other mode) = tt

-- ---- the calls

at_path : (tree : Tree) (path : List ℕ) (next : Found → Row) → ((found : Found) → Stays tree (next found)) → Stays tree (and_then (walk_path tree path) next)
at_path tree path next h = by (walk_path tree path)
  where
    by : (x : Result Found Reply) → Stays tree (and_then x next)
    by (Err reply) = tt
    by (Ok found) = h found

quiet_stays : (tree : Tree) (n : ℕ) (c : Call) → leaves_tree c ≡ true → Stays tree (row tree n c)
unfolding row
quiet_stays tree n (calls.Read path off len) quiet = at_path tree path (λ found. read_at tree off len found.node) (λ found. read_stays tree off len found.node)
quiet_stays tree n (calls.List path) quiet = at_path tree path (λ found. list_at tree found.node) (λ found. list_stays tree found.node)
quiet_stays tree n (calls.Stat path) quiet = at_path tree path (λ found. stat_at tree found.node) (λ found. stat_stays tree found.node)
quiet_stays tree n (calls.Fsync path) quiet = at_path tree path (λ found. answers tree replies.Ok) (λ found. (refl, refl))
quiet_stays tree n (calls.Fdatasync path) quiet = at_path tree path (λ found. answers tree replies.Ok) (λ found. (refl, refl))
quiet_stays tree n (calls.Fbarrier path) quiet = at_path tree path (λ found. answers tree replies.Ok) (λ found. (refl, refl))
quiet_stays tree n (calls.Fdatabarrier path) quiet = at_path tree path (λ found. answers tree replies.Ok) (λ found. (refl, refl))
quiet_stays tree n calls.Sync quiet = (refl, refl)
quiet_stays tree n (calls.Mkdir path) quiet = absurd (false≢true quiet)
quiet_stays tree n (calls.Rmdir path) quiet = absurd (false≢true quiet)
quiet_stays tree n (calls.Create path) quiet = absurd (false≢true quiet)
quiet_stays tree n (calls.Unlink path) quiet = absurd (false≢true quiet)
quiet_stays tree n (calls.Link path other) quiet = absurd (false≢true quiet)
quiet_stays tree n (calls.Rename path other) quiet = absurd (false≢true quiet)
quiet_stays tree n (calls.Truncate path size) quiet = absurd (false≢true quiet)
quiet_stays tree n (calls.Write path off len value) quiet = absurd (false≢true quiet)
quiet_stays tree n (calls.Bytes path off bytes) quiet = absurd (false≢true quiet)

-- what the row of a call says that changes nothing is its reply
pub quiet_replies : (room : Room) (tree : Tree) (n : ℕ) (c : Call) → leaves_tree c ≡ true → reply_from (row tree n c) ≡ reply_of room tree n c
unfolding reply_of outcome
quiet_replies room tree n c quiet = stays_reply room tree (row tree n c) (quiet_stays tree n c quiet)
