-- What the laws read of a session's calls on trees: which blocks of files its trees map, what wrote them, where its
-- transactions end, where a walk finds them, and what a call that was answered covers.
use Rattle.std.specs.Prelude.{◌≡◌, ◌≢◌, ℕ, ◌+◌, ◌-◌, ◌<◌, ◌≤◌, ◌==◌, Bool, true, false, List, [], ◌∷◌, Option, Some, None, Ok, Err, unwrap_or, if◌then◌else◌}
use Rattle.std.specs.List.{slice_get}
use Rattle.minix_layout.specs.declared.division.Geometry.{Geometry}
use Rattle.tree_model.specs.declared.call.Call.{Call}
use Rattle.tree_model.specs.declared.call.Call.TheVariants as calls
use Rattle.tree_model.specs.declared.call.Reply.TheVariants as replies
use Rattle.tree_model.specs.declared.call.Room.{Room}
use Rattle.tree_model.specs.Calls.{Tree, walk_path}
use Rattle.tree_model.specs.Histories.{maps_block, block_at, writes_among, changed_after}
use Rattle.tree_model.specs.Trees.{node_of_path, AreAlike}
use Rattle.volume_ops.specs.declared.found.Found.{Found}
use Rattle.volume_ops.specs.declared.found.Found.TheVariants as found
use Rattle.volume_ops.specs.declared.found.FoundNode.{FoundNode}
use Rattle.volume_ops.specs.declared.found.Mapped.{Mapped}
use Rattle.volume_ops.specs.Volume.{put_nodes, walked, tree_of}
use Rattle.crash_laws.specs.History.{History}
use Rattle.crash_laws.specs.LegalHistory.{Event, Begin, End, thread_of, done_by, tree_up_to}
use Rattle.crash_laws.specs.PromiseRules.{BegunCall}
use Rattle.crash_laws.specs.Volumes.{WalkEnd}

-- ---- where a walk finds the blocks of a file

-- 0 where the index is not mapped
abbrev pub zone_of_index : List Mapped → ℕ → ℕ
zone_of_index [] index = 0
zone_of_index (m ∷ more) index = if m.index == index then m.zone else zone_of_index more index

-- the zone of a block of the file with this birth; 0 where there is none
abbrev pub zone_in : List FoundNode → ℕ → ℕ → ℕ
zone_in [] birth index = 0
zone_in (n ∷ more) birth index = if n.birth == birth then zone_of_found n.found index else zone_in more birth index
  where
    zone_of_found : Found → ℕ → ℕ
    zone_of_found (found.File f) index = zone_of_index f.zones index
    zone_of_found other index = 0

-- the zone at which the volume of these blocks has this index of the file to which a path leads; 0 where there is none
abbrev pub zone_in_walk : List (List ℕ) → WalkEnd → List (List ℕ) → ℕ → ℕ
zone_in_walk blocks (Err fault) names index = 0
zone_in_walk blocks (Ok met) names index =
    elim (node_of_path (put_nodes blocks met.nodes []) names) as (λ _. ℕ) [ Err refusal ↦ 0 | Ok birth ↦ zone_in met.nodes birth index ]

-- the same, where a walk has gone through these blocks
abbrev pub zone_on_path : Geometry → List (List ℕ) → List (List ℕ) → ℕ → ℕ
zone_on_path g blocks names index = zone_in_walk blocks (walked g blocks) names index

-- In a volume whose tree is alike to this one, the place of a file is that on any path which leads to the file.
abbrev pub IsPlaceIn : Geometry → Tree → (WalkEnd → ℕ → ℕ → ℕ) → Type 0
IsPlaceIn g tree place = (blocks : List (List ℕ)) (other : Tree) (names : List (List ℕ)) (birth index : ℕ) → tree_of g blocks ≡ Ok other → AreAlike tree other
    → node_of_path tree names ≡ Ok birth → place (walked g blocks) birth index ≡ zone_on_path g blocks names index

-- ---- the history

-- where transactions end: the first number is before all entries, and they never fall
pub record AreCuts (cut : ℕ → ℕ) : Type 0 where
  pub first : cut 0 ≡ 0
  pub rise : (k : ℕ) → cut k ≤ cut (k + 1)

-- the calls of a session from this tree on, with these cuts, and a place for each file of its trees
abbrev pub history_of : Room → Tree → ℕ → List Event → (ℕ → ℕ) → (ℕ → WalkEnd → ℕ → ℕ → ℕ) → History WalkEnd
history_of room opened first events cut place = record {
  cut = cut;
  maps = λ n birth index. maps_block (tree_up_to room opened first events n) birth index;
  writes = writes_among room opened first (done_by events);
  content = λ birth index n. unwrap_or (block_at (tree_up_to room opened first events n) birth index) [];
  changes = λ k birth. changed_after room opened first (done_by events) (first + cut (k - 1)) (cut k - cut (k - 1)) birth;
  place = λ found n birth index. place n found birth index;
}

-- ---- barrier and sync calls

-- the call is on the node to which its path leads; none where it leads to none
abbrev pub on_node : Tree → List ℕ → ℕ → Bool → Option BegunCall
on_node tree path begin metadata =
    elim (walk_path tree path) as (λ _. Option BegunCall) [ Err reply ↦ None | Ok node ↦ Some (record { begin = begin; file = Some node.birth; metadata = metadata }) ]

-- what a barrier or sync call with this number covers, which walks its path in the tree where it begins
abbrev pub begun_call : Tree → ℕ → Call → Option BegunCall
begun_call tree begin (calls.Fsync path) = on_node tree path begin true
begun_call tree begin (calls.Fbarrier path) = on_node tree path begin true
begun_call tree begin (calls.Fdatasync path) = on_node tree path begin false
begun_call tree begin (calls.Fdatabarrier path) = on_node tree path begin false
begun_call tree begin calls.Sync = Some (record { begin = begin; file = None; metadata = true })
begun_call tree begin other = None

abbrev pub is_barrier : Call → Bool
is_barrier (calls.Fbarrier path) = true
is_barrier (calls.Fdatabarrier path) = true
is_barrier other = false

-- Entry e answers Ok to this call, which its thread began before, and did nothing between.
pub record IsAnswered (room : Room) (opened : Tree) (first : ℕ) (events : List Event) (c : Call) (begun : BegunCall) (e : ℕ) : Type 0 where
  pub thread : ℕ
  pub place : ℕ
  pub began : slice_get events place ≡ Some (Begin thread c)
  pub covers : begun_call (tree_up_to room opened first events place) (place + 1) c ≡ Some begun
  pub end : ℕ
  pub numbered : e ≡ end + 1
  pub ended : slice_get events end ≡ Some (End thread c replies.Ok)
  pub later : place < end
  pub alone : (k : ℕ) (x : Event) → place < k → k < end → slice_get events k ≡ Some x → thread_of x ≢ thread
