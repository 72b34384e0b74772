-- A session as a whole: its calls on trees, its submitted list, and all order rules; and the four sentences on a power
-- cut, which follow.
use Rattle.std.specs.Prelude.{◌≡◌, ℕ, ◌+◌, ◌≤◌, ◌⊎◌, true, false, List, Ok}
use Rattle.order_model.specs.declared.completion.Completion.{Completion}
use Rattle.minix_layout.specs.declared.division.Geometry.{Geometry}
use Rattle.tree_model.specs.declared.call.Call.{Call}
use Rattle.tree_model.specs.declared.call.Room.{Room}
use Rattle.tree_model.specs.declared.node.Node.{Node}
use Rattle.tree_model.specs.Calls.{Tree}
use Rattle.tree_model.specs.Plain.{IsPlain, AreBornBefore}
use Rattle.tree_model.specs.Trees.{node_of_path, AreAlike}
use Rattle.volume_ops.specs.Volume.{disk_of, tree_of}
use Rattle.volume_ops.specs.Walk.{walk_volume}
use Rattle.crash_laws.specs.Found.{IsFound}
use Rattle.crash_laws.specs.History.{History, IsLastChange, last_write}
use Rattle.crash_laws.specs.LegalHistory.{Event, tree_up_to}
use Rattle.crash_laws.specs.PageRules.{PageOrder, DataBeforeCommit}
use Rattle.crash_laws.specs.PromiseRules.{BegunCall, Covers, CoversEntry, CoversNothing, KeepsBarrier, KeepsSync, IsSuperseded, IsLaterKept}
use Rattle.crash_laws.specs.Rules.{OrderRules}
use Rattle.crash_laws.specs.Recovery.{IsOf}
use Rattle.crash_laws.specs.Session.{Session, Medium}
use Rattle.crash_laws.specs.TreeHistory.{AreCuts, IsPlaceIn, zone_on_path, history_of, is_barrier, IsAnswered}
use Rattle.crash_laws.specs.Volumes.{WalkEnd, HasTreesOf}

-- what a host did: the calls on it, the cuts of its transactions, what it submitted, and the completions that it took
pub record Run : Type 0 where
  pub geometry : Geometry
  pub room : Room
  -- the tree that was opened, which is plain, and a number above which its nodes have no birth
  pub opened : Tree
  pub first : ℕ
  pub events : List Event
  pub cut : ℕ → ℕ
  pub session : Session
  pub taken : List Completion
  -- where a walk finds the blocks of the files of the tree after entry n
  pub place : ℕ → WalkEnd → ℕ → ℕ → ℕ

abbrev pub history : Run → History WalkEnd
history run = history_of run.room run.opened run.first run.events run.cut run.place

-- the tree after the entries numbered up to n
abbrev pub tree_at : Run → ℕ → Tree
tree_at run n = tree_up_to run.room run.opened run.first run.events n

-- all order rules
pub record KeepsRules (run : Run) : Type 0 where
  pub plain : IsPlain run.opened
  pub born : AreBornBefore (run.first + 1) run.opened
  pub cuts : AreCuts run.cut
  pub places : (n : ℕ) → IsPlaceIn run.geometry (tree_at run n) (run.place n)
  pub order : OrderRules (walk_volume run.geometry) run.session
  pub trees : HasTreesOf run.geometry run.session (λ k. tree_at run (run.cut k))
  pub pages : PageOrder (walk_volume run.geometry) (history run) run.session
  pub versions : DataBeforeCommit (walk_volume run.geometry) (history run) run.session
  pub barriers : (c : Call) (begun : BegunCall) (e : ℕ) → IsAnswered run.room run.opened run.first run.events c begun e → is_barrier c ≡ true
      → KeepsBarrier (history run) run.session e (Covers (history run) begun) (CoversEntry begun)
  pub syncs : (c : Call) (begun : BegunCall) (e : ℕ) → IsAnswered run.room run.opened run.first run.events c begun e → is_barrier c ≡ false
      → KeepsSync (history run) run.session run.taken (Covers (history run) begun) (CoversEntry begun) ⊎ CoversNothing (history run) begun

-- ---- the sentences, of a medium with F kept commit blocks and the blocks that recovery made of it

-- Block `index` of the file to which a path leads in the tree after transaction F is at a block which the medium has
-- from a page request of it with at least this version, or as it was in the base image; the file has the block in that version.
pub record HasVersionOnPath (run : Run) (m : Medium) (recovered : List (List ℕ)) (names : List (List ℕ)) (birth index atleast : ℕ) : Type 0 where
  pub version : ℕ
  pub mapped : (history run).maps version birth index ≡ true
  pub source : IsOf run.session m birth index version (zone_on_path run.geometry recovered names index)
  pub body : disk_of recovered (zone_on_path run.geometry recovered names index) ≡ (history run).content birth index version
  pub no_older : atleast ≤ version

-- The metadata recovered is that after a prefix of the transactions.
pub record HasPrefix (run : Run) (m : Medium) (recovered : List (List ℕ)) (F : ℕ) : Type 0 where
  pub transactions : IsFound run.session m F
  pub tree : List (ℕ × Node)
  pub found : tree_of run.geometry recovered ≡ Ok tree
  pub alike : AreAlike (tree_at run (run.cut F)) tree

-- Each mapped block of a file has a version no older than the last of the last transaction that changed the file.
abbrev pub HasVersions : Run → Medium → List (List ℕ) → ℕ → Type 0
HasVersions run m recovered F = (names : List (List ℕ)) (birth index k : ℕ) → node_of_path (tree_at run (run.cut F)) names ≡ Ok birth
    → (history run).maps (run.cut F) birth index ≡ true → IsLastChange (history run) birth F k
    → HasVersionOnPath run m recovered names birth index (last_write (history run) birth index (run.cut k))

-- All that a call covers survived or was superseded.
pub record IsSafe (run : Run) (m : Medium) (recovered : List (List ℕ)) (F : ℕ) (begun : BegunCall) : Type 0 where
  pub pages : (birth index n : ℕ) → Covers (history run) begun birth index n
      → (((history run).maps (run.cut F) birth index ≡ true) × ((names : List (List ℕ)) → node_of_path (tree_at run (run.cut F)) names ≡ Ok birth → HasVersionOnPath run m recovered names birth index n))
      ⊎ IsSuperseded (history run) birth index n (run.cut F)
  pub metadata : (n : ℕ) → CoversEntry begun n → n ≤ run.cut F

-- the four of them; F is the number of kept commit blocks
pub record Sentences (run : Run) (m : Medium) (recovered : List (List ℕ)) (F : ℕ) : Type 0 where
  pub prefix : HasPrefix run m recovered F
  pub versions : HasVersions run m recovered F
  -- where a write made after a barrier call survived
  pub barriers : (c : Call) (begun : BegunCall) (e : ℕ) → IsAnswered run.room run.opened run.first run.events c begun e → is_barrier c ≡ true
      → IsLaterKept (history run) run.session m F e → IsSafe run m recovered F begun
  pub syncs : (c : Call) (begun : BegunCall) (e : ℕ) → IsAnswered run.room run.opened run.first run.events c begun e → is_barrier c ≡ false → IsSafe run m recovered F begun
