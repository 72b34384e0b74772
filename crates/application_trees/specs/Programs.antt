-- A program of one thread that replaces a file.
use Rattle.std.specs.Prelude.{◌≡◌, ℕ, suc, ◌+◌, ◌≤◌, ◌<◌, true, List, [], ◌∷◌, ◌++◌, length, take, Some, Ok, slice_get}
use Rattle.blk_base.specs.Members.{In}
use Rattle.tree_model.specs.declared.call.Call.{Call}
use Rattle.tree_model.specs.declared.call.Call.TheVariants as calls
use Rattle.tree_model.specs.declared.node.File.{File}
use Rattle.tree_model.specs.declared.node.Node.TheVariants as nodes
use Rattle.tree_model.specs.Calls.{Tree, leaves_tree}
use Rattle.tree_model.specs.Causes.{LeadsTo}
use Rattle.tree_model.specs.Paths.{path_of}
use Rattle.tree_model.specs.Trees.{node_of_path}
use Rattle.crash_laws.specs.LegalHistory.{Event, Begin, End}

-- how many calls ended
abbrev pub ends : List Event → ℕ
ends [] = 0
ends (Begin t c ∷ es) = ends es
ends (End t c r ∷ es) = suc (ends es)

-- a call that writes to this path
pub data IsWriteTo (path : List ℕ) : Call → Type 0 where
  of_bytes : (off : ℕ) (body : List ℕ) → IsWriteTo path (calls.Bytes path off body)
  repeated : (off len value : ℕ) → IsWriteTo path (calls.Write path off len value)

-- the old file is synced; a new one is made, written and barred, and renamed over it
abbrev pub replace_calls : List ℕ → List ℕ → List Call → List Call → List Call
replace_calls path other ws more = calls.Fsync other ∷ calls.Create path ∷ (ws ++ (calls.Fdatabarrier path ∷ calls.Rename path other ∷ more))

-- A program does so, with any calls before, and behind it calls that leave the tree.
pub record IsReplaceProgram (program before : List Call) (path other : List ℕ) (ws more : List Call) : Type 0 where
  pub calls_are : program ≡ before ++ replace_calls path other ws more
  pub written : (c : Call) → In c ws → IsWriteTo path c
  pub quiet : (c : Call) → In c more → leaves_tree c ≡ true

-- It has come so far: the sync begins at place a, the barrier at place b, and the rename ends at place p. At the one the path
-- leads to the old file, and the new path leads nowhere; at the other the new path leads to the new file.
pub record HasReplaced (T : ℕ → Tree) (events : List Event) (before ws : List Call) (path other : List ℕ) (fresh names : List (List ℕ)) (old a : ℕ) (f : File) (new b p : ℕ) (g : File) : Type 0 where
  pub fresh_is : path_of path ≡ Some fresh
  pub names_are : path_of other ≡ Some names
  pub sync : ends (take a events) ≡ length before
  pub barrier : ends (take b events) ≡ length before + (2 + length ws)
  pub rename : ends (take p events) ≡ length before + (3 + length ws)
  pub first : a ≤ b
  pub last : b ≤ p
  pub led : LeadsTo (T a) names old (nodes.File f)
  pub free : (birth : ℕ) → node_of_path (T a) fresh ≡ Ok birth → ⊥
  pub made : LeadsTo (T b) fresh new (nodes.File g)
