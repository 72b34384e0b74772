-- What stands between the calls of a program that replaces a file, or moves a new file to its place.
use Rattle.std.specs.Prelude.{◌≡◌, ◌⊎◌, ◌↔◌, ℕ, suc, ◌<◌, ◌≤◌, true, List, Option, Some, Ok}
use Rattle.tree_model.specs.declared.call.Call.TheVariants as calls
use Rattle.tree_model.specs.declared.call.Room.{Room}
use Rattle.tree_model.specs.declared.node.File.{File}
use Rattle.tree_model.specs.declared.node.Node.TheVariants as nodes
use Rattle.tree_model.specs.Calls.{Tree, tree_after, reply_of}
use Rattle.tree_model.specs.Causes.{LeadsTo}
use Rattle.tree_model.specs.Histories.{is_ok}
use Rattle.tree_model.specs.Maps.{at_number}
use Rattle.tree_model.specs.Paths.{path_of}
use Rattle.tree_model.specs.Plain.{IsPlain, AreBornBefore}
use Rattle.tree_model.specs.Trees.{node_of_path}

-- names lead where they led
abbrev pub SamePath : Tree → Tree → List (List ℕ) → Type 0
SamePath tree after names = (birth : ℕ) → (node_of_path after names ≡ Ok birth) ↔ (node_of_path tree names ≡ Ok birth)

-- a step leaves a path alone, and the node of this birth
pub record LeavesAlone (tree after : Tree) (names : List (List ℕ)) (birth : ℕ) : Type 0 where
  pub path : SamePath tree after names
  pub node : at_number after birth ≡ at_number tree birth

-- the trees of a history in which each is plain, and entry n + 1 makes births of its number alone
pub record ArePlain (T : ℕ → Tree) : Type 0 where
  pub plain : (n : ℕ) → IsPlain (T n)
  pub born : (n : ℕ) → AreBornBefore (suc n) (T n)

module _ (room : Room) (T : ℕ → Tree) where
  -- Entry n + 1 makes the new path, or writes to it, whatever is answered; or it leaves the path `names` and the file `old`
  -- alone, and lets the new path lead to no other place than before.
  pub data IsPrepared (path : List ℕ) (names fresh : List (List ℕ)) (old n : ℕ) : Type 0 where
    aside : LeavesAlone (T n) (T (suc n)) names old → (node_of_path (T (suc n)) fresh ≡ Ok old → node_of_path (T n) fresh ≡ Ok old) → IsPrepared path names fresh old n
    creates : T (suc n) ≡ tree_after room (T n) (suc n) (calls.Create path) → IsPrepared path names fresh old n
    writes : (off : ℕ) (bytes : List ℕ) → T (suc n) ≡ tree_after room (T n) (suc n) (calls.Bytes path off bytes) → IsPrepared path names fresh old n

  -- entry p + 1 renames one path to another, and is answered Ok
  pub record IsRenamed (path other : List ℕ) (p : ℕ) : Type 0 where
    pub ok : is_ok (reply_of room (T p) (suc p) (calls.Rename path other)) ≡ true
    pub next : T (suc p) ≡ tree_after room (T p) (suc p) (calls.Rename path other)

  -- A file that was made under one path is moved to another: from entry b on, where a call on it begins, nobody writes to it,
  -- entry p + 1 renames it, and behind that nobody touches the new path.
  pub record IsMoved (path other : List ℕ) (fresh names : List (List ℕ)) (new b p : ℕ) (g : File) : Type 0 where
    pub fresh_is : path_of path ≡ Some fresh
    pub names_are : path_of other ≡ Some names
    pub order : b ≤ p
    pub there : LeadsTo (T b) fresh new (nodes.File g)
    pub quiet : (n : ℕ) → b ≤ n → n < p → LeavesAlone (T n) (T (suc n)) fresh new
    pub renamed : IsRenamed path other p
    -- before that, the other path does not lead to it
    pub apart : node_of_path (T p) names ≡ Ok new → ⊥
    pub behind : (n : ℕ) → p < n → LeavesAlone (T n) (T (suc n)) names new

  -- A file is replaced: from entry a on a new one is prepared under a path of its own, which does not lead to the old file, and
  -- moved over it.
  pub record IsReplacing (path other : List ℕ) (fresh names : List (List ℕ)) (old a : ℕ) (before : File) (new b p : ℕ) (after : File) : Type 0 where
    pub moved : IsMoved path other fresh names new b p after
    pub start : a ≤ b
    pub led : LeadsTo (T a) names old (nodes.File before)
    pub elsewhere : node_of_path (T a) fresh ≡ Ok old → ⊥
    pub prepared : (n : ℕ) → a ≤ n → n < p → IsPrepared path names fresh old n
    pub left : (n : ℕ) → p < n → at_number (T (suc n)) old ≡ at_number (T n) old
