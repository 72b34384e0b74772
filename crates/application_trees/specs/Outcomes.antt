-- What a session and a power cut leave, in the words of a user: trees, calls by their numbers, and what a path shows.
use Rattle.std.specs.Prelude.{◌≡◌, ◌⊎◌, ℕ, zero, suc, ◌+◌, ◌<◌, ◌≤◌, Bool, true, false, List, Option, Some, None}
use Rattle.tree_model.specs.declared.node.File.{File}
use Rattle.tree_model.specs.declared.node.Node.TheVariants as nodes
use Rattle.tree_model.specs.Calls.{Tree}
use Rattle.tree_model.specs.Causes.{LeadsTo}
use Rattle.tree_model.specs.Histories.{block_at, maps_block, same_file}
use Rattle.tree_model.specs.Maps.{at_number}
use Rattle.tree_model.specs.Trees.{AreAlike}

-- Entries are numbered from 1, as in a history. The recovered tree is alike to the one after entry `cut`.
pub record Outcome : Type 0 where
  -- the tree after entry n
  pub tree_at : ℕ → Tree
  -- entry n wrote this block of this file
  pub writes : ℕ → ℕ → ℕ → Bool
  pub cut : ℕ
  -- what was recovered
  pub tree : Tree
  pub alike : AreAlike (tree_at cut) tree

module _ (o : Outcome) where
  -- A history begins with no file, and a block of a file changes only where an entry writes it.
  pub record HasHistory : Type 0 where
    pub empty : (f i : ℕ) → block_at (o.tree_at 0) f i ≡ None
    pub first : (f i : ℕ) → o.writes 0 f i ≡ false
    pub kept : (n f i : ℕ) → o.writes (suc n) f i ≡ false → (block_at (o.tree_at (suc n)) f i ≡ None) ⊎ (block_at (o.tree_at (suc n)) f i ≡ block_at (o.tree_at n) f i)

  -- the recovered tree shows a block of a file as it was after some entry at or behind n, which had it
  pub record IsShown (f i n : ℕ) : Type 0 where
    pub version : ℕ
    pub later : n ≤ version
    pub mapped : maps_block (o.tree_at version) f i ≡ true
    pub shown : block_at o.tree (o.alike.to f) i ≡ block_at (o.tree_at version) f i

  -- an entry behind n that was recovered left the file without the block
  pub record IsGone (f i n : ℕ) : Type 0 where
    pub entry : ℕ
    pub later : n < entry
    pub within : entry ≤ o.cut
    pub unmapped : maps_block (o.tree_at entry) f i ≡ false

  -- all that was written to the file up to entry b is shown, or was removed
  abbrev pub Holds : ℕ → ℕ → Type 0
  Holds f b = (i n : ℕ) → n ≤ b → o.writes n f i ≡ true → IsShown f i n ⊎ IsGone f i n

  -- each entry up to b that wrote a block of the file changed its size or which blocks it maps
  abbrev pub Grows : ℕ → ℕ → Type 0
  Grows f b = (i n : ℕ) → suc n ≤ b → o.writes (suc n) f i ≡ true → same_file (at_number (o.tree_at n) f) (at_number (o.tree_at (suc n)) f) ≡ false

  -- each block is as new as the last change of its file that was recovered
  abbrev pub IsAsNew : Type 0
  IsAsNew = (f i m n : ℕ) → maps_block (o.tree_at o.cut) f i ≡ true → o.writes n f i ≡ true → same_file (at_number (o.tree_at m) f) (at_number (o.tree_at (suc m)) f) ≡ false → n ≤ suc m → suc m ≤ o.cut → IsShown f i n

  -- From entry b on nothing changes the bytes of the file, which are those of g: at most it is removed, and not by what
  -- was recovered.
  pub record Stays (f b : ℕ) (g : File) : Type 0 where
    pub after : (v i : ℕ) → b ≤ v → (block_at (o.tree_at v) f i ≡ at_number g.blocks i) ⊎ (block_at (o.tree_at v) f i ≡ None)
    pub within : (v i : ℕ) → b ≤ v → v ≤ o.cut → block_at (o.tree_at v) f i ≡ at_number g.blocks i

-- at this path the tree has a file of this size with these blocks: all of its bytes, and no others
pub record Shows (tree : Tree) (names : List (List ℕ)) (g : File) : Type 0 where
  pub birth : ℕ
  pub file : File
  pub leads : LeadsTo tree names birth (nodes.File file)
  pub size : file.size ≡ g.size
  pub blocks : (i : ℕ) → at_number file.blocks i ≡ at_number g.blocks i

-- How a file is replaced: up to entry p the path leads to the old file, from then on, as far as was recovered, to the new one.
-- Neither changes: the old one from entry a on, the new one from entry b on.
pub record IsReplaced (o : Outcome) (names : List (List ℕ)) (p : ℕ) (old : ℕ) (a : ℕ) (before : File) (new : ℕ) (b : ℕ) (after : File) : Type 0 where
  pub made : a ≤ o.cut
  pub behind : b ≤ p
  pub leads_old : o.cut ≤ p → LeadsTo (o.tree_at o.cut) names old (nodes.File before)
  pub leads_new : p < o.cut → LeadsTo (o.tree_at o.cut) names new (nodes.File after)
  pub old_stays : o.cut ≤ p → Stays o old a before
  pub new_stays : p < o.cut → Stays o new b after
