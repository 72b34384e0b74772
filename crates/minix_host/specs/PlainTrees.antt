-- Plain trees, and the one that a call leaves.
use Rattle.std.specs.Prelude.{ℕ, Bool, not, if◌then◌else◌, Ok, Err}
use Rattle.tree_model.specs.declared.call.Call.{Call}
use Rattle.tree_model.specs.declared.call.Room.{Room}
use Rattle.tree_model.specs.Calls.{Tree, Row, outcome, tree_from, leaves_tree}
use Rattle.tree_model.specs.Histories.{same_file, writes}
use Rattle.tree_model.specs.Maps.{at_number}
use Rattle.tree_model.specs.Plain.{IsPlain}
use Rattle.tree_model.proofs.PlainTrees.{new_plain}
use Rattle.crash_laws.specs.LegalHistory.{root_alone}
use Rattle.minix_host.specs.Numbers.{next_birth, number_in}
use Rattle.minix_host.specs.laws.Numbers.{outcome_plain}

-- a tree, with the proof that it is plain
pub record PlainTree : Type 0 where
  pub tree : Tree
  pub plain : IsPlain tree

-- as in a new volume with names of this width
abbrev pub root_tree : ℕ → PlainTree
root_tree width = record { tree = root_alone width; plain = new_plain width }

-- what a row leaves: the tree itself, where it refuses
abbrev pub left_by : (t : PlainTree) (r : Row) → IsPlain (tree_from t.tree r) → PlainTree
left_by t (Err reply) plain = t
left_by t (Ok done) plain = record { tree = done.tree; plain = plain }

-- what the call with this number leaves
unfoldable pub tree_after_call : Room → PlainTree → ℕ → Call → PlainTree
tree_after_call room t n c =
    if leaves_tree c then t else left_by t (outcome room t.tree (number_in t.tree n) c) (outcome_plain room t.tree n c t.plain)

-- the call writes this block of this file
abbrev pub call_writes : Room → PlainTree → Call → ℕ → ℕ → Bool
call_writes room t c birth index = writes room t.tree (next_birth t.tree) c birth index

-- the call changes the size or the mapped blocks of this file, or makes or removes it
abbrev pub call_alters : Room → PlainTree → ℕ → Call → ℕ → Bool
call_alters room t n c birth = not (same_file (at_number t.tree birth) (at_number (tree_after_call room t n c).tree birth))
