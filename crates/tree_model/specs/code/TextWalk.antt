-- The walk that writes a tree's text, between two names.
use Rattle.std.specs.Prelude.{ℕ, ◌+◌, List, ◌++◌, length}
use Rattle.std.specs.List.{sum_by}
use Rattle.std.specs.Map.{values_of}
use Rattle.tree_model.specs.declared.node.Node.{Node}
use Rattle.tree_model.specs.declared.node.Node.TheVariants as nodes
use Rattle.tree_model.specs.Text.{Named, Showing, shown}

-- what was met, and the names that are still to be shown, the next one first
pub record Walking : Type 0 where
  pub showing : Showing
  pub names : List Named

-- the same with these names before the others
abbrev pub with_names : List Named → Walking → Walking
with_names names w = record { showing = w.showing; names = names ++ w.names }

-- the text that is still to be written
unfoldable pub text_left : Walking → List ℕ
text_left w = shown (length w.showing.left) w.showing w.names

-- the number of names of a directory; 0 for any other node
abbrev pub names_in : Node → ℕ
names_in (nodes.Directory d) = length d.names
names_in other = 0

-- no more names than these are still to be shown
unfoldable pub names_left : Walking → ℕ
names_left w = sum_by names_in (values_of w.showing.left) + length w.names
