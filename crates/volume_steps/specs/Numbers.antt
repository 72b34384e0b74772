-- Numbers of calls.
use Rattle.std.specs.Prelude.{ℕ, ◌+◌, List, [], ◌∷◌}
use Rattle.tree_model.specs.declared.node.Node.{Node}
use Rattle.tree_model.specs.Calls.{Tree, max}

-- the least number above the births of all nodes
unfoldable pub next_birth : List (ℕ × Node) → ℕ
next_birth [] = 0
next_birth (e ∷ es) = max (e.0 + 1) (next_birth es)

-- A call has the number that it is given, where each node was born before that; else the least such number.
abbrev pub number_in : Tree → ℕ → ℕ
number_in tree n = max n (next_birth tree)
