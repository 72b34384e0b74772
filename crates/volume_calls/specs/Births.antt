-- Which node a path leads to.
use Rattle.std.specs.Prelude.{ℕ, List, Option, Some, None, Ok, Err}
use Rattle.tree_model.specs.Calls.{Tree, walk_path}

-- the birth of the node to which a path leads
abbrev pub birth_in : Tree → List ℕ → Option ℕ
birth_in tree path = elim (walk_path tree path) as (λ _. Option ℕ) [ Err reply ↦ None | Ok found ↦ Some found.birth ]
