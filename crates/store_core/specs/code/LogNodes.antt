-- The log of a tree, as the code finds it.
use Rattle.std.specs.Prelude.{ℕ, zero, suc, ◌+◌, List, [], ◌∷◌, Option, Some, None, Ok, Err}
use Rattle.std.specs.Option.{option_and_then}
use Rattle.tree_model.specs.declared.node.Node.{Node}
use Rattle.tree_model.specs.declared.node.Node.TheVariants as nodes
use Rattle.tree_model.specs.Calls.{Tree}
use Rattle.tree_model.specs.Maps.{at_number}
use Rattle.tree_model.specs.Trees.{node_of_path}
use Rattle.store_core.specs.Program.{log_names}

-- the node to which the path of the log leads
abbrev pub log_node : Tree → Option Node
log_node tree = elim (node_of_path tree log_names) as (λ _. Option Node) [ Err refusal ↦ None | Ok birth ↦ at_number tree birth ]

-- the blocks of a file from block i on, up to the first that is not mapped, so many at most
abbrev pub front_of : List (ℕ × List ℕ) → ℕ → ℕ → List (List ℕ)
front_of blocks i zero = []
front_of blocks i (suc n) = elim (at_number blocks i) as (λ _. List (List ℕ)) [ None ↦ [] | Some b ↦ b ∷ front_of blocks (i + 1) n ]

-- the blocks of a node, where it is a file
abbrev pub file_blocks : Node → Option (List (ℕ × List ℕ))
file_blocks (nodes.File f) = Some f.blocks
file_blocks other = None

-- those of the log
abbrev pub log_file : Tree → Option (List (ℕ × List ℕ))
log_file tree = option_and_then file_blocks (log_node tree)

-- the front of so many blocks at most, where there is a file
abbrev pub front_in : Option (List (ℕ × List ℕ)) → ℕ → List (List ℕ)
front_in None room = []
front_in (Some blocks) room = front_of blocks 0 room
