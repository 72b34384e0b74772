-- Cuts that change nothing.
use Rattle.std.specs.List.{list_any}
use Rattle.std.specs.Prelude.{ℕ, ◌*◌, ◌/◌, ◌%◌, ◌==◌, nat_le, is_some, Bool, false, not, ◌&&◌, ◌||◌, List, Ok, Err}
use Rattle.tree_model.specs.declared.node.File.{File}
use Rattle.tree_model.specs.declared.node.Node.{Node}
use Rattle.tree_model.specs.declared.node.Node.TheVariants as nodes
use Rattle.tree_model.specs.Calls.{Tree, walk_path}
use Rattle.tree_model.specs.Maps.{at_number}

-- A file keeps its size and its blocks, and no byte of them is cleared.
abbrev pub keeps_file : ℕ → File → Bool
keeps_file size f =
    (f.size == size) && (not (list_any (λ (e : ℕ × List ℕ). nat_le size (1024 * e.0)) f.blocks)
    && ((size % 1024 == 0) || not (is_some (at_number f.blocks (size / 1024)))))

-- so, where the node is a file; never for another node
abbrev pub keeps_size : ℕ → Node → Bool
keeps_size size (nodes.File f) = keeps_file size f
keeps_size size other = false

-- a cut of this path to this size would change nothing; false where the path leads to no file
abbrev pub cuts_nothing : Tree → List ℕ → ℕ → Bool
cuts_nothing tree path size = elim (walk_path tree path) as (λ _. Bool) [ Err reply ↦ false | Ok found ↦ keeps_size size found.node ]
