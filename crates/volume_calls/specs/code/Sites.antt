-- The directory of a path's last name.
use Rattle.std.specs.Prelude.{◌≡◌, ℕ, List, Result, Ok}
use Rattle.tree_model.specs.declared.node.Directory.{Directory}
use Rattle.tree_model.specs.declared.call.Reply.{Reply}
use Rattle.tree_model.specs.declared.call.Reply.TheVariants as replies
use Rattle.tree_model.specs.Calls.{Tree, Place, and_then, names_in, parent_of}

-- where it stands; the root's is refused
abbrev pub place_in : Tree → List ℕ → Result Place Reply
place_in tree path = and_then (names_in path) (parent_of replies.Invalid tree)

-- it has this birth, and the last name is this
pub record IsSite (tree : Tree) (path : List ℕ) (parent : ℕ) (name : List ℕ) : Type 0 where
  pub directory : Directory
  pub is : place_in tree path ≡ Ok (record { parent = parent; directory = directory; name = name })
