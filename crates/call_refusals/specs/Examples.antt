-- Trees in which two rows of a table hold, so that their order counts.
use Rattle.std.specs.Prelude.{◌≡◌, ℕ, ◌+◌, ◌/◌, ◌%◌, List, [], ◌∷◌, ◌++◌, map, codes, Err}
use Rattle.std.specs.List.{range_with_len}
use Rattle.tree_model.specs.declared.call.Call.{Call}
use Rattle.tree_model.specs.declared.call.Reply.{Reply}
use Rattle.tree_model.specs.declared.call.Room.{Room}
use Rattle.tree_model.specs.declared.node.Node.{Node}
use Rattle.tree_model.specs.declared.node.Node.TheVariants as nodes
use Rattle.tree_model.specs.Calls.{Tree, outcome}
use Rattle.call_refusals.specs.Conditions.{Condition, Holds}

-- two conditions hold, and the call gets this reply
pub record AreBoth (room : Room) (tree : Tree) (n : ℕ) (c : Call) (first second : Condition) (reply : Reply) : Type 0 where
  pub first_holds : Holds room tree first
  pub second_holds : Holds room tree second
  pub told : outcome room tree n c ≡ Err reply

-- the letter d and three digits
abbrev pub numbered : ℕ → List ℕ
numbered i = 100 ∷ (48 + i / 100) ∷ (48 + (i / 10) % 10) ∷ (48 + i % 10) ∷ []

-- an empty directory in this one
abbrev pub empty_in : ℕ → Node
empty_in parent = nodes.Directory (record { parent = parent; width = 14; slots = 2; names = [] })

-- a directory with so many slots, in the root
abbrev pub directory_with : ℕ → List (List ℕ × ℕ) → Node
directory_with slots names = nodes.Directory (record { parent = 0; width = 14; slots = slots; names = names })

abbrev pub file_with : ℕ → Node
file_with links = nodes.File (record { size = 0; links = links; blocks = [] })

-- /p with 248 directories, so with all its links, and a file f; and /q with a directory x
unfoldable pub linked_tree : Tree
linked_tree =
    (0, directory_with 4 ((codes "p", 1) ∷ (codes "q", 2) ∷ []))
    ∷ (1, directory_with 251 (map (λ i. (numbered i, 10 + i)) (range_with_len 0 248) ++ (codes "f", 4) ∷ []))
    ∷ (2, directory_with 3 ((codes "x", 3) ∷ []))
    ∷ (3, empty_in 2)
    ∷ (4, file_with 1)
    ∷ map (λ i. (10 + i, empty_in 1)) (range_with_len 0 248)

-- a root with 250 names of one file and four of another, which fill the slots of four blocks
unfoldable pub named_tree : Tree
named_tree =
    (0, directory_with 256 (map (λ i. (numbered i, 1)) (range_with_len 0 250) ++ (codes "e0", 2) ∷ (codes "e1", 2) ∷ (codes "e2", 2) ∷ (codes "e3", 2) ∷ []))
    ∷ (1, file_with 250)
    ∷ (2, file_with 4)
    ∷ []

-- rooms in which there are inodes and zones, and in which the four zones of that root are all
abbrev pub wide_room : Room
wide_room = record { inodes = 1000; capacity = 1000 }

abbrev pub four_zones : Room
four_zones = record { inodes = 1000; capacity = 4 }
