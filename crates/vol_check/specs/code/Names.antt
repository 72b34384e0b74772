-- How many names each node has, in a table by births.
use Rattle.std.specs.Prelude.{◌≡◌, ℕ, zero, suc, ◌+◌, ◌<◌, ◌≤◌, ◌↔◌, List, min, slice_index_or, unwrap_or, option_map}
use Rattle.minix_layout.specs.declared.division.Geometry.{Geometry}
use Rattle.tree_model.specs.declared.node.Node.{Node}
use Rattle.tree_model.specs.Maps.{at_number}
use Rattle.tree_model.specs.Plain.{names_in_node, names_to}
use Rattle.vol_check.specs.code.Births.{tree_in}

-- a count ends at this number, which no inode's field can hold
abbrev pub most : ℕ
most = 65535

-- how many names the directory with the birth `parent` has for a node
abbrev pub names_by : List (ℕ × Node) → ℕ → ℕ → ℕ
names_by tree parent birth = unwrap_or (option_map (names_in_node birth) (at_number tree parent)) 0

-- so in the directories of the first n births
abbrev pub names_below : List (ℕ × Node) → ℕ → ℕ → ℕ
names_below tree zero birth = 0
names_below tree (suc n) birth = names_below tree n birth + names_by tree n birth

-- so far as both are told
abbrev pub IsCount : ℕ → ℕ → Type 0
IsCount counted names = min counted most ≡ min names most

-- the table has the count of each birth up to the last inode
abbrev pub AreCounts : Geometry → List (List ℕ) → List ℕ → Type 0
AreCounts g blocks counts = (birth : ℕ) → birth ≤ g.inodes → IsCount (slice_index_or counts birth 0) (names_to (tree_in g blocks) birth)

-- a number that no field of links tells from this one
abbrev pub IsWanted : ℕ → ℕ → Type 0
IsWanted links told = (field : ℕ) → field < 256 → (field ≡ told) ↔ (field ≡ links)
