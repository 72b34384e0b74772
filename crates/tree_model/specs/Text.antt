-- The text of a tree: a line for each name, each directory before its entries, and these in the order of their names.
use Rattle.std.specs.Prelude.{ℕ, zero, suc, ◌+◌, ◌-◌, ◌*◌, ◌/◌, ◌%◌, ◌==◌, Bool, not, ◌&&◌, nat_le, nat_lt, if◌then◌else◌, List, [], ◌∷◌, ◌++◌, codes, length, take, map, Some, None}
use Rattle.std.specs.Option.{option_map_or}
use Rattle.std.specs.Fmt.{decimal}
use Rattle.byte_text.specs.Hex.{hex_text}
use Rattle.byte_text.specs.Runs.{runs_text}
use Rattle.tree_model.specs.declared.node.Node.{Node}
use Rattle.tree_model.specs.declared.node.Node.TheVariants as nodes
use Rattle.tree_model.specs.declared.node.File.{File}
use Rattle.tree_model.specs.Maps.{at_number, put_number, without_number}

-- printable ASCII but for the space and the backslash
abbrev pub is_plain : ℕ → Bool
is_plain b = nat_le 33 b && (nat_le b 126 && not (b == 92))

-- a byte of a name: as it is where it is plain, and else by its hexadecimal digits
abbrev pub byte_text : ℕ → List ℕ
byte_text b = if is_plain b then b ∷ [] else codes "\\x" ++ hex_text b

abbrev pub name_text : List ℕ → List ℕ
name_text [] = []
name_text (b ∷ bs) = byte_text b ++ name_text bs

-- a name that is to be shown: what stands before it in its path, with it, and the birth of its node
pub record Named : Type 0 where
  pub path : List ℕ
  pub birth : ℕ

-- the root's path is a slash, all others are as they were put together
abbrev pub path_text : List ℕ → List ℕ
path_text [] = codes "/"
path_text (b ∷ bs) = b ∷ bs

-- the names in the directory of this path
abbrev pub below : List ℕ → List (List ℕ × ℕ) → List Named
below path names = map (λ e. record { path = path ++ codes "/" ++ name_text e.0; birth = e.1 }) names

-- ---- the lines

-- a mapped block below the size: its number, and the runs of its bytes up to the size
abbrev pub block_text : ℕ → ℕ × List ℕ → List ℕ
block_text size block =
    if nat_lt (1024 * block.0) size
    then codes "block " ++ decimal block.0 ++ codes " " ++ runs_text (take (size - 1024 * block.0) block.1) ++ codes "\n"
    else []

abbrev pub blocks_text : ℕ → List (ℕ × List ℕ) → List ℕ
blocks_text size [] = []
blocks_text size (block ∷ blocks) = block_text size block ++ blocks_text size blocks

abbrev pub directory_line : List ℕ → List ℕ
directory_line path = codes "dir " ++ path_text path ++ codes "\n"

abbrev pub file_line : List ℕ → File → List ℕ
file_line path f = codes "file " ++ path_text path ++ codes " size " ++ decimal f.size ++ codes " links " ++ decimal f.links ++ codes "\n"

-- a file's line, and one for each mapped block below its size
abbrev pub file_lines : List ℕ → File → List ℕ
file_lines path f = file_line path f ++ blocks_text f.size f.blocks

-- the last octal digit of a number, as a character
abbrev pub octal_digit : ℕ → ℕ
octal_digit n = n % 8 + 48

-- a mode as six octal digits
abbrev pub mode_text : ℕ → List ℕ
mode_text mode =
    octal_digit (mode / 32768) ∷ octal_digit (mode / 4096) ∷ octal_digit (mode / 512)
    ∷ octal_digit (mode / 64) ∷ octal_digit (mode / 8) ∷ octal_digit mode ∷ []

-- a node that is neither a directory nor a file
abbrev pub other_line : List ℕ → ℕ → List ℕ
other_line path mode = codes "other " ++ path_text path ++ codes " mode " ++ mode_text mode ++ codes "\n"

-- a name of a node that was met before, and the path at which it was met first
abbrev pub link_line : List ℕ → List ℕ → List ℕ
link_line path first = codes "link " ++ path_text path ++ codes " " ++ first ++ codes "\n"

-- ---- the walk

-- the nodes that were not met yet, and the first paths of the files that were
pub record Showing : Type 0 where
  pub left : List (ℕ × Node)
  pub firsts : List (ℕ × List ℕ)

-- where a file was met first; empty where no path was kept
abbrev pub first_path : Showing → ℕ → List ℕ
first_path s birth = option_map_or path_text (at_number s.firsts birth) []

-- a directory was met, and its path is not kept
abbrev pub directory_met : Showing → Named → Showing
directory_met s e = record { left = without_number s.left e.birth; firsts = s.firsts }

-- a file was met, first at this path
abbrev pub file_met : Showing → Named → Showing
file_met s e = record { left = without_number s.left e.birth; firsts = put_number s.firsts e.birth e.path }

-- The text of the names that are still to be shown, the next one first. A directory's and a file's lines
-- come where the node is met first, and `again` goes on with one node less to be met.
abbrev pub shown_through : (Showing → List Named → List ℕ) → Showing → List Named → List ℕ
shown_through again s [] = []
shown_through again s (e ∷ rest) =
    elim (at_number s.left e.birth) as (λ _. List ℕ) [
      | None ↦ link_line e.path (first_path s e.birth) ++ shown_through again s rest
      | Some (nodes.Other mode) ↦ other_line e.path mode ++ shown_through again s rest
      | Some (nodes.File f) ↦ file_lines e.path f ++ again (file_met s e) rest
      | Some (nodes.Directory d) ↦ directory_line e.path ++ again (directory_met s e) (below e.path d.names ++ rest)
    ]

-- so, with so many nodes to be met
abbrev pub shown : ℕ → Showing → List Named → List ℕ
shown zero = shown_through (λ s rest. [])
shown (suc n) = shown_through (shown n)

-- the root, which is shown first
abbrev pub root : Named
root = record { path = []; birth = 0 }

-- the text of a tree
unfoldable pub tree_text : List (ℕ × Node) → List ℕ
tree_text tree = shown (length tree) (record { left = tree; firsts = [] }) (root ∷ [])
