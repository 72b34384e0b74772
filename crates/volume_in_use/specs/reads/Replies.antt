-- The ends of the tree's rows that answer with data: what a node says to which the path led.
use Rattle.std.specs.Prelude.{◌≡◌, ℕ, Some}
use Rattle.std.specs.Map.{keys_of}
use Rattle.tree_model.specs.declared.node.Node.{Node}
use Rattle.tree_model.specs.declared.call.Reply.TheVariants as replies
use Rattle.tree_model.specs.Calls.{Tree, Row, and_then, answers, a_file, a_directory, bytes_from, stat_of}
use Rattle.tree_model.specs.Maps.{at_number}
use Rattle.volume_model.specs.declared.placed.Placed.{Placed}
use Rattle.volume_steps.specs.Now.{VolumeNow}
use Rattle.volume_steps.specs.Plain.{IsPlainNow}

-- the volume is plain, and this is a node of it
pub record IsNodeIn (v : VolumeNow) (p : Placed) : Type 0 where
  pub plain : IsPlainNow v
  pub birth : ℕ
  pub stands : at_number v.contents.nodes birth ≡ Some p

-- a directory; the bytes of a file
abbrev pub read_at : Tree → ℕ → ℕ → Node → Row
read_at tree off len node = and_then (a_file node) (λ f. answers tree (replies.Bytes (bytes_from f off len)))

-- a file; the names in a directory
abbrev pub list_at : Tree → Node → Row
list_at tree node = and_then (a_directory node) (λ d. answers tree (replies.Names (keys_of d.names)))

-- its kind, size and links
abbrev pub stat_at : Tree → Node → Row
stat_at tree node = and_then (stat_of tree node) (answers tree)
