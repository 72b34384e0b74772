use Rattle.std.proofs.Common.{◌≡◌, ◌≤◌, ◌+◌, length}
use Rattle.std.specs.List.{count_by}
use Rattle.tree_model.specs.Maps.{at_number}
use Rattle.tree_model.specs.Trees.{directory_links, is_directory}
use Rattle.vol_check.specs.code.Births.{tree_in}
use Rattle.vol_check.proofs.links.directory_links.Given as goal

abbrev pub invariant-loop-birth : goal.invariant-loop-birth
invariant-loop-birth l = record {
  left : l.links + count_by (λ e. is_directory (at_number (tree_in l.volume.geometry l.volume.blocks) e.1)) l.birth-iterator ≡ directory_links (tree_in l.volume.geometry l.volume.blocks) l.directory;
  most : l.links + length l.birth-iterator ≤ length l.directory.names + 2;
}
