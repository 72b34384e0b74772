use Rattle.std.proofs.Common.{◌≡◌, ◌+◌, ℕ, ◌≤◌, get_or, length}
use Rattle.vol_check.specs.code.Births.{tree_in}
use Rattle.vol_check.specs.code.Names.{names_below, IsCount}
use Rattle.vol_check.proofs.name_counts.count_all.Given as goal

abbrev pub invariant-loop-birth : goal.invariant-loop-birth
invariant-loop-birth l = record {
  size : length l.counts.items ≡ l.volume.geometry.inodes + 1;
  counted : (other : ℕ) → other ≤ l.volume.geometry.inodes → IsCount (get_or l.counts.items other 0) (names_below (tree_in l.volume.geometry l.volume.blocks) l.birth other);
}
