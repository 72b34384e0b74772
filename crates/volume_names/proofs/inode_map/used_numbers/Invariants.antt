use Rattle.std.proofs.Common.{◌≡◌, ◌≤◌, ◌==◌, ◌+◌, ℕ, length, map}
use Rattle.std.specs.List.{list_any}
use Rattle.std.specs.Map.Iter.{deref}
use Rattle.volume_ops.specs.Marks.{is_marked}
use Rattle.volume_model.specs.declared.placed.Placed.{Placed}
use Rattle.volume_names.proofs.inode_map.used_numbers.Given as goal

abbrev pub invariant-loop-placed : goal.invariant-loop-placed
invariant-loop-placed l = record {
  size : length l.used.items ≡ l.inodes + 1;
  marked : (i : ℕ) → i ≤ l.inodes → is_marked l.used.items i ≡ list_any (λ (p : Placed). p.number == i) (map (deref {X = Placed}) l.yielded);
}
