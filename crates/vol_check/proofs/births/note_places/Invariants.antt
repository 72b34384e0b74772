use Rattle.std.proofs.Common.{◌≡◌, ℕ, ◌<◌, length, drop}
use Rattle.vol_check.specs.code.Births.{found_at, last_at}
use Rattle.vol_check.proofs.births.note_places.Given as goal

-- the nodes from here on, over what was noted so far, are all nodes over what was noted before
abbrev pub invariant-loop-k : goal.invariant-loop-k
invariant-loop-k l = record {
  size : length l.places.items ≡ length l.fn.places.items;
  noted : (birth : ℕ) → birth < length l.fn.places.items →
      last_at (drop l.k l.nodes) birth (found_at l.nodes l.places.items birth) ≡ last_at l.nodes birth (found_at l.nodes l.fn.places.items birth);
}
