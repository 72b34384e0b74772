use Rattle.std.proofs.Common.{◌≡◌, ◌≤◌, ◌-◌, ◌++◌, length}
use Rattle.store_core.specs.code.LogNodes.{front_of}
use Rattle.store_core.proofs.reading.front_of.Given as goal

abbrev pub invariant-loop-place : goal.invariant-loop-place
invariant-loop-place l = record {
  front : l.front.items ++ front_of l.blocks l.place (l.room - l.place) ≡ front_of l.blocks 0 l.room;
  few : length l.front.items ≤ l.place;
}
