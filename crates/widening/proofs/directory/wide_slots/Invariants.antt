use Rattle.std.proofs.Common.{◌≡◌, ◌++◌, ◌<◌, ◌^◌, map}
use Rattle.std.specs.List.{All}
use Rattle.widening.specs.Directories.{slot_named, wide_slots}
use Rattle.widening.proofs.directory.wide_slots.Given as goal

abbrev pub invariant-loop-name : goal.invariant-loop-name
invariant-loop-name l =
    (l.slots.items ++ map slot_named l.name-iterator ≡ wide_slots l.number l.d)
    × All (λ e. e.1 < 2 ^ 16) l.name-iterator
