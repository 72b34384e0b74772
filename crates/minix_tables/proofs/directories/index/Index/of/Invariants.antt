use Rattle.std.proofs.Common.{take}
use Rattle.minix_tables.specs.directories.Told.{IsTold, told}
use Rattle.minix_tables.proofs.directories.index.Index.of.Given as goal

abbrev pub invariant-loop-at : goal.invariant-loop-at
invariant-loop-at l = IsTold (take l.at l.slots.items) (told l.index)
