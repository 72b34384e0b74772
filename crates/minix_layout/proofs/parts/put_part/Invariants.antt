use Rattle.std.proofs.Common.{◌≡◌}
use lib.Seq.{paste}
use Rattle.minix_layout.proofs.parts.put_part.Given as goal

abbrev pub invariant-loop-k : goal.invariant-loop-k
invariant-loop-k l = l.b ≡ paste l.initial.b l.start l.bytes l.k
