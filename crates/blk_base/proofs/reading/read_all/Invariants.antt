use Rattle.std.proofs.Common.{◌≡◌, ◌-◌, suc, vec_len}
use Rattle.std.specs.Io.KnownBytes.{Consumes}
use Rattle.blk_base.proofs.reading.read_all.Given as goal

abbrev pub invariant-loop-buf : goal.invariant-loop-buf
invariant-loop-buf g l = record {
  read : Consumes (g.S.Source.left l.fn.src) (g.S.Source.left l.src) l.bytes.items;
  faults : g.S.Source.faults l.src ≡ g.S.Source.faults l.fn.src;
}

abbrev pub decreases-loop-buf : goal.decreases-loop-buf
decreases-loop-buf g l = suc l.most - vec_len l.bytes
