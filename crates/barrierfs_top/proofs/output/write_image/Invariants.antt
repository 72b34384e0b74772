use Rattle.std.proofs.Common.{◌≡◌, take}
use Rattle.std.specs.List.{concat}
use Rattle.std.specs.Io.KnownBytes.{Appends}
use Rattle.barrierfs_top.proofs.output.write_image.Given as goal

abbrev pub invariant-loop-b : goal.invariant-loop-b
invariant-loop-b g l = record {
  taken : Appends (g.W.Sink.taken l.fn.out) (g.W.Sink.taken l.out) (concat (take l.b l.image));
  faults : g.W.Sink.faults l.out ≡ g.W.Sink.faults l.fn.out;
}
