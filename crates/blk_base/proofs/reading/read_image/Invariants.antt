use Rattle.std.proofs.Common.{◌≡◌, ◌<◌, take}
use Rattle.blk_base.proofs.ReadPieces.{IsReadOn}
use Rattle.blk_base.proofs.reading.read_image.Given as goal

abbrev pub invariant-reads : goal.invariant-reads
invariant-reads g l = record {
  read : IsReadOn l.most l.room (g.S.Source.left l.fn.src) (g.S.Source.left l.src) l.image (take l.held l.buf);
  short : l.held < 1024;
  faults : g.S.Source.faults l.src ≡ g.S.Source.faults l.fn.src;
}

abbrev pub decreases-reads : goal.decreases-reads
decreases-reads g l = l.room
