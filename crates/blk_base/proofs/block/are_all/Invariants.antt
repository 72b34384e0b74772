use Rattle.std.proofs.Common.{◌≡◌, ◌≤◌, take, replicate}
use Rattle.blk_base.proofs.block.are_all.Given as goal

abbrev pub invariant-loop-byte : goal.invariant-loop-byte
invariant-loop-byte l = record {
  least : l.least ≤ l.v;
  most : l.v ≤ l.most;
  full : l.least ≡ l.most → take l.byte-index l.bytes ≡ replicate l.byte-index l.v;
  same : take l.byte-index l.bytes ≡ replicate l.byte-index l.v → l.least ≡ l.most;
}
