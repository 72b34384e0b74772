use Rattle.std.proofs.Common.{◌∙◌, inr, arith, rules}
use Rattle.std.proofs.KnownBytes.{Appends-trans}
use Rattle.std.proofs.Math.Seq.{take-add}
use Rattle.blk_base.proofs.writing.write_all.Goals as goal

pub loop-at-preserved : goal.loop-at-preserved
loop-at-preserved g c = record {
  within = omega (arith, c.in-Ok.ensures.within, c.split_at.ensures.back_len);
  taken =
      rw (take-add c.loop-at.at c.in-Ok.n c.args.bytes.now, ← c.split_at.ensures.back)
      (Appends-trans _ _ _ _ _ c.loop-at.invariant.taken c.in-Ok.ensures.content);
  faults = c.in-Ok.ensures.steady (inr (search (rules, arith))) ∙ c.loop-at.invariant.faults;
}
