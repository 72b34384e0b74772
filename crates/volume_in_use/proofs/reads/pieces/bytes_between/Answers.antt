use Rattle.std.proofs.Common.{◌%◌, ◌++◌, take, drop, ◌∙◌, refl, ap, arith}
use Rattle.tree_model.specs.Calls.{block_or_zeros}
use Rattle.volume_ops.specs.Volume.{bodies_of}
use Rattle.volume_model.specs.Trees.{in_order}
use Rattle.volume_in_use.specs.reads.code.Pieces.{zone_body}
use Rattle.volume_in_use.proofs.ReadsLemmas.Steps.{piece_more}
use Rattle.volume_in_use.proofs.reads.pieces.bytes_between.Goals as goal

pub loop-at-preserved : goal.loop-at-preserved
loop-at-preserved c =
    let blocks = c.args.blocks.now in
    let at = c.loop-at.at in
    let len = c.min-len.result in
    let is = c.min-len.ensures in
    let before = c.loop-at.invariant.1 in
    let so_far = c.loop-at.invariant.2 in
    let less = c.loop-at-test.true in (
      c.in_ok-push_piece.ensures.bytes
          ∙ (ap (λ items. items ++ take len (drop (at % 1024) (zone_body blocks c.zone_of-zone.result))) c.loop-at.invariant.0
          ∙ piece_more (in_order (bodies_of blocks c.args.zones.now)) c.args.off at (at % 1024) len (zone_body blocks c.zone_of-zone.result) before refl (omega arith)
          c.in_ok-push_piece.ensures.whole (ap block_or_zeros (c.zone_of-zone.ensures blocks))),
      omega arith,
      omega arith,
    )
