use Rattle.std.proofs.Common.{Some, sym, ap, ◌∙◌, arith}
use Rattle.barrierfs_top.proofs.Pieces.{sizes_more, whole_again}
use Rattle.barrierfs_top.proofs.session.check_blocks.Goals as goal

pub loop-b-preserved : goal.loop-b-preserved
loop-b-preserved c =
    sizes_more c.args.image.now c.loop-b.b c.as_slice-bytes.result.now (c.block.ensures ∙ ap Some (sym c.as_slice-bytes.ensures.value)) c.as_slice-bytes.ensures.len c.loop-b.invariant

pub returns : goal.returns
returns c =
    let past = c.loop-b-test.false in
    let size = c.len-b-end.ensures in
    whole_again c.args.image.now (λ i lt. c.loop-b.invariant i (omega (arith, lt, past, size)))
