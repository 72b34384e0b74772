use Rattle.std.proofs.Common.{arith}
use Rattle.volume_model.proofs.EditingLemmas.ReadNumbers.{none_behind}
use Rattle.volume_model.proofs.editing.bodies.number_in.Goals as goal

pub returns-else-block-len : goal.returns-else-block-len
returns-else-block-len c =
    let past = c.if-block-len.false in
    let size = c.len.ensures in
    none_behind c.args.blocks.now c.args.block c.args.at (omega (arith, past, size)) c.requires
