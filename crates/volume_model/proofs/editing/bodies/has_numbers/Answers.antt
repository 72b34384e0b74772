use Rattle.std.proofs.Common.{arith}
use Rattle.volume_model.proofs.EditingLemmas.ReadNumbers.{no_numbers_behind}
use Rattle.volume_model.proofs.editing.bodies.has_numbers.Goals as goal

pub returns-else-from-len : goal.returns-else-from-len
returns-else-from-len c =
    let past = c.if-from-len.false in
    let size = c.len.ensures in
    let at = c.from.ensures in
    no_numbers_behind c.args.blocks.now c.args.zone c.args.at (omega (arith, past, size, at))
