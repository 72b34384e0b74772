use Rattle.std.proofs.Common.{◌∙◌, ap, take, ◌-◌, ◌*◌, ◌/◌}
use Rattle.blk_base.proofs.ReadPieces.{moved}
use Rattle.blk_base.proofs.reading.take_blocks.Goals as goal

pub returns-clause-rest : goal.returns-clause-rest
returns-clause-rest c =
    let held = c.args.held in
    ap (take (held - 1024 * (held / 1024))) c.copy_within.ensures.after ∙ moved c.args.buf.now held c.requires
