use Rattle.host_core.proofs.EffectsLemmas.Noted.{block_inside}
use Rattle.host_core.proofs.effects.notes.want_kept.Goals as goal

pub want_block-requires : goal.want_block-requires
want_block-requires c = block_inside c.args.blocks.now c.loop-block.block-index c.args.journal.now.blocks c.loop-block.journal.blocks c.requires c.loop-block-test.true c.loop-block.invariant.1
