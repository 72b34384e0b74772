use Rattle.host_core.proofs.EffectsLemmas.Noted.{block_inside}
use Rattle.host_core.proofs.effects.notes.touch_all.Goals as goal

pub touch-requires-clause-block : goal.touch-requires-clause-block
touch-requires-clause-block c = block_inside c.args.blocks.now c.loop-block.block-index c.args.journal.now.blocks c.loop-block.journal.blocks c.requires.blocks c.loop-block-test.true c.loop-block.invariant.2
