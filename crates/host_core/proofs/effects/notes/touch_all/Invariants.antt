use Rattle.host_core.proofs.EffectsLemmas.Noted.{TouchesLeft}
use Rattle.host_core.proofs.effects.notes.touch_all.Given as goal

abbrev pub invariant-loop-block : goal.invariant-loop-block
invariant-loop-block l = TouchesLeft l.fn.journal l.journal l.blocks l.block-index
