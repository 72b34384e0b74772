use Rattle.host_core.proofs.EffectsLemmas.Noted.{ChangesLeft}
use Rattle.host_core.proofs.effects.notes.change_all.Given as goal

abbrev pub invariant-loop-birth : goal.invariant-loop-birth
invariant-loop-birth l = ChangesLeft l.fn.journal l.journal l.births l.birth-index
