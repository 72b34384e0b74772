use Rattle.host_core.proofs.EffectsLemmas.Noted.{RevokesLeft}
use Rattle.host_core.proofs.effects.notes.revoke_all.Given as goal

abbrev pub invariant-loop-zone : goal.invariant-loop-zone
invariant-loop-zone l = RevokesLeft l.fn.journal l.journal l.zones l.zone-index
