use Rattle.host_core.proofs.EffectsLemmas.Cached.{WritesLeft}
use Rattle.host_core.proofs.effects.pages.write_pages.Given as goal

abbrev pub invariant-loop-page : goal.invariant-loop-page
invariant-loop-page g l = WritesLeft (g.B.BodySource.bodies l.bodies) l.number l.fn.pages l.pages l.written l.page-index
