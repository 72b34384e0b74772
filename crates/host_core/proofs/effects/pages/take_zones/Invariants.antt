use Rattle.std.proofs.Common.{◌≡◌, drop}
use Rattle.host_core.specs.effects.Effects.{taken_zones}
use Rattle.host_core.proofs.effects.pages.take_zones.Given as goal

abbrev pub invariant-loop-page : goal.invariant-loop-page
invariant-loop-page l = taken_zones l.tx l.pages.pages l.owners.items (drop l.page-index l.written) ≡ taken_zones l.tx l.pages.pages l.fn.owners.items l.written
