use Rattle.std.proofs.Common.{◌≡◌, drop}
use Rattle.page_cache.specs.code.Keys.{first_of}
use Rattle.page_cache.proofs.keys.first_of.Given as goal

abbrev pub invariant-loop-at : goal.invariant-loop-at
invariant-loop-at l = first_of (drop l.at l.births) l.keys.items ≡ first_of l.births l.keys.items
