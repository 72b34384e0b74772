use Rattle.std.proofs.Common.{◌≤◌, ◌-◌, length}
use Rattle.page_cache.specs.code.Keys.{place_of}
use Rattle.page_cache.proofs.keys.place_of.Given as goal

abbrev pub invariant-loop-low : goal.invariant-loop-low
invariant-loop-low l = (l.low ≤ place_of l.keys.items l.birth l.index) × (place_of l.keys.items l.birth l.index ≤ l.high) × (l.high ≤ length l.keys.items)

abbrev pub decreases-loop-low : goal.decreases-loop-low
decreases-loop-low l = l.high - l.low
