use Rattle.std.proofs.Common.{◌≡◌, ◌++◌, drop, filter}
use Rattle.page_cache.specs.code.Keys.{is_key_in}
use Rattle.page_cache.proofs.keys.keys_in.Given as goal

abbrev pub invariant-loop-at : goal.invariant-loop-at
invariant-loop-at l = l.found.items ++ filter (is_key_in l.file) (drop l.at l.keys.items) ≡ filter (is_key_in l.file) l.keys.items
