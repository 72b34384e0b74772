use Rattle.std.proofs.Common.{◌≡◌, drop}
use Rattle.host_core.specs.code.Known.{zones_known}
use Rattle.host_core.proofs.known.Known.zones_for.Given as goal

abbrev pub invariant-loop-known : goal.invariant-loop-known
invariant-loop-known l = zones_known l.thread l.place (drop l.known-index l.self.calls.items) ≡ zones_known l.fn.thread l.fn.place l.fn.self.calls.items
