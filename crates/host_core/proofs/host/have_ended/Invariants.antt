use Rattle.std.proofs.Common.{◌≡◌, drop, map}
use Rattle.host_core.specs.Done.{is_done}
use Rattle.host_core.specs.code.Fields.{thread_of}
use Rattle.host_core.proofs.host.have_ended.Given as goal

abbrev pub invariant-loop-thread : goal.invariant-loop-thread
invariant-loop-thread l = is_done (map thread_of (drop l.thread-index l.threads)) ≡ is_done (map thread_of l.fn.threads)
