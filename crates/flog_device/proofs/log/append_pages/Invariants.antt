use Rattle.std.proofs.Common.{◌≡◌, ◌+◌, ◌++◌, drop, length}
use Rattle.std.specs.VecDeque.{deque_capacity}
use Rattle.flog_device.specs.Log.{pages}
use Rattle.flog_device.proofs.log.append_pages.Given as goal

abbrev pub invariant-loop-part : goal.invariant-loop-part
invariant-loop-part l =
    record {
      place : l.place ≡ l.first + l.part-index;
      room : deque_capacity l.log ≡ deque_capacity l.initial.log;
      len : length l.log.items ≡ length l.initial.log.items + l.part-index;
      rest : l.log.items ++ pages l.place (drop l.part-index l.parts) ≡ l.initial.log.items ++ pages l.first l.parts;
    }
