use Rattle.std.proofs.Common.{◌≡◌, None, replicate}
use Rattle.std.specs.Prelude.{vec_len}
use Rattle.std.specs.Vec.{vec_capacity}
use Rattle.flog_device.proofs.page_log.no_parts.Given as goal

abbrev pub invariant-loop : goal.invariant-loop
invariant-loop l =
    record {
      len : vec_len l.parts ≡ l.counter;
      room : vec_capacity l.parts ≡ l.blocks;
      items : l.parts.items ≡ replicate l.counter None;
    }
