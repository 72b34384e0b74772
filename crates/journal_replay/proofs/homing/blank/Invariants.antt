use Rattle.std.proofs.Common.{◌≡◌, None, replicate}
use Rattle.std.specs.Prelude.{vec_len}
use Rattle.std.specs.Vec.{vec_capacity}
use Rattle.journal_replay.proofs.homing.blank.Given as goal

abbrev pub invariant-loop : goal.invariant-loop
invariant-loop l =
    record {
      len : vec_len l.table ≡ l.counter;
      room : vec_capacity l.table ≡ l.blocks;
      items : l.table.items ≡ replicate l.counter None;
    }
