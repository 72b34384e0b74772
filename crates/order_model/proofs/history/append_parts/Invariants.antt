use Rattle.std.proofs.Common.{◌≡◌, ◌+◌, ◌≤◌, ◌++◌, take, length}
use Rattle.std.proofs.Common.{vec_len}
use Rattle.std.specs.Vec.{vec_capacity}
use Rattle.order_model.specs.code.Rows.{parts_kept, AreThere}
use Rattle.order_model.proofs.history.append_parts.Given as goal

abbrev pub invariant-loop-part : goal.invariant-loop-part
invariant-loop-part l = record {
  items : parts_kept l.stored.items l.rows.items ≡ parts_kept l.fn.stored.items l.fn.rows.items ++ take l.part-index l.parts;
  there : AreThere (length l.stored.items) l.rows.items;
  len : vec_len l.rows ≡ vec_len l.fn.rows + l.part-index;
  few : vec_len l.stored ≤ vec_len l.fn.stored + l.part-index;
  capacity : vec_capacity l.rows ≡ vec_capacity l.fn.rows;
  bodies : vec_capacity l.stored ≡ vec_capacity l.fn.stored;
}
