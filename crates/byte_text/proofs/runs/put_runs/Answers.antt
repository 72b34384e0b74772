use Rattle.std.proofs.Common.{sym, arith}
use Rattle.byte_text.proofs.RunSteps.{one_run, same_turn, other_turn}
use Rattle.byte_text.proofs.runs.put_runs.Goals as goal
use Rattle.byte_text.proofs.runs.put_runs.Goals.{then-b-value, else-b-value+in_ok-put_run+in_ok-push_str}

pub loop-b-preserved : goal.loop-b-preserved
loop-b-preserved c =
    elim c.if-b-value.branch [
      | then-b-value w ↦ record {
        bound = omega arith;
        text = rw (w.out-is, w.value-is, w.len-is) (same_turn _ _ c.loop-b.len c.loop-b.value c.loop-b.b-index c.in-Some.rest.now (omega arith) w.if-b-value.true c.loop-b.invariant.text);
      }
      | else-b-value+in_ok-put_run+in_ok-push_str w ↦ record {
        bound = omega arith;
        text = rw (w.out-is, w.value-is, w.len-is, w.in_ok-push_str.ensures.bytes, w.in_ok-put_run.ensures) (other_turn _ _ c.loop-b.len c.loop-b.value c.loop-b.b-index c.in-Some.rest.now (omega arith) w.if-b-value.false c.loop-b.invariant.text);
      }
    ]

pub returns-then-are_all : goal.returns-then-are_all
returns-then-are_all c =
    rw (one_run c.args.bytes.now c.in-Some.first.now c.in-Some.rest.now c.in-Some.ensures.cases.0 (sym c.if-are_all.ensures)) c.put_run.ensures
