use Rattle.std.proofs.Common.{rules, ◌+◌, ◌%◌, ◌++◌, [], ◌∷◌, ℕ, List, ap, ◌∙◌}
use Rattle.std.proofs.lemmas.Bool.{eq-eqb, ne_eqb}
use Rattle.std.proofs.lemmas.List.{drop_more}
use Rattle.tree_model.specs.declared.call.Call.{Call}
use Rattle.session_report.specs.bulk.Workload.{word_call, call_line}
use Rattle.session_report.proofs.BulkLemmas.Dealt.{word_taken, word_passed}
use Rattle.session_report.proofs.bulk.workload.thread_of.Goals as goal
use Rattle.session_report.proofs.bulk.workload.thread_of.Goals.{then-place-thread+in_ok-line_of+in_ok-push+in_ok-call_of+in_ok-push-2, else-place-thread}

pub loop-place-preserved : goal.loop-place-preserved
loop-place-preserved c =
    elim c.if-place-thread.branch [
      | then-place-thread+in_ok-line_of+in_ok-push+in_ok-call_of+in_ok-push-2 w ↦ record {
        calls =
            word_taken word_call c.args.thread c.loop-place.place _ c.args.words.now c.loop-place.program c.if-place-thread.program _
            (drop_more c.args.words.now c.loop-place.place _ c.loop-place-test.true) (eq-eqb (1 + c.loop-place.place % 4) c.args.thread w.if-place-thread.true)
            (w.program-is ∙ w.in_ok-push-2.ensures ∙ ap (λ (call : Call). c.loop-place.program ++ call ∷ []) w.in_ok-call_of.ensures)
            c.loop-place.invariant.calls;
        lines =
            word_taken (λ (word : ℕ). call_line (word_call word)) c.args.thread c.loop-place.place _ c.args.words.now c.loop-place.lines c.if-place-thread.lines _
            (drop_more c.args.words.now c.loop-place.place _ c.loop-place-test.true) (eq-eqb (1 + c.loop-place.place % 4) c.args.thread w.if-place-thread.true)
            (w.lines-is ∙ w.in_ok-push.ensures ∙ ap (λ (line : List ℕ). c.loop-place.lines ++ line ∷ []) w.in_ok-line_of.ensures)
            c.loop-place.invariant.lines;
      }
      | else-place-thread w ↦ record {
        calls =
            word_passed word_call c.args.thread c.loop-place.place _ c.args.words.now c.loop-place.program c.if-place-thread.program _
            (drop_more c.args.words.now c.loop-place.place 0 c.loop-place-test.true) (ne_eqb (1 + c.loop-place.place % 4) c.args.thread w.if-place-thread.false) (search rules) c.loop-place.invariant.calls;
        lines =
            word_passed (λ (word : ℕ). call_line (word_call word)) c.args.thread c.loop-place.place _ c.args.words.now c.loop-place.lines c.if-place-thread.lines _
            (drop_more c.args.words.now c.loop-place.place 0 c.loop-place-test.true) (ne_eqb (1 + c.loop-place.place % 4) c.args.thread w.if-place-thread.false) w.lines-is c.loop-place.invariant.lines;
      }
    ]
