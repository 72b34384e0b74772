use Rattle.std.proofs.Common.{◌≡◌, ◌+◌, suc, set, length-set, get_or, sym, ap, ◌∙◌, arith}
use Rattle.flush_actor.proofs.Waiting.{none_changed, changed_one, all_changed, changed_from}
use Rattle.flush_actor.specs.Waits.{need_commit}
use Rattle.flush_actor.specs.declared.wait.Wait.{Wait}
use Rattle.flush_actor.proofs.waits.note_commit.Goals as goal

pub loop-at-init : goal.loop-at-init
loop-at-init c = (none_changed (need_commit c.args.tx c.args.id) c.args.waits.now.items, sym c.args.waits.now.ok.0 ∙ sym c.len-at-end.ensures)

pub loop-at-preserved : goal.loop-at-preserved
loop-at-preserved c =
    let f = need_commit c.args.tx c.args.id in
    let v = c.loop-at.waits in
    let at = c.loop-at.at in
    let size = c.loop-at.invariant.1 in
    let less = c.loop-at-test.true in
    let one : at + 1 ≡ suc at = omega arith in
    let new = c.after_commit.ensures ∙ ap f c.index.ensures in (
      ap (λ (w : Wait). changed_from f (at + 1) (set v.items at w)) new
          ∙ ap (λ n. changed_from f n (set v.items at (f (get_or v.items at c.index.result.now)))) one
          ∙ changed_one f v.items at c.index.result.now (omega (arith, less, size)) ∙ c.loop-at.invariant.0,
      length-set v.items at c.after_commit.result ∙ size,
    )

pub returns : goal.returns
returns c =
    let f = need_commit c.args.tx c.args.id in
    let v = c.loop-at.waits in
    let size = c.loop-at.invariant.1 in
    let past = c.loop-at-test.false in
    sym (all_changed f v.items c.loop-at.at (omega (arith, size, past))) ∙ c.loop-at.invariant.0
