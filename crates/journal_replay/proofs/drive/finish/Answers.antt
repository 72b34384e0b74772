use Rattle.std.proofs.Common.{sym, ap, ◌∙◌, subst, ◌≡◌, ◌==◌, ◌++◌, List, true, false, length, inr, refl, arith}
use Rattle.std.proofs.lemmas.List.{append-nil}
use Rattle.order_model.specs.declared.command.Command.{Command}
use Rattle.order_model.specs.Device.{Seen}
use Rattle.journal_replay.specs.Driving.{Driven, end_of, is_running}
use Rattle.journal_replay.specs.laws.Drives.{run-more, run-sent}
use Rattle.journal_replay.specs.laws.Ends.{not_failed, works-last, ahead-sent, ahead-turn, ahead-end, ahead_more, sent-shorter}
use Rattle.journal_replay.specs.code.Sending.{can_send-kept}
use Rattle.order_model.specs.Machine.{Machine, machine_of}
use Rattle.journal_replay.specs.code.Runs.{IsFlushedLast}
use Rattle.journal_replay.proofs.drive.finish.Goals as goal

pub returns-then-not-is_running-clause-driven : goal.returns-then-not-is_running-clause-driven
returns-then-not-is_running-clause-driven g c =
    let d = g.D.OrderedDev in
    let m : Machine d.State = machine_of d in
    let i = c.loop-dev.invariant in
    let r = c.await_room-end.ensures in
    let over : is_running (end_of (d.seen (d.state c.await_room-end.new.dev))) ≡ false = ap is_running (sym r.end) ∙ (sym c.is_running.ensures ∙ c.if-not-is_running.true) in
    ahead-end m _ _ (ahead_more m _ _ _ i.ahead r.ahead) over

pub loop-dev-smaller : goal.loop-dev-smaller
loop-dev-smaller g c =
    let d = g.D.OrderedDev in
    let m : Machine d.State = machine_of d in
    let r = c.await_room-end.ensures in
    let now = d.state c.await_room-end.new.dev in
    let room = r.room (sym c.is_running.ensures ∙ c.if-not-is_running.false) in
    let left : (length c.await_room-end.new.plan == 0) ≡ false = ap (λ (cs : List Command). length cs == 0) r.unsent ∙ (sym c.is_done.ensures ∙ c.loop-dev-test.true) in
    let less = sent-shorter m now c.await_room-end.new.plan room left in
    let out = ap (λ (x : Driven d.State). length x.rest) c.send.ensures.sent in
    let same = ap (λ (cs : List Command). length cs) r.unsent in
    omega arith

pub loop-dev-preserved : goal.loop-dev-preserved
loop-dev-preserved g c =
    let d = g.D.OrderedDev in
    let m : Machine d.State = machine_of d in
    let i = c.loop-dev.invariant in
    let r = c.await_room-end.ensures in
    let s = c.send.ensures in
    let running : is_running (end_of (d.seen (d.state c.await_room-end.new.dev))) ≡ true = ap is_running (sym r.end) ∙ (sym c.is_running.ensures ∙ c.if-not-is_running.false) in
    let same_end : end_of (d.seen (d.state c.send.new.dev)) ≡ end_of (d.seen (d.state c.await_room-end.new.dev)) = ap end_of s.others in
    record {
      ahead = ahead-sent m _ _ _ (ahead_more m _ _ _ i.ahead r.ahead) s.sent running (ap is_running same_end ∙ running);
      valid = s.valid;
      can = can_send-kept _ _ _ _ s.kept r.can;
      kept = run-more _ _ _ _ _ _ (run-more _ _ _ _ _ _ i.kept r.kept) (run-sent _ _ _ _ s.kept s.others);
      end = r.end ∙ sym same_end;
      empty = ap (λ (x : Seen). x.waiting) s.others ∙ r.empty;
      on = s.on r.on;
      sound = λ sound. let p = i.sound sound in let q = r.sound p.0 in let w = s.sound q.0 in (w.0, w.1 ∙ (q.1 ∙ p.1));
    }

pub loop-dev-2-smaller : goal.loop-dev-2-smaller
loop-dev-2-smaller g c =
    let d = g.D.OrderedDev in
    let laws = g.met.D.OrderedDev in
    let i = c.loop-dev-2.invariant in
    let now = d.state c.loop-dev-2.dev in
    let running : is_running c.loop-dev-2.end ≡ true = sym c.is_running-in-loop-dev-2.ensures ∙ c.loop-dev-2-test.true in
    let runs : is_running (end_of (d.seen now)) ≡ true = ap is_running (sym i.end) ∙ running in
    let fine = not_failed (d.seen now) (laws.failure now i.valid) i.empty runs in
    let law = laws.progress now i.valid (laws.on now i.valid i.on) fine in
    let all : (d.seen now).took ≡ (d.seen (d.state c.args.dev.now)).took ++ c.args.plan.now = sym (append-nil (d.seen now).took) ∙ (ap (λ (cs : List Command). (d.seen now).took ++ cs) (sym i.done) ∙ i.kept.all.all) in
    let last = subst (λ (cs : List Command). IsFlushedLast cs) (sym all) c.requires.flush in
    let work = works-last (d.seen now) last.0 (d.work_left now) (d.has_room now) (d.can_transfer now) (d.can_persist now) law (laws.completion now i.valid) last.1 i.empty runs in
    let less = c.turn-end.ensures.falls (inr i.done) running refl work in
    omega arith

pub loop-dev-2-preserved : goal.loop-dev-2-preserved
loop-dev-2-preserved g c =
    let d = g.D.OrderedDev in
    let m : Machine d.State = machine_of d in
    let i = c.loop-dev-2.invariant in
    let t = c.turn-end.ensures in
    record {
      ahead = ahead-turn m _ _ _ i.ahead t.turned;
      valid = t.valid;
      can = t.can;
      kept = run-more _ _ _ _ _ _ i.kept t.kept;
      end = t.end;
      empty = t.empty;
      on = t.on i.on;
      sound = λ sound. let p = i.sound sound in let q = t.sound p.0 in (q.0, q.1 ∙ p.1);
      done = t.unsent (inr i.done) ∙ i.done;
    }

pub returns-clause-driven : goal.returns-clause-driven
returns-clause-driven g c =
    let d = g.D.OrderedDev in
    let m : Machine d.State = machine_of d in
    let i = c.loop-dev-2.invariant in
    let over : is_running (end_of (d.seen (d.state c.loop-dev-2.dev))) ≡ false = ap is_running (sym i.end) ∙ (sym c.is_running-in-loop-dev-2.ensures ∙ c.loop-dev-2-test.false) in
    ahead-end m _ _ i.ahead over
