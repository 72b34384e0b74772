use Rattle.std.proofs.Common.{sym, ap, ◌∙◌, ◌≡◌, true, false, inl, refl, arith}
use Rattle.journal_replay.specs.Driving.{end_of, is_running}
use Rattle.journal_replay.specs.laws.Drives.{run-more}
use Rattle.journal_replay.specs.laws.Ends.{not_failed, works-full, ahead-turn}
use Rattle.order_model.specs.Machine.{Machine, machine_of}
use Rattle.journal_replay.proofs.drive.await_room.Goals as goal

pub loop-dev-smaller : goal.loop-dev-smaller
loop-dev-smaller g c =
    let d = g.D.OrderedDev in
    let laws = g.met.D.OrderedDev in
    let i = c.loop-dev.invariant in
    let now = d.state c.loop-dev.dev in
    let running : is_running c.loop-dev.end ≡ true = sym c.is_running.ensures ∙ c.loop-dev-test.true in
    let runs : is_running (end_of (d.seen now)) ≡ true = ap is_running (sym i.end) ∙ running in
    let full : d.has_room now ≡ false = sym c.room.ensures ∙ c.if-not-room.true in
    let fine = not_failed (d.seen now) (laws.failure now i.valid) i.empty runs in
    let law = laws.progress now i.valid (laws.on now i.valid i.on) fine in
    let less = c.turn-end.ensures.falls (inl full) running refl (works-full (d.seen now) (d.work_left now) (d.has_room now) (d.can_transfer now) (d.can_persist now) law full) in
    omega arith

pub loop-dev-preserved : goal.loop-dev-preserved
loop-dev-preserved g c =
    let d = g.D.OrderedDev in
    let m : Machine d.State = machine_of d in
    let i = c.loop-dev.invariant in
    let t = c.turn-end.ensures in
    let now = d.state c.loop-dev.dev in
    let full : d.has_room now ≡ false = sym c.room.ensures ∙ c.if-not-room.true in
    record {
      ahead = ahead-turn m _ _ _ i.ahead t.turned;
      valid = t.valid;
      can = t.can;
      kept = run-more _ _ _ _ _ _ i.kept t.kept;
      end = t.end;
      empty = t.empty;
      on = t.on i.on;
      sound = λ sound. let p = i.sound sound in let q = t.sound p.0 in (q.0, q.1 ∙ p.1);
      unsent = t.unsent (inl full) ∙ i.unsent;
    }
