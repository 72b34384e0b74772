use Rattle.std.proofs.Common.{sym, ap, ◌∙◌, ◌≡◌, ◌-◌, ◌+◌, ◌++◌, replicate, false}
use Rattle.order_model.specs.Machine.{Machine, machine_of}
use Rattle.journal_replay.specs.Driving.{end_of, is_running, driven}
use Rattle.journal_replay.specs.laws.Drives.{run-more, driven-idle, driven-turn}
use Rattle.journal_replay.proofs.drive.repeat_turn.Goals as goal

pub returns-then-not-is_running-clause-driven : goal.returns-then-not-is_running-clause-driven
returns-then-not-is_running-clause-driven g c later =
    let d = g.D.OrderedDev in
    let m : Machine d.State = machine_of d in
    let i = c.loop.invariant in
    let over : is_running (end_of (d.seen (d.state c.loop.dev))) ≡ false = ap is_running (sym i.end) ∙ (sym c.is_running.ensures ∙ c.if-not-is_running.true) in
    driven-idle m c.args.repeated.choice (c.args.repeated.times - c.loop.counter) later _ over ∙ i.driven later

pub loop-preserved : goal.loop-preserved
loop-preserved g c =
    let d = g.D.OrderedDev in
    let m : Machine d.State = machine_of d in
    let i = c.loop.invariant in
    let t = c.turn-reached.ensures in
    let choice = c.args.repeated.choice in
    let left = c.args.repeated.times - (c.loop.counter + 1) in
    record {
      driven = λ later. ap (driven m (replicate left choice ++ later)) t.turned ∙ (driven-turn m choice c.loop.counter c.args.repeated.times later _ c.loop-test.true ∙ i.driven later);
      valid = t.valid;
      can = t.can;
      kept = run-more _ _ _ _ _ _ i.kept t.kept;
      end = t.end;
      empty = t.empty;
      on = λ on. t.on (i.on on);
      sound = λ sound. let p = i.sound sound in let q = t.sound p.0 in (q.0, q.1 ∙ p.1);
    }
