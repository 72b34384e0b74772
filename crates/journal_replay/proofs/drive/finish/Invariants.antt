use Rattle.std.proofs.Common.{◌≡◌, [], length}
use Rattle.journal_replay.specs.Driving.{end_of}
use Rattle.journal_replay.specs.code.Sending.{CanSend}
use Rattle.order_model.specs.Machine.{Machine, machine_of}
use Rattle.journal_replay.specs.code.Runs.{RunKeeps, IsAhead}
use Rattle.journal_replay.proofs.drive.finish.Given as goal

abbrev pub invariant-loop-dev : goal.invariant-loop-dev
invariant-loop-dev g l =
    let d = g.D.OrderedDev in
    let m : Machine d.State = machine_of d in
    record {
      ahead : IsAhead m (record { dev = d.state l.fn.dev; rest = l.fn.plan }) (record { dev = d.state l.dev; rest = l.plan });
      valid : d.valid (d.state l.dev);
      can : CanSend (d.seen (d.state l.dev)) l.plan;
      kept : RunKeeps (d.seen (d.state l.fn.dev)) l.fn.plan (d.seen (d.state l.dev)) l.plan;
      end : l.end ≡ end_of (d.seen (d.state l.dev));
      empty : (d.seen (d.state l.dev)).waiting ≡ [];
      on : d.stays_on (d.state l.dev);
      sound : d.sound (d.state l.fn.dev) → d.sound (d.state l.dev) × ((d.seen (d.state l.dev)).faults ≡ (d.seen (d.state l.fn.dev)).faults);
    }

abbrev pub decreases-loop-dev : goal.decreases-loop-dev
decreases-loop-dev g l = length l.plan

abbrev pub invariant-loop-dev-2 : goal.invariant-loop-dev-2
invariant-loop-dev-2 g l =
    let d = g.D.OrderedDev in
    let m : Machine d.State = machine_of d in
    record {
      ahead : IsAhead m (record { dev = d.state l.fn.dev; rest = l.fn.plan }) (record { dev = d.state l.dev; rest = l.plan });
      valid : d.valid (d.state l.dev);
      can : CanSend (d.seen (d.state l.dev)) l.plan;
      kept : RunKeeps (d.seen (d.state l.fn.dev)) l.fn.plan (d.seen (d.state l.dev)) l.plan;
      end : l.end ≡ end_of (d.seen (d.state l.dev));
      empty : (d.seen (d.state l.dev)).waiting ≡ [];
      on : d.stays_on (d.state l.dev);
      sound : d.sound (d.state l.fn.dev) → d.sound (d.state l.dev) × ((d.seen (d.state l.dev)).faults ≡ (d.seen (d.state l.fn.dev)).faults);
      done : l.plan ≡ [];
    }

abbrev pub decreases-loop-dev-2 : goal.decreases-loop-dev-2
decreases-loop-dev-2 g l = g.D.OrderedDev.work_left (g.D.OrderedDev.state l.dev)
