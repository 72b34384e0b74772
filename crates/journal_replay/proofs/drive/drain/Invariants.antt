use Rattle.std.proofs.Common.{◌≡◌, length}
use Rattle.journal_replay.specs.Driving.{drained, end_of}
use Rattle.order_model.specs.Machine.{Machine, machine_of}
use Rattle.journal_replay.specs.code.Runs.{DrainKeeps}
use Rattle.journal_replay.proofs.drive.drain.Given as goal

-- what is still to be taken from here ends where all of it does
abbrev pub invariant-loop-completion : goal.invariant-loop-completion
invariant-loop-completion g l =
    let d = g.D.OrderedDev in
    let m : Machine d.State = machine_of d in
    let now = d.state l.dev in
    record {
      drained : drained m now ≡ drained m (d.state l.fn.dev);
      valid : d.valid now;
      end : l.end ≡ end_of (d.seen now);
      kept : DrainKeeps (d.seen (d.state l.fn.dev)) (d.seen now);
      on : d.stays_on (d.state l.fn.dev) → d.stays_on now;
      sound : d.sound (d.state l.fn.dev) → d.sound (d.state l.dev) × ((d.seen (d.state l.dev)).faults ≡ (d.seen (d.state l.fn.dev)).faults);
      left : d.work_left now ≡ d.work_left (d.state l.fn.dev);
    }

abbrev pub decreases-loop-completion : goal.decreases-loop-completion
decreases-loop-completion g l = length (g.D.OrderedDev.seen (g.D.OrderedDev.state l.dev)).waiting
