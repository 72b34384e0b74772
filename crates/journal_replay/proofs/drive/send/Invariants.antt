use Rattle.std.proofs.Common.{◌≡◌, length}
use Rattle.journal_replay.specs.Driving.{sent}
use Rattle.journal_replay.specs.code.Sending.{CanSend, KeepsAll}
use Rattle.order_model.specs.Machine.{Machine, machine_of}
use Rattle.journal_replay.proofs.drive.send.Given as goal

-- what is still to be sent from here ends where all of it does
abbrev pub invariant-loop-plan : goal.invariant-loop-plan
invariant-loop-plan g l =
    let d = g.D.OrderedDev in
    let m : Machine d.State = machine_of d in
    record {
      sent : sent m (d.state l.dev) l.plan ≡ sent m (d.state l.fn.dev) l.fn.plan;
      valid : d.valid (d.state l.dev);
      can : CanSend (d.seen (d.state l.dev)) l.plan;
      kept : KeepsAll (d.seen (d.state l.fn.dev)) l.fn.plan (d.seen (d.state l.dev)) l.plan;
      others : d.seen (d.state l.dev) ≡ record (d.seen (d.state l.fn.dev)) { took = (d.seen (d.state l.dev)).took };
      on : d.stays_on (d.state l.fn.dev) → d.stays_on (d.state l.dev);
      sound : d.sound (d.state l.fn.dev) → d.sound (d.state l.dev) × ((d.seen (d.state l.dev)).faults ≡ (d.seen (d.state l.fn.dev)).faults);
    }

abbrev pub decreases-loop-plan : goal.decreases-loop-plan
decreases-loop-plan g l = length l.plan
