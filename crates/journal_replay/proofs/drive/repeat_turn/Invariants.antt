use Rattle.std.proofs.Common.{◌≡◌, ◌-◌, ◌++◌, [], List, replicate}
use Rattle.journal_replay.specs.declared.choice.Choice.{Choice}
use Rattle.journal_replay.specs.Driving.{driven, end_of}
use Rattle.journal_replay.specs.code.Sending.{CanSend}
use Rattle.order_model.specs.Machine.{Machine, machine_of}
use Rattle.journal_replay.specs.code.Runs.{RunKeeps}
use Rattle.journal_replay.proofs.drive.repeat_turn.Given as goal

-- the turns that are left from here end where all of them do
abbrev pub invariant-loop : goal.invariant-loop
invariant-loop g l =
    let d = g.D.OrderedDev in
    let m : Machine d.State = machine_of d in
    record {
      driven : (later : List Choice) → driven m (replicate (l.repeated.times - l.counter) l.repeated.choice ++ later) (record { dev = d.state l.dev; rest = l.plan })
          ≡ driven m (replicate l.repeated.times l.repeated.choice ++ later) (record { dev = d.state l.fn.dev; rest = l.fn.plan });
      valid : d.valid (d.state l.dev);
      can : CanSend (d.seen (d.state l.dev)) l.plan;
      kept : RunKeeps (d.seen (d.state l.fn.dev)) l.fn.plan (d.seen (d.state l.dev)) l.plan;
      end : l.reached ≡ end_of (d.seen (d.state l.dev));
      empty : (d.seen (d.state l.dev)).waiting ≡ [];
      on : d.stays_on (d.state l.fn.dev) → d.stays_on (d.state l.dev);
      sound : d.sound (d.state l.fn.dev) → d.sound (d.state l.dev) × ((d.seen (d.state l.dev)).faults ≡ (d.seen (d.state l.fn.dev)).faults);
    }
