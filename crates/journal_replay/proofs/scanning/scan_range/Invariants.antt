use Rattle.std.proofs.Common.{◌≡◌, ◌-◌, map, true}
use Rattle.std.specs.List.{range_with_len}
use Rattle.journal_blocks.specs.Log.{read_log, entry_at}
use Rattle.order_model.specs.Machine.{machine_of}
use Rattle.journal_replay.specs.Driving.{WereRead}
use Rattle.journal_replay.specs.code.Scans.{after, HasRead}
use Rattle.journal_replay.proofs.scanning.scan_range.Given as goal

-- what is still to be read from here leads where all of it does
abbrev pub invariant-loop-place : goal.invariant-loop-place
invariant-loop-place g l =
    let d = g.D.OrderedDev in
    let image = (d.seen (d.state l.fn.dev)).surface in
    record {
      log : read_log l.wide l.base (after true l.scan) (map (entry_at l.base image) (range_with_len l.place (l.to - l.place)))
          ≡ read_log l.wide l.base (after true l.fn.scan) (map (entry_at l.base image) (range_with_len l.from (l.to - l.from)));
      valid : d.valid (d.state l.dev);
      read : HasRead (d.seen (d.state l.fn.dev)) (d.seen (d.state l.dev));
      on : d.stays_on (d.state l.fn.dev) → d.stays_on (d.state l.dev);
      reads : (first : d.State) → WereRead (machine_of d) first (d.state l.fn.dev) → WereRead (machine_of d) first (d.state l.dev);
      sound : d.sound (d.state l.fn.dev) → d.sound (d.state l.dev) × ((d.seen (d.state l.dev)).faults ≡ (d.seen (d.state l.fn.dev)).faults);
    }
