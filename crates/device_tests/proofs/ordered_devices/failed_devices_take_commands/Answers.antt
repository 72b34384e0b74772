use Rattle.std.specs.Prelude.{◌+◌, length}
use Rattle.std.proofs.Common.{◌∙◌}
use Rattle.device_tests.proofs.Devices.{is_free, is_full, leaves_place}
use Rattle.device_tests.proofs.ordered_devices.failed_devices_take_commands.Goals as goal

pub returns : goal.returns
returns g c =
    let d = g.D.OrderedDev in
    let laws = g.met.D.OrderedDev in
    record {
      room = λ s v on few. laws.free_slot s v ∙ is_free (d.seen s).off (length (d.seen s).took) ((d.seen s).depth + (d.seen s).transfers_made) on few;
      full = λ s v many. laws.free_slot s v ∙ is_full (d.seen s).off (length (d.seen s).took) ((d.seen s).depth + (d.seen s).transfers_made) many;
      place = λ s pick v lt few on.
          let step = laws.transfers s pick v lt in
          let next = d.seen (d.transferred s pick) in
          laws.free_slot (d.transferred s pick) step.0
          ∙ is_free next.off (length next.took) (next.depth + next.transfers_made) on (leaves_place (d.seen s) next step.1 few);
    }
