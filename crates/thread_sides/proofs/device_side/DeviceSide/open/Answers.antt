use Rattle.std.proofs.Common.{◌≡◌, List, [], sym, subst}
use Rattle.order_model.specs.declared.command.Command.{Command}
use Rattle.order_model.specs.declared.completion.Completion.{Completion}
use Rattle.order_model.specs.Machine.{Machine, machine_of}
use Rattle.thread_sides.specs.declared.events.DeviceEvent.{DeviceEvent}
use Rattle.thread_sides.specs.DeviceReplay.{DeviceNow, IsDeviceReplay}
use Rattle.thread_sides.proofs.DeviceSteps.{opens}
use Rattle.thread_sides.proofs.device_side.DeviceSide.open.Goals as goal

with_none : {S : Type 0} (m : Machine S) (first : S) (now : DeviceNow S) (events : List DeviceEvent) (sent : List Completion) (taken : List Command) → events ≡ []
    → IsDeviceReplay m first (record { now = now; events = []; sent = sent; taken = taken }) → IsDeviceReplay m first (record { now = now; events = events; sent = sent; taken = taken })
with_none m first now events sent taken none is = subst (λ (l : List DeviceEvent). IsDeviceReplay m first (record { now = now; events = l; sent = sent; taken = taken })) (sym none) is

pub invariant_of-result : goal.invariant_of-result
invariant_of-result g c =
    let t = g.D.OrderedDev in
    let asked = c.requires in
    with_none (machine_of t) _ _ _ _ _ c.new.ensures.items (opens (machine_of t) (t.state (g.D.OpensDevice.opened_over g.N.PartNames.image g.N.PartNames.setup)) (t.state c.args.dev) _ _ _ asked.opened asked.new asked.flags asked.ends.1 asked.ends.0)
