use Rattle.volume_steps.specs.Now.{VolumeNow}
use Rattle.volume_steps.specs.Plain.{IsPlainNow}
use Rattle.volume_calls.proofs.AskSteps.{left_counted}
use Rattle.volume_calls.proofs.plain.PlainVolume.zones_left.Goals as goal

pub returns : goal.returns
returns c =
    let p = c.parts.inside in
    let v : VolumeNow = record { geometry = p.geometry; contents = record { blocks = p.blocks; nodes = p.nodes.entries }; zones = p.zones } in
    let plain : IsPlainNow v = rw c.parts.view_is c.self.invariant.plain in
    rw (← c.self.view_is, ← c.parts.view_is, c.free_count.ensures, c.quarantined.ensures) (left_counted v plain.in_use)
