use Rattle.std.proofs.Common.{ap, ◌∙◌}
use Rattle.tree_model.specs.Calls.{outcome}
use Rattle.volume_in_use.specs.now.Noted.{Noted}
use Rattle.volume_steps.specs.Calls.{Called}
use Rattle.volume_steps.specs.Now.{VolumeNow, tree_of_now, room_of}
use Rattle.volume_calls.proofs.CalledSteps.{refused_called, may_change}
use Rattle.volume_calls.proofs.plain.PlainVolume.apply.Goals as goal

pub returns-in_ok-touched-in-Refused-clause-done : goal.returns-in_ok-touched-in-Refused-clause-done
returns-in_ok-touched-in-Refused-clause-done c =
    let v : VolumeNow = c.args.self.now in
    let made : Noted → Called = λ t. record { change = record { volume = v; touched = t.touched }; reply = c.in-Refused.reply } in
    ap made c.in_ok-touched-in-Refused.ensures
    ∙ refused_called v c.args.n c.args.tx c.args.call.now c.in-Refused.reply (c.in-Refused.ensures c.args.n c.requires.room.born)

pub perform-requires : goal.perform-requires
perform-requires c =
    let v : VolumeNow = c.args.self.now in
    record { room = c.requires.room; may = may_change (outcome (room_of v.geometry) (tree_of_now v) c.args.n c.args.call.now) (c.in-Change.ensures c.args.n c.requires.room.born) }
