use Rattle.volume_steps.specs.Now.{VolumeNow, tree_of_now, room_of}
use Rattle.volume_calls.proofs.AskSteps.{answers_done, answers_refused, needs_wanted, needs_refused}
use Rattle.volume_calls.proofs.plain.PlainVolume.asked.Goals as goal

pub returns-in-Ok-clause-answer : goal.returns-in-Ok-clause-answer
returns-in-Ok-clause-answer c n before =
    let v : VolumeNow = c.args.self.now in
    answers_done (room_of v.geometry) (tree_of_now v) n c.args.call.now c.in-Ok.wants c.if_room.result (c.in-Ok.ensures n before) c.if_room.ensures

pub returns-in-Ok-clause-zones : goal.returns-in-Ok-clause-zones
returns-in-Ok-clause-zones c n before = let v : VolumeNow = c.args.self.now in needs_wanted (tree_of_now v) n c.args.call.now c.in-Ok.wants (c.in-Ok.ensures n before)

pub returns-in-Err-clause-answer : goal.returns-in-Err-clause-answer
returns-in-Err-clause-answer c n before =
    let v : VolumeNow = c.args.self.now in
    answers_refused (room_of v.geometry) (tree_of_now v) n c.args.call.now c.in-Err.reply (c.in-Err.ensures n before)

pub returns-in-Err-clause-zones : goal.returns-in-Err-clause-zones
returns-in-Err-clause-zones c n before = let v : VolumeNow = c.args.self.now in needs_refused (tree_of_now v) n c.args.call.now c.in-Err.reply (c.in-Err.ensures n before)
