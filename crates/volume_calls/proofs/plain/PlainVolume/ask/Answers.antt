use Rattle.std.proofs.Common.{◌≡◌, ◌∙◌}
use Rattle.std.proofs.lemmas.Result.{IfOk-weaker}
use Rattle.tree_model.specs.Calls.{reply_from, reply_of, row}
use Rattle.volume_steps.specs.Now.{VolumeNow, tree_of_now, room_of}
use Rattle.volume_calls.proofs.AskReplies.{quiet_replies}
use Rattle.volume_calls.proofs.plain.PlainVolume.ask.Goals as goal

pub returns : goal.returns
returns c n =
    let v : VolumeNow = c.args.self.now in
    IfOk-weaker c.row_reply.result
    (λ reply. reply ≡ reply_from (row (tree_of_now v) n c.args.call.now))
    (λ reply. reply ≡ reply_of (room_of v.geometry) (tree_of_now v) n c.args.call.now)
    (λ reply is. is ∙ quiet_replies (room_of v.geometry) (tree_of_now v) n c.args.call.now c.requires)
    (c.row_reply.ensures n)
