use Rattle.std.proofs.lemmas.Result.{on_ok_weaker}
use Rattle.volume_ops.proofs.SlotScans.{put_birth}
use Rattle.volume_ops.proofs.slots.scan_entry.Goals as goal

pub returns-clause-within : goal.returns-clause-within
returns-clause-within c = on_ok_weaker c.note_name.result (λ e h. rw e (put_birth _ _ _ _ c.requires.used c.requires.fits c.if-slot-g.false h)) c.note_name.ensures.put
