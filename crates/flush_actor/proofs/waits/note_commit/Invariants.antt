use Rattle.std.proofs.Common.{◌≡◌, map, length}
use Rattle.flush_actor.proofs.Waiting.{changed_from}
use Rattle.flush_actor.specs.Waits.{need_commit}
use Rattle.flush_actor.proofs.waits.note_commit.Given as goal

abbrev pub invariant-loop-at : goal.invariant-loop-at
invariant-loop-at l = (changed_from (need_commit l.tx l.id) l.at l.waits.items ≡ map (need_commit l.tx l.id) l.fn.waits.items) × (length l.waits.items ≡ l.at-end)
