-- The notes of a call one by one, as the code takes them.
use Rattle.std.specs.Prelude.{ℕ, List, [], ◌∷◌}
use Rattle.flush_actor.specs.conflicts.Conflicts.{want}
use Rattle.journal_ring.specs.running.Open.{noted}
use Rattle.journal_ring.specs.running.Running.{touched_one, revoked_one, changed_one}
use Rattle.commit_actor.specs.Actor.{CommitActor}
use Rattle.commit_actor.specs.Calls.{with_flush, open_of, with_open}

-- the running transaction notes these blocks as touched
abbrev pub touches : List ℕ → CommitActor → CommitActor
touches [] a = a
touches (b ∷ bs) a = touches bs (with_open a (noted (touched_one b a.part.running) (open_of a)))

-- it notes these blocks as revoked
abbrev pub revokes : List ℕ → CommitActor → CommitActor
revokes [] a = a
revokes (b ∷ bs) a = revokes bs (with_open a (noted (revoked_one b a.part.running) (open_of a)))

-- it notes these nodes as changed
abbrev pub changes : List ℕ → CommitActor → CommitActor
changes [] a = a
changes (f ∷ fs) a = changes fs (with_open a (noted (changed_one f a.part.running) (open_of a)))

-- those of these blocks that are held are wanted
abbrev pub wants : List ℕ → CommitActor → CommitActor
wants [] a = a
wants (b ∷ bs) a = wants bs (with_flush a (record a.part.flush { conflicts = want (b ∷ []) a.part.flush.conflicts }))
