-- Transactions that are committed one after the other, while no body is sent home.
use Rattle.std.specs.Prelude.{ℕ, ◌-◌, List, [], ◌∷◌}
use Rattle.log_model.specs.Marks.{Transaction}
use Rattle.log_model.specs.Ring.{places_on, places_from}
use Rattle.journal_ring.specs.LogRing.{LogRing, ring_size, commit_bodies}

-- the transactions are committed in this order, the first one first
abbrev pub all_committed : LogRing → List Transaction → LogRing
all_committed r [] = r
all_committed r (t ∷ ts) = all_committed (commit_bodies t.revokes t.bodies r) ts

-- the places in use, from the oldest on: as many as are used, up to before the head
abbrev pub places_in_use : LogRing → List ℕ
places_in_use r = places_from r.places r.used (places_on r.places (ring_size r - r.used) r.head)
