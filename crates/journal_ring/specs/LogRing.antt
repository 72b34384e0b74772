-- The ring of the log as plain data: its places, and the committed bodies that are still to be sent home.
use Rattle.std.specs.List.{filter}
use Rattle.std.specs.Prelude.{ℕ, ◌+◌, ◌-◌, Bool, not, List, [], ◌∷◌}
use Rattle.log_model.specs.Marks.{Logged}
use Rattle.log_model.specs.Ring.{Ring, places_on}
use Rattle.number_sets.specs.Keyed.{put_by}
use Rattle.number_sets.specs.Sets.{has}

-- the places that are in use stand right before the head, round the ring
pub record LogRing : Type 0 where
  pub places : Ring
  -- where the next log block goes, and how many before it are in use
  pub head : ℕ
  pub used : ℕ
  -- the superblock on the disk says that there is a log
  pub started : Bool
  -- committed bodies that are still to be sent home, in rising order of block
  pub homes : List Logged

-- in places, used or not
abbrev pub ring_size : LogRing → ℕ
ring_size r = r.places.past - r.places.first

-- for how many log blocks more there is room
abbrev pub ring_free : LogRing → ℕ
ring_free r = ring_size r - r.used

-- so many blocks are placed
abbrev pub place_blocks : ℕ → LogRing → LogRing
place_blocks n r = record r { head = places_on r.places n r.head; used = r.used + n }

-- a body waits in the place of the one of its block, or else where it stands in order
abbrev pub put_home : List Logged → Logged → List Logged
put_home hs l = put_by (λ (h : Logged). h.block) hs l

-- of two bodies of one block the later one waits
abbrev pub put_homes : List Logged → List Logged → List Logged
put_homes hs [] = hs
put_homes hs (l ∷ ls) = put_homes (put_home hs l) ls

-- a transaction's commit block is submitted: first its revokes, then its bodies
abbrev pub commit_bodies : List ℕ → List Logged → LogRing → LogRing
commit_bodies revokes bodies r = record r { homes = put_homes (filter (λ (h : Logged). not (has revokes h.block)) r.homes) bodies }

-- the home write of the lowest block is submitted
abbrev pub home_sent : LogRing → LogRing
home_sent r = record r { homes = elim r.homes as (λ _. List Logged) [ [] ↦ [] | h ∷ hs ↦ hs ] }

-- the superblock of a new tail is submitted: the log is free
abbrev pub all_home : LogRing → LogRing
all_home r = record r { used = 0 }
