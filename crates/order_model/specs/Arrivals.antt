-- What waits in order of arrival. Each thing that waits has the number of its arrival, from 0 on, and `number`
-- reads it off. What may go next is each queue's own rule.
use Rattle.std.specs.Prelude.{ℕ, ◌<◌, ◌==◌, not, Bool, List, filter, Option, slice_get}
use Rattle.blk_base.specs.Members.{In, IsAscending}

-- the numbers rise, and next, the number of the one that arrives next, is above them
pub record AreNumbered {T : Type 0} (number : T → ℕ) (next : ℕ) (waiting : List T) : Type 0 where
  pub rising : IsAscending number waiting
  pub below : (w : T) → In w waiting → number w < next

-- those that may go next, in order of arrival
abbrev pub eligible : {T : Type 0} → (List T → T → Bool) → List T → List T
eligible may_go waiting = filter (may_go waiting) waiting

-- the one at place pick of these
abbrev pub picked : {T : Type 0} → (List T → T → Bool) → List T → ℕ → Option T
picked may_go waiting pick = slice_get (eligible may_go waiting) pick

-- all but the one of this number
abbrev pub without : {T : Type 0} → (T → ℕ) → ℕ → List T → List T
without number n waiting = filter (λ w. not (number w == n)) waiting
