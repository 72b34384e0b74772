-- The transactions that a medium has: those of the commit blocks that are kept.
use Rattle.std.specs.Prelude.{ℕ, zero, suc, ◌≤◌, Bool, true, false, List, length, Option, slice_get, nat_le, ◌&&◌, if◌then◌else◌}
use Rattle.std.specs.Option.{option_and_then, option_map_or}
use Rattle.order_model.specs.declared.request.Request.{Request}
use Rattle.order_model.specs.declared.note.Note.{Note}
use Rattle.order_model.specs.declared.note.Note.TheVariants.{Commit}
use Rattle.order_model.specs.OrderClosed.{kind_block, IsKept}
use Rattle.crash_laws.specs.Session.{Session, Medium, IsCommit}

-- how many numbers below n pass a test
abbrev pub count_below : (ℕ → Bool) → ℕ → ℕ
count_below test zero = 0
count_below test (suc n) = if test n then suc (count_below test n) else count_below test n

abbrev pub is_commit : Note → Bool
is_commit (Commit k) = true
is_commit other = false

-- request i is kept, as a test
abbrev pub is_kept : List Request → List (Option ℕ) → ℕ → Bool
is_kept requests origins i =
    option_map_or (λ o. nat_le i o)
    (option_and_then (λ (o : Option ℕ). o) (option_and_then (λ b. slice_get origins b) (option_and_then (λ (r : Request). kind_block r.kind) (slice_get requests i)))) false

-- request i is a commit block, and the medium has kept it
abbrev pub is_kept_commit : Session → Medium → ℕ → Bool
is_kept_commit s m i = option_map_or is_commit (slice_get s.notes i) false && is_kept s.requests m.origins i

-- the number of kept requests that are commit blocks
abbrev pub found : Session → Medium → ℕ
found s m = count_below (is_kept_commit s m) (length s.notes)

-- F is the last transaction whose commit block is kept, and those of all before are kept too
pub record IsFound (s : Session) (m : Medium) (F : ℕ) : Type 0 where
  pub reached : (k i : ℕ) → IsCommit s k i → IsKept s.requests m.origins i → k ≤ F
  pub there : (k : ℕ) → 1 ≤ k → k ≤ F → (i : ℕ) × IsCommit s k i × IsKept s.requests m.origins i
