-- Lists of calls on a table of conflicts.
use Rattle.std.specs.Prelude.{◌≡◌, ℕ, true, List, [], ◌∷◌}
use Rattle.blk_base.specs.Members.{In, IsAscending}
use Rattle.number_sets.specs.Sets.{IsRising}
use Rattle.flush_actor.specs.conflicts.Conflicts.{Conflicts, is_held, hold, want, unhold}
use Rattle.flush_actor.specs.declared.conflicts.held.Held.{Held}

-- a transaction holds a block; a block is wanted; the holds of a transaction end
pub data ConflictCall : Type 0 where
  holds : ℕ → ℕ → ConflictCall
  wants : ℕ → ConflictCall
  releases : ℕ → ConflictCall

abbrev pub step : Conflicts → ConflictCall → Conflicts
step c (holds k b) = hold k (b ∷ []) c
step c (wants b) = want (b ∷ []) c
step c (releases k) = unhold k c

abbrev pub after : Conflicts → List ConflictCall → Conflicts
after c [] = c
after c (e ∷ es) = after (step c e) es

-- nothing is held
abbrev pub nothing_held : Conflicts
nothing_held = record { held = []; wanted = [] }

-- each block has one holder, and what is wanted is held
pub record IsSound (c : Conflicts) : Type 0 where
  pub once : IsAscending (λ (h : Held). h.block) c.held
  pub rising : IsRising c.wanted
  pub held : (b : ℕ) → In b c.wanted → is_held c b ≡ true
