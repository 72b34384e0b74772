-- What is left of a plan: log blocks and superblocks, and the commit block at its end.
use Rattle.std.specs.Prelude.{◌≡◌, ℕ, ◌⊎◌, Bool, true, false, List, [], ◌∷◌}
use Rattle.order_model.specs.declared.note.Note.TheVariants as notes
use Rattle.order_model.specs.declared.note.Note.{Note}
use Rattle.journal_ring.specs.running.Plan.{Planned}

abbrev pub is_plan_note : Note → Bool
is_plan_note notes.Super = true
is_plan_note (notes.Revoke k) = true
is_plan_note (notes.Descriptor k) = true
is_plan_note (notes.Body k b) = true
is_plan_note other = false

-- a plan ends with the commit block of k, and the requests before it are log blocks and superblocks
abbrev pub IsRestOf : ℕ → List Planned → Type 0
IsRestOf k [] = ⊥
IsRestOf k (p ∷ []) = p.note ≡ notes.Commit k
IsRestOf k (p ∷ q ∷ qs) = (is_plan_note p.note ≡ true) × IsRestOf k (q ∷ qs)

-- some request before the last is a barrier
abbrev pub BarrierAhead : List Planned → Type 0
BarrierAhead [] = ⊥
BarrierAhead (p ∷ []) = ⊥
BarrierAhead (p ∷ q ∷ qs) = (p.barrier ≡ true) ⊎ BarrierAhead (q ∷ qs)
