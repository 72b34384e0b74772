-- What a step of the commit actor does to what stands beside the journal.
use Rattle.std.specs.Prelude.{ℕ, Bool, List, [], ◌∷◌, ◌++◌, Option, Some, None, if◌then◌else◌}

-- one more closed transaction, with this entry as its last, where the step noted one
abbrev pub cuts_after : Bool → ℕ → List ℕ → List ℕ
cuts_after noted now cuts = if noted then cuts ++ now ∷ [] else cuts

-- the zones of a transaction are released where it was the one on its way before, and none is after
abbrev pub released : {V : Type 0} → (V → ℕ → V) → Option ℕ → Option ℕ → V → V
released release None after v = v
released release (Some k) (Some j) v = v
released release (Some k) None v = release v k
