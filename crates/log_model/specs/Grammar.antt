-- The log as a grammar: whole transactions one after the other, each with the next sequence, up to where no whole one
-- stands.
use Rattle.std.specs.Prelude.{◌≡◌, ℕ, ◌+◌, List, [], ◌∷◌, ◌++◌}
use Rattle.log_model.specs.Log.{Commits, Format}
use Rattle.log_model.specs.Marks.{Transaction}
use Rattle.log_model.specs.Parts.{Part, AreParts, blocks_of_parts, bodies_of_parts, revokes_of_parts}

-- These blocks begin with a whole transaction of this sequence: descriptors with their bodies and revoke blocks, in any
-- order, and a commit block; and then come the others.
pub record BeginsWith (f : Format) (seq : ℕ) (blocks : List (List ℕ)) (t : Transaction) (rest : List (List ℕ)) : Type 0 where
  pub parts : List Part
  pub commit : List ℕ
  pub split : blocks ≡ blocks_of_parts parts ++ commit ∷ rest
  pub are : AreParts f seq parts
  pub commits : f.header commit ≡ Commits seq
  pub transaction : t ≡ record { bodies = bodies_of_parts f parts; revokes = revokes_of_parts parts }

-- the transactions of these blocks from this sequence on
pub data IsLogOf (f : Format) : ℕ → List (List ℕ) → List Transaction → Type 0 where
  ends : {seq : ℕ} {blocks : List (List ℕ)} → ((t : Transaction) (rest : List (List ℕ)) → BeginsWith f seq blocks t rest → ⊥) → IsLogOf f seq blocks []
  goes_on : {seq : ℕ} {blocks rest : List (List ℕ)} {t : Transaction} {txs : List Transaction} → BeginsWith f seq blocks t rest → IsLogOf f (seq + 1) rest txs → IsLogOf f seq blocks (t ∷ txs)
