-- How a transaction is written: descriptors with their bodies and revoke blocks, in any order, and a commit block.
use Rattle.std.specs.Prelude.{◌≡◌, ℕ, List, [], ◌∷◌, ◌++◌, length}
use Rattle.log_model.specs.Marks.{Logged}
use Rattle.log_model.specs.Log.{Tag, Describes, Revokes, Format}

-- a part of a transaction: a descriptor with the bodies behind it, or a revoke block
pub data Part : Type 0 where
  Describing : List ℕ → List Tag → List (List ℕ) → Part
  Revoking : List ℕ → List ℕ → Part

-- a part's blocks as they stand in the log: the descriptor with its bodies behind it, or the revoke block
abbrev pub blocks_of_part : Part → List (List ℕ)
blocks_of_part (Describing block tags bodies) = block ∷ bodies
blocks_of_part (Revoking block numbers) = block ∷ []

-- bodies as they are read by their tags
abbrev pub restored : Format → List Tag → List (List ℕ) → List Logged
restored f [] bodies = []
restored f (t ∷ ts) [] = []
restored f (t ∷ ts) (b ∷ bs) = record { block = t.block; body = f.restore t b } ∷ restored f ts bs

-- what a part logs; a revoke block logs nothing
abbrev pub bodies_of_part : Format → Part → List Logged
bodies_of_part f (Describing block tags bodies) = restored f tags bodies
bodies_of_part f (Revoking block numbers) = []

-- the blocks that a part revokes; a descriptor revokes none
abbrev pub revokes_of_part : Part → List ℕ
revokes_of_part (Describing block tags bodies) = []
revokes_of_part (Revoking block numbers) = numbers

-- its first block reads as what it is, with this sequence, and there are as many bodies as tags
abbrev pub IsPart : Format → ℕ → Part → Type 0
IsPart f seq (Describing block tags bodies) = (f.header block ≡ Describes seq tags) × (length tags ≡ length bodies)
IsPart f seq (Revoking block numbers) = f.header block ≡ Revokes seq numbers

abbrev pub blocks_of_parts : List Part → List (List ℕ)
blocks_of_parts [] = []
blocks_of_parts (p ∷ ps) = blocks_of_part p ++ blocks_of_parts ps

abbrev pub bodies_of_parts : Format → List Part → List Logged
bodies_of_parts f [] = []
bodies_of_parts f (p ∷ ps) = bodies_of_part f p ++ bodies_of_parts f ps

abbrev pub revokes_of_parts : List Part → List ℕ
revokes_of_parts [] = []
revokes_of_parts (p ∷ ps) = revokes_of_part p ++ revokes_of_parts ps

-- all of them are parts with this one sequence
abbrev pub AreParts : Format → ℕ → List Part → Type 0
AreParts f seq [] = Unit {0}
AreParts f seq (p ∷ ps) = IsPart f seq p × AreParts f seq ps
