-- Homes, as the code keeps them.
use Rattle.std.specs.Prelude.{ℕ, ◌+◌, List, [], ◌∷◌, ◌++◌, map, Option, Some, None}
use Rattle.log_model.specs.Marks.{Logged}
use Rattle.journal_replay.specs.declared.home.Home.{Home}
use Rattle.journal_replay.specs.declared.home.LogBody.{LogBody}
use Rattle.journal_replay.specs.Commands.{for_block}

abbrev pub logged : Home → Logged
logged h = for_block h.block h.body

abbrev pub logged_of : List Home → List Logged
logged_of homes = map logged homes

-- the bodies of a log as the model has them
abbrev pub logged_bodies : List LogBody → List Logged
logged_bodies bodies = map (λ (b : LogBody). for_block b.block b.body) bodies

-- the entry of a block as a list
abbrev pub entry : ℕ → Option (List ℕ) → List Logged
entry b None = []
entry b (Some x) = for_block b x ∷ []

-- the bodies of a table whose first entry is that of block i
abbrev pub listed : ℕ → List (Option (List ℕ)) → List Logged
listed i [] = []
listed i (o ∷ os) = entry i o ++ listed (i + 1) os
