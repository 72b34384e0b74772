-- What is noted, one thing after the other.
use Rattle.std.specs.Prelude.{◌≡◌, ℕ, List, [], ◌∷◌, ◌++◌, refl}
use Rattle.std.proofs.Common.{append_assoc}
use Rattle.std.proofs.lemmas.List.{append-nil}
use Rattle.minix_layout.specs.declared.division.Geometry.{Geometry}
use Rattle.volume_model.specs.Edits.{Edit, edited, edited_all}
use Rattle.volume_model.specs.Touched.{Touched, and_then}
use Rattle.volume_steps.specs.Now.{untouched}

-- nothing more
pub and_nothing : (t : Touched) → and_then t untouched ≡ t
and_nothing t = simp append-nil

-- brackets do not matter
pub and_assoc : (s t u : Touched) → and_then (and_then s t) u ≡ and_then s (and_then t u)
and_assoc s t u = simp append_assoc

pub edited_both : (g : Geometry) (es fs : List Edit) (blocks : List (List ℕ)) → edited_all g (edited_all g blocks es) fs ≡ edited_all g blocks (es ++ fs)
edited_both g [] fs blocks = refl
edited_both g (e ∷ es) fs blocks = edited_both g es fs (edited g blocks e)
