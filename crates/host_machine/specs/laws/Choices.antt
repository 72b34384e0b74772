-- What both sides of a choice have, the choice has.
use Rattle.std.specs.Prelude.{◌≡◌, Bool, true, false, refl, if◌then◌else◌}

pub either : {X : Type 0} (P : X → Type 0) (t : Bool) (x y : X) → (t ≡ true → P x) → (t ≡ false → P y) → P (if t then x else y)
either P true x y p q = p refl
either P false x y p q = q refl
