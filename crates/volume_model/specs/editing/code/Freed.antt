-- A zone of numbers goes where it is there and does not stay.
use Rattle.std.specs.Prelude.{ℕ, nat_eq, Bool, not, ◌&&◌, if◌then◌else◌, List, [], ◌∷◌}

unfoldable pub gone_of : ℕ → Bool → List ℕ
gone_of zone keep = if not (nat_eq zone 0) && not keep then zone ∷ [] else []
