-- How the code keeps its values.
use Rattle.std.specs.Prelude.{◌≡◌, ℕ, ◌-◌, ◌≤◌, List, length, drop}
use Rattle.byte_fields.specs.Fields.{zeros}

-- a block that is written up to a place, with zeros behind it
pub record IsFront (at : ℕ) (b : List ℕ) : Type 0 where
  pub size : length b ≡ 1024
  pub within : at ≤ 1024
  pub rest : drop at b ≡ zeros (1024 - at)
