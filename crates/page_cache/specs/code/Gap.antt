-- A list that is kept as what stands behind a gap and then what stands before it.
use Rattle.std.specs.Prelude.{ℕ, List, take, drop, ◌++◌}

-- the items, and how many there is room for
pub record Listed (T : Type 0) : Type 0 where
  pub items : List T
  pub capacity : ℕ

-- what stands behind the first n, and then these
abbrev pub turned : {T : Type 0} → ℕ → List T → List T
turned n ring = drop n ring ++ take n ring
