-- The numbers of the steps at which a device fails or loses its power.
use Rattle.std.specs.Prelude.{ℕ, ◌-◌, ◌==◌, Bool, false, Option, Some, None, zero, suc}
use Rattle.std.specs.Option.{option_map, option_map_or}

-- a number is given, and it is this one
abbrev pub is_number : Option ℕ → ℕ → Bool
is_number at n = option_map_or (λ k. n == k) at false

-- ---- counting down

-- the next one fails
abbrev pub is_next : Option ℕ → Bool
is_next at = option_map_or (λ n. n == 1) at false

-- one was made
abbrev pub counted : Option ℕ → Option ℕ
counted at = option_map (λ n. n - 1) at

-- it is still to come
abbrev pub to_come : Option ℕ → ℕ
to_come None = 0
to_come (Some zero) = 0
to_come (Some (suc n)) = 1
