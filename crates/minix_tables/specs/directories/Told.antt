-- Where the names of a directory stand, as a map tells it beside the slots.
use Rattle.std.specs.Prelude.{◌≡◌, ℕ, List, Option, Some, IfSome}
use Rattle.std.specs.List.{slice_get}
use Rattle.std.specs.Map.{lookup}
use Rattle.std.specs.BTreeMap.{is_at}
use Rattle.std.specs.Ordering.{nat_cmp}
use Rattle.std.specs.Cmp.Lexicographic.{slice_cmp}
use Rattle.minix_layout.specs.declared.slot.Slot.{Slot}

-- the place that a map has for a name
abbrev pub told : List (List ℕ × ℕ) → List ℕ → Option ℕ
told places name = lookup (is_at (slice_cmp nat_cmp name)) places

-- Each slot in use is told by its name, and nothing else is. So no name stands twice.
pub record IsTold (slots : List (Option Slot)) (place : List ℕ → Option ℕ) : Type 0 where
  pub there : (at : ℕ) (s : Slot) → slice_get slots at ≡ Some (Some s) → place s.name ≡ Some at
  pub slot : (name : List ℕ) (at : ℕ) → place name ≡ Some at → (s : Slot) × (slice_get slots at ≡ Some (Some s)) × (s.name ≡ name)

-- a map, where there is one, tells the places of the names
abbrev pub AreTold : List (Option Slot) → Option (List (List ℕ × ℕ)) → Type 0
AreTold slots index = IfSome index (λ places. IsTold slots (told places))
