-- Maps by number and by name, as the lists of their entries in rising order of the keys.
use Rattle.std.specs.Prelude.{ℕ, List, Option}
use Rattle.std.specs.Ordering.{nat_cmp}
use Rattle.std.specs.declared.cmp.Ordering.{Ordering}
use Rattle.std.specs.Cmp.Lexicographic.{slice_cmp}
use Rattle.std.specs.BTreeMap.{insert_entry, is_at}
use Rattle.std.specs.Map.{lookup, remove_entry}

-- names stand in the order of their bytes
abbrev pub name_cmp : List ℕ → List ℕ → Ordering
name_cmp = slice_cmp nat_cmp

-- what stands at a number
abbrev pub at_number : {X : Type 0} → List (ℕ × X) → ℕ → Option X
at_number entries k = lookup (is_at (nat_cmp k)) entries

-- what stands at a name
abbrev pub at_name : {X : Type 0} → List (List ℕ × X) → List ℕ → Option X
at_name entries name = lookup (is_at (name_cmp name)) entries

-- an entry that stands there is replaced
abbrev pub put_number : {X : Type 0} → List (ℕ × X) → ℕ → X → List (ℕ × X)
put_number entries k x = insert_entry nat_cmp entries k x

abbrev pub put_name : {X : Type 0} → List (List ℕ × X) → List ℕ → X → List (List ℕ × X)
put_name entries name x = insert_entry name_cmp entries name x

abbrev pub without_number : {X : Type 0} → List (ℕ × X) → ℕ → List (ℕ × X)
without_number entries k = remove_entry (is_at (nat_cmp k)) entries
