-- How a path is walked in its text.
use Rattle.std.specs.Prelude.{ℕ, ◌==◌, List, [], ◌∷◌, Result, Ok, Err}
use Rattle.std.specs.List.{slice_split}
use Rattle.tree_model.specs.declared.call.Reply.{Reply}
use Rattle.tree_model.specs.Maps.{at_number}
use Rattle.tree_model.specs.Trees.{Refusal, step_at, led_to}
use Rattle.tree_model.specs.Calls.{Tree, refused_walk, last_name, all_but_last}

-- the names in a text that is, over and over, a slash and a name; none in an empty one
abbrev pub names_below : List ℕ → List (List ℕ)
names_below [] = []
names_below (b ∷ bytes) = slice_split (λ b. b == 47) bytes

-- a step, or the reply that refuses it
abbrev pub replied : Result ℕ Refusal → Result ℕ Reply
replied (Err refusal) = Err (refused_walk refusal)
replied (Ok birth) = Ok birth

-- where a name leads from a node
abbrev pub next_at : Tree → ℕ → List ℕ → Result ℕ Reply
next_at tree birth name = replied (step_at (at_number tree birth) name)

-- where names lead, one after the other
abbrev pub led_from : Tree → ℕ → List (List ℕ) → Result ℕ Reply
led_from tree birth names = replied (led_to tree birth names)

-- the last of some names, and those before it
abbrev pub last_in : List (List ℕ) → List ℕ
last_in [] = []
last_in (name ∷ names) = last_name name names

abbrev pub above_last : List (List ℕ) → List (List ℕ)
above_last [] = []
above_last (name ∷ names) = all_but_last name names
