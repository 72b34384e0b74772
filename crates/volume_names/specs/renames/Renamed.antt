-- What a rename is on a volume, where both paths have led.
use Rattle.std.specs.Prelude.{ℕ, ◌==◌, Bool, true, false, not, ◌&&◌, if◌then◌else◌, List, Option, Some, None}
use Rattle.tree_model.specs.Maps.{at_number, at_name}
use Rattle.volume_model.specs.declared.placed.Placed.{Placed}
use Rattle.volume_model.specs.declared.placed.Part.{Part}
use Rattle.volume_model.specs.declared.placed.Part.TheVariants as parts
use Rattle.volume_steps.specs.Now.{VolumeNow, Change, unchanged}
use Rattle.volume_steps.specs.Calls.{move_in, move_below, replace_in}

-- the birth to which a name leads in a directory; None in a file
abbrev pub named_in : Part → List ℕ → Option ℕ
named_in (parts.Directory d) name = at_name d.names name
named_in (parts.File zones) name = None

-- the birth of the node with this name, in the directory with this birth
abbrev pub birth_named : List (ℕ × Placed) → ℕ → List ℕ → Option ℕ
birth_named nodes parent name = elim (at_number nodes parent) as (λ _. Option ℕ) [ None ↦ None | Some p ↦ named_in p.part name ]

abbrev pub is_directory : Part → Bool
is_directory (parts.Directory d) = true
is_directory (parts.File zones) = false

-- false where no node has this birth
abbrev pub is_directory_at : List (ℕ × Placed) → ℕ → Bool
is_directory_at nodes birth = elim (at_number nodes birth) as (λ _. Bool) [ None ↦ false | Some p ↦ is_directory p.part ]

-- The node has the other name in place of its own: a file that had it loses it, and a directory may get another parent.
-- Where both names are of one node, nothing changes.
abbrev pub renamed_by : VolumeNow → ℕ → ℕ → List ℕ → ℕ → List ℕ → ℕ → Option ℕ → Change
renamed_by v tx from name to other birth None =
    if is_directory_at v.contents.nodes birth && not (to == from) then move_below v from name to other birth else move_in v from name to other birth
renamed_by v tx from name to other birth (Some gone) = if gone == birth then unchanged v else replace_in v tx from name to other birth gone

-- the node with this birth, `name` in directory `from`, is `other` in directory `to` after it
abbrev pub renamed_at : VolumeNow → ℕ → ℕ → List ℕ → ℕ → List ℕ → ℕ → Change
renamed_at v tx from name to other birth = renamed_by v tx from name to other birth (birth_named v.contents.nodes to other)
