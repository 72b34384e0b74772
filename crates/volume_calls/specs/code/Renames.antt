-- A rename as the code has it.
use Rattle.std.specs.Prelude.{◌≡◌, ◌+◌, ℕ, List, length, Some}
use Rattle.std.specs.Option.{option_map}
use Rattle.minix_tables.specs.directories.Slots.{used_count}
use Rattle.tree_model.specs.Maps.{at_name}
use Rattle.tree_model.specs.Calls.{Found, Place, Move}
use Rattle.volume_model.specs.Trees.{directory_from, node_now}
use Rattle.volume_calls.specs.declared.walk.Found.{Found as FoundNode}
use Rattle.volume_calls.specs.declared.walk.Place.{Place as NamePlace}
use Rattle.volume_calls.specs.declared.renames.Moved.{Moved}

-- a node as the tree has it, by the blocks of the volume
abbrev pub found_from : List (List ℕ) → FoundNode → Found
found_from blocks f = record { birth = f.birth; node = node_now blocks f.placed.now }

abbrev pub place_from : NamePlace → Place
place_from p = record { parent = p.parent; directory = directory_from p.directory.now; name = p.name }

abbrev pub move_from : List (List ℕ) → Moved → Move
move_from blocks m = record { moved = found_from blocks m.moved; from = place_from m.from; to = place_from m.to; target = option_map (found_from blocks) m.target }

-- The new parent has two slots for its dots and one for each name; where it is the old one too, it has the old name.
pub record HasSlots (m : Moved) : Type 0 where
  pub counted : used_count m.to.directory.now.slots ≡ 2 + length m.to.directory.now.names
  pub within : m.to.parent ≡ m.from.parent → at_name m.to.directory.now.names m.from.name ≡ Some m.moved.birth
