use Rattle.minix_tables.specs.directories.laws.Slots.{with_slot-count}
use Rattle.minix_tables.specs.directories.laws.Edited.{added_here, added_others, added_places, added_once}
use Rattle.minix_tables.proofs.directories.laws.added_names_are_found.Goals as goal

pub returns : goal.returns
returns c = record { here = added_here; others = added_others; places = added_places; once = added_once; counted = with_slot-count }
