use Rattle.minix_tables.specs.directories.laws.Edited.{removed_gone, removed_others, removed_places, removed_free, removed_once, removed_length, removed_count}
use Rattle.minix_tables.proofs.directories.laws.removed_names_are_gone.Goals as goal

pub returns : goal.returns
returns c = record { gone = removed_gone; others = removed_others; places = removed_places; free = removed_free; once = removed_once; length = removed_length; counted = removed_count }
