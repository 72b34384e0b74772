use Rattle.minix_tables.specs.directories.laws.Found.{found, no_slot, not_found}
use Rattle.minix_tables.proofs.directories.laws.names_are_found.Goals as goal

pub returns : goal.returns
returns c = record { found = found; none = λ slots name. (no_slot slots name, not_found slots name) }
