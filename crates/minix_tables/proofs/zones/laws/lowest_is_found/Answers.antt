use Rattle.minix_tables.specs.zones.laws.Lowest.{lowest_is, lowest_none}
use Rattle.minix_tables.proofs.zones.laws.lowest_is_found.Goals as goal

pub returns : goal.returns
returns c = record { some = lowest_is; none = lowest_none }
