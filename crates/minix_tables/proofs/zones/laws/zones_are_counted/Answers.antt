use Rattle.minix_tables.specs.zones.laws.Counts.{all_counted, taken_counts, given_counts, released_free, released_quarantined}
use Rattle.minix_tables.proofs.zones.laws.zones_are_counted.Goals as goal

pub returns : goal.returns
returns c = record {
  all = λ m. all_counted m.states;
  taken = taken_counts;
  given = given_counts;
  released = λ m tx. (released_free tx m.states, released_quarantined tx m.states);
}
