use Rattle.number_sets.proofs.Places.{found_place}
use Rattle.number_sets.proofs.search.place_u32.Goals as goal

pub returns : goal.returns
returns c = found_place c.args.numbers.now c.args.number c.binary_search.result c.requires c.binary_search.ensures.position
