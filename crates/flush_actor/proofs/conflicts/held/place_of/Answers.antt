use Rattle.std.proofs.Common.{rules}
use Rattle.std.proofs.lemmas.List.Sorted.{answers_always}
use Rattle.flush_actor.specs.conflicts.laws.Holds.{block_of}
use Rattle.number_sets.specs.laws.Keyed.{found_key}
use Rattle.flush_actor.proofs.conflicts.held.place_of.Goals as goal

pub returns : goal.returns
returns c =
    found_key block_of c.args.held.now c.args.block c.binary_search_by_key.result c.requires c.binary_search_by_key.ensures.bound
    (c.binary_search_by_key.ensures.position block_of (answers_always _ _ _ (λ f a r g called. search rules)))
