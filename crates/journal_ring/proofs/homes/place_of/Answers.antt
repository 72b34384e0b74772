use Rattle.std.proofs.Common.{rules, subst}
use Rattle.std.specs.List.Sorted.{IsSearchInRange}
use Rattle.std.proofs.lemmas.List.Sorted.{answers_always}
use Rattle.journal_ring.proofs.Waiting.{block_of}
use Rattle.number_sets.specs.laws.Keyed.{found_key}
use Rattle.journal_ring.proofs.homes.place_of.Goals as goal

pub returns : goal.returns
returns c =
    found_key block_of c.args.homes.now.items c.args.block c.binary_search_by_key.result c.requires
    (subst (IsSearchInRange c.binary_search_by_key.result) c.args.homes.now.ok.0 c.binary_search_by_key.ensures.bound)
    (c.binary_search_by_key.ensures.position block_of (answers_always _ _ _ (λ f a r g called. search rules)))
