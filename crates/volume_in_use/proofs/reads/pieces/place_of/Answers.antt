use Rattle.std.proofs.Common.{rules}
use Rattle.std.proofs.lemmas.List.Sorted.{answers_always}
use Rattle.number_sets.specs.laws.Keyed.{found_key}
use Rattle.volume_in_use.proofs.ReadsLemmas.Listed.{index_of}
use Rattle.volume_in_use.proofs.reads.pieces.place_of.Goals as goal

pub returns : goal.returns
returns c =
    found_key index_of c.args.zones.now c.args.index c.binary_search_by_key.result c.requires c.binary_search_by_key.ensures.bound
    (c.binary_search_by_key.ensures.position index_of (answers_always _ _ _ (λ f a r g called. search rules)))
