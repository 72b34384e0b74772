use Rattle.std.proofs.Common.{rules}
use Rattle.std.proofs.lemmas.List.Sorted.{answers_always}
use Rattle.flush_actor.specs.declared.conflicts.commits.CommitBlock.{CommitBlock}
use Rattle.number_sets.specs.laws.Keyed.{found_key}
use Rattle.flush_actor.proofs.conflicts.commits.place_of.Goals as goal

pub returns : goal.returns
returns c =
    found_key (λ (b : CommitBlock). b.transaction) c.args.commits.now c.args.tx c.binary_search_by_key.result c.requires c.binary_search_by_key.ensures.bound
    (c.binary_search_by_key.ensures.position (λ (b : CommitBlock). b.transaction) (answers_always _ _ _ (λ f a r g called. search rules)))
