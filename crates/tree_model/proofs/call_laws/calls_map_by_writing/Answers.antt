-- Blocks that calls write.
use Rattle.tree_model.proofs.Histories.{only_writes_map, written_is_mapped, unwritten_stays}
use Rattle.tree_model.proofs.call_laws.calls_map_by_writing.Goals as goal

pub returns : goal.returns
returns c = record {
  only = λ room tree plain. only_writes_map room tree plain.rooted;
  mapped = λ room tree plain. written_is_mapped room tree plain.rooted;
  kept = λ room tree plain. unwritten_stays room tree plain.rooted;
}
