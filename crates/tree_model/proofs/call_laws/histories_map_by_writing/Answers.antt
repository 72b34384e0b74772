-- Blocks along a history.
use Rattle.tree_model.proofs.Histories.{history_mapped, history_written, history_content, unchanged_between, last_wrote, last_is_last}
use Rattle.tree_model.proofs.PlainTrees.{history_plain, history_rooted}
use Rattle.tree_model.proofs.call_laws.histories_map_by_writing.Goals as goal

pub returns : goal.returns
returns c = record {
  plain = history_plain;
  only = λ room opened first entries plain born. history_mapped room opened first entries (history_rooted room opened first entries plain born);
  mapped = λ room opened first entries plain born. history_written room opened first entries (history_rooted room opened first entries plain born);
  kept = λ room opened first entries plain born. history_content room opened first entries (history_rooted room opened first entries plain born);
  unchanged = unchanged_between;
  last = last_wrote;
  none_later = last_is_last;
}
