use Rattle.session_core.specs.Core.{opening_of}
use Rattle.session_core.specs.Report.{tree_behind}
use Rattle.system_laws.proofs.CoveredLemmas.Metadata.{file_led, directory_led, one_node}
use Rattle.system_laws.proofs.covered.laws.recovered_trees_have_their_metadata.Goals as goal

pub returns : goal.returns
returns c = record {
  files = λ s end r is. file_led (tree_behind (opening_of s) end.host r.found) is.prefix.tree is.prefix.alike;
  directories = λ s end r is. directory_led (tree_behind (opening_of s) end.host r.found) is.prefix.tree is.prefix.alike;
  no_more = λ s end r is. is.prefix.alike.no_more_paths;
  one_node = λ s end r is. one_node (tree_behind (opening_of s) end.host r.found) is.prefix.tree is.prefix.alike;
}
