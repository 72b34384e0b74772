use Rattle.crash_laws.proofs.TreeHistories.{real_trees, tree_rooted}
use Rattle.crash_laws.proofs.Places.{place_of, place_is}
use Rattle.crash_laws.proofs.laws.sessions.calls_on_trees_make_a_history.Goals as goal

pub returns : goal.returns
returns c = record {
  trees = real_trees;
  rooted = tree_rooted;
  places = λ g tree rooted. (place_of tree rooted, place_is tree rooted g);
}
