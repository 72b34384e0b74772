use Rattle.crash_laws.specs.Found.{found}
use Rattle.crash_laws.proofs.Commits.{kept_commits_are_prefix}
use Rattle.crash_laws.proofs.Versions.{recovered_agrees, page_block_untouched}
use Rattle.crash_laws.proofs.Volumes.{prefix_of_transactions}
use Rattle.crash_laws.proofs.laws.headline.metadata_recovered_is_that_of_a_prefix.Goals as goal

pub returns : goal.returns
returns c = record {
  metadata = λ g s m disk cut recovers. recovered_agrees cut.rules cut.closed (kept_commits_are_prefix cut.closed cut.rules.fits cut.rules.commits) recovers;
  tree = λ g s m tree_after recovered cut trees recovers. prefix_of_transactions g s m (found s m) tree_after recovered cut.rules trees cut.closed (kept_commits_are_prefix cut.closed cut.rules.fits cut.rules.commits) recovers;
  untouched = λ g h s m disk f i cut trees pages recovers mapped low. page_block_untouched cut.rules cut.closed (kept_commits_are_prefix cut.closed cut.rules.fits cut.rules.commits) recovers trees pages f i mapped low;
}
