use Rattle.crash_laws.proofs.Commits.{kept_commits_are_prefix}
use Rattle.crash_laws.proofs.Faults.{never_written, superblock_known, logged_known}
use Rattle.crash_laws.proofs.laws.headline.volume_and_journal_are_found.Goals as goal

pub returns : goal.returns
returns c = record {
  never_written = λ g s m block cut reserved none. never_written cut.rules cut.closed (kept_commits_are_prefix cut.closed cut.rules.fits cut.rules.commits) block reserved none;
  superblock = λ g s m cut. superblock_known cut.rules cut.closed (kept_commits_are_prefix cut.closed cut.rules.fits cut.rules.commits);
  transactions = λ g s m t cut i. logged_known cut.rules cut.closed (kept_commits_are_prefix cut.closed cut.rules.fits cut.rules.commits) t i;
}
