use Rattle.crash_laws.proofs.Commits.{kept_commits_are_prefix}
use Rattle.crash_laws.proofs.Superblocks.{log_blocks_intact, no_later_commit_header, no_next_commit_header}
use Rattle.crash_laws.proofs.LogReads.{log_of_cut_is_tail_to_found}
use Rattle.crash_laws.proofs.laws.commits.logs_end_at_the_last_kept_commit.Goals as goal

pub returns : goal.returns
returns c = record {
  whole = λ g s m freed k i block cut tail lo hi log put. log_blocks_intact cut.closed cut.rules.fits cut.rules.commits cut.rules.log cut.rules.checkpoints cut.rules.images cut.rules.base (kept_commits_are_prefix cut.closed cut.rules.fits cut.rules.commits) freed k i block tail lo hi log put;
  no_more = λ g s m p cut place. no_next_commit_header cut.closed cut.rules.fits cut.rules.commits cut.rules.log cut.rules.checkpoints cut.rules.images cut.rules.base (kept_commits_are_prefix cut.closed cut.rules.fits cut.rules.commits) p place;
  none_later = λ g s m p sequence cut place later. no_later_commit_header cut.closed cut.rules.fits cut.rules.commits cut.rules.log cut.rules.checkpoints cut.rules.images cut.rules.base (kept_commits_are_prefix cut.closed cut.rules.fits cut.rules.commits) p sequence place later;
  log = λ g s m cut. log_of_cut_is_tail_to_found cut.rules cut.closed (kept_commits_are_prefix cut.closed cut.rules.fits cut.rules.commits);
}
