use Rattle.crash_laws.proofs.Commits.{kept_commits_are_prefix, commit_below}
use Rattle.crash_laws.proofs.Superblocks.{tails_rise}
use Rattle.crash_laws.proofs.laws.commits.kept_commits_are_a_prefix.Goals as goal

pub returns : goal.returns
returns c = record {
  prefix = λ s m closed fits order. kept_commits_are_prefix closed fits order;
  in_order = λ s j k i order commit lo hi. commit_below order j k i commit lo hi;
  tails_rise = λ s x y freed more order checkpoints lt hx hy. tails_rise order checkpoints x y freed more lt hx hy;
}
