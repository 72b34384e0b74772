use Rattle.journal_ring.specs.laws.Committed.{In-commit_homes, commit_homes-body, commit_homes-kept, commit_homes-ascends}
use Rattle.journal_ring.proofs.laws.last_bodies_wait_to_be_sent_home.Goals as goal

pub returns : goal.returns
returns c = record {
  from = λ ring t l apart rising i. In-commit_homes t ring.homes l apart rising i;
  new = λ ring t b x mark. commit_homes-body t ring.homes b x mark;
  left = λ ring t l i mark. commit_homes-kept t ring.homes l i mark;
  rising = λ ring t rising. commit_homes-ascends t ring.homes rising;
}
