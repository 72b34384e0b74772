use Rattle.crash_laws.proofs.RingSteps.{home_clause, super_clause, again_clause}
use Rattle.crash_laws.proofs.laws.rings.checkpoints_meet_their_clauses.Goals as goal

pub returns : goal.returns
returns c = record {
  home = λ s ring n q b x facts waits body. home_clause facts q b x waits body;
  superblock = λ s ring n q facts none quiet fields barrier. super_clause facts q none quiet fields barrier;
  again = λ s ring n k i b facts order layout checkpoints room at log put. again_clause facts order layout checkpoints room k i b at log put;
}
