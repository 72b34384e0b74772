use Rattle.crash_laws.proofs.CommittingSteps.{committing_step, commit_pages_clause}
use Rattle.crash_laws.proofs.HostSteps.{commit_step}
use Rattle.crash_laws.proofs.laws.hosts.commit_blocks_meet_their_clause.Goals as goal

pub returns : goal.returns
returns c = record {
  pages = λ g h p host n trees facts agree on_way page committing. committing_step p trees facts agree on_way page committing;
  clause = λ g h p host n trees facts agree on_way sent committing. commit_pages_clause p trees facts agree on_way sent committing;
  facts = λ g h p host n quarantine trees facts agree on_way note released waiting free. commit_step p trees facts agree quarantine on_way note released waiting free;
}
