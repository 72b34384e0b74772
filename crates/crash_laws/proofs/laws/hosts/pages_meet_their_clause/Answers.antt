use Rattle.crash_laws.proofs.SendSteps.{page_clause}
use Rattle.crash_laws.proofs.HostSteps.{sent_step}
use Rattle.crash_laws.proofs.laws.hosts.pages_meet_their_clause.Goals as goal

pub returns : goal.returns
returns c = record {
  clause = λ g h s host n q f i z trees facts there body. page_clause trees facts q f i z there body;
  facts = λ g h p host n trees facts agree page other. sent_step p trees facts agree page other;
}
