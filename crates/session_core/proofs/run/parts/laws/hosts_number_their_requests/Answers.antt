use Rattle.session_core.proofs.RunLemmas.PartsLemmas.Numbers.{requests_few}
use Rattle.session_core.proofs.run.parts.laws.hosts_number_their_requests.Goals as goal

pub returns : goal.returns
returns c = record {
  requests = λ s v ring limit programs events written opened journal bytes blocks. (requests_few s limit v ring programs written opened journal bytes blocks events).fit.fitting;
  few = λ s v ring limit programs events written opened journal bytes blocks. (requests_few s limit v ring programs written opened journal bytes blocks events).fit.few;
}
