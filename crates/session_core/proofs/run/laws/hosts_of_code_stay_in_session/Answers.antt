use Rattle.session_core.proofs.RunLemmas.HostsInSession.{made_in_session, model_is, setup_is, call_goes_on, commit_goes_on, writeback_goes_on, flush_goes_on, take_goes_on, host_keeps}
use Rattle.session_core.proofs.run.laws.hosts_of_code_stay_in_session.Goals as goal

pub returns : goal.returns
returns c = record {
  made = made_in_session;
  model = λ s v ring limit programs events h written opened journal bytes inside.
      (model_is s v ring limit programs written opened journal bytes events h inside, setup_is s v ring limit programs written opened journal bytes events h inside);
  call = λ s v ring limit programs events h new full t written opened journal bytes inside did.
      call_goes_on s v ring limit programs written opened journal bytes events h inside full t new did;
  commit = λ s v ring limit programs events h new full written opened journal bytes inside did.
      commit_goes_on s v ring limit programs written opened journal bytes events h inside full new did;
  writeback = λ s v ring limit programs events h new full pick written opened journal bytes inside did.
      writeback_goes_on s v ring limit programs written opened journal bytes events h inside full pick new did;
  flush = λ s v ring limit programs events h new full next written opened journal bytes inside did.
      flush_goes_on s v ring limit programs written opened journal bytes events h inside full next new did;
  take = λ s v ring limit programs events h new next written opened journal bytes inside did.
      take_goes_on s v ring limit programs written opened journal bytes events h inside next new did;
  kept = λ s v ring limit programs events h written opened journal bytes inside. host_keeps s v ring limit programs written opened journal bytes events h inside;
}
