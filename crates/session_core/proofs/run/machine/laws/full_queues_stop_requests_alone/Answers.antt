use Rattle.session_core.proofs.RunLemmas.MachineLemmas.FullQueue.{advance_agrees, commit_agrees, writeback_agrees, flush_agrees, either_is}
use Rattle.session_core.proofs.run.machine.laws.full_queues_stop_requests_alone.Goals as goal

pub returns : goal.returns
returns g c = record {
  call = λ m u h t. either_is h (λ x. x.host) _ _ (advance_agrees m u h t);
  commit = λ m u h. either_is h (λ x. x.host) _ _ (commit_agrees m u h);
  writeback = λ m u h pick. either_is h (λ x. x.host) _ _ (writeback_agrees m u h pick);
  flush = λ m u h next. either_is h (λ x. x.host) _ _ (flush_agrees m u h next);
}
