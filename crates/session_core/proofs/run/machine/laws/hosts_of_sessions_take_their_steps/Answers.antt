use Rattle.std.proofs.Common.{sym, subst}
use Rattle.order_model.specs.Machine.{machine_of}
use Rattle.call_sessions.specs.Sessions.{KeepsCalls}
use Rattle.call_sessions.proofs.CallsKept.{calls_kept}
use Rattle.session_core.specs.run.machine.Machine.{opened_session, host_events}
use Rattle.session_core.proofs.RunLemmas.MachineLemmas.SessionRuns.{run_host}
use Rattle.session_core.proofs.run.machine.laws.hosts_of_sessions_take_their_steps.Goals as goal

pub returns : goal.returns
returns g c =
    let k = g.S.Scheduler in
    let m = machine_of g.D.OrderedDev in
    record {
      steps = λ s r es. run_host s k.steps m r es;
      kept = λ s b sched dev es written opened journal bytes.
          subst (KeepsCalls s) (sym (run_host s k.steps m (opened_session s b sched dev) es))
          (calls_kept s b.volume b.ring b.limit b.programs written opened journal bytes (host_events s k.steps m (opened_session s b sched dev) es));
    }
