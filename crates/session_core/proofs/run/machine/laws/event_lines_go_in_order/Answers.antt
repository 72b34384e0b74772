use Rattle.order_model.specs.Machine.{machine_of}
use Rattle.session_core.proofs.RunLemmas.MachineLemmas.SessionRuns.{events_append, events_repeat}
use Rattle.session_core.proofs.run.machine.laws.event_lines_go_in_order.Goals as goal

pub returns : goal.returns
returns g c = record {
  one_behind_another = λ s r first more. events_append s g.S.Scheduler.steps (machine_of g.D.OrderedDev) r first more;
  repeats = λ s r n es. events_repeat s g.S.Scheduler.steps (machine_of g.D.OrderedDev) n r es;
}
