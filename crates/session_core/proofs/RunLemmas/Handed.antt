-- A session from which a command goes to the device.
use Rattle.std.proofs.Common.{◌≡◌, ℕ, Bool, true, false, if◌then◌else◌, List, length, Option, Some, None, refl, ap, ap₂, ◌∙◌}
use Rattle.order_model.specs.declared.command.Command.{Command}
use Rattle.order_model.specs.declared.completion.Completion.{Completion}
use Rattle.order_model.specs.Machine.{Machine}
use Rattle.stack_core.specs.BlockLayer.{QueuesState, given_first}
use Rattle.stack_core.specs.Handing.{Handing, handed_given, handed}
use Rattle.session_core.specs.run.machine.Machine.{SessionState, received}
use Rattle.host_core.specs.Now.{HostNow}
use Rattle.session_core.specs.run.code.Queues.{QueuesNow, layer_queues}
use Rattle.session_core.specs.run.code.Session.{session_of}

module _ {K S : Type 0} (m : Machine S) (r : SessionState K S) where
  abbrev with_handed : Handing QueuesState S → SessionState K S
  with_handed h = record r { queues = h.before; dev = h.dev }

  received_where : (b : Bool) (o : Option (Command × QueuesState)) → with_handed (if b then handed_given m (record { before = r.queues; dev = r.dev }) o else record { before = r.queues; dev = r.dev }) ≡ (if b then received m r o else r)
  received_where true None = refl
  received_where true (Some g) = refl
  received_where false o = refl

-- the parts after their queues handed the device what is first
pub handed_parts : {K S : Type 0} (m : Machine S) (h : HostNow) (q after : QueuesNow) (sched : K) (dev new : S)
    → ((n : ℕ) → record { before = layer_queues n after; dev = new } ≡ handed m (record { before = layer_queues n q; dev = dev }) (given_first (layer_queues n q) q.dispatched)) → after.completions ≡ q.completions → after.kept ≡ q.kept
    → session_of h after sched new ≡ (if m.has_room dev then received m (session_of h q sched dev) (given_first (layer_queues (length h.host.journal.flush.requests) q) q.dispatched) else session_of h q sched dev)
handed_parts {K} {S} m h q after sched dev new did completions kept =
    let n = length h.host.journal.flush.requests in
    let now : SessionState K S = session_of h q sched dev in
    let parts : List Completion → Option Completion → SessionState K S = λ cs o. record {
      host = h.host;
      queues = layer_queues n after;
      sched = sched;
      dev = new;
      completions = cs;
      kept = o;
    } in
    ap₂ parts completions kept
    ∙ (ap (λ (x : Handing QueuesState S). record now { queues = x.before; dev = x.dev }) (did n) ∙ received_where m now (m.has_room dev) (given_first (layer_queues n q) q.dispatched))
