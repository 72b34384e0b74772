use Rattle.std.proofs.Common.{[], refl, sym, subst}
use Rattle.order_model.specs.Device.{completed, origin_ids}
use Rattle.order_model.specs.Carrying.{Fits}
use Rattle.order_model.specs.Machine.{machine_of}
use Rattle.stack_core.specs.Headline.{KeepsOrder}
use Rattle.session_core.specs.run.machine.Machine.{opened_session, run_events}
use Rattle.session_core.specs.run.machine.Fits.{IsDevice}
use Rattle.session_core.proofs.RunLemmas.MachineLemmas.SessionRuns.{opened_holds, run_holds, requests_at_ids, prefixes, taken_were_sent}
use Rattle.session_core.proofs.run.machine.laws.sessions_keep_order_to_the_medium.Goals as goal

pub returns : goal.returns
returns g c =
    let t = g.D.OrderedDev in
    let k = g.S.Scheduler in
    let l = g.met.D.OrderedDev in
    let keeps = g.met.S.Scheduler.keeps in
    let device : IsDevice (machine_of t) t.valid = record { receives = l.receives; transfers = l.transfers; persists = l.persists; no_transfer = l.no_transfer; no_persist = l.no_persist; answers = l.answers; surface = l.surface } in
    let law = c.keeps_order_to_the_medium.ensures in
    record {
      carries = λ s b sched dev es written opened journal bytes ok can start.
          let r = run_events s k.steps (machine_of t) (opened_session s b sched dev) es in
          let v = run_holds s k.steps (machine_of t) k.valid t.valid keeps device b written opened journal bytes start.blocks [] (opened_session s b sched dev) refl
          (opened_holds s k.steps (machine_of t) k.valid t.valid keeps device b sched dev ok can start) es in (
            requests_at_ids r.host.journal.flush.requests r.host.journal.flush.limit r.queues (k.steps.seen r.sched) (t.seen r.dev) v.fits.requests,
            keeps.carries r.sched v.sched,
            prefixes r.host.journal.flush.requests r.host.journal.flush.limit r.queues (k.steps.seen r.sched) (t.seen r.dev) v.fits.requests,
          );
      order = λ s b sched dev es written opened journal bytes ok can start same.
          let r = run_events s k.steps (machine_of t) (opened_session s b sched dev) es in
          let v = run_holds s k.steps (machine_of t) k.valid t.valid keeps device b written opened journal bytes start.blocks [] (opened_session s b sched dev) refl
          (opened_holds s k.steps (machine_of t) k.valid t.valid keeps device b sched dev ok can start) es in
          let rs = r.host.journal.flush.requests in
          let ids = requests_at_ids rs r.host.journal.flush.limit r.queues (k.steps.seen r.sched) (t.seen r.dev) v.fits.requests in
          let fits = prefixes rs r.host.journal.flush.limit r.queues (k.steps.seen r.sched) (t.seen r.dev) v.fits.requests in
          let carries = keeps.carries r.sched v.sched in
          let now = t.state c.args.dev.now in
          let order : KeepsOrder (t.seen now).base rs (t.seen now).surface (origin_ids (t.seen now).took (t.seen now).origins) (completed (t.seen now)) = record {
            closed = law.closed rs (k.steps.seen r.sched) ids carries (subst (λ x. Fits rs (k.steps.seen r.sched) (t.seen x)) same fits);
            flushed = law.flushed rs (k.steps.seen r.sched) ids carries (subst (λ x. Fits rs (k.steps.seen r.sched) (t.seen x)) same fits);
          } in
          subst (λ base. KeepsOrder base rs (t.seen r.dev).surface (origin_ids (t.seen r.dev).took (t.seen r.dev).origins) (completed (t.seen r.dev))) v.image
          (subst (λ x. KeepsOrder (t.seen x).base rs (t.seen x).surface (origin_ids (t.seen x).took (t.seen x).origins) (completed (t.seen x))) (sym same) order);
      taken = λ s b sched dev es x written opened journal bytes ok can start.
          let r = run_events s k.steps (machine_of t) (opened_session s b sched dev) es in
          let v = run_holds s k.steps (machine_of t) k.valid t.valid keeps device b written opened journal bytes start.blocks [] (opened_session s b sched dev) refl
          (opened_holds s k.steps (machine_of t) k.valid t.valid keeps device b sched dev ok can start) es in
          taken_were_sent r.host.journal.flush.taken r.completions r.kept (t.seen r.dev) v.fits.completions x;
    }
