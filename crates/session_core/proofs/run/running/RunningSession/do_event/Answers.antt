-- What each event does is the session's.
use Rattle.std.proofs.Common.{sym, ap, ◌∙◌, rules}
use Rattle.order_model.specs.Machine.{machine_of}
use Rattle.line_grammar.specs.declared.events.event.CoreEvent.TheVariants.{Receive, Answer}
use Rattle.session_core.specs.run.machine.Fits.{IsDevice}
use Rattle.session_core.specs.run.code.Session.{after_event}
use Rattle.session_core.proofs.RunLemmas.Reaching.{may_accept, may_receive, leads_call, leads_commit, leads_writeback, leads_accept, leads_dispatch, leads_transfer, leads_persist, leads_as}
use Rattle.session_core.proofs.run.running.RunningSession.do_event.Goals as goal

pub accept-requires : goal.accept-requires
accept-requires g c =
    let k = g.S.Scheduler in
    let d = g.D.OrderedDev in
    let device : IsDevice (machine_of d) d.valid = record { receives = g.met.D.OrderedDev.receives; transfers = g.met.D.OrderedDev.transfers; persists = g.met.D.OrderedDev.persists; no_transfer = g.met.D.OrderedDev.no_transfer; no_persist = g.met.D.OrderedDev.no_persist; answers = g.met.D.OrderedDev.answers; surface = g.met.D.OrderedDev.surface } in
    let r = c.args.self.now in
    may_accept k.steps (machine_of d) k.valid d.valid g.met.S.Scheduler.keeps device c.requires.0 r.host r.queues (k.state r.sched) (d.state r.dev) c.requires.1

pub receive-requires : goal.receive-requires
receive-requires g c =
    let k = g.S.Scheduler in
    let d = g.D.OrderedDev in
    let device : IsDevice (machine_of d) d.valid = record { receives = g.met.D.OrderedDev.receives; transfers = g.met.D.OrderedDev.transfers; persists = g.met.D.OrderedDev.persists; no_transfer = g.met.D.OrderedDev.no_transfer; no_persist = g.met.D.OrderedDev.no_persist; answers = g.met.D.OrderedDev.answers; surface = g.met.D.OrderedDev.surface } in
    let r = c.args.self.now in
    may_receive k.steps (machine_of d) k.valid d.valid g.met.S.Scheduler.keeps device c.requires.0 r.host r.queues (k.state r.sched) (d.state r.dev) c.requires.1

pub returns-in_ok-call-in-Call-clause-step : goal.returns-in_ok-call-in-Call-clause-step
returns-in_ok-call-in-Call-clause-step g c =
    let k = g.S.Scheduler in
    let d = g.D.OrderedDev in
    let device : IsDevice (machine_of d) d.valid = record { receives = g.met.D.OrderedDev.receives; transfers = g.met.D.OrderedDev.transfers; persists = g.met.D.OrderedDev.persists; no_transfer = g.met.D.OrderedDev.no_transfer; no_persist = g.met.D.OrderedDev.no_persist; answers = g.met.D.OrderedDev.answers; surface = g.met.D.OrderedDev.surface } in
    let r = c.args.self.now in
    λ b at. (leads_call k.steps (machine_of d) k.valid d.valid g.met.S.Scheduler.keeps device b r.host r.queues (k.state r.sched) (d.state r.dev) at c.call.new.host c.call.new.self c.in-Call.thread (search rules) c.in_ok-call-in-Call.ensures.host c.in_ok-call-in-Call.ensures.queues).step ∙ ap (after_event k d b.opening r) (sym c.in-Call.is)

pub returns-in_ok-call-in-Call-clause-reached : goal.returns-in_ok-call-in-Call-clause-reached
returns-in_ok-call-in-Call-clause-reached g c =
    let k = g.S.Scheduler in
    let d = g.D.OrderedDev in
    let device : IsDevice (machine_of d) d.valid = record { receives = g.met.D.OrderedDev.receives; transfers = g.met.D.OrderedDev.transfers; persists = g.met.D.OrderedDev.persists; no_transfer = g.met.D.OrderedDev.no_transfer; no_persist = g.met.D.OrderedDev.no_persist; answers = g.met.D.OrderedDev.answers; surface = g.met.D.OrderedDev.surface } in
    let r = c.args.self.now in
    λ b at. (leads_call k.steps (machine_of d) k.valid d.valid g.met.S.Scheduler.keeps device b r.host r.queues (k.state r.sched) (d.state r.dev) at c.call.new.host c.call.new.self c.in-Call.thread (search rules) c.in_ok-call-in-Call.ensures.host c.in_ok-call-in-Call.ensures.queues).reached

pub returns-in_ok-commit-in-Commit-clause-step : goal.returns-in_ok-commit-in-Commit-clause-step
returns-in_ok-commit-in-Commit-clause-step g c =
    let k = g.S.Scheduler in
    let d = g.D.OrderedDev in
    let device : IsDevice (machine_of d) d.valid = record { receives = g.met.D.OrderedDev.receives; transfers = g.met.D.OrderedDev.transfers; persists = g.met.D.OrderedDev.persists; no_transfer = g.met.D.OrderedDev.no_transfer; no_persist = g.met.D.OrderedDev.no_persist; answers = g.met.D.OrderedDev.answers; surface = g.met.D.OrderedDev.surface } in
    let r = c.args.self.now in
    λ b at. (leads_commit k.steps (machine_of d) k.valid d.valid g.met.S.Scheduler.keeps device b r.host r.queues (k.state r.sched) (d.state r.dev) at c.commit.new.host c.commit.new.self c.in_ok-commit-in-Commit.ensures.host c.in_ok-commit-in-Commit.ensures.queues).step ∙ ap (after_event k d b.opening r) (sym c.in-Commit.is)

pub returns-in_ok-commit-in-Commit-clause-reached : goal.returns-in_ok-commit-in-Commit-clause-reached
returns-in_ok-commit-in-Commit-clause-reached g c =
    let k = g.S.Scheduler in
    let d = g.D.OrderedDev in
    let device : IsDevice (machine_of d) d.valid = record { receives = g.met.D.OrderedDev.receives; transfers = g.met.D.OrderedDev.transfers; persists = g.met.D.OrderedDev.persists; no_transfer = g.met.D.OrderedDev.no_transfer; no_persist = g.met.D.OrderedDev.no_persist; answers = g.met.D.OrderedDev.answers; surface = g.met.D.OrderedDev.surface } in
    let r = c.args.self.now in
    λ b at. (leads_commit k.steps (machine_of d) k.valid d.valid g.met.S.Scheduler.keeps device b r.host r.queues (k.state r.sched) (d.state r.dev) at c.commit.new.host c.commit.new.self c.in_ok-commit-in-Commit.ensures.host c.in_ok-commit-in-Commit.ensures.queues).reached

pub returns-in-Writeback-clause-step : goal.returns-in-Writeback-clause-step
returns-in-Writeback-clause-step g c =
    let k = g.S.Scheduler in
    let d = g.D.OrderedDev in
    let device : IsDevice (machine_of d) d.valid = record { receives = g.met.D.OrderedDev.receives; transfers = g.met.D.OrderedDev.transfers; persists = g.met.D.OrderedDev.persists; no_transfer = g.met.D.OrderedDev.no_transfer; no_persist = g.met.D.OrderedDev.no_persist; answers = g.met.D.OrderedDev.answers; surface = g.met.D.OrderedDev.surface } in
    let r = c.args.self.now in
    λ b at. (leads_writeback k.steps (machine_of d) k.valid d.valid g.met.S.Scheduler.keeps device b r.host r.queues (k.state r.sched) (d.state r.dev) at c.writeback.new.host c.writeback.new.self c.in-Writeback.pick c.writeback.ensures.host c.writeback.ensures.queues).step ∙ ap (after_event k d b.opening r) (sym c.in-Writeback.is)

pub returns-in-Writeback-clause-reached : goal.returns-in-Writeback-clause-reached
returns-in-Writeback-clause-reached g c =
    let k = g.S.Scheduler in
    let d = g.D.OrderedDev in
    let device : IsDevice (machine_of d) d.valid = record { receives = g.met.D.OrderedDev.receives; transfers = g.met.D.OrderedDev.transfers; persists = g.met.D.OrderedDev.persists; no_transfer = g.met.D.OrderedDev.no_transfer; no_persist = g.met.D.OrderedDev.no_persist; answers = g.met.D.OrderedDev.answers; surface = g.met.D.OrderedDev.surface } in
    let r = c.args.self.now in
    λ b at. (leads_writeback k.steps (machine_of d) k.valid d.valid g.met.S.Scheduler.keeps device b r.host r.queues (k.state r.sched) (d.state r.dev) at c.writeback.new.host c.writeback.new.self c.in-Writeback.pick c.writeback.ensures.host c.writeback.ensures.queues).reached

pub returns-in-FlushStep-clause-step : goal.returns-in-FlushStep-clause-step
returns-in-FlushStep-clause-step g c =
    let k = g.S.Scheduler in
    let d = g.D.OrderedDev in
    let r = c.args.self.now in
    λ b at. c.flush.ensures.step b at ∙ ap (after_event k d b.opening r) (sym c.in-FlushStep.is)

pub returns-in-Accept-clause-reached : goal.returns-in-Accept-clause-reached
returns-in-Accept-clause-reached g c =
    let k = g.S.Scheduler in
    let d = g.D.OrderedDev in
    let device : IsDevice (machine_of d) d.valid = record { receives = g.met.D.OrderedDev.receives; transfers = g.met.D.OrderedDev.transfers; persists = g.met.D.OrderedDev.persists; no_transfer = g.met.D.OrderedDev.no_transfer; no_persist = g.met.D.OrderedDev.no_persist; answers = g.met.D.OrderedDev.answers; surface = g.met.D.OrderedDev.surface } in
    let r = c.args.self.now in
    λ b at. (leads_accept k.steps (machine_of d) k.valid d.valid g.met.S.Scheduler.keeps device b r.host r.queues (k.state r.sched) (d.state r.dev) at c.accept.new.self (k.state c.accept.new.sched) c.accept.ensures.step c.accept.ensures.completions c.accept.ensures.kept).reached

pub returns-in-Dispatch-clause-reached : goal.returns-in-Dispatch-clause-reached
returns-in-Dispatch-clause-reached g c =
    let k = g.S.Scheduler in
    let d = g.D.OrderedDev in
    let device : IsDevice (machine_of d) d.valid = record { receives = g.met.D.OrderedDev.receives; transfers = g.met.D.OrderedDev.transfers; persists = g.met.D.OrderedDev.persists; no_transfer = g.met.D.OrderedDev.no_transfer; no_persist = g.met.D.OrderedDev.no_persist; answers = g.met.D.OrderedDev.answers; surface = g.met.D.OrderedDev.surface } in
    let r = c.args.self.now in
    λ b at. (leads_dispatch k.steps (machine_of d) k.valid d.valid g.met.S.Scheduler.keeps device b r.host r.queues (k.state r.sched) (d.state r.dev) at c.in-Dispatch.pick c.dispatch.new.self (k.state c.dispatch.new.sched) c.dispatch.ensures.step c.dispatch.ensures.completions c.dispatch.ensures.kept).reached

pub returns-in-Transfer-clause-reached : goal.returns-in-Transfer-clause-reached
returns-in-Transfer-clause-reached g c =
    let k = g.S.Scheduler in
    let d = g.D.OrderedDev in
    let device : IsDevice (machine_of d) d.valid = record { receives = g.met.D.OrderedDev.receives; transfers = g.met.D.OrderedDev.transfers; persists = g.met.D.OrderedDev.persists; no_transfer = g.met.D.OrderedDev.no_transfer; no_persist = g.met.D.OrderedDev.no_persist; answers = g.met.D.OrderedDev.answers; surface = g.met.D.OrderedDev.surface } in
    let r = c.args.self.now in
    λ b at. (leads_transfer k.steps (machine_of d) k.valid d.valid g.met.S.Scheduler.keeps device b r.host r.queues (k.state r.sched) (d.state r.dev) at c.in-Transfer.pick (d.state c.transfer.new.self) c.transfer.ensures.state).reached

pub returns-in-Persist-clause-reached : goal.returns-in-Persist-clause-reached
returns-in-Persist-clause-reached g c =
    let k = g.S.Scheduler in
    let d = g.D.OrderedDev in
    let device : IsDevice (machine_of d) d.valid = record { receives = g.met.D.OrderedDev.receives; transfers = g.met.D.OrderedDev.transfers; persists = g.met.D.OrderedDev.persists; no_transfer = g.met.D.OrderedDev.no_transfer; no_persist = g.met.D.OrderedDev.no_persist; answers = g.met.D.OrderedDev.answers; surface = g.met.D.OrderedDev.surface } in
    let r = c.args.self.now in
    λ b at. (leads_persist k.steps (machine_of d) k.valid d.valid g.met.S.Scheduler.keeps device b r.host r.queues (k.state r.sched) (d.state r.dev) at c.in-Persist.pick (d.state c.persist.new.self) c.persist.ensures.state).reached

pub returns-in-Receive-clause-step : goal.returns-in-Receive-clause-step
returns-in-Receive-clause-step g c =
    let k = g.S.Scheduler in
    let d = g.D.OrderedDev in
    let r = c.args.self.now in
    λ b at. c.receive.ensures.step b.opening ∙ ap (after_event k d b.opening r) (sym c.in-Receive.is)

pub returns-in-Receive-clause-reached : goal.returns-in-Receive-clause-reached
returns-in-Receive-clause-reached g c =
    let k = g.S.Scheduler in
    let d = g.D.OrderedDev in
    let device : IsDevice (machine_of d) d.valid = record { receives = g.met.D.OrderedDev.receives; transfers = g.met.D.OrderedDev.transfers; persists = g.met.D.OrderedDev.persists; no_transfer = g.met.D.OrderedDev.no_transfer; no_persist = g.met.D.OrderedDev.no_persist; answers = g.met.D.OrderedDev.answers; surface = g.met.D.OrderedDev.surface } in
    let r = c.args.self.now in
    let new = c.receive.new.self in
    λ b at. (leads_as k.steps (machine_of d) k.valid d.valid g.met.S.Scheduler.keeps device b r.host r.queues (k.state r.sched) (d.state r.dev) at Receive new.host new.queues (k.state new.sched) (d.state new.dev) (c.receive.ensures.step b.opening) c.receive.ensures.host).reached

pub returns-in-Answer-clause-step : goal.returns-in-Answer-clause-step
returns-in-Answer-clause-step g c =
    let k = g.S.Scheduler in
    let d = g.D.OrderedDev in
    let r = c.args.self.now in
    λ b at. c.answer.ensures.step b.opening ∙ ap (after_event k d b.opening r) (sym c.in-Answer.is)

pub returns-in-Answer-clause-reached : goal.returns-in-Answer-clause-reached
returns-in-Answer-clause-reached g c =
    let k = g.S.Scheduler in
    let d = g.D.OrderedDev in
    let device : IsDevice (machine_of d) d.valid = record { receives = g.met.D.OrderedDev.receives; transfers = g.met.D.OrderedDev.transfers; persists = g.met.D.OrderedDev.persists; no_transfer = g.met.D.OrderedDev.no_transfer; no_persist = g.met.D.OrderedDev.no_persist; answers = g.met.D.OrderedDev.answers; surface = g.met.D.OrderedDev.surface } in
    let r = c.args.self.now in
    let new = c.answer.new.self in
    λ b at. (leads_as k.steps (machine_of d) k.valid d.valid g.met.S.Scheduler.keeps device b r.host r.queues (k.state r.sched) (d.state r.dev) at Answer new.host new.queues (k.state new.sched) (d.state new.dev) (c.answer.ensures.step b.opening) c.answer.ensures.host).reached
