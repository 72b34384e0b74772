use Rattle.std.proofs.Common.{◌-◌, List, ◌∷◌, drop, None, Some, ℕ, Option, refl, sym, ap, ◌∙◌}
use Rattle.blk_base.specs.laws.Members.{set-slice_get}
use Rattle.tree_model.specs.declared.call.Call.{Call}
use Rattle.tree_model.specs.declared.call.Reply.{Reply}
use Rattle.tree_model.specs.declared.call.Reply.TheVariants as replies
use Rattle.volume_steps.specs.Now.{VolumeNow}
use Rattle.flush_actor.specs.Waits.{no_wait}
use Rattle.host_core.specs.begun.Causes.{cause_is}
use Rattle.host_machine.specs.Host.{Stepped}
use Rattle.host_machine.specs.Outcomes as outcomes
use Rattle.host_machine.specs.State as machine
use Rattle.host_machine.specs.State.{Host, Begun}
use Rattle.host_core.specs.Entries.{ending_of}
use Rattle.host_core.specs.code.Fields.{host_of}
use Rattle.host_core.specs.code.Progress.{noted, settled, progress_is, list_of, passed_on}
use Rattle.host_core.specs.declared.call_progress.CallProgress.{CallProgress}
use Rattle.host_answers.specs.declared.entry.EntryKind.TheVariants as kinds
use Rattle.host_core.specs.declared.thread.Thread.{Thread}
use Rattle.host_core.proofs.Endings.{tree_ending}
use Rattle.host_core.proofs.Noted.{noted_is, ended_is, passed_is, left_all}
use Rattle.host_core.proofs.Placed.{noted_same}
use Rattle.host_core.proofs.settling.settle.Goals as goal

abbrev stepped : outcomes.Step Reply → Host VolumeNow Call Reply → Stepped VolumeNow Call Reply
stepped x h = record { host = h; step = x }

abbrev settled_by : Host VolumeNow Call Reply → ℕ → Call → List Call → Option Begun → CallProgress → Stepped VolumeNow Call Reply
settled_by s at call rest begun found = settled s at call rest begun (progress_is (list_of begun) found)

pub returns-in-Answered-clause-step : goal.returns-in-Answered-clause-step
returns-in-Answered-clause-step c v ps owners cuts ts call rest next =
    let e = c.end_call in
    let a = c.in-Answered.answer in
    let at = c.args.thread - 1 in
    let before = (host_of c.args.journal.now v ps owners c.args.history.now.items cuts ts).host in
    let ended = λ (x : machine.Ending Reply). noted before at call (machine.Ends x) (record { calls = rest; begun = None }) no_wait in
    ap (stepped (outcomes.Done c.split-given.result.0)) (ended_is ts at c.args.caller.now e.new.caller call rest next (ap (λ p. p.items) e.ensures.program) c.args.journal.now v ps owners cuts c.args.history.now.items e.new.journal e.new.history.items c.args.thread c.split-given.result.1 refl e.ensures.wait e.ensures.entry e.ensures.ended e.ensures.begun)
    ∙ ap (λ (r : Reply). stepped (outcomes.Done c.split-given.result.0) (ended (ending_of r))) c.split-given.ensures.noted
    ∙ ap (λ (x : machine.Ending Reply). stepped (outcomes.Done c.split-given.result.0) (ended x)) (tree_ending a c.split-given.ensures.tree)
    ∙ ap (λ (r : Reply). stepped (outcomes.Done r) (ended (machine.Answered a))) c.split-given.ensures.given
    ∙ ap (settled_by (host_of c.args.journal.now v ps owners c.args.history.now.items cuts ts).host (c.args.thread - 1) call rest c.args.caller.now.begun) (sym c.in-Answered.is)

pub returns-in-Done-clause-step : goal.returns-in-Done-clause-step
returns-in-Done-clause-step c v ps owners cuts ts call rest next =
    let e = c.end_call-in-Done in
    ap (stepped (outcomes.Done replies.Ok)) (ended_is ts (c.args.thread - 1) c.args.caller.now e.new.caller call rest next (ap (λ p. p.items) e.ensures.program) c.args.journal.now v ps owners cuts c.args.history.now.items e.new.journal e.new.history.items c.args.thread replies.Ok refl e.ensures.wait e.ensures.entry e.ensures.ended e.ensures.begun)
    ∙ ap (settled_by (host_of c.args.journal.now v ps owners c.args.history.now.items cuts ts).host (c.args.thread - 1) call rest c.args.caller.now.begun) (sym c.in-Done.is)

pub returns-in-Full-clause-step : goal.returns-in-Full-clause-step
returns-in-Full-clause-step c v ps owners cuts ts call rest next =
    let e = c.end_call-in-Full in
    ap (stepped outcomes.SessionFull) (ended_is ts (c.args.thread - 1) c.args.caller.now e.new.caller call rest next (ap (λ p. p.items) e.ensures.program) c.args.journal.now v ps owners cuts c.args.history.now.items e.new.journal e.new.history.items c.args.thread replies.SessionFull refl e.ensures.wait e.ensures.entry e.ensures.ended e.ensures.begun)
    ∙ ap (settled_by (host_of c.args.journal.now v ps owners c.args.history.now.items cuts ts).host (c.args.thread - 1) call rest c.args.caller.now.begun) (sym c.in-Full.is)

pub returns-in-Down-clause-step : goal.returns-in-Down-clause-step
returns-in-Down-clause-step c v ps owners cuts ts call rest next =
    let e = c.end_call-in-Down in
    ap (stepped outcomes.Down) (ended_is ts (c.args.thread - 1) c.args.caller.now e.new.caller call rest next (ap (λ p. p.items) e.ensures.program) c.args.journal.now v ps owners cuts c.args.history.now.items e.new.journal e.new.history.items c.args.thread replies.Down refl e.ensures.wait e.ensures.entry e.ensures.ended e.ensures.begun)
    ∙ ap (settled_by (host_of c.args.journal.now v ps owners c.args.history.now.items cuts ts).host (c.args.thread - 1) call rest c.args.caller.now.begun) (sym c.in-Down.is)

pub returns-in-ReadOnly-clause-step : goal.returns-in-ReadOnly-clause-step
returns-in-ReadOnly-clause-step c v ps owners cuts ts call rest next =
    let e = c.end_call-in-ReadOnly in
    ap (stepped (outcomes.ReadOnly c.in-ReadOnly.id)) (ended_is ts (c.args.thread - 1) c.args.caller.now e.new.caller call rest next (ap (λ p. p.items) e.ensures.program) c.args.journal.now v ps owners cuts c.args.history.now.items e.new.journal e.new.history.items c.args.thread (replies.ReadOnly c.in-ReadOnly.id) refl e.ensures.wait e.ensures.entry e.ensures.ended e.ensures.begun)
    ∙ ap (settled_by (host_of c.args.journal.now v ps owners c.args.history.now.items cuts ts).host (c.args.thread - 1) call rest c.args.caller.now.begun) (sym c.in-ReadOnly.is)

pub returns-in-Begun-clause-step : goal.returns-in-Begun-clause-step
returns-in-Begun-clause-step c v ps owners cuts ts call rest next =
    let e = c.begin_call in
    let b = c.in-Begun.begun in
    let at = c.args.thread - 1 in
    ap (stepped outcomes.Begun) (noted_is ts at c.args.caller.now e.new.caller call rest next (ap (λ p. p.items) e.ensures.program) c.args.journal.now v ps owners cuts c.args.history.now.items e.new.journal e.new.history.items c.args.thread kinds.Begin
    (record { kind = b.kind; target = None; need = None }) (call ∷ rest) (Some b) refl e.ensures.wait e.ensures.entry
    (left_all ts at c.args.caller.now e.new.caller call rest next (ap (λ p. p.items) e.ensures.program) e.ensures.ended) e.ensures.begun)
    ∙ ap (settled_by (host_of c.args.journal.now v ps owners c.args.history.now.items cuts ts).host (c.args.thread - 1) call rest c.args.caller.now.begun) (sym c.in-Begun.is)

pub returns-in-Sent-clause-step : goal.returns-in-Sent-clause-step
returns-in-Sent-clause-step c v ps owners cuts ts call rest next =
    let e = c.pass_pages in
    let at = c.args.thread - 1 in
    let old = c.args.caller.now in
    ap (stepped (outcomes.Sent c.in-Sent.id)) (passed_is ts at old e.new.caller call rest next (ap (λ p. p.items) e.ensures.program) c.args.journal.now v ps owners cuts c.args.history.now.items
    (call ∷ rest) (passed_on old.begun (drop c.in-Sent.passed (list_of old.begun)) c.in-Sent.barrier)
    (left_all ts at old e.new.caller call rest next (ap (λ p. p.items) e.ensures.program) e.ensures.ended) e.ensures.begun)
    ∙ ap (settled_by (host_of c.args.journal.now v ps owners c.args.history.now.items cuts ts).host (c.args.thread - 1) call rest c.args.caller.now.begun) (sym c.in-Sent.is)

pub returns-in-Waiting-clause-step : goal.returns-in-Waiting-clause-step
returns-in-Waiting-clause-step c v ps owners cuts ts call rest next =
    ap (λ (xs : List Thread). stepped (outcomes.Waiting (cause_is c.in-Waiting.cause)) (host_of c.args.journal.now v ps owners c.args.history.now.items cuts xs).host)
    (set-slice_get ts (c.args.thread - 1) c.args.caller.now next.there)
    ∙ ap (settled_by (host_of c.args.journal.now v ps owners c.args.history.now.items cuts ts).host (c.args.thread - 1) call rest c.args.caller.now.begun) (sym c.in-Waiting.is)

pub returns-in-Sent-clause-notes : goal.returns-in-Sent-clause-notes
returns-in-Sent-clause-notes c =
    let e = c.pass_pages in
    noted_same c.args.thread c.args.caller.now e.new.caller c.args.history.now.items (ap (λ p. p.items) e.ensures.program) e.ensures.ended

pub returns-in-Waiting-clause-notes : goal.returns-in-Waiting-clause-notes
returns-in-Waiting-clause-notes c = noted_same c.args.thread c.args.caller.now c.args.caller.now c.args.history.now.items refl refl
