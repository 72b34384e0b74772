use Rattle.std.proofs.Common.{◌≡◌, ◌<◌, ◌+◌, ◌-◌, false, List, length, map, Some, slice_get, sym, ap, subst, arith, ◌∙◌, set}
use Rattle.commit_actor.specs.Actor.{CommitActor}
use Rattle.tree_model.specs.declared.call.Reply.{Reply}
use Rattle.tree_model.specs.declared.call.Call.{Call}
use Rattle.volume_steps.specs.Now.{VolumeNow}
use Rattle.host_machine.specs.Host as machine
use Rattle.host_machine.specs.Host.{Stepped}
use Rattle.host_machine.specs.Outcomes as outcomes
use Rattle.host_core.specs.Answers.{IfStepped, found_queue_full}
use Rattle.host_core.specs.Now.{HostNow, model_now, setup_now, with_host}
use Rattle.host_core.specs.code.Fields.{AreNoted, IsHost, host_of, program_of}
use Rattle.host_answers.specs.declared.entry.Entry.{Entry}
use Rattle.host_core.specs.declared.thread.Thread.{Thread}
use Rattle.host_core.proofs.Advanced.{found_at, found_there, read_again, next_call, within_at, ended_is, advanced_is, same_is}
use Rattle.host_core.proofs.Kept.{kept_by, kept_noted}
use Rattle.host_core.proofs.KnownKept.{call_is, known_of}
use Rattle.host_core.proofs.Noted.{programs_same, same_programs}
use Rattle.host_core.proofs.host.Host.advance.Goals as goal

pub returns-in_default-get-clause-step : goal.returns-in_default-get-clause-step
returns-in_default-get-clause-step g c =
    let i = c.self.inside in
    let ts = i.threads.items in
    let th = c.in-Some.caller.now in
    let at = c.args.thread - 1 in
    let there : slice_get ts at ≡ Some th = found_there c.deref.result.now ts at th c.deref.ensures.value c.in-Some.ensures.lookup.3.0 (c.in-Some.ensures.lookup.3.1 th) in
    ap (λ (x : HostNow). let y : Stepped VolumeNow Call Reply = record { host = x.host; step = outcomes.Ended } in y) (sym c.self.view_is)
    ∙ ended_is i.parts.journal i.parts.volume i.parts.pages i.parts.owners.items i.cuts.items i.history.items ts at th there false (omega (arith, c.in_default-get.ensures.lookup.3, ap length c.deref-2.ensures.value))
    ∙ ap (λ (x : HostNow). machine.advance (model_now x) (setup_now x) false x.host at) c.self.view_is

pub settle-requires-clause-within : goal.settle-requires-clause-within
settle-requires-clause-within g c =
    let ts = c.self.inside.threads.items in
    let low : c.args.thread - 1 < length ts = omega (arith, c.in-Some.ensures.lookup.3.0, ap length c.deref.ensures.value) in
    within_at ts (c.args.thread - 1) c.index_mut-caller.result.now c.self.invariant.within low c.index_mut-caller.ensures.value

pub invariant_of-self-2 : goal.invariant_of-self-2
invariant_of-self-2 g c =
    let i = c.self.inside in
    let ts = i.threads.items in
    let at = c.args.thread - 1 in
    let e = c.settle.ensures in
    let low : at < length ts = omega (arith, c.in-Some.ensures.lookup.3.0, ap length c.deref.ensures.value) in
    let there : slice_get ts at ≡ Some c.index_mut-caller.result.now = found_at ts at c.index_mut-caller.result.now low c.index_mut-caller.ensures.value in
    let noted = subst (AreNoted ts) (sym {A = List Entry} c.reserve.ensures.items) c.self.invariant.noted in
    let th = c.in-Some.caller.now in
    let was : slice_get ts at ≡ Some th = found_there c.deref.result.now ts at th c.deref.ensures.value c.in-Some.ensures.lookup.3.0 (c.in-Some.ensures.lookup.3.1 th) in
    let call : slice_get th.program.items th.ended ≡ Some c.in-Some-get.call.now =
    found_there c.deref-2.result.now th.program.items th.ended c.in-Some-get.call.now c.deref-2.ensures.value c.in-Some-get.ensures.lookup.3.0 (c.in-Some-get.ensures.lookup.3.1 c.in-Some-get.call.now) in
    let known = c.step_call.ensures.known (map program_of ts) (call_is ts at th c.in-Some-get.call.now was call) c.self.invariant.known in
    let programs = same_programs ts at c.index_mut-caller.result.now c.settle.new.caller there (ap (λ p. p.items) e.program) in
    kept_noted i.parts c.step_call.new.parts c.settle.new.journal _ ts i.history.items c.settle.new.history.items at c.settle.new.caller c.self.invariant c.in-Ok.ensures.same known programs e.journal e.waits e.kept
    (e.notes.noted ts there noted)

pub invariant_of-self-in_default-step_call : goal.invariant_of-self-in_default-step_call
invariant_of-self-in_default-step_call g c =
    let i = c.self.inside in
    let ts = i.threads.items in
    let at = c.args.thread - 1 in
    let th = c.in-Some.caller.now in
    let there : slice_get ts at ≡ Some th = found_there c.deref.result.now ts at th c.deref.ensures.value c.in-Some.ensures.lookup.3.0 (c.in-Some.ensures.lookup.3.1 th) in
    let call : slice_get th.program.items th.ended ≡ Some c.in-Some-get.call.now =
    found_there c.deref-2.result.now th.program.items th.ended c.in-Some-get.call.now c.deref-2.ensures.value c.in-Some-get.ensures.lookup.3.0 (c.in-Some-get.ensures.lookup.3.1 c.in-Some-get.call.now) in
    let known = c.step_call.ensures.known (map program_of ts) (call_is ts at th c.in-Some-get.call.now there call) c.self.invariant.known in
    let s = c.step_call.new.parts in
    subst (IsHost s.journal s.volume s.known ts) (sym {A = List Entry} c.reserve.ensures.items) (kept_by i.parts s ts i.history.items c.self.invariant c.step_call.ensures.same known)

pub step_call-requires-clause-known : goal.step_call-requires-clause-known
step_call-requires-clause-known g c =
    let ts = c.self.inside.threads.items in
    let at = c.args.thread - 1 in
    let th = c.in-Some.caller.now in
    let there : slice_get ts at ≡ Some th = found_there c.deref.result.now ts at th c.deref.ensures.value c.in-Some.ensures.lookup.3.0 (c.in-Some.ensures.lookup.3.1 th) in
    let call : slice_get th.program.items th.ended ≡ Some c.in-Some-get.call.now =
    found_there c.deref-2.result.now th.program.items th.ended c.in-Some-get.call.now c.deref-2.ensures.value c.in-Some-get.ensures.lookup.3.0 (c.in-Some-get.ensures.lookup.3.1 c.in-Some-get.call.now) in
    known_of (map program_of ts) at th.ended c.in-Some-get.call.now c.self.inside.parts.volume c.self.inside.parts.known (call_is ts at th c.in-Some-get.call.now there call) c.self.invariant.known

pub returns-clause-same : goal.returns-clause-same
returns-clause-same g c =
    let i = c.self.inside in
    let ts = i.threads.items in
    let at = c.args.thread - 1 in
    let th = c.in-Some.caller.now in
    let there : slice_get ts at ≡ Some th = found_there c.deref.result.now ts at th c.deref.ensures.value c.in-Some.ensures.lookup.3.0 (c.in-Some.ensures.lookup.3.1 th) in
    let s = c.step_call.new.parts in
    let e = c.settle.ensures in
    let call : slice_get th.program.items th.ended ≡ Some c.in-Some-get.call.now =
    found_there c.deref-2.result.now th.program.items th.ended c.in-Some-get.call.now c.deref-2.ensures.value c.in-Some-get.ensures.lookup.3.0 (c.in-Some-get.ensures.lookup.3.1 c.in-Some-get.call.now) in
    let same : c.index_mut-caller.result.now ≡ th =
    read_again c.deref.result.now ts at th c.index_mut-caller.result.now c.deref.ensures.value c.in-Some.ensures.lookup.3.0 (c.in-Some.ensures.lookup.3.1 th) c.index_mut-caller.ensures.value in
    let f = c.in-Ok.ensures.same in
    let programs = programs_same ts at th c.settle.new.caller c.in-Some-get.call.now _ (next_call ts at th c.in-Some-get.call.now there call) (ap (λ p. p.items) e.program ∙ ap (λ (x : Thread). x.program.items) same) in
    let new = host_of c.settle.new.journal s.volume s.pages s.owners.items c.settle.new.history.items i.cuts.items (set ts at c.settle.new.caller) in
    same_is i.parts.journal c.settle.new.journal i.parts.volume s.volume i.parts.pages s.pages i.parts.owners.items s.owners.items i.history.items c.settle.new.history.items i.cuts.items i.cuts.items ts (set ts at c.settle.new.caller)
    (ap (λ (a : CommitActor). a.made_with) e.journal ∙ f.made_with) (ap (λ (a : CommitActor). a.journal) e.journal ∙ f.journal) programs
    ∙ ap (λ (x : HostNow). with_host x new.host) c.self.view_is

pub returns-clause-step : goal.returns-clause-step
returns-clause-step g c =
    let i = c.self.inside in
    let s = c.step_call.new.parts in
    let at = c.args.thread - 1 in
    let ts = i.threads.items in
    let e = c.settle.ensures in
    let th = c.in-Some.caller.now in
    let call : slice_get th.program.items th.ended ≡ Some c.in-Some-get.call.now =
    found_there c.deref-2.result.now th.program.items th.ended c.in-Some-get.call.now c.deref-2.ensures.value c.in-Some-get.ensures.lookup.3.0 (c.in-Some-get.ensures.lookup.3.1 c.in-Some-get.call.now) in
    let there : slice_get ts at ≡ Some th = found_there c.deref.result.now ts at th c.deref.ensures.value c.in-Some.ensures.lookup.3.0 (c.in-Some.ensures.lookup.3.1 th) in
    let same : c.index_mut-caller.result.now ≡ th =
    read_again c.deref.result.now ts at th c.index_mut-caller.result.now c.deref.ensures.value c.in-Some.ensures.lookup.3.0 (c.in-Some.ensures.lookup.3.1 th) c.index_mut-caller.ensures.value in
    let count : c.len.result + 1 ≡ length c.reserve.new.self.items + 1 = omega (arith, c.len.ensures, c.reserve.new.self.ok.0) in
    let new = host_of c.settle.new.journal s.volume s.pages s.owners.items c.settle.new.history.items i.cuts.items (set ts at c.settle.new.caller) in
    subst (λ (x : HostNow). IfStepped c.settle.result (λ a.
    (let y : Stepped VolumeNow Call Reply = record { host = new.host; step = a } in y)
    ≡ machine.advance (model_now x) (setup_now x) (found_queue_full c.settle.result) x.host at)) (ap (λ h. host_of i.parts.journal i.parts.volume i.parts.pages i.parts.owners.items h i.cuts.items ts) c.reserve.ensures.items ∙ c.self.view_is)
    (advanced_is i.parts.journal i.parts.volume i.parts.pages i.parts.owners.items i.cuts.items c.reserve.new.self.items ts at th there c.plain_calls_step_on_their_parts.ensures c.begun_calls_step_on_their_parts.ensures
    s.journal c.settle.new.journal s.volume s.pages s.owners.items c.settle.new.history.items c.index_mut-caller.result.now c.settle.new.caller c.in-Some-get.call.now (c.len.result + 1) c.in-Ok.found c.settle.result
    call count same c.in-Ok.ensures.step e.queue (e.step s.volume s.pages s.owners.items i.cuts.items ts))
