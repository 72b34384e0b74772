use Rattle.std.proofs.Common.{◌≢◌, length, map, sym, ap, ◌∙◌, arith}
use Rattle.std.proofs.lemmas.Bool.{true≢false}
use Rattle.std.proofs.lemmas.List.{length-map}
use Rattle.order_model.specs.declared.turn.Turn.TheVariants as turns
use Rattle.journal_ring.specs.running.Closing.{writers}
use Rattle.volume_ops.specs.Volume.{disk_of}
use Rattle.volume_steps.specs.Now.{VolumeNow}
use Rattle.commit_actor.specs.Actor.{CommitActor}
use Rattle.commit_actor.specs.Steps.{CommitTurn}
use Rattle.flush_actor.specs.Outcomes.{is_queue_full}
use Rattle.host_machine.specs.Host as machine
use Rattle.host_core.specs.Entries.{entry_in}
use Rattle.host_core.specs.Now.{HostNow, model_now, setup_now}
use Rattle.host_core.specs.code.Fields.{host_of, program_of}
use Rattle.host_core.specs.code.Steps.{cuts_after}
use Rattle.host_core.proofs.Kept.{kept, released_same}
use Rattle.host_core.proofs.Turns.{commit_done}
use Rattle.host_core.proofs.WaitsKept.{commit_keeps}
use Rattle.host_core.proofs.host.Host.commit_step.Goals.{in-NoMemory, in_default}
use Rattle.host_core.proofs.host.Host.commit_step.Goals as goal

pub returns-clause-step : goal.returns-clause-step
returns-clause-step g c told =
    let i = c.self.inside in
    let h = host_of i.parts.journal i.parts.volume i.parts.pages i.parts.owners.items i.history.items i.cuts.items i.threads.items in
    let t = c.commit_step-turn.result in
    let q = is_queue_full t in
    let size = length-map i.history.items (entry_in (map program_of i.threads.items)) in
    commit_done (model_now h) (setup_now h) h.host q c.commit_step-turn.new.part.part c.release_closed.new.volume c.commit_step-turn.new.pages.pages c.note_cut.new.cuts.items t
    c.builds_plan-builds.result c.committing-before.result c.committing.result c.len.result
    c.builds_plan-builds.ensures c.committing-before.ensures c.committing.ensures (omega (arith, c.len.ensures, i.history.ok.0, size))
    c.release_closed.ensures.volume (c.note_cut.ensures ∙ ap (cuts_after c.builds_plan-builds.result c.len.result) c.reserve_cut.ensures.same) (c.commit_step-turn.ensures.step told)
    ∙ ap (λ (x : HostNow). machine.commit_step (model_now x) (setup_now x) q x.host) c.self.view_is

pub invariant_of-self-2 : goal.invariant_of-self-2
invariant_of-self-2 g c =
    let i = c.self.inside in
    let e = c.commit_step-turn.ensures in
    let t = c.commit_step-turn.result in
    let told : t ≢ turns.NoMemory =
    elim c.match-matches.branch [
      | in-NoMemory w ↦ absurd (true≢false (sym w.matches-is ∙ c.if-matches.false))
      | in_default w ↦ w.in_default.not-NoMemory
    ] in
    kept i.parts.journal c.commit_step-turn.new.part i.parts.volume c.release_closed.new.volume i.parts.known c.release_closed.new.known i.threads.items i.history.items c.self.invariant (ap (λ (a : CommitActor). a.blocks) e.same)
    (ap (λ (v : VolumeNow). v.geometry) c.release_closed.ensures.volume ∙ released_same c.committing-before.result c.committing.result i.parts.volume)
    (ap (λ (x : CommitTurn). length x.part.flush.waits) (e.step told)
    ∙ commit_keeps (writers i.parts.journal.made_with) i.parts.journal.journal i.parts.journal.made_with.sequence (is_queue_full t) (λ b. disk_of i.parts.volume.contents.blocks b) i.parts.journal.part i.parts.pages.pages)
    c.release_closed.ensures.known
