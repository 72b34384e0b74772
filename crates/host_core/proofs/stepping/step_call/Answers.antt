use Rattle.std.proofs.Common.{◌≡◌, [], Option, sym, ap, subst, ◌∙◌}
use Rattle.std.proofs.lemmas.Bool.{false≢true}
use Rattle.std.proofs.lemmas.Result.{IfOk-weaker}
use Rattle.std.specs.Option.{option_map}
use Rattle.flush_actor.specs.Actor.{FlushActor}
use Rattle.flush_actor.specs.declared.call_kind.CallKind.{CallKind}
use Rattle.journal_ring.specs.running.Closing.{writers}
use Rattle.journal_ring.specs.running.Open.{quota}
use Rattle.host_machine.specs.State.{Begun}
use Rattle.host_core.specs.code.Progress.{Went, Over, stop_of, goes_further, is_queue_full, list_of, parts_now, progress_is}
use Rattle.host_core.proofs.Stops.{unstopped}
use Rattle.host_core.proofs.stepping.step_call.Goals as goal

pub returns-in-Some-clause-full : goal.returns-in-Some-clause-full
returns-in-Some-clause-full g c is = absurd (false≢true (sym c.in-Some.ensures.queue ∙ is))

pub returns-in-Some-begun-clause-step : goal.returns-in-Some-begun-clause-step
returns-in-Some-begun-clause-step g c =
    let old = c.args.parts.now in
    let w = writers old.journal.made_with in
    let zmap = old.volume.geometry.zmap in
    let most = quota old.journal.made_with in
    IfOk-weaker c.go_further.result _ _ (λ f e.
    subst (λ (b : Option Begun). (let x : Went = record { parts = parts_now c.go_further.new.parts; progress = progress_is (list_of b) f } in x) ≡ goes_further (is_queue_full f) w zmap most (parts_now old) c.args.number c.args.thread b c.args.call.now) (sym c.in-Some-begun.is) e
    ∙ unstopped (is_queue_full f) w zmap most (parts_now old) c.args.number c.args.thread c.args.begun.now c.args.call.now [] c.stop_of.result c.in_default.is (c.stop_of.ensures.stop [] ∙ ap (λ (x : FlushActor). option_map Over (stop_of x.part.taken c.kind_of.result)) c.flush.ensures ∙ ap (λ (k : CallKind). option_map Over (stop_of old.journal.part.flush.taken k)) c.kind_of.ensures)) (c.go_further.ensures.step w zmap most c.args.number c.args.call.now)

pub returns-in-None-clause-step : goal.returns-in-None-clause-step
returns-in-None-clause-step g c =
    let old = c.args.parts.now in
    let w = writers old.journal.made_with in
    let zmap = old.volume.geometry.zmap in
    let most = quota old.journal.made_with in
    IfOk-weaker c.start.result _ _ (λ f e.
    subst (λ (b : Option Begun). (let x : Went = record { parts = parts_now c.start.new.parts; progress = progress_is (list_of b) f } in x) ≡ goes_further (is_queue_full f) w zmap most (parts_now old) c.args.number c.args.thread b c.args.call.now) (sym c.in-None.is) e
    ∙ unstopped (is_queue_full f) w zmap most (parts_now old) c.args.number c.args.thread c.args.begun.now c.args.call.now [] c.stop_of.result c.in_default.is (c.stop_of.ensures.stop [] ∙ ap (λ (x : FlushActor). option_map Over (stop_of x.part.taken c.kind_of.result)) c.flush.ensures ∙ ap (λ (k : CallKind). option_map Over (stop_of old.journal.part.flush.taken k)) c.kind_of.ensures)) c.start.ensures.step
