use Rattle.std.proofs.Common.{◌≡◌, true, sym, ap, subst, ◌∙◌}
use Rattle.std.proofs.lemmas.Bool.{true≢false}
use Rattle.std.proofs.lemmas.Result.{IfOk-weaker}
use Rattle.journal_ring.specs.running.Closing.{writers}
use Rattle.journal_ring.specs.running.Open.{quota}
use Rattle.host_core.specs.code.Known.{TakesZones, IsKnown}
use Rattle.host_core.specs.code.Progress.{is_waiting, parts_now}
use Rattle.host_core.specs.declared.host_parts.HostParts.{HostParts}
use Rattle.host_core.proofs.KnownKept.{changing_is_plain, noted_known, started}
use Rattle.host_core.proofs.stepping.start.Goals.{in-Waiting, in_default-matches, then-matches, else-matches}
use Rattle.host_core.proofs.stepping.start.Goals as goal

pub perform-requires-clause-refused : goal.perform-requires-clause-refused
perform-requires-clause-refused c = (c.requires.known.call c.in-Some.zones (sym c.in-Some.ensures)).refused

pub perform-requires-clause-changes : goal.perform-requires-clause-changes
perform-requires-clause-changes c = sym (c.requires.known.call c.in-Some.zones (sym c.in-Some.ensures)).changes

pub perform-requires-clause-zones : goal.perform-requires-clause-zones
perform-requires-clause-zones c = (c.requires.known.call c.in-Some.zones (sym c.in-Some.ensures)).takes

pub returns-in-Some-clause-step : goal.returns-in-Some-clause-step
returns-in-Some-clause-step c =
    let old = c.args.parts.now in
    let takes = c.requires.known.call c.in-Some.zones (sym c.in-Some.ensures) in
    let same = started (writers old.journal.made_with) old.volume.geometry.zmap (quota old.journal.made_with) (parts_now old) c.args.number c.args.call.now takes.refused (changing_is_plain old.volume c.args.call.now takes.changes) in
    IfOk-weaker c.perform.result _ _ (λ f e. e ∙ sym same) c.perform.ensures.step

pub returns-in-Some-clause-known : goal.returns-in-Some-clause-known
returns-in-Some-clause-known c programs own h = c.perform.ensures.known programs h

pub returns-in_err-found-clause-known : goal.returns-in_err-found-clause-known
returns-in_err-found-clause-known c programs own h = c.perform-2.ensures.known programs h

pub returns-clause-known : goal.returns-clause-known
returns-clause-known c =
    let old = c.args.parts.now in
    let mid = c.perform-2.new.parts in
    elim c.if-matches.branch [
      | then-matches w ↦ λ programs own h.
          let waits : is_waiting c.in_ok-found.found ≡ true =
          elim c.match-matches.branch [ in-Waiting v ↦ ap is_waiting v.in-Waiting.is | in_default-matches v ↦ absurd (true≢false (sym w.if-matches.true ∙ v.matches-is)) ] in
          let left = c.in_ok-found.ensures.waiting waits in
          let takes : TakesZones old.volume c.args.call.now c.asked-refusal.result.1 =
          record { refused = sym c.asked-refusal.ensures.refusal ∙ c.in_default-refusal.is; changes = left.1; takes = c.asked-refusal.ensures.zones } in
          subst (λ (p : HostParts). IsKnown programs p.volume p.known) (sym w.parts-is)
          (noted_known c.args.thread c.args.place c.asked-refusal.result.1 c.args.call.now old.volume mid.volume mid.known w.note.new.self takes left.0 w.note.ensures.calls w.note.ensures.to_come programs own
          (c.perform-2.ensures.known programs h))
      | else-matches w ↦ λ programs own h. subst (λ (p : HostParts). IsKnown programs p.volume p.known) (sym w.parts-is) (c.perform-2.ensures.known programs h)
    ]
