use Rattle.std.proofs.Common.{ap, sym, ◌∙◌}
use Rattle.journal_ring.specs.running.Closing.{writers}
use Rattle.journal_ring.specs.running.Open.{quota}
use Rattle.host_core.specs.at_once.Steps.{CallParts, Went}
use Rattle.host_core.specs.at_once.code.Told.{progress_is}
use Rattle.host_core.specs.declared.at_once.step.PlainProgress.{PlainProgress}
use Rattle.host_core.specs.code.Progress.{parts_now}
use Rattle.host_core.specs.declared.host_parts.HostParts.{HostParts}
use Rattle.host_core.proofs.Kept.{any_err, plain_kept}
use Rattle.host_core.proofs.Plainly.{list_still}
use Rattle.host_core.proofs.stepping.perform.Goals as goal

abbrev went : CallParts → PlainProgress → Went
went p x = record { parts = p; progress = progress_is x }

pub returns-in_err-of-in-Answered-clause-err : goal.returns-in_err-of-in-Answered-clause-err
returns-in_err-of-in-Answered-clause-err c =
    let old = c.args.parts.now in
    let s = c.step_plainly.new in
    let new : HostParts = record { journal = s.journal; volume = s.volume; pages = s.pages; owners = s.owners; known = s.known } in
    any_err c.from_residual-in_err-of-in-Answered.result
    (list_still (writers old.journal.made_with) old.volume.geometry.zmap (quota old.journal.made_with) (parts_now old) c.args.number c.args.call.now (parts_now new) c.in-Answered.reply
    (ap (went (parts_now new)) (sym c.in-Answered.is) ∙ c.in_ok-reply.ensures.step) c.in_err-of-in-Answered.ensures.err)

pub returns-in_err-of-in-Answered-clause-same : goal.returns-in_err-of-in-Answered-clause-same
returns-in_err-of-in-Answered-clause-same c =
    let old = c.args.parts.now in
    let s = c.step_plainly.new in
    let new : HostParts = record { journal = s.journal; volume = s.volume; pages = s.pages; owners = s.owners; known = s.known } in
    plain_kept old new (writers old.journal.made_with) old.volume.geometry.zmap (quota old.journal.made_with) c.args.number c.args.call.now (progress_is c.in_ok-reply.field-0) c.in_ok-reply.ensures.step c.in_ok-reply.ensures.same

pub returns-in_ok-of-in-Answered-clause-same : goal.returns-in_ok-of-in-Answered-clause-same
returns-in_ok-of-in-Answered-clause-same c =
    let old = c.args.parts.now in
    let s = c.step_plainly.new in
    let new : HostParts = record { journal = s.journal; volume = s.volume; pages = s.pages; owners = s.owners; known = s.known } in
    plain_kept old new (writers old.journal.made_with) old.volume.geometry.zmap (quota old.journal.made_with) c.args.number c.args.call.now (progress_is c.in_ok-reply.field-0) c.in_ok-reply.ensures.step c.in_ok-reply.ensures.same

pub returns-in-Waiting-clause-same : goal.returns-in-Waiting-clause-same
returns-in-Waiting-clause-same c =
    let old = c.args.parts.now in
    let s = c.step_plainly.new in
    let new : HostParts = record { journal = s.journal; volume = s.volume; pages = s.pages; owners = s.owners; known = s.known } in
    plain_kept old new (writers old.journal.made_with) old.volume.geometry.zmap (quota old.journal.made_with) c.args.number c.args.call.now (progress_is c.in_ok-reply.field-0) c.in_ok-reply.ensures.step c.in_ok-reply.ensures.same
