use Rattle.std.proofs.Common.{slice_index_or, refl}
use Rattle.flush_actor.specs.Waits.{no_wait}
use Rattle.host_core.specs.begun.code.Told.{gone_by, found_queue_full}
use Rattle.host_core.specs.declared.host_parts.HostParts.{HostParts}
use Rattle.host_core.proofs.Kept.{going_kept}
use Rattle.host_core.proofs.stepping.go_further.Goals as goal

pub returns-in-Waiting-clause-same : goal.returns-in-Waiting-clause-same
returns-in-Waiting-clause-same g c =
    let old = c.args.parts.now in
    let go = c.go_on in
    let new : HostParts = record { journal = go.new.journal; volume = old.volume; pages = go.new.pages; owners = old.owners; known = old.known } in
    let p = c.in_ok-go_on.field-0 in
    going_kept old new (found_queue_full p) c.args.thread (slice_index_or old.journal.part.flush.waits c.args.thread no_wait) c.args.begun.now go.new.journal.part go.new.pages.pages
    (gone_by c.args.begun.now.list go.new.journal.part go.new.pages.pages p) refl c.in_ok-go_on.ensures.step c.in_ok-go_on.ensures.same refl
