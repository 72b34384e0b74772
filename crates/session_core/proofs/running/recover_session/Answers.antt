use Rattle.std.proofs.Common.{sym, ap, ◌∙◌}
use Rattle.order_model.specs.declared.history.DeviceRecord.{DeviceRecord}
use Rattle.session_core.specs.Core.{geometry_of}
use Rattle.session_core.proofs.Cut.{report_keeps, report_facts, report_counts, base_of, journal_of}
use Rattle.session_core.proofs.Headlines.{headline_of}
use Rattle.session_core.proofs.Remounts.{attempts_are}
use Rattle.session_core.proofs.running.recover_session.Goals as goal

pub remount-requires-clause-mounts : goal.remount-requires-clause-mounts
remount-requires-clause-mounts g c = let is = c.requires.end.1 in (c.cut_scripts_keep_their_promises.ensures _ c.args.end is.order is.behind).mounts

pub remount-requires-clause-base : goal.remount-requires-clause-base
remount-requires-clause-base g c =
    let is = c.requires.end.1 in
    let facts = c.cut_scripts_keep_their_promises.ensures _ c.args.end is.order is.behind in
    base_of (geometry_of c.args.script.now) _ c.into.result c.into.ensures facts.volume

pub remount-requires-clause-journal : goal.remount-requires-clause-journal
remount-requires-clause-journal g c =
    let is = c.requires.end.1 in
    let facts = c.cut_scripts_keep_their_promises.ensures _ c.args.end is.order is.behind in
    journal_of (geometry_of c.args.script.now) _ c.into.result c.into.ensures facts.journal

pub returns-clause-headline : goal.returns-clause-headline
returns-clause-headline g c = λ e is.
    let s = c.args.script.now in
    let same = c.of_image-left.ensures in
    let facts = c.cut_scripts_keep_their_promises.ensures _ c.args.end is.order is.behind in
    let told = ap (λ (d : DeviceRecord). d.sent.items) c.of-trace.ensures in
    headline_of s _ _ (report_facts s _ _ _ _ same facts)
    (report_keeps _ _ _ _ _ c.args.end.cut.trace.sent.items c.of-trace.result.sent.items e.dev.waiting same told is.order)
    is.fits is.device (told ∙ is.left.trace.sent)
    (report_counts _ _ _ _ _ same c.into.ensures c.in-Ok-remount.ensures.found)

pub returns-clause-attempts : goal.returns-clause-attempts
returns-clause-attempts g c =
    attempts_are _ _ c.args.script.now _ _ _ c.into.result c.args.end.cut.image _ c.into.ensures (sym c.of_image-left.ensures) c.as_slice-recovers.ensures c.in-Ok-remount.ensures.attempts
