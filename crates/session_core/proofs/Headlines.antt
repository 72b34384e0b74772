-- The sentences of a session, from the laws of its host and of its power cut.
use Rattle.std.proofs.Common.{take, ◌≡◌, ℕ, ◌++◌, true, List, [], sym, subst, ◌∙◌}
use Rattle.blk_base.specs.Members.{In}
use Rattle.blk_base.specs.laws.Members.{In-take, In-append_left}
use Rattle.order_model.specs.declared.completion.Completion.{Completion}
use Rattle.tree_model.specs.Trees.{AreAlike}
use Rattle.volume_ops.specs.Volume.{disk_of}
use Rattle.mount_make.specs.Images.{recovered_image}
use Rattle.crash_laws.specs.Found.{IsFound}
use Rattle.crash_laws.specs.History.{last_write, IsLastChange}
use Rattle.host_machine.specs.State.{Begun}
use Rattle.host_machine.specs.runs.Sentences.{IsAllSettled}
use Rattle.minix_host.specs.Sessions.{Stands}
use Rattle.session_core.specs.run.Beginning.{call_over}
use Rattle.session_core.specs.run.End.{tree_behind}
use Rattle.call_sessions.specs.power_cuts.calls.CallImages.{found_in, submitted_by, ShowsFiles}
use Rattle.session_grammar.specs.declared.session_script.SessionScript.{SessionScript}
use Rattle.session_core.specs.Core.{EndState, IsDeviceOf, geometry_of, opening_of}
use Rattle.session_core.specs.Headline.{medium_of, told_by, IsShownBy, IsAllShown, HeadlineOn}
use Rattle.session_core.specs.Report.{ReportKeepsOrder}
use Rattle.session_core.specs.code.Cuts.{CutFacts}
use Rattle.session_core.specs.code.Ends.{EndFits}
use Rattle.session_core.specs.declared.report.SessionReport.{SessionReport}

-- what was taken was sent
pub took : (n : ℕ) (taken sent : List Completion) (c : Completion) → taken ≡ take n sent → In c taken → In c sent
took n taken sent c front here = In-take n sent c (subst (In c) front here)

pub headline_of : (s : SessionScript) (end : EndState) (r : SessionReport) → CutFacts s end.host (medium_of r) → ReportKeepsOrder s end r → EndFits end → IsDeviceOf s end.dev
    → r.cut.trace.sent.items ≡ end.dev.sent → r.found ≡ found_in (geometry_of s).zones 1 r.cut.image.items → HeadlineOn s end r
headline_of s end r facts order fits device sent found =
    let g = geometry_of s in
    let m = medium_of r in
    let host = facts.host in
    let p = host.promises in
    let tree = facts.tree in
    let count = found ∙ facts.counted in
    let files = p.kept.sentences.prefix m (disk_of (recovered_image r.cut.image.items)) order.closed (facts.recovered p.kept.closed) in
    let alike = subst (λ n. AreAlike (tree_behind (opening_of s) end.host n) tree.0) (sym count) tree.2 in
    let shows : (alike : AreAlike (tree_behind (opening_of s) end.host r.found) tree.0) → ShowsFiles g s.journal s.wide p.kept.closed end.host m tree.0 alike.to =
    subst (λ n. (alike : AreAlike (tree_behind (opening_of s) end.host n) tree.0) → ShowsFiles g s.journal s.wide p.kept.closed end.host m tree.0 alike.to) (sym count)
    (facts.shown p.kept.closed tree.0 files tree.1) in
    record {
      closed = p.kept.closed;
      notes = p.kept.rules.order.fits;
      order = order;
      accepted = fits.accepted;
      received = fits.received;
      taken = fits.taken;
      device = device;
      follows = host.follows;
      legal = host.legal;
      transactions = subst (λ n. IsFound (submitted_by g s.journal s.wide [] end.host) m n) (sym count) facts.transactions;
      counted = count;
      prefix = record { tree = tree.0; found = tree.1; alike = alike };
      files = files;
      shown = shows alike;
      answered = p.answered;
      barriers = λ e t c ok kind later. p.barriers m e t c ok kind order.closed later;
      syncs = λ e t c ok kind. p.syncs m (r.cut.trace.sent.items ++ end.dev.waiting) e t c ok kind order.closed order.flushed
          (λ x here. In-append_left r.cut.trace.sent.items end.dev.waiting x (subst (In x) (sym sent) (took fits.taken.0 end.host.journal.flush.taken end.dev.sent x fits.taken.1 here)));
      run = record { events = host.events; host = host.host_is };
      causes = host.causes;
      ok_causes = host.ok_causes;
      waited_for = host.waited_for;
      flushes = p.kept.flushes;
    }

-- ---- what the tree shows of what a call covers

module _ (s : SessionScript) (end : EndState) (r : SessionReport) (is : HeadlineOn s end r) where
  -- what survived or was superseded is shown or was superseded, with so many transactions as were found
  pub all_shown : (b : Begun) → IsAllSettled (call_over (opening_of s)) (Stands (opening_of s)) end.host is.closed (medium_of r) b → IsAllShown s end (medium_of r) r.found is.prefix.tree is.prefix.alike.to b
  all_shown b x = subst (λ n. IsAllShown s end (medium_of r) n is.prefix.tree is.prefix.alike.to b) (sym is.counted) (record {
    pages = λ f i n covers. is.shown.settled f i n (x.pages f i n covers);
    metadata = x.metadata;
  })

  pub latest_shown : (f i k : ℕ) → (told_by s end).maps ((told_by s end).cut r.found) f i ≡ true → IsLastChange (told_by s end) f r.found k
      → IsShownBy s end (medium_of r) is.prefix.tree is.prefix.alike.to f i (last_write (told_by s end) f i ((told_by s end).cut k))
  latest_shown =
      subst
      (λ n. (f i k : ℕ) → (told_by s end).maps ((told_by s end).cut n) f i ≡ true → IsLastChange (told_by s end) f n k →
      IsShownBy s end (medium_of r) is.prefix.tree is.prefix.alike.to f i (last_write (told_by s end) f i ((told_by s end).cut k)))
      (sym is.counted) is.shown.latest
