use Rattle.std.proofs.Common.{◌≡◌, Bool, true, ap, subst}
use Rattle.order_model.specs.Device.{Seen}
use Rattle.journal_blocks.specs.Super.{is_wide}
use Rattle.journal_blocks.specs.Log.{read_log}
use Rattle.journal_replay.specs.code.Scans.{after}
use Rattle.journal_replay.specs.laws.Scans.{entries, ring_ended, ring_result}
use Rattle.journal_replay.proofs.scanning.scan_ring.Goals as goal

pub returns-then-not-branch-clause-log : goal.returns-then-not-branch-clause-log
returns-then-not-branch-clause-log g c =
    let d = g.D.OrderedDev in
    let image = (d.seen (d.state c.args.dev.now)).surface in
    let s = c.args.s.now in
    ring_ended (is_wide s) c.args.base s image (after true c.args.scan.now) c.scan_range.new.scan
    (subst (λ (b : Bool). read_log (is_wide s) c.args.base (after true c.args.scan.now) (entries c.args.base image s.start s.maxlen) ≡ after b c.scan_range.new.scan) c.if-not-branch.true (rw c.is_wide-wide.ensures at c.in_ok-scan_range.ensures.log))

pub returns-clause-log : goal.returns-clause-log
returns-clause-log g c =
    let d = g.D.OrderedDev in
    let image = (d.seen (d.state c.args.dev.now)).surface in
    let s = c.args.s.now in
    ring_result (is_wide s) c.args.base s image (d.seen (d.state c.scan_range.new.dev)).surface (after true c.args.scan.now) c.scan_range.new.scan c.scan_range-2.new.scan c.scan_range-2.result
    (ap (λ (x : Seen). x.surface) c.in_ok-scan_range.ensures.read.reads.0)
    (subst (λ (b : Bool). read_log (is_wide s) c.args.base (after true c.args.scan.now) (entries c.args.base image s.start s.maxlen) ≡ after b c.scan_range.new.scan) c.if-not-branch.false (rw c.is_wide-wide.ensures at c.in_ok-scan_range.ensures.log))
    (rw c.is_wide-wide.ensures at c.scan_range-2.ensures.log)
