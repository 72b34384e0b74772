use Rattle.std.proofs.Common.{◌∙◌, true, sym, ap, map}
use Rattle.journal_blocks.specs.Super.{is_wide}
use Rattle.journal_blocks.specs.Log.{Reading, read_log, entry_at, places}
use Rattle.journal_replay.specs.code.Scans.{after}
use Rattle.journal_replay.specs.laws.Scans.{log_is}
use Rattle.journal_replay.proofs.scanning.read_log.Goals as goal

pub returns-clause-log : goal.returns-clause-log
returns-clause-log g c =
    let d = g.D.OrderedDev in
    let image = (d.seen (d.state c.args.dev.now)).surface in
    let s = c.args.s.now in
    log_is c.args.base s image _ c.scan_ring.new.scan (ap (λ (r : Reading). read_log (is_wide s) c.args.base (after true r) (map (entry_at c.args.base image) (places s))) (sym c.start-log.ensures) ∙ c.in_ok-scan_ring.ensures.log)
