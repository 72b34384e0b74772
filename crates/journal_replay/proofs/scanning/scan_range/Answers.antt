use Rattle.std.proofs.Common.{◌≡◌, ◌+◌, ◌∙◌, List, ℕ, Bool, true, false, sym, ap, subst, arith}
use Rattle.order_model.specs.Device.{Seen}
use Rattle.journal_blocks.specs.Log.{body_at, by_tags}
use Rattle.journal_replay.specs.code.Scans.{after}
use Rattle.journal_replay.specs.laws.Scans.{entries, scan_step, scan_ended, read_more}
use Rattle.journal_replay.proofs.scanning.scan_range.Goals as goal

pub returns-in-Ok-false-clause-log : goal.returns-in-Ok-false-clause-log
returns-in-Ok-false-clause-log g c =
    let d = g.D.OrderedDev in
    let i = c.loop-place.invariant in
    let image = (d.seen (d.state c.args.dev.now)).surface in
    let place = c.loop-place.place in
    let same : (d.seen (d.state c.loop-place.dev)).surface ≡ image = ap (λ (x : Seen). x.surface) i.read.reads.0 in
    let is = ap (λ (xs : List (List ℕ)). body_at xs (c.args.base + place)) (sym same) ∙ c.in_ok-body.ensures.body in
    let step = subst (λ (b : Bool). by_tags c.args.wide c.args.base c.loop-place.scan (record { at = c.args.base + place; body = c.in_ok-body.body }) c.loop-place.scan.tags ≡ after b c.read.new.self) c.in-Ok-false.field-0-test c.in-Ok-false.ensures in
    sym i.log ∙ (sym (scan_step c.args.wide c.args.base place c.args.to image c.loop-place.scan c.read.new.self false c.in_ok-body.body (omega arith) is step) ∙ scan_ended c.args.wide c.args.base (entries c.args.base image (place + 1) c.args.to) c.read.new.self)

pub loop-place-preserved : goal.loop-place-preserved
loop-place-preserved g c =
    let d = g.D.OrderedDev in
    let i = c.loop-place.invariant in
    let image = (d.seen (d.state c.args.dev.now)).surface in
    let place = c.loop-place.place in
    let same : (d.seen (d.state c.loop-place.dev)).surface ≡ image = ap (λ (x : Seen). x.surface) i.read.reads.0 in
    let is = ap (λ (xs : List (List ℕ)). body_at xs (c.args.base + place)) (sym same) ∙ c.in_ok-body.ensures.body in
    let step = subst (λ (b : Bool). by_tags c.args.wide c.args.base c.loop-place.scan (record { at = c.args.base + place; body = c.in_ok-body.body }) c.loop-place.scan.tags ≡ after b c.read.new.self) c.in-Ok-true.field-0-test c.in-Ok-true.ensures in
    record {
      log = scan_step c.args.wide c.args.base place c.args.to image c.loop-place.scan c.read.new.self true c.in_ok-body.body (omega arith) is step ∙ i.log;
      valid = c.in_ok-body.ensures.valid;
      read = read_more _ _ _ i.read c.in_ok-body.ensures.read;
      on = λ on. c.in_ok-body.ensures.on (i.on on);
      reads = λ first before. c.in_ok-body.ensures.asked first (i.reads first before);
      sound = λ sound. let p = i.sound sound in let q = c.in_ok-body.ensures.sound p.0 in (q.0, q.1 ∙ p.1);
    }
