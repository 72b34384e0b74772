use Rattle.std.proofs.Common.{◌≡◌, ◌+◌, suc, ap, ◌∙◌, arith, drop}
use Rattle.std.proofs.Math.Seq.{drop-cons}
use Rattle.volume_model.specs.Edits.{edited_all}
use Rattle.widening.specs.Directories.{slot_edits}
use Rattle.widening.proofs.SlotSteps.{slots_put}
use Rattle.widening.proofs.directory.put_slots.Goals as goal

pub loop-zone-preserved : goal.loop-zone-preserved
loop-zone-preserved c =
    let at = c.loop-zone.zone-index in
    let next : at + 1 ≡ suc at = omega arith in
    ap (λ n. edited_all c.args.g.now c.put_body.new.blocks (slot_edits (drop n c.args.zones.now) c.split_at.result.1.now)) next
    ∙ slots_put c.args.g.now c.loop-zone.image c.put_body.new.blocks _ _ (drop (suc at) c.args.zones.now) _ c.min.result c.loop-zone.rest.now _ _ c.slots_block.result
    (drop-cons c.args.zones.now at 0 c.loop-zone-test.true) c.min.ensures c.split_at.ensures.front c.split_at.ensures.back c.slots_block.ensures c.put_body.ensures c.loop-zone.invariant
