use Rattle.std.proofs.Common.{map, ◌∷◌, ◌++◌, [], ap, sym, ◌∙◌, arith}
use Rattle.std.specs.List.{range_with_len}
use Rattle.std.proofs.lemmas.List.FromFn.{map-range_with_len_more}
use Rattle.volume_model.specs.Plain.{slot_in}
use Rattle.volume_model.proofs.slots.slots_in.Goals as goal

pub loop-k-preserved : goal.loop-k-preserved
loop-k-preserved c =
    c.in_ok-push.ensures.items
    ∙ (ap (λ items. items ++ c.slot_in.result ∷ []) c.loop-k.invariant
    ∙ (ap (λ s. map (slot_in c.args.g.now c.args.disk.now c.args.inode.now) (range_with_len 0 c.loop-k.k) ++ s ∷ []) c.slot_in.ensures ∙ sym (map-range_with_len_more (slot_in c.args.g.now c.args.disk.now c.args.inode.now) 0 c.loop-k.k c.loop-k.k (omega arith))))
