use Rattle.std.proofs.Common.{◌++◌, ◌∷◌, [], take, sym, ap, ◌∙◌}
use Rattle.std.proofs.lemmas.Option.{get_or_from_slice_get}
use Rattle.std.proofs.lemmas.List.{take_more}
use Rattle.blk_base.specs.laws.Members.{slice_get-length}
use Rattle.order_model.proofs.trail.Trail+Block.of_image.Goals as goal

pub loop-b-preserved : goal.loop-b-preserved
loop-b-preserved c =
    let image = c.args.image.now in
    let b = c.loop-b.b in
    let x = c.block.result.now in
    let there = c.block.ensures in
    c.and-trail.ensures ∙ ap (λ l. l ++ x ∷ []) c.loop-b.invariant
    ∙ ap (λ y. take b image ++ y ∷ []) (sym (get_or_from_slice_get image b x x there))
    ∙ sym (take_more image b x (slice_get-length image b x there))
