use Rattle.std.proofs.Common.{◌≡◌, [], ◌∷◌, ◌++◌, replicate, ap₂, rules, ◌∙◌}
use Rattle.blk_base.proofs.Kept.{zeros_of}
use Rattle.blk_base.proofs.image.Image.zeroed.Goals as goal

pub returns : goal.returns
returns c =
    let none : c.in_ok-places.places.items ≡ replicate c.args.blocks 0 = search rules in
    zeros_of _ _ c.args.blocks
    (c.push_reserved.ensures.items ∙ ap₂ (λ xs x. xs ++ x ∷ []) c.in_ok-bodies.ensures.items c.fill.ensures)
    none
