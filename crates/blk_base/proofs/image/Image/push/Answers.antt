use Rattle.std.proofs.Common.{◌≡◌, [], ◌∷◌, ◌++◌, length, rules, ap, ap₂, ◌∙◌}
use Rattle.blk_base.specs.code.Bodies.{blocks_of}
use Rattle.blk_base.proofs.Kept.{push_behind, kept_nothing, kept_push}
use Rattle.blk_base.proofs.image.Image.push.Goals as goal

pub invariant_of-self-then-is_zeros : goal.invariant_of-self-then-is_zeros
invariant_of-self-then-is_zeros c =
    let inside = c.self.inside in
    let kept = kept_nothing inside.bodies.items inside.places.items c.self.invariant.0 in
    (search (rules, kept), search rules, search rules)

-- the bodies and the places
new_bodies : (c : goal.After-push_reserved-else-is_zeros-2) → c.push_reserved-else-is_zeros-2.new.self.items ≡ c.self.inside.bodies.items ++ c.args.body ∷ []
new_bodies c = c.push_reserved-else-is_zeros-2.ensures.items ∙ ap (λ l. l ++ c.args.body ∷ []) c.reserve-2.ensures.items

new_places : (c : goal.After-push_reserved-else-is_zeros-2) → c.push_reserved-else-is_zeros.new.self.items ≡ c.self.inside.places.items ++ length c.self.inside.bodies.items ∷ []
new_places c =
    let len : c.len-else-is_zeros.result ≡ length c.self.inside.bodies.items = search rules in
    c.push_reserved-else-is_zeros.ensures.items ∙ ap₂ (λ l n. l ++ n ∷ []) c.reserve.ensures.items len

pub invariant_of-self-else-is_zeros : goal.invariant_of-self-else-is_zeros
invariant_of-self-else-is_zeros c =
    let inside = c.self.inside in
    let kept = kept_push inside.bodies.items inside.places.items c.args.body c.self.invariant.0 in
    (rw (new_bodies c, new_places c) kept, search rules, search rules)

pub returns-else-is_zeros-clause-pushed : goal.returns-else-is_zeros-clause-pushed
returns-else-is_zeros-clause-pushed c =
    let inside = c.self.inside in
    rw (← c.self.view_is)
    (ap₂ blocks_of (new_bodies c) (new_places c) ∙ push_behind inside.bodies.items inside.places.items c.args.body c.self.invariant.0)
