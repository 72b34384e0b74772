use Rattle.std.proofs.Common.{◌≡◌, ◌<◌, ℕ, List, length, rules, arith, sym, ap, ◌∙◌}
use Rattle.std.proofs.lemmas.List.{length-map}
use Rattle.blk_base.specs.code.Bodies.{body_at, blocks_of}
use Rattle.blk_base.proofs.Kept.{put_in_place, put_behind, put_nothing, kept_behind}
use Rattle.blk_base.proofs.image.Image.put.Goals as goal

within : (bodies : List (List ℕ)) (places : List ℕ) (blocks : List (List ℕ)) (b : ℕ) → blocks_of bodies places ≡ blocks → b < length blocks → b < length places
within bodies places blocks b view lt =
    let same : length blocks ≡ length places = ap length (sym view) ∙ length-map places (body_at bodies) in
    omega (arith, same, lt)

pub invariant_of-self-then-not-is_zeros : goal.invariant_of-self-then-not-is_zeros
invariant_of-self-then-not-is_zeros c =
    let inside = c.self.inside in
    let lt = within _ _ _ _ c.self.view_is c.requires in
    let kept = kept_behind inside.bodies.items inside.places.items c.args.b _ c.args.body c.self.invariant.0 lt c.index-place.ensures c.if-place-ne0.false in
    let len : length inside.bodies.items ≡ c.len.result = search rules in
    (rw (c.push_reserved.ensures.items, ← len) kept, search rules, search rules)

pub returns-then-place-ne0 : goal.returns-then-place-ne0
returns-then-place-ne0 c =
    let inside = c.self.inside in
    let lt = within _ _ _ _ c.self.view_is c.requires in
    rw (← c.self.view_is)
    (put_in_place inside.bodies.items inside.places.items c.args.b _ c.args.body c.self.invariant.0 lt c.index-place.ensures c.if-place-ne0.true)

pub returns-then-not-is_zeros : goal.returns-then-not-is_zeros
returns-then-not-is_zeros c =
    let inside = c.self.inside in
    let len : length inside.bodies.items ≡ c.len.result = search rules in
    rw (← c.self.view_is, c.push_reserved.ensures.items, ← len)
    (put_behind inside.bodies.items inside.places.items c.args.b c.args.body c.self.invariant.0)

pub returns-else-not-is_zeros : goal.returns-else-not-is_zeros
returns-else-not-is_zeros c =
    let inside = c.self.inside in
    let lt = within _ _ _ _ c.self.view_is c.requires in
    rw (← c.self.view_is)
    (put_nothing inside.bodies.items inside.places.items c.args.b _ c.args.body c.self.invariant.0 lt c.index-place.ensures c.if-place-ne0.false (c.is_zeros.ensures.0 c.if-not-is_zeros.false))
