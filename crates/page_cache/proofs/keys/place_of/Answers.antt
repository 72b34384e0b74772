use Rattle.std.proofs.Common.{rules, ◌+◌, ◌-◌, ◌/◌, ◌<◌, length, sym, ap, ◌∙◌, arith}
use Rattle.page_cache.specs.code.Keys.{is_before}
use Rattle.page_cache.proofs.KeyPlaces.{place_within, place_behind, place_before}
use Rattle.page_cache.proofs.keys.place_of.Goals as goal

pub loop-low-init : goal.loop-low-init
loop-low-init c =
    let within = place_within c.args.keys.now.items c.args.birth c.args.index in
    let size = c.len-high.ensures in
    (omega arith, omega arith, omega arith)

pub loop-low-preserved-then-is_before : goal.loop-low-preserved-then-is_before
loop-low-preserved-then-is_before c =
    let ks = c.args.keys.now.items in
    let middle = c.loop-low.low + (c.loop-low.high - c.loop-low.low) / 2 in
    let inside : middle < length ks = search rules in
    let before = ap (λ k. is_before k c.args.birth c.args.index) (sym c.at.ensures) ∙ sym c.is_before.ensures ∙ c.if-is_before.true in
    (place_behind ks c.args.birth c.args.index middle c.at.result c.requires inside before, c.loop-low.invariant.1, c.loop-low.invariant.2)

pub loop-low-preserved : goal.loop-low-preserved
loop-low-preserved c =
    let ks = c.args.keys.now.items in
    let middle = c.loop-low.low + (c.loop-low.high - c.loop-low.low) / 2 in
    let inside : middle < length ks = search rules in
    let behind = ap (λ k. is_before k c.args.birth c.args.index) (sym c.at.ensures) ∙ sym c.is_before.ensures ∙ c.if-is_before.false in
    (c.loop-low.invariant.0, place_before ks c.args.birth c.args.index middle c.at.result behind, omega (arith, inside))
