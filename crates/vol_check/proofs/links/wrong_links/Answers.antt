use Rattle.std.proofs.Common.{sym, ap, ◌∙◌, ◌+◌, arith}
use Rattle.std.proofs.lemmas.Bool.{false≢true}
use Rattle.minix_layout.specs.declared.division.Geometry.{Geometry}
use Rattle.vol_check.specs.Clean.{HasLinks}
use Rattle.vol_check.proofs.Firsts.{all_more, first_here}
use Rattle.vol_check.proofs.links.wrong_links.Goals as goal

pub loop-before-init : goal.loop-before-init
loop-before-init c k low high = absurd (omega (arith, low, high))

pub loop-before-preserved : goal.loop-before-preserved
loop-before-preserved c =
    let v = c.args.volume.now in
    all_more 1 0 (HasLinks v.geometry v.blocks) (c.loop-before.before + 1) c.loop-before.invariant (c.has_links.ensures.0 c.if-not-has_links.false)

pub returns-then-not-has_links : goal.returns-then-not-has_links
returns-then-not-has_links c =
    let v = c.args.volume.now in
    let inside = c.loop-before-test.true in
    let same = ap (λ (g : Geometry). g.inodes) c.geometry.ensures in
    first_here 1 (v.geometry.inodes + 1) (HasLinks v.geometry v.blocks) (c.loop-before.before + 1) (omega arith) (omega (arith, inside, same))
    (λ has. false≢true (sym c.if-not-has_links.true ∙ c.has_links.ensures.1 has)) c.loop-before.invariant

pub returns : goal.returns
returns c k low high =
    let past = c.loop-before-test.false in
    let same = ap (λ (g : Geometry). g.inodes) c.geometry.ensures in
    c.loop-before.invariant k low (omega (arith, high, past, same))
