use Rattle.std.proofs.Common.{◌≡◌, ◌↔◌, true, not, sym, ap, subst, ◌∙◌}
use Rattle.std.proofs.lemmas.Bool.{false≢true}
use Rattle.minix_layout.specs.declared.division.Geometry.{Geometry}
use Rattle.minix_layout.specs.Bits.{inode_bit, has_bit}
use Rattle.volume_ops.specs.Faultless.{IsReached}
use Rattle.vol_check.specs.Clean.{HasInodeBit}
use Rattle.vol_check.proofs.Decisions.{bit_reached, bit_unreached}
use Rattle.vol_check.proofs.maps.has_inode_bit.Goals as goal

pub returns-then-reached : goal.returns-then-reached
returns-then-reached c =
    let v = c.args.volume.now in
    let is = c.bit_at-bit.ensures ∙ ap (has_bit v.blocks) (c.inode_bit.ensures.place ∙ ap (λ (g : Geometry). inode_bit g c.args.inode) c.geometry.ensures) in
    subst (λ b. (b ≡ true) ↔ HasInodeBit v.geometry v.blocks c.args.inode) (sym is)
    (bit_reached (has_bit v.blocks (inode_bit v.geometry c.args.inode)) (IsReached v.geometry v.blocks c.args.inode) (c.reaches-reached.ensures.0 c.if-reached.true))

pub returns-else-reached : goal.returns-else-reached
returns-else-reached c =
    let v = c.args.volume.now in
    let is = c.bit_at-bit.ensures ∙ ap (has_bit v.blocks) (c.inode_bit.ensures.place ∙ ap (λ (g : Geometry). inode_bit g c.args.inode) c.geometry.ensures) in
    subst (λ b. (not b ≡ true) ↔ HasInodeBit v.geometry v.blocks c.args.inode) (sym is)
    (bit_unreached (has_bit v.blocks (inode_bit v.geometry c.args.inode)) (IsReached v.geometry v.blocks c.args.inode) (λ led. false≢true (sym c.if-reached.false ∙ c.reaches-reached.ensures.1 led)))
