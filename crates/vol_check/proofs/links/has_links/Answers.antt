use Rattle.std.proofs.Common.{◌≡◌, ◌<◌, refl, sym, ap, subst, ◌∙◌}
use Rattle.std.proofs.lemmas.Bool.{false≢true, eqb-true, eq-eqb}
use Rattle.minix_layout.specs.declared.inode.Inode.{Inode}
use Rattle.volume_ops.specs.VolumeFields.{inode_at}
use Rattle.vol_check.specs.code.Births.{tree_in}
use Rattle.vol_check.proofs.Decisions.{links_unreached, links_reached}
use Rattle.vol_check.proofs.links.has_links.Goals as goal

pub returns-then-not-reaches : goal.returns-then-not-reaches
returns-then-not-reaches c =
    let v = c.args.volume.now in
    (λ _. links_unreached v.geometry v.blocks (tree_in v.geometry v.blocks) c.requires.births.stands c.args.inode c.requires.some (λ led. false≢true (sym c.if-not-reaches.true ∙ c.reaches.ensures.1 led)), λ _. refl)

pub returns : goal.returns
returns c =
    let v = c.args.volume.now in
    let i : c.inode_at-i.result ≡ inode_at v.geometry v.blocks c.args.inode = rw (c.inode_at-i.ensures.value, c.disk.ensures.blocks, c.geometry.ensures) refl in
    let links = ap (λ (i : Inode). i.links) i in
    let field : c.from.result ≡ (inode_at v.geometry v.blocks c.args.inode).links = c.from.ensures ∙ links in
    let fits : (inode_at v.geometry v.blocks c.args.inode).links < 256 = subst (λ n. n < 256) links c.inode_at-i.ensures.fits.links in
    let tells = links_reached v.geometry v.blocks (tree_in v.geometry v.blocks) c.requires.births.stands c.args.inode c.requires.some c.wanted.result (c.reaches.ensures.0 c.if-not-reaches.false) c.wanted.ensures fits in
    (λ t. tells.0 (sym field ∙ eqb-true c.from.result c.wanted.result t), λ has. eq-eqb c.from.result c.wanted.result (field ∙ tells.1 has))
