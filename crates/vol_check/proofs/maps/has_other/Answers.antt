use Rattle.std.proofs.Common.{sym, ap, ◌∙◌, ◌+◌, refl, arith}
use Rattle.std.proofs.lemmas.Bool.{false≢true}
use Rattle.minix_layout.specs.declared.division.Geometry.{Geometry}
use Rattle.vol_check.specs.Clean.{IsOther}
use Rattle.vol_check.proofs.Firsts.{all_more}
use Rattle.vol_check.proofs.Reached.{reached_some, reached_within}
use Rattle.vol_check.proofs.maps.has_other.Goals as goal

pub loop-before-init : goal.loop-before-init
loop-before-init c k low high = absurd (omega (arith, low, high))

pub loop-before-preserved : goal.loop-before-preserved
loop-before-preserved c =
    let v = c.args.volume.now in
    all_more 1 0 (λ inode. IsOther v.geometry v.blocks inode → ⊥) (c.loop-before.before + 1) c.loop-before.invariant (λ other. false≢true (sym c.if-is_other.false ∙ c.is_other.ensures.1 other))

pub returns-then-is_other : goal.returns-then-is_other
returns-then-is_other c = (λ _. (c.loop-before.before + 1, c.is_other.ensures.0 c.if-is_other.true), λ _. refl)

pub returns : goal.returns
returns c =
    let v = c.args.volume.now in
    let past = c.loop-before-test.false in
    let same = ap (λ (g : Geometry). g.inodes) c.geometry.ensures in (
      λ f. absurd (false≢true f),
      λ x.
          let some = reached_some v.geometry v.blocks x.1.0 in
          let within = reached_within v.geometry v.blocks c.requires.stands.faultless c.requires.some_inode x.1.0 in
          absurd (c.loop-before.invariant x.0 some (omega (arith, within, past, same)) x.1),
    )
