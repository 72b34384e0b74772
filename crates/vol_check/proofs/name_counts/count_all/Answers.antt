use Rattle.std.proofs.Common.{◌≡◌, ◌+◌, get_or, length, replicate, refl, ap, ◌∙◌, arith}
use Rattle.std.proofs.lemmas.List.{length-replicate}
use Rattle.std.specs.Prelude.{min}
use Rattle.minix_layout.specs.declared.division.Geometry.{Geometry}
use Rattle.vol_check.specs.code.Births.{tree_in}
use Rattle.vol_check.specs.code.Names.{names_by, names_below, most}
use Rattle.vol_check.proofs.Counts.{birth_counted, get_replicate}
use Rattle.vol_check.proofs.NameSums.{names_are_below}
use Rattle.vol_check.proofs.Reached.{birth_within}
use Rattle.vol_check.proofs.name_counts.count_all.Goals as goal

pub loop-birth-init : goal.loop-birth-init
loop-birth-init c =
    let n = c.args.volume.now.geometry.inodes + 1 in
    record {
      size = ap length c.requires.zeros ∙ length-replicate n 0;
      counted = λ other low. ap (λ xs. min (get_or xs other 0) most) c.requires.zeros ∙ ap (λ k. min k most) (get_replicate n other);
    }

pub loop-birth-preserved : goal.loop-birth-preserved
loop-birth-preserved c =
    let v = c.args.volume.now in
    let tree = tree_in v.geometry v.blocks in
    let size = c.loop-birth.invariant.size in
    record {
      size = c.count_birth.ensures.size ∙ size;
      counted = λ other low.
          birth_counted tree c.loop-birth.birth other (names_by tree c.loop-birth.birth other) (get_or c.loop-birth.counts.items other 0) (get_or c.count_birth.new.counts.items other 0) refl
          (c.loop-birth.invariant.counted other low) (c.count_birth.ensures.counts other (omega (arith, low, size)));
    }

pub returns : goal.returns
returns c other low =
    let v = c.args.volume.now in
    let tree = tree_in v.geometry v.blocks in
    let inodes = ap (λ (g : Geometry). g.inodes) c.geometry.ensures in
    let from = c.from-numbers.ensures in
    let past = c.loop-birth-test.false in
    let end = c.loop-birth.auto.birth-end in
    let all : c.loop-birth.birth ≡ v.geometry.inodes + 1 = omega (arith, inodes, from, past, end) in
    c.loop-birth.invariant.counted other low
    ∙ (ap (λ n. min (names_below tree n other) most) all
    ∙ ap (λ n. min n most) (names_are_below (v.geometry.inodes + 1) tree other c.requires.births.stands.rooted.in_order
    (λ birth node at. let within = birth_within v.geometry v.blocks tree c.requires.births.stands c.requires.births.some_inode birth node at in omega (arith, within))))
