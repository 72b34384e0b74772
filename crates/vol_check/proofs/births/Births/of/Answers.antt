use Rattle.std.proofs.Common.{rules, ◌≡◌, ◌+◌, length, replicate, sym, ap, subst, ◌∙◌, arith}
use Rattle.std.proofs.lemmas.List.{length-replicate}
use Rattle.minix_layout.specs.declared.division.Geometry.{Geometry}
use Rattle.vol_check.specs.code.Births.{HasPlaces}
use Rattle.vol_check.proofs.Tables.{births_of}
use Rattle.vol_check.proofs.births.Births.of.Goals as goal

pub returns : goal.returns
returns c =
    let v = c.args.volume.now in
    let n = v.geometry.inodes + 1 in
    let inodes = ap (λ (g : Geometry). g.inodes) c.geometry.ensures in
    let from = c.from-numbers.ensures in
    let numbers : c.from-numbers.result + 1 ≡ n = omega (arith, inodes, from) in
    let made : c.in_ok-places.places.items ≡ replicate (c.from-numbers.result + 1) 0 = search rules in
    let zeros = made ∙ ap (λ k. replicate k 0) numbers in
    births_of v.geometry v.blocks c.disk.ensures.sound.some_inode c.nodes.result.now c.note_places.new.places.items
    (c.note_places.ensures.size ∙ (ap length zeros ∙ length-replicate n 0))
    (subst (λ old. HasPlaces c.nodes.result.now old c.note_places.new.places.items) zeros c.note_places.ensures.places)
    c.nodes.ensures.readable c.nodes.ensures.nodes
