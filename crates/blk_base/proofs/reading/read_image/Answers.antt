use Rattle.std.proofs.Common.{◌≤◌, ◌++◌, [], take, length, subst, ap, ◌∙◌, rules, arith, length-take-le}
use Rattle.std.specs.Io.KnownBytes.{Consumes}
use Rattle.blk_base.specs.Image.{whole_blocks, last_part}
use Rattle.blk_base.proofs.ReadPieces.{held_more, read_more, read_all_of, read_too_much}
use Rattle.blk_base.proofs.reading.read_image.Goals as goal

pub returns-then-n-eq0-clause-all : goal.returns-then-n-eq0-clause-all
returns-then-n-eq0-clause-all g c =
    let left = g.S.Source.left in
    let none : Consumes (left c.reads.src) (left c.read.new.self) [] = subst (λ n. Consumes (left c.reads.src) (left c.read.new.self) (take n c.read.new.buf)) c.if-n-eq0.true c.in-Ok.ensures.content.0 in
    read_all_of _ _ _ _ _ _ _ c.reads.invariant.read none (c.in-Ok.ensures.content.1 c.if-n-eq0.true (search rules))

pub returns-then-n-room-clause-too_long : goal.returns-then-n-room-clause-too_long
returns-then-n-room-clause-too_long g c = λ _.
    let fits : c.in-Ok.n ≤ length c.read.new.buf = omega (arith, c.in-Ok.ensures.within, c.read.auto.buf) in
    let long = length-take-le c.in-Ok.n c.read.new.buf fits in
    read_too_much _ _ _ _ _ _ _ (take c.in-Ok.n c.read.new.buf) c.reads.invariant.read c.in-Ok.ensures.content.0 (let over = c.if-n-room.true in omega (arith, long, over))

pub reads-preserved : goal.reads-preserved
reads-preserved g c =
    let fits : c.in-Ok.n ≤ length c.read.new.buf = omega (arith, c.in-Ok.ensures.within, c.read.auto.buf) in
    let within : c.reads.held ≤ length c.reads.buf = search rules in
    let long = length-take-le c.in-Ok.n c.read.new.buf fits in
    let both = held_more c.reads.buf c.read.new.buf _ c.reads.held c.in-Ok.n within fits in
    record {
      read = read_more _ _ _ _ _ _ _ _ _ (take c.in-Ok.n c.read.new.buf) _ c.reads.invariant.read c.in-Ok.ensures.content.0 long c.if-n-room.false
          (c.in_ok-held.ensures.appended ∙ ap (λ l. c.reads.image ++ whole_blocks l) both)
          (c.in_ok-held.ensures.rest ∙ ap last_part both);
      short = c.in_ok-held.ensures.short;
      faults = search rules;
    }
