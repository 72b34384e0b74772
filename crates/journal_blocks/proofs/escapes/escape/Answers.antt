use Rattle.std.proofs.Common.{◌≡◌, ◌∙◌, ap, sym, length, arith}
use Rattle.std.proofs.lemmas.Bool.{eqb-true}
use Rattle.journal_blocks.specs.Header.{magic_of}
use Rattle.journal_blocks.specs.Blocks.{restored}
use Rattle.journal_blocks.specs.laws.Escapes.{back_put, unlike_put}
use Rattle.journal_blocks.proofs.escapes.escape.Goals as goal

pub returns-then-not-has_magic-clause-back : goal.returns-then-not-has_magic-clause-back
unfolding restored
returns-then-not-has_magic-clause-back c = c.copy.ensures

pub returns-clause-unlike : goal.returns-clause-unlike
returns-clause-unlike c = rw c.with_front.ensures (unlike_put c.args.body.now)

pub returns-clause-back : goal.returns-clause-back
returns-clause-back c =
    let same = c.as_slice.ensures.value in
    let size : length c.args.body.now ≡ 1024 = ap length (sym same) ∙ c.as_slice.ensures.len in
    let magic : magic_of c.as_slice.result.now ≡ 0xC03B3998 = eqb-true _ _ (sym c.has_magic.ensures.value ∙ c.if-not-has_magic.false) in
    rw c.with_front.ensures (back_put c.args.body.now (ap magic_of (sym same) ∙ magic) (omega (arith, size)) (rw same at c.has_magic.ensures.fit))
