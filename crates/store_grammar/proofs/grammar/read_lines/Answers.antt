use Rattle.std.proofs.Common.{◌∙◌, arith}
use Rattle.std.proofs.lemmas.Result.{err_from_is_err_and}
use Rattle.script_words.proofs.LineByLine.{goes_on, ends}
use Rattle.store_grammar.specs.Grammar.{read_one, ended}
use Rattle.script_grammar.proofs.Lines.{IsTextReadAs-stops}
use Rattle.store_grammar.proofs.grammar.read_lines.Goals as goal

pub returns-in_err-reading : goal.returns-in_err-reading
returns-in_err-reading c =
    let p = err_from_is_err_and c.from_residual.result c.from_residual.ensures.1 in
    rw (p.1, p.2, ← c.loop-line.invariant.same) (IsTextReadAs-stops read_one ended (λ x. x.now) c.args.lines.now c.loop-line.line-index c.loop-line.number _ c.loop-line.reading _ (omega arith) c.in_err-reading.ensures)

pub loop-line-preserved : goal.loop-line-preserved
loop-line-preserved c = record {
  same = goes_on read_one ended (λ x. x.now) c.args.lines.now c.loop-line.line-index c.loop-line.number _ c.loop-line.reading _ (omega arith) c.in_ok-reading.ensures ∙ c.loop-line.invariant.same;
  counted = omega arith;
}

pub returns : goal.returns
returns c =
    rw (← c.loop-line.invariant.same, ends read_one ended (λ x. x.now) c.args.lines.now c.loop-line.line-index c.loop-line.number c.loop-line.reading (omega arith)) c.ended.ensures
