use Rattle.std.proofs.Common.{◌-◌, ◌^◌, ◌∙◌, arith}
use Rattle.std.proofs.lemmas.List.{drop_all}
use Rattle.script_words.proofs.Numerals.{value_after-more}
use Rattle.script_words.proofs.spelling.value.Goals as goal

pub loop-digit-preserved : goal.loop-digit-preserved
loop-digit-preserved c = record {
  same = value_after-more c.args.digits.now c.loop-digit.digit-index (2 ^ 64 - 1) c.loop-digit.value c.saturating_add-value.result (omega arith) (omega arith) ∙ c.loop-digit.invariant.same;
  small = omega arith;
}

pub returns : goal.returns
returns c =
    let e = drop_all c.loop-digit.digit-index c.args.digits.now (omega arith) in
    let h = rw e at c.loop-digit.invariant.same in
    omega arith
