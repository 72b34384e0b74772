use Rattle.std.proofs.Common.{◌==◌, arith}
use Rattle.script_words.proofs.Parts.{few_parts}
use Rattle.script_words.proofs.spelling.lines.Goals as goal

pub returns-clause-few : goal.returns-clause-few
returns-clause-few c =
    omega (arith, few_parts (λ x. x.now) c.in_ok-split.field-0.items (λ b. b == 10) c.without_last_feed.result.now c.in_ok-split.ensures, c.in_ok-split.field-0.ok.0, c.without_last_feed.ensures.shorter)
