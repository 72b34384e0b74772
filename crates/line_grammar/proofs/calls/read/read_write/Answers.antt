use Rattle.std.proofs.Common.{arith}
use Rattle.line_grammar.proofs.CallsLemmas.Others.{write_of_few, write_of_many}
use Rattle.line_grammar.proofs.calls.read.read_write.Goals.{in_default-via-then-words-lt2, in_default-via-else-words-lt2+else-words-lt3}
use Rattle.line_grammar.proofs.calls.read.read_write.Goals as goal

pub returns-in_default : goal.returns-in_default
returns-in_default c =
    elim c.in_default.branch [
      | in_default-via-then-words-lt2 w ↦ write_of_few (λ x. x.now) c.args.path.now c.args.off c.args.words.now (grind arith)
      | in_default-via-else-words-lt2+else-words-lt3 w ↦ write_of_many (λ x. x.now) c.args.path.now c.args.off c.args.words.now (grind arith)
    ]
