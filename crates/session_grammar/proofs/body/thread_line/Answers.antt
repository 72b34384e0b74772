use Rattle.std.proofs.Common.{arith}
use Rattle.session_grammar.proofs.Others.{thread_of_few, thread_of_many}
use Rattle.session_grammar.proofs.body.thread_line.Goals.{in_default-via-then-words-lt1, in_default-via-else-words-lt1+else-words-lt2}
use Rattle.session_grammar.proofs.body.thread_line.Goals as goal

pub returns-in_default : goal.returns-in_default
returns-in_default c =
    elim c.in_default.branch [
      | in_default-via-then-words-lt1 w ↦ thread_of_few (λ x. x.now) c.args.reading c.args.words.now (grind arith)
      | in_default-via-else-words-lt1+else-words-lt2 w ↦ thread_of_many (λ x. x.now) c.args.reading c.args.words.now (grind arith)
    ]
