use Rattle.std.proofs.Common.{◌≡◌, ◌+◌, ◌-◌, ◌++◌, ℕ, List, ap, ◌∙◌, arith}
use Rattle.rand_core.specs.Steps.{first_words}
use Rattle.rand_pcg.specs.Pcg.{pcg32}
use Rattle.session_report.specs.bulk.Workload.{drawn_words}
use Rattle.session_report.proofs.BulkLemmas.Drawn.{drawn_one, drawn_all}
use Rattle.session_report.proofs.bulk.workload.draw.Goals as goal

pub loop-preserved : goal.loop-preserved
loop-preserved c =
    ap (λ (ws : List ℕ). ws ++ first_words pcg32 (c.args.n - (c.loop.counter + 1)) c.next_word.new.self) c.in_ok-push.ensures.items
    ∙ drawn_one c.loop.words.items (drawn_words c.args.n) c.args.n c.loop.counter c.next_word.result c.loop.generator c.next_word.new.self
    c.loop-test.true c.next_word.ensures c.loop.invariant

pub returns : goal.returns
returns c =
    drawn_all c.loop.words.items (drawn_words c.args.n) c.args.n c.loop.counter c.loop.generator (let past = c.loop-test.false in omega arith) c.loop.invariant
