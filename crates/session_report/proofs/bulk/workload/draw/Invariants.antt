use Rattle.std.proofs.Common.{◌≡◌, ◌-◌, ◌++◌}
use Rattle.rand_core.specs.Steps.{first_words}
use Rattle.rand_pcg.specs.Pcg.{pcg32}
use Rattle.session_report.specs.bulk.Workload.{drawn_words}
use Rattle.session_report.proofs.bulk.workload.draw.Given as goal

-- the words so far and those that are left are all words
abbrev pub invariant-loop : goal.invariant-loop
invariant-loop l = l.words.items ++ first_words pcg32 (l.n - l.counter) l.generator ≡ drawn_words l.n
