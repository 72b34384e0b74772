use Rattle.std.proofs.Common.{ℕ, Option, subst}
use Rattle.session_threads.specs.Ran.{IsThreadsReport}
use Rattle.barrierfs_top.proofs.threads.run_session.Goals as goal

pub returns-in-Ok-run_threads-clause-ran : goal.returns-in-Ok-run_threads-clause-ran
returns-in-Ok-run_threads-clause-ran g c = record {
  spelled = c.in-Ok.ensures.read;
  is = subst (λ (flash : Option ℕ). IsThreadsReport c.in-Ok.script flash c.in-Ok-run_threads.report) c.in-Ok.ensures.model c.in-Ok-run_threads.ensures;
}
