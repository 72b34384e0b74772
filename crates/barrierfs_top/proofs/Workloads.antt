-- The session of a workload.
use Rattle.std.proofs.Common.{◌≡◌, ℕ, List, Some, refl, subst}
use Rattle.session_report.specs.bulk.Workload.{bulk_of}
use Rattle.session_grammar.specs.declared.session_script.SessionScript.{SessionScript}
use Rattle.session_core.specs.Headline.{Headline}
use Rattle.session_core.specs.Report.{IsCoreReport}
use Rattle.session_core.specs.declared.report.SessionReport.{SessionReport}
use Rattle.barrierfs_top.specs.declared.run_report.RunReport.TheVariants as reports
use Rattle.barrierfs_top.specs.Bulk.{IsSummaryOf, IsWorkload}

-- a session of the workload's script is the workload's
pub workload_is : (n : ℕ) (s : SessionScript) (r : SessionReport) (text : List ℕ) → s ≡ bulk_of n → IsCoreReport s r → Headline s r → IsSummaryOf n s r text → IsWorkload n (Some (reports.Session r)) text
workload_is n s r text script core_is headline summary = record {
  result = r;
  core_is = subst (λ (t : SessionScript). IsCoreReport t r) script core_is;
  headline = subst (λ (t : SessionScript). Headline t r) script headline;
  reported = refl;
  summary = subst (λ (t : SessionScript). IsSummaryOf n t r text) script summary;
}
