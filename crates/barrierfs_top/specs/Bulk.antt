-- What `bulk` writes: the summary of the session of a generated workload.
use Rattle.std.specs.Prelude.{◌≡◌, ℕ, List, map, Option, Some, Ok}
use Rattle.std.specs.List.{count_by}
use Rattle.session_report.specs.bulk.Workload.{bulk_of}
use Rattle.session_report.specs.bulk.Summary.{is_ok, is_file, summary_text}
use Rattle.host_answers.specs.declared.entry.Entry.{Entry}
use Rattle.mount_make.specs.Images.{image_tree, tree_after}
use Rattle.session_grammar.specs.declared.session_script.SessionScript.{SessionScript}
use Rattle.session_core.specs.Core.{entry_in, ArePlaced}
use Rattle.session_core.specs.Headline.{Headline}
use Rattle.session_core.specs.Report.{IsCoreReport}
use Rattle.session_core.specs.declared.report.SessionReport.{SessionReport}
use Rattle.tree_model.specs.Calls.{Tree}
use Rattle.volume_ops.specs.Volume.{VolumeState}
use Rattle.barrierfs_top.specs.declared.run_report.RunReport.{RunReport}
use Rattle.barrierfs_top.specs.declared.run_report.RunReport.TheVariants as reports
use Rattle.barrierfs_top.specs.Sessions.{figures_of}

-- The summary of the session of a workload, which is made of n and has this script: its figures, how many of its calls were
-- answered with `ok`, and how many files the tree has of what the power cut left, once that was recovered.
pub record IsSummaryOf (n : ℕ) (s : SessionScript) (r : SessionReport) (text : List ℕ) : Type 0 where
  pub history : List Entry
  pub noted : r.host.host.history ≡ map (entry_in r.host.programs) history
  pub placed : ArePlaced s.programs history
  pub tree : Tree
  pub recovered : image_tree r.cut.image.items ≡ Ok tree
  pub printed : text ≡ summary_text (record {
    number = n;
    steps = (figures_of r).steps;
    requests = (figures_of r).requests;
    closed = (figures_of r).closed;
    found = (figures_of r).found;
    ok = count_by is_ok history;
    files = count_by is_file tree;
  })

-- The report is that of the workload's session and keeps all that sessions promise, and the text is its summary.
pub record IsWorkload (n : ℕ) (report : Option RunReport) (text : List ℕ) : Type 0 where
  pub result : SessionReport
  pub core_is : IsCoreReport (bulk_of n) result
  pub headline : Headline (bulk_of n) result
  pub reported : report ≡ Some (reports.Session result)
  pub summary : IsSummaryOf n (bulk_of n) result text

-- the tree of a volume has so many files
pub record HasFiles (v : VolumeState) (files : ℕ) : Type 0 where
  pub tree : Tree
  pub stands : tree_after (Ok v) ≡ Ok tree
  pub counted : files ≡ count_by is_file tree
