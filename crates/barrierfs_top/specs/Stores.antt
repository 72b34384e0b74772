-- What `kv` writes: the text of a store's session.
use Rattle.std.specs.Prelude.{◌≡◌, ℕ, List, Option, Some, Ok}
use Rattle.mount_make.specs.Images.{image_tree}
use Rattle.tree_model.specs.Calls.{Tree}
use Rattle.store_grammar.specs.declared.script.StoreScript.{StoreScript}
use Rattle.store_grammar.specs.Grammar.{store_of}
use Rattle.store_grammar.specs.Made.{volume_script}
use Rattle.store_core.specs.Runs.{held_on}
use Rattle.store_core.specs.Stores.{acknowledged_in}
use Rattle.store_core.specs.SummaryText.{summary_text}
use Rattle.session_core.specs.Core.{core}
use Rattle.session_core.specs.Headline.{Headline}
use Rattle.session_core.specs.Report.{IsCoreReport}
use Rattle.session_core.specs.declared.report.SessionReport.{SessionReport}
use Rattle.barrierfs_top.specs.declared.run_report.RunReport.{RunReport}
use Rattle.barrierfs_top.specs.declared.run_report.RunReport.TheVariants as reports
use Rattle.barrierfs_top.specs.Sessions.{figures_of}

-- The input spells a store's script, the report is that of the session of its volume script and keeps all that sessions promise, and
-- the text is the store's: the figures of the session, the puts that were acknowledged, and what the tree holds of what the power cut
-- left, once that was recovered.
pub record IsStoreRun (input : List ℕ) (report : Option RunReport) (text : List ℕ) : Type 0 where
  pub script : StoreScript
  pub spelled : store_of input ≡ Ok script
  pub result : SessionReport
  pub core_is : IsCoreReport (volume_script script) result
  pub headline : Headline (volume_script script) result
  pub reported : report ≡ Some (reports.Session result)
  pub tree : Tree
  pub recovered : image_tree result.cut.image.items ≡ Ok tree
  pub printed : text ≡ summary_text (record {
    steps = (figures_of result).steps;
    requests = (figures_of result).requests;
    acknowledged = acknowledged_in (core (volume_script script));
    held = held_on script.room tree;
  })
