-- Which report a run leaves.
use Rattle.std.specs.Prelude.{◌≡◌, ◌++◌, List, map, take}
use Rattle.blk_base.specs.Image.{zeros}
use Rattle.order_model.specs.Device.{origin_ids}
use Rattle.order_model.specs.Steps.{IsTraceOf}
use Rattle.order_model.specs.Single.{command_for}
use Rattle.order_model.specs.Carrying.{IsPrefixOf}
use Rattle.schedulers.specs.reassign.Scheduler.{IsSchedRecord}
use Rattle.script_grammar.specs.declared.script.Script.{Script}
use Rattle.script_grammar.specs.declared.script.Form.{Form}
use Rattle.script_grammar.specs.declared.script.Form.TheVariants.{Device, Blocks}
use Rattle.script_grammar.specs.Grammar.{blocks_of}
use Rattle.stack_core.specs.declared.report.Report.{Report}
use Rattle.stack_core.specs.RequestPath.{submitted_count}
use Rattle.stack_core.specs.Core.{EndState, core}
use Rattle.stack_core.specs.Headline.{KeepsOrder}

-- the report of a run that ends so
pub record IsReportOf (s : Script) (end : EndState) (r : Report) : Type 0 where
  pub script : r.script ≡ s
  pub submitted : r.submitted ≡ take (submitted_count end.path) s.puts
  pub sched : IsSchedRecord end.sched r.sched
  pub image : r.cut.image ≡ end.dev.surface
  pub origins : r.cut.origins ≡ origin_ids end.dev.took end.dev.origins
  pub trace : IsTraceOf end.dev r.cut.trace

-- the report of the core run of the script
abbrev pub IsCoreReport : Script → Report → Type 0
IsCoreReport s r = IsReportOf s (core s) r

-- in a `device` script the device took each request as a command of its own, in order; in a `blocks` script
-- the first commands that the scheduler sent out
abbrev pub TookInOrder : Form → Report → Type 0
TookInOrder (Device blocks) r = r.cut.trace.took.items ≡ map command_for r.submitted
TookInOrder (Blocks blocks) r = IsPrefixOf r.cut.trace.took.items r.sched.sent_out.items

-- How the parts of a run fit: what each one took is a prefix of what the one before it gave.
pub record PartsFit (r : Report) : Type 0 where
  pub accepted : IsPrefixOf r.sched.accepted.items r.submitted
  pub took : TookInOrder r.script.kind r

-- The headline, as far as a script of block requests goes: its first sentence, over a medium of zeros. What
-- completed is what was handed out, and what the device still had to hand out when the power was cut.
abbrev pub Headline : Report → Type 0
Headline r = KeepsOrder (zeros (blocks_of r.script)) r.submitted r.cut.image r.cut.origins (r.cut.trace.sent.items ++ (core r.script).dev.waiting)
