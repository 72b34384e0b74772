-- Which report a session leaves, and what it promises.
use Rattle.std.specs.Prelude.{◌≡◌, ℕ, ◌++◌, List, length, Option, Some, None, Ok}
use Rattle.order_model.specs.Device.{origin_ids}
use Rattle.order_model.specs.Machine.{Machine}
use Rattle.order_model.specs.Steps.{IsTraceOf}
use Rattle.schedulers.specs.reassign.Scheduler.{IsSchedRecord}
use Rattle.tree_model.specs.Calls.{Tree}
use Rattle.tree_model.specs.Trees.{AreAlike}
use Rattle.mount_make.specs.Images.{mounted, image_tree, recovered_image}
use Rattle.stack_core.specs.Core.{flash_machine}
use Rattle.stack_core.specs.Fresh.{flash_over}
use Rattle.stack_core.specs.Headline.{KeepsOrder}
pub use Rattle.session_core.specs.run.End.{tree_behind}
use Rattle.session_grammar.specs.declared.session_script.SessionScript.{SessionScript}
use Rattle.call_sessions.specs.power_cuts.calls.CallImages.{IsMountedBehind, attempts_of, found_in, image_after}
use Rattle.session_core.specs.Core.{EndState, opening_of, geometry_of, core_as, standings_of}
use Rattle.session_core.specs.declared.report.SessionReport.{SessionReport}

-- The report of a session that ended in this state: its host with the script's calls, what its scheduler did, what the power
-- cut left of its device, the volume that was mounted then, the image that recovery left, which is mounted as the same volume
-- again, and how many transactions it has.
pub record IsReportOf (s : SessionScript) (end : EndState) (r : SessionReport) : Type 0 where
  pub host : r.host.host ≡ end.host
  pub programs : r.host.programs ≡ s.programs
  pub sched : IsSchedRecord end.sched r.sched
  pub image : r.cut.image.items ≡ end.dev.surface
  -- for each block the id of the part whose body it holds, where it holds one
  pub origins : r.cut.origins ≡ origin_ids end.dev.took end.dev.origins
  -- what the device took, transferred and sent, and its steps
  pub trace : IsTraceOf end.dev r.cut.trace
  -- what the power cut left mounts as this volume
  pub volume : mounted r.cut.image.items ≡ Ok r.volume
  pub recovered : r.image ≡ recovered_image r.cut.image.items
  -- so does what recovery left
  pub again : mounted r.image ≡ Ok r.volume
  -- how many transactions the journal on the medium tells of
  pub found : r.found ≡ found_in (geometry_of s).zones 1 r.cut.image.items
  -- how each thread stands at the end
  pub standings : r.standings.items ≡ standings_of r.host (length s.programs)

-- Its attempts of recovery are those that the script asks for, each on a fresh device, and the same volume is mounted behind
-- them.
abbrev pub HasAttempts : {S : Type 0} → Machine S → (List (List ℕ) → S) → SessionScript → SessionReport → Type 0
HasAttempts m fresh s r = IsMountedBehind m fresh (geometry_of s).zones r.cut.image.items s.recovers r.attempts.items r.volume

-- on model devices these are a function of what the power cut left
pub record HasModelAttempts (s : SessionScript) (r : SessionReport) : Type 0 where
  pub attempts : r.attempts.items ≡ attempts_of s.header.depth (geometry_of s).zones r.cut.image.items s.recovers
  -- the image that the attempts leave mounts as the same volume
  pub left : mounted (image_after s.header.depth (geometry_of s).zones r.cut.image.items s.recovers) ≡ Ok r.volume

-- its attempts on flash logs of so many segments, or else on model devices, of the script's depth
abbrev pub HasAttemptsAs : SessionScript → Option ℕ → SessionReport → Type 0
HasAttemptsAs s None r = HasModelAttempts s r
HasAttemptsAs s (Some segments) r = HasAttempts flash_machine (flash_over s.header.depth segments) s r

-- the report of a script that ran on such devices
pub record IsReportAs (s : SessionScript) (flash : Option ℕ) (r : SessionReport) : Type 0 where
  pub report : IsReportOf s (core_as s flash) r
  pub attempts : HasAttemptsAs s flash r

-- the report of a script that ran on the devices that it says
abbrev pub IsCoreReport : SessionScript → SessionReport → Type 0
IsCoreReport s r = IsReportAs s s.header.flash r

-- What the power cut left is order-closed for what the host submitted over the new volume and its journal, and where a
-- flush completed, whether that was taken or not, all before it is kept.
abbrev pub ReportKeepsOrder : SessionScript → EndState → SessionReport → Type 0
ReportKeepsOrder s end r = KeepsOrder (opening_of s).image end.host.journal.flush.requests r.cut.image.items r.cut.origins (r.cut.trace.sent.items ++ end.dev.waiting)

-- The tree of what was recovered is alike to the one after the calls of the first transactions, as many as were found.
pub record HasPrefix (s : SessionScript) (end : EndState) (r : SessionReport) : Type 0 where
  pub tree : Tree
  -- this is the tree of the volume that mounts from what the power cut left
  pub found : image_tree r.cut.image.items ≡ Ok tree
  pub alike : AreAlike (tree_behind (opening_of s) end.host r.found) tree
