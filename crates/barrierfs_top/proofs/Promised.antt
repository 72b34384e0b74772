-- The bytes that `replay` and `run` write are the text of an order-closed medium, or of a session and its tree.
use Rattle.std.proofs.Common.{◌≡◌, ℕ, ◌++◌, Bool, true, false, List, [], length, take, inl, inr, ◌≤◌, Option, Some, None, sym, ap, ◌∙◌, subst, arith, append-nil}
use Rattle.std.proofs.lemmas.Option.{none-some, same_Some}
use Rattle.std.proofs.lemmas.List.{append_cancel_left}
use Rattle.std.specs.Io.KnownBytes.{Appends}
use Rattle.blk_base.specs.Image.{zeros}
use Rattle.blk_base.specs.Streams.{AppendsFront, Drained}
use Rattle.order_model.specs.OrderClosed.{IsOrderClosed}
use Rattle.script_grammar.specs.declared.script.Script.{Script}
use Rattle.script_grammar.specs.Grammar.{blocks_of}
use Rattle.stack_core.specs.RequestPath.{submitted_count}
use Rattle.stack_core.specs.Core.{core}
use Rattle.session_core.specs.Core as sessions
use Rattle.barrierfs_top.specs.declared.run_report.RunReport.{RunReport}
use Rattle.barrierfs_top.specs.Sessions.{is_session, IsSessionReplay}
use Rattle.barrierfs_top.specs.declared.command_line.InputTask.TheVariants as commands
use Rattle.barrierfs_top.specs.declared.fault.TopFault.{TopFault}
use Rattle.barrierfs_top.specs.declared.command_line.Task.{Task}
use Rattle.barrierfs_top.specs.declared.command_line.Task.TheVariants as tasks
use Rattle.barrierfs_top.specs.Tasks.{most_of}
use Rattle.barrierfs_top.proofs.SessionsTold.{session_told}
use Rattle.barrierfs_top.specs.Runs.{IsRunText}
use Rattle.barrierfs_top.specs.Top.{Stream, WasRead, IsBlocksReplay, IsReplayAs, IsDone, Does}
use Rattle.barrierfs_top.specs.Promise.{WentOut, IsWritten, TellsOrderClosed, TellsReplay, TellsRun, TellsThreads}

-- where nothing was written, nothing went out
pub none_out : (taken : Option (List ℕ)) (bytes : List ℕ) → WentOut taken taken bytes → ⊥
none_out taken bytes out =
    let same : out.before ++ [] ≡ out.before ++ bytes = append-nil out.before ∙ same_Some out.before (out.before ++ bytes) (sym out.told ∙ out.after) in
    let none : [] ≡ bytes = append_cancel_left out.before [] bytes same in
    let some = out.some in
    let n = ap length none in
    omega arith

-- what was appended is what went out
pub went_out : (old new : Option (List ℕ)) (bytes text : List ℕ) → WentOut old new bytes → Appends old new text → bytes ≡ text
went_out None new bytes text out appended = absurd (none-some out.before out.told)
went_out (Some x) None bytes text out appended = absurd appended
went_out (Some x) (Some y) bytes text out appended =
    let before : x ≡ out.before = same_Some x out.before out.told in
    let after : y ≡ out.before ++ bytes = same_Some y (out.before ++ bytes) out.after in
    append_cancel_left out.before bytes text (sym after ∙ appended ∙ ap (λ l. l ++ text) before)

pub front_out : (old new : Option (List ℕ)) (bytes text : List ℕ) (fault : TopFault) → WentOut old new bytes → AppendsFront old new text → IsWritten (Some fault) text bytes
front_out old new bytes text fault out front = (front.0, went_out old new bytes (take front.0 text) out front.1)

-- the medium of a report is order-closed for the first requests of its script
closed_for : (input text : List ℕ) (report : Option RunReport) (is : IsBlocksReplay input report text)
    → IsOrderClosed (zeros (blocks_of is.script)) (take (submitted_count (core is.script).path) is.script.puts) is.result.cut.image is.result.cut.origins
closed_for input text report is =
    subst (λ (s : Script). IsOrderClosed (zeros (blocks_of s)) (take (submitted_count (core is.script).path) is.script.puts) is.result.cut.image is.result.cut.origins) is.core.script
    (subst (λ qs. IsOrderClosed (zeros (blocks_of is.result.script)) qs is.result.cut.image is.result.cut.origins) is.core.submitted is.order.closed)

module _ (old new : Option (List ℕ)) (report : Option RunReport) (text bytes : List ℕ) (fault : Option TopFault) (written : IsWritten fault text bytes) (input : List ℕ) (drained : Drained old new input) (short : length input ≤ most_of (commands.Replay false)) where
  of_blocks : IsBlocksReplay input report text → TellsOrderClosed old new fault bytes
  of_blocks is = record {
    script = is.script;
    read = record { input = input; drained = drained; short = short; holds = is.spelled };
    submitted = submitted_count (core is.script).path;
    image = is.result.cut.image;
    origins = is.result.cut.origins;
    closed = closed_for input text report is;
    steps = is.result.cut.trace.steps;
    written = subst (λ l. IsWritten fault l bytes) is.printed written;
  }

  of_session : IsSessionReplay input report text → TellsReplay old new fault bytes
  of_session is = record {
    script = is.script;
    read = record { input = input; drained = drained; short = short; holds = is.ran.spelled };
    told = session_told is.script (sessions.core is.script) is.result fault text bytes is.ran.core_is.report is.ran.headline is.printed written;
  }

  told_as : (session : Bool) → IsReplayAs session input report text → TellsRun old new fault bytes
  told_as true is = inr (of_session is)
  told_as false is = inl (of_blocks is)

-- the promise, where the words ask for a replay
pub promised : (asked : Option Task) (source : Stream) (report : Option RunReport) (text bytes : List ℕ) (fault : Option TopFault) → Does asked source report text
    → asked ≡ Some (tasks.Read (commands.Replay false)) → IsWritten fault text bytes → TellsRun source.bytes source.bytes_after fault bytes
promised asked source report text bytes fault does e written =
    let read = subst (λ (t : Task). IsDone t source report text) (same_Some does.task (tasks.Read (commands.Replay false)) (sym does.asks ∙ e)) does.done in
    told_as source.bytes source.bytes_after report text bytes fault written read.input read.drained read.short (is_session read.input) read.holds

-- the same of a run in threads
of_threads : (old new : Option (List ℕ)) (report : Option RunReport) (text bytes : List ℕ) (fault : Option TopFault) → IsWritten fault text bytes
    → WasRead (commands.Run false) old new (λ input. IsRunText input report text) → TellsThreads old new fault bytes
of_threads old new report text bytes fault written read =
    let is : IsRunText read.input report text = read.holds in
    let ran = is.ran.is in
    record {
      script = is.script;
      read = record { input = read.input; drained = read.drained; short = read.short; holds = is.ran.spelled };
      effects = is.result.effects;
      end = ran.end;
      ran = ran.ran;
      told = session_told is.script ran.end is.result.report fault text bytes ran.report ran.headline is.printed written;
    }

pub threads_promised : (asked : Option Task) (source : Stream) (report : Option RunReport) (text bytes : List ℕ) (fault : Option TopFault) → Does asked source report text
    → asked ≡ Some (tasks.Read (commands.Run false)) → IsWritten fault text bytes → TellsThreads source.bytes source.bytes_after fault bytes
threads_promised asked source report text bytes fault does e written =
    let read = subst (λ (t : Task). IsDone t source report text) (same_Some does.task (tasks.Read (commands.Run false)) (sym does.asks ∙ e)) does.done in
    of_threads source.bytes source.bytes_after report text bytes fault written read
