-- What `replay` and `run` promise of the bytes that they write.
use Rattle.std.specs.Prelude.{◌≡◌, ℕ, ◌+◌, ◌<◌, ◌++◌, ◌⊎◌, true, false, List, length, map, take, Option, Some, None, Ok, slice_get}
use Rattle.blk_base.specs.Image.{zeros}
use Rattle.order_model.specs.OrderClosed.{IsOrderClosed}
use Rattle.order_model.specs.Device.{origin_ids}
use Rattle.stack_core.specs.Headline.{KeepsOrder}
use Rattle.script_grammar.specs.declared.script.Script.{Script}
use Rattle.script_grammar.specs.Grammar.{script_of, blocks_of}
use Rattle.barrierfs_top.specs.declared.command_line.InputTask.TheVariants as commands
use Rattle.barrierfs_top.specs.declared.fault.TopFault.{TopFault}
use Rattle.barrierfs_top.specs.Text.{report_text}
use Rattle.tree_model.specs.declared.call.Call.{Call}
use Rattle.tree_model.specs.declared.call.Reply.{Reply}
use Rattle.tree_model.specs.declared.call.Reply.TheVariants as replies
use Rattle.tree_model.specs.Calls.{Tree}
use Rattle.tree_model.specs.Text.{tree_text}
use Rattle.tree_model.specs.Trees.{AreAlike}
use Rattle.mount_make.specs.Images.{image_tree}
use Rattle.host_answers.specs.declared.entry.Entry.{Entry}
use Rattle.host_answers.specs.declared.entry.EntryKind.TheVariants.{End}
use Rattle.host_answers.specs.declared.standing.Standing.{Standing}
use Rattle.session_grammar.specs.declared.session_script.SessionScript.{SessionScript}
use Rattle.session_grammar.specs.Grammar.{session_of}
use Rattle.session_report.specs.ReportText.{Figures, session_lines}
use Rattle.session_core.specs.Core.{EndState, HostNow, core, opening_of, entry_in, ArePlaced, standings_of}
use Rattle.session_core.specs.CallEnds.{HasGoneOff, IsAtLimit, IsFirstFailed, IsTreesReply}
use Rattle.session_core.specs.Headline.{Medium, IsLastChange, last_write, is_durable, kind_of, AnsweredAt, WasAnswered, told_by, submitted_in, kept_in, IsFound, HasLaterKept, IsShownBy, IsAllShown, ShowsLater}
use Rattle.session_core.specs.Report.{tree_behind}
use Rattle.session_threads.specs.Ran.{RanAs}
use Rattle.thread_sides.specs.declared.events.Effects.{Effects}
use Rattle.barrierfs_top.specs.Runs.{threads_script_of}
use Rattle.barrierfs_top.specs.Top.{WasRead}

-- these bytes, and not none, went out into a sink whose bytes are told
pub record WentOut (old new : Option (List ℕ)) (bytes : List ℕ) : Type 0 where
  pub before : List ℕ
  pub told : old ≡ Some before
  pub after : new ≡ Some (before ++ bytes)
  pub some : 0 < length bytes

-- all of the text where the call ended well, else a prefix of it
abbrev pub IsWritten : Option TopFault → List ℕ → List ℕ → Type 0
IsWritten None text bytes = bytes ≡ text
IsWritten (Some fault) text bytes = (n : ℕ) × (bytes ≡ take n text)

-- The source spells a script of block requests, and the bytes are the text of a medium that is order-closed,
-- over zeros, for some first ones of these requests, or none. That these are those that the run submitted is said by `did`.
pub record TellsOrderClosed (old new : Option (List ℕ)) (fault : Option TopFault) (bytes : List ℕ) : Type 0 where
  pub script : Script
  pub read : WasRead (commands.Replay false) old new (λ input. script_of input ≡ Ok script)
  pub submitted : ℕ
  pub image : List (List ℕ)
  pub origins : List (Option ℕ)
  pub closed : IsOrderClosed (zeros (blocks_of script)) (take submitted script.puts) image origins
  pub steps : ℕ
  pub written : IsWritten fault (report_text steps image origins) bytes

-- Why this answer stands in the line of entry i of a session that ended so: `down` only where the script has a line `cut` and the
-- device made the steps that it says; `read-only` only where it has a line `fail` and the transfer of that number was made, with the
-- first request that was told as failed; `session full` only where all requests that there may be were submitted. Each other answer
-- is the tree's.
abbrev pub IsPrintedFor : SessionScript → EndState → ℕ → Entry → Reply → Type 0
IsPrintedFor s end i x replies.Down = HasGoneOff s end.dev
IsPrintedFor s end i x (replies.ReadOnly id) = IsFirstFailed s end.dev id
IsPrintedFor s end i x replies.SessionFull = IsAtLimit s end
IsPrintedFor s end i x other = IsTreesReply (opening_of s) end.host i (entry_in s.programs x).thread (entry_in s.programs x).call other

-- The bytes are the text of a session of this script that ended so, on one thread or on many: the answers to its calls, how its
-- threads stand, and the tree of what was recovered after the power cut.
pub record TellsSession (script : SessionScript) (end : EndState) (fault : Option TopFault) (bytes : List ℕ) : Type 0 where
  -- What is printed: figures, what the host noted of the calls, how the threads stand, and a tree. The figures are counts of
  -- the session, each entry names its thread's next call, and each answer has its cause.
  pub figures : Figures
  pub steps : figures.steps ≡ end.dev.steps
  pub requests : figures.requests ≡ length end.host.journal.flush.requests
  pub closed : figures.closed ≡ length end.host.cuts
  pub history : List Entry
  pub noted : end.host.history ≡ map (entry_in script.programs) history
  pub placed : ArePlaced script.programs history
  pub caused : (i : ℕ) (x : Entry) (reply : Reply) → slice_get history i ≡ Some x → x.what ≡ End reply → IsPrintedFor script end i x reply
  pub standings : List Standing
  pub stand : (h : HostNow) → h.host ≡ end.host → h.programs ≡ script.programs → standings ≡ standings_of h (length script.programs)
  pub tree : Tree
  pub written : IsWritten fault (session_lines script.programs script.lines figures history standings ++ tree_text tree) bytes
  -- The tree is that of the medium as the session's device left it, once it was recovered. The medium is order-closed for what
  -- the host submitted, and where a flush completed, all before it is kept. The commit blocks that it has are those of the first
  -- transactions, as many as the figures say.
  pub medium : Medium
  pub surface : medium.image ≡ end.dev.surface
  pub origins : medium.origins ≡ origin_ids end.dev.took end.dev.origins
  pub order : KeepsOrder (opening_of script).image end.host.journal.flush.requests medium.image medium.origins
      (end.dev.sent ++ end.dev.waiting)
  pub recovered : image_tree medium.image ≡ Ok tree
  pub transactions : IsFound (submitted_in script end) medium figures.found
  pub counted : figures.found ≡ kept_in script end medium
  -- The tree is alike to the one after the calls of these transactions.
  pub alike : AreAlike (tree_behind (opening_of script) end.host figures.found) tree
  -- It has each block of a file in a version that is no older than the one which the last change of its file asks for, and whose
  -- request the medium has at the block's place.
  pub files : (f i k : ℕ) → (told_by script end).maps ((told_by script end).cut figures.found) f i ≡ true → IsLastChange (told_by script end) f figures.found k
      → IsShownBy script end medium tree alike.to f i (last_write (told_by script end) f i ((told_by script end).cut k))
  -- A barrier or sync call that was answered Ok began before, on the node to which its path led there. Where a write made after
  -- the answer of a barrier call survived, all that the call covers is shown or was superseded; all that a sync call covers
  -- is so in any case.
  pub answered : (e t : ℕ) (c : Call) → AnsweredAt end.host e t c → WasAnswered (opening_of script) end.host e t c
  pub barriers : (e t : ℕ) (c : Call) (ok : AnsweredAt end.host e t c) → is_durable (kind_of c) ≡ false → HasLaterKept script end medium (e + 1)
      → IsAllShown script end medium figures.found tree alike.to (answered e t c ok).begun
  pub syncs : (e t : ℕ) (c : Call) (ok : AnsweredAt end.host e t c) → is_durable (kind_of c) ≡ true
      → IsAllShown script end medium figures.found tree alike.to (answered e t c ok).begun
  -- The same by what is printed alone: it is so of a barrier call where the tree has, at some path, bytes of a block which the
  -- file there, by the answers, had after no entry up to that answer, or paths and metadata of no tree up to it.
  pub seen : (e t : ℕ) (c : Call) (ok : AnsweredAt end.host e t c) → is_durable (kind_of c) ≡ false → ShowsLater script end figures.found tree (e + 1)
      → IsAllShown script end medium figures.found tree alike.to (answered e t c ok).begun

-- The source spells a volume script, and the bytes are the text of its session on one thread, in the order of its events.
pub record TellsReplay (old new : Option (List ℕ)) (fault : Option TopFault) (bytes : List ℕ) : Type 0 where
  pub script : SessionScript
  pub read : WasRead (commands.Replay false) old new (λ input. session_of input ≡ Ok script)
  pub told : TellsSession script (core script) fault bytes

-- The source spells a volume script, whose session ran in threads, as some events of host, scheduler and device say, and ended so: by
-- itself, with an end for every call of each thread. The bytes are the text of that session.
pub record TellsThreads (old new : Option (List ℕ)) (fault : Option TopFault) (bytes : List ℕ) : Type 0 where
  pub script : SessionScript
  pub read : WasRead (commands.Run false) old new (λ input. threads_script_of input ≡ Ok script)
  pub effects : Effects
  pub end : EndState
  pub ran : RanAs script None effects end
  pub told : TellsSession script end fault bytes

-- a block script, or a volume script
abbrev pub TellsRun : Option (List ℕ) → Option (List ℕ) → Option TopFault → List ℕ → Type 0
TellsRun old new fault bytes = TellsOrderClosed old new fault bytes ⊎ TellsReplay old new fault bytes
