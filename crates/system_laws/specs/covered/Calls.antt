-- What a barrier or sync call covers, in words of calls, paths and trees.
use Rattle.std.specs.Prelude.{◌≡◌, ℕ, ◌+◌, ◌≤◌, true, List, Some, is_some}
use Rattle.tree_model.specs.declared.call.Call.{Call}
use Rattle.tree_model.specs.declared.call.Call.TheVariants.{Fsync, Fdatasync, Fbarrier, Fdatabarrier}
use Rattle.tree_model.specs.declared.call.Reply.{Reply}
use Rattle.tree_model.specs.declared.call.Reply.TheVariants as replies
use Rattle.tree_model.specs.declared.node.File.{File}
use Rattle.tree_model.specs.declared.node.Node.TheVariants as nodes
use Rattle.tree_model.specs.Calls.{Tree}
use Rattle.tree_model.specs.Causes.{LeadsTo}
use Rattle.tree_model.specs.Histories.{block_at}
use Rattle.tree_model.specs.Paths.{path_of}
use Rattle.volume_steps.specs.Now.{VolumeNow}
use Rattle.host_machine.specs.State.{Answered, Host}
use Rattle.call_sessions.specs.promises.Entries.{EndsAt, IsBeginOf}
use Rattle.call_sessions.specs.promises.Trees.{tree_at}
use Rattle.session_grammar.specs.declared.session_script.SessionScript.{SessionScript}
use Rattle.session_core.specs.CallNames.{is_barrier_or_sync, is_sync_call, covers_all_files}
use Rattle.session_core.specs.Core.{EndState, opening_of}
use Rattle.session_core.specs.Headline.{medium_of, told_by, HasLaterKept, HeadlineOn}
use Rattle.session_core.specs.declared.report.SessionReport.{SessionReport}

-- A barrier or sync call of thread t began at place b, and was answered Ok at place e.
pub record IsAnsweredOk (h : Host VolumeNow Call Reply) (b e t : ℕ) (c : Call) : Type 0 where
  pub named : is_barrier_or_sync c ≡ true
  pub began : IsBeginOf h.history b e t c
  pub ended : EndsAt h.history e t c (Answered replies.Ok)

-- the path of a call that is on one file
pub data HasPath : Call → List ℕ → Type 0 where
  of_fsync : (path : List ℕ) → HasPath (Fsync path) path
  of_fdatasync : (path : List ℕ) → HasPath (Fdatasync path) path
  of_fbarrier : (path : List ℕ) → HasPath (Fbarrier path) path
  of_fdatabarrier : (path : List ℕ) → HasPath (Fdatabarrier path) path

-- In this tree the call is on file f: it is on all files, or its path leads to f.
pub data IsOnFile (tree : Tree) (c : Call) (f : ℕ) : Type 0 where
  on_all : covers_all_files c ≡ true → IsOnFile tree c f
  on_path : (path : List ℕ) (names : List (List ℕ)) (file : File) → HasPath c path → path_of path ≡ Some names → LeadsTo tree names f (nodes.File file) → IsOnFile tree c f

module _ (s : SessionScript) (end : EndState) (r : SessionReport) where
  -- What the call that was answered at place e covers has survived: it is a sync call, or something that was done after its
  -- answer survived.
  pub data Counts (e : ℕ) (c : Call) : Type 0 where
    synced : is_sync_call c ≡ true → Counts e c
    later : HasLaterKept s end (medium_of r) (e + 1) → Counts e c

  -- Entry n wrote this block of the file, and each tree from it on has the block, up to that after the last entry of the
  -- transactions that were found.
  pub record IsThereSince (f i n : ℕ) : Type 0 where
    pub wrote : (told_by s end).writes n f i ≡ true
    pub stays : (v : ℕ) → n ≤ v → v ≤ (told_by s end).cut r.found → is_some (block_at (tree_at (opening_of s) end.host v) f i) ≡ true

  -- The recovered tree has this block of the file just as the tree after some entry from n on, which has it.
  pub record IsShownFrom (is : HeadlineOn s end r) (f i n : ℕ) : Type 0 where
    pub version : ℕ
    pub later : n ≤ version
    pub there : is_some (block_at (tree_at (opening_of s) end.host version) f i) ≡ true
    pub shown : block_at is.prefix.tree (is.prefix.alike.to f) i ≡ block_at (tree_at (opening_of s) end.host version) f i
