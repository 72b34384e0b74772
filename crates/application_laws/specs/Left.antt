-- What a script's session and its power cut leave, as laws of applications read it.
use Rattle.std.specs.Prelude.{◌≡◌, ℕ, suc, ◌<◌, ◌≤◌, true, List, [], Some}
use Rattle.tree_model.specs.declared.call.Call.{Call}
use Rattle.tree_model.specs.declared.call.Room.{Room}
use Rattle.tree_model.specs.Calls.{Tree}
use Rattle.tree_model.specs.Histories.{block_at}
use Rattle.volume_steps.specs.Now.{room_of}
use Rattle.crash_laws.specs.PromiseRules.{IsOn}
use Rattle.host_machine.specs.runs.Promises.{call_of}
use Rattle.call_sessions.specs.promises.Answers.{AnsweredAt}
use Rattle.call_sessions.specs.promises.Trees.{tree_at}
use Rattle.session_grammar.specs.declared.session_script.SessionScript.{SessionScript}
use Rattle.session_core.specs.Core.{EndState, opening_of}
use Rattle.session_core.specs.Headline.{told_by, HeadlineOn}
use Rattle.session_core.specs.declared.report.SessionReport.{SessionReport}
use Rattle.application_trees.specs.Outcomes.{Outcome}
use Rattle.application_trees.specs.Pairs.{Pair}

abbrev pub room_for : SessionScript → Room
room_for s = room_of (opening_of s).geometry

-- the tree after entry n
abbrev pub trees_of : SessionScript → EndState → ℕ → Tree
trees_of s end n = tree_at (opening_of s) end.host n

abbrev pub left_of : (s : SessionScript) (end : EndState) (r : SessionReport) → HeadlineOn s end r → Outcome
left_of s end r is = record {
  tree_at = trees_of s end;
  writes = λ n f i. (told_by s end).writes n f i;
  cut = (told_by s end).cut r.found;
  tree = is.prefix.tree;
  alike = is.prefix.alike;
}

-- a barrier or sync call that covers file f up to entry b was answered Ok as entry e + 1
pub record IsBarred (s : SessionScript) (end : EndState) (r : SessionReport) (is : HeadlineOn s end r) (f b e : ℕ) : Type 0 where
  pub thread : ℕ
  pub call : Call
  pub ok : AnsweredAt end.host e thread call
  pub on : IsOn (call_of (is.answered e thread call ok).begun).file f
  pub begin : (call_of (is.answered e thread call ok).begun).begin ≡ suc b

-- A record in a log and a page behind it, as calls of a session: the barrier call that covers the record was answered as the
-- entry of number `answered`, and up to it the page never had these bytes.
pub record IsLogged (s : SessionScript) (end : EndState) (r : SessionReport) (is : HeadlineOn s end r) (log file : ℕ) (x : Pair) : Type 0 where
  pub entry : ℕ
  pub wrote : (told_by s end).writes entry log x.place ≡ true
  pub stays : (v : ℕ) → entry ≤ v → block_at (trees_of s end v) log x.place ≡ Some x.body
  pub low : entry ≤ x.covered
  pub at : ℕ
  pub number : x.answered ≡ suc at
  pub barrier : IsBarred s end r is log x.covered at
  pub some : x.bytes ≡ [] → ⊥
  pub newer : (v : ℕ) → v ≤ x.answered → block_at (trees_of s end v) file x.page ≡ Some x.bytes → ⊥

-- so many of them, one after the other
pub record AreLogged (s : SessionScript) (end : EndState) (r : SessionReport) (is : HeadlineOn s end r) (log file n : ℕ) (pair : ℕ → Pair) : Type 0 where
  pub each : (k : ℕ) → k < n → IsLogged s end r is log file (pair k)
  pub rising : (k m : ℕ) → k ≤ m → m < n → (pair k).answered ≤ (pair m).answered
