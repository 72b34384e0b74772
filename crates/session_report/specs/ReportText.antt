-- The text of a session's report.
use Rattle.std.specs.Prelude.{ℕ, zero, suc, ◌+◌, ◌-◌, ◌++◌, List, [], ◌∷◌, codes, length, slice_index_or}
use Rattle.std.specs.List.{All}
use Rattle.tree_model.specs.declared.call.Call.{Call}
use Rattle.host_answers.specs.declared.standing.Standing.{Standing}
use Rattle.host_answers.specs.declared.entry.Entry.{Entry}
use Rattle.host_answers.specs.declared.entry.EntryKind.{EntryKind}
use Rattle.host_answers.specs.declared.entry.EntryKind.TheVariants.{Begin, End}
use Rattle.session_report.specs.text.Lines.{is_ascii, answer_line, thread_line, count_line}

-- the calls of so many first threads
abbrev pub calls_before : List (List Call) → ℕ → ℕ
calls_before programs zero = 0
calls_before [] (suc n) = 0
calls_before (p ∷ ps) (suc n) = length p + calls_before ps n

-- the line of the call at this place of a thread's program; threads are counted from 1, and their calls' lines stand in order
abbrev pub line_at : List (List Call) → List (List ℕ) → ℕ → ℕ → List ℕ
line_at programs lines thread call = slice_index_or lines (calls_before programs (thread - 1) + call) []

-- a call that was answered has a line
abbrev pub what_text : List (List Call) → List (List ℕ) → ℕ → ℕ → EntryKind → List ℕ
what_text programs lines thread call Begin = []
what_text programs lines thread call (End reply) = answer_line thread (line_at programs lines thread call) reply

-- a line for each call that was answered, in order of the answers
abbrev pub answers_text : List (List Call) → List (List ℕ) → List Entry → List ℕ
answers_text programs lines [] = []
answers_text programs lines (e ∷ es) = what_text programs lines e.thread e.call e.what ++ answers_text programs lines es

-- the lines of threads, the first of which has this number
abbrev pub threads_text : ℕ → List Standing → List ℕ
threads_text t [] = []
threads_text t (s ∷ ss) = thread_line t s ++ threads_text (t + 1) ss

-- steps of the device, requests that were submitted, transactions that were closed, and those that were found
pub record Figures : Type 0 where
  pub steps : ℕ
  pub requests : ℕ
  pub closed : ℕ
  pub found : ℕ

-- the lines before the tree
unfoldable pub session_lines : List (List Call) → List (List ℕ) → Figures → List Entry → List Standing → List ℕ
session_lines programs lines f history standings =
    count_line (codes "steps") f.steps ++ count_line (codes "requests") f.requests ++ answers_text programs lines history
    ++ threads_text 1 standings ++ count_line (codes "closed") f.closed ++ count_line (codes "found") f.found

-- all of these lines are of ASCII
abbrev pub AreAscii : List (List ℕ) → Type 0
AreAscii lines = (place : ℕ) → All is_ascii (slice_index_or lines place [])
