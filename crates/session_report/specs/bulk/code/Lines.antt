-- The lines of calls, thread by thread.
use Rattle.std.specs.Prelude.{ℕ, List, [], ◌∷◌, ◌++◌, map}
use Rattle.session_report.specs.bulk.Workload.{words_for, word_call, call_line}

-- the lines of the calls of a thread, counted from 1
abbrev pub thread_lines : List ℕ → ℕ → List (List ℕ)
thread_lines words thread = map (λ w. call_line (word_call w)) (words_for thread 0 words)

abbrev pub threads_lines : List ℕ → List ℕ → List (List ℕ)
threads_lines words [] = []
threads_lines words (t ∷ ts) = thread_lines words t ++ threads_lines words ts
