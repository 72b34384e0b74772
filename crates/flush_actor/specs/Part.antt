-- The flush actor's part of the host as plain data, and what is read of it.
use Rattle.std.specs.List.{list_any}
use Rattle.std.specs.Prelude.{ℕ, ◌+◌, ◌==◌, Bool, true, false, ◌&&◌, ◌||◌, nat_lt, nat_le, List, [], ◌∷◌, ◌++◌, length, Option, Some, None, if◌then◌else◌}
use Rattle.order_model.specs.declared.completion.Completion.TheVariants as completions
use Rattle.order_model.specs.declared.completion.Completion.{Completion}
use Rattle.order_model.specs.declared.note.Note.TheVariants as notes
use Rattle.order_model.specs.declared.note.Note.{Note}
use Rattle.order_model.specs.declared.request.Request.{Request}
use Rattle.flush_actor.specs.conflicts.Conflicts.{Conflicts}
use Rattle.flush_actor.specs.declared.wait.Wait.{Wait}

-- the requests of a session, its completions, the blocks that are held, and what threads wait for
pub record FlushPart : Type 0 where
  -- what was submitted, what each request carries, and how many there may be
  pub requests : List Request
  pub notes : List Note
  pub limit : ℕ
  -- completions taken
  pub taken : List Completion
  pub conflicts : Conflicts
  -- for each thread
  pub waits : List Wait

abbrev pub is_cut : Completion → Bool
is_cut completions.Cut = true
is_cut other = false

-- the request whose failure is reported first
abbrev pub first_failed : List Completion → Option ℕ
first_failed [] = None
first_failed (completions.Failed id ∷ cs) = Some id
first_failed (c ∷ cs) = first_failed cs

-- after a Cut or Failed nothing more is submitted
abbrev pub has_stopped : List Completion → Bool
has_stopped taken = list_any is_cut taken || elim (first_failed taken) as (λ _. Bool) [ None ↦ false | Some id ↦ true ]

-- a cut or a failure is reported, and nothing more is submitted
abbrev pub is_over : FlushPart → Bool
is_over f = has_stopped f.taken

-- there are as many requests as the session may have
abbrev pub at_limit : FlushPart → Bool
at_limit f = nat_le f.limit (length f.requests)

-- request id is moved, by this completion
abbrev pub is_moved : ℕ → Completion → Bool
is_moved id (completions.Moved i) = i == id
is_moved id other = false

-- a flush with a greater id is answered
abbrev pub is_flushed_after : ℕ → Completion → Bool
is_flushed_after id (completions.Flushed f) = nat_lt id f
is_flushed_after id other = false

abbrev pub is_flush_note : Note → Bool
is_flush_note notes.Flush = true
is_flush_note other = false

-- a flush with a greater id is submitted; the first of these notes is that of request i
abbrev pub flush_above : ℕ → ℕ → List Note → Bool
flush_above id i [] = false
flush_above id i (n ∷ ns) = (is_flush_note n && nat_lt id i) || flush_above id (i + 1) ns

-- the last put among these
abbrev pub last_put : ℕ → List Note → Option ℕ → Option ℕ
last_put i [] last = last
last_put i (n ∷ ns) last = last_put (i + 1) ns (if is_flush_note n then last else Some i)

-- a request goes out
abbrev pub submit : Request → Note → FlushPart → FlushPart
submit r n f = record f { requests = f.requests ++ r ∷ []; notes = f.notes ++ n ∷ [] }
