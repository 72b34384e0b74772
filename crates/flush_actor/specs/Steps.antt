-- The steps of the flush actor. `full` says that the submission queue was full.
use Rattle.std.specs.List.{list_any}
use Rattle.std.specs.Prelude.{ℕ, ◌+◌, ◌==◌, Bool, true, false, not, ◌&&◌, ◌||◌, nat_lt, List, [], ◌∷◌, ◌++◌, length, Option, Some, None, slice_get, if◌then◌else◌}
use Rattle.order_model.specs.declared.completion.Completion.TheVariants as completions
use Rattle.order_model.specs.declared.completion.Completion.{Completion}
use Rattle.order_model.specs.declared.note.Note.TheVariants as notes
use Rattle.order_model.specs.declared.note.Note.{Note}
use Rattle.order_model.specs.declared.request.Kind.TheVariants as puts
use Rattle.order_model.specs.declared.request.Request.{Request}
use Rattle.order_model.specs.declared.turn.Turn.TheVariants as turns
use Rattle.order_model.specs.declared.turn.Turn.{Turn}
use Rattle.flush_actor.specs.conflicts.Conflicts.{Conflicts, unhold, unhold_by}
use Rattle.flush_actor.specs.Outcomes.{is_did}
use Rattle.flush_actor.specs.Part.{FlushPart, is_over, at_limit, is_moved, flush_above, submit}
use Rattle.flush_actor.specs.Waits.{awaits}
use Rattle.flush_actor.specs.declared.wait.Wait.{Wait}

-- transaction k has its commit block before request id
abbrev pub commits_before : ℕ → ℕ → ℕ → List Note → Bool
commits_before k id i [] = false
commits_before k id i (notes.Commit t ∷ ns) = (t == k && nat_lt i id) || commits_before k id (i + 1) ns
commits_before k id i (n ∷ ns) = commits_before k id (i + 1) ns

-- a call needs a request durable whose completion was taken, and no flush behind it is submitted
abbrev pub is_due_in : List Note → List Completion → Wait → Bool
is_due_in notes taken w = elim w.need as (λ _. Bool) [ None ↦ false | Some id ↦ list_any (is_moved id) taken && not (flush_above id 0 notes) ]

-- a flush is due for this wait
abbrev pub is_due : FlushPart → Wait → Bool
is_due f = is_due_in f.notes f.taken

-- a flush is due for some thread, and the session is not over
abbrev pub flush_due : FlushPart → Bool
flush_due f = not (is_over f) && list_any (is_due f) f.waits

-- the holds of transactions whose commit block stands before flush id end
abbrev pub unhold_before : ℕ → List Note → Conflicts → Conflicts
unhold_before id ns = unhold_by (λ k. commits_before k id 0 ns)

-- the note is that of the moved request: after a commit block its transaction's holds end, unless a durability
-- call waits for it
abbrev pub after_moved : Option Note → List Wait → Conflicts → Conflicts
after_moved (Some (notes.Commit k)) waits c = if list_any (awaits k) waits then c else unhold k c
after_moved other waits c = c

-- only a moved commit block and a flush that is answered end holds
abbrev pub after_completion : Completion → FlushPart → Conflicts
after_completion (completions.Moved id) f = after_moved (slice_get f.notes id) f.waits f.conflicts
after_completion (completions.Flushed id) f = unhold_before id f.notes f.conflicts
after_completion other f = f.conflicts

-- the completion is taken
abbrev pub take_completion : Completion → FlushPart → FlushPart
take_completion c f = record f { taken = f.taken ++ c ∷ []; conflicts = after_completion c f }

-- ---- a step and what it answers

-- the part after a step, and what the step answers
pub record FlushTurn : Type 0 where
  pub part : FlushPart
  pub turn : Turn

-- what one answers that submits, and the part after it
abbrev pub submit_turn : Bool → FlushPart → Turn
submit_turn full f = if at_limit f then turns.SessionFull else if full then turns.QueueFull else turns.Did

-- the request goes out only where the answer is Did
abbrev pub after_submit : Turn → Request → Note → FlushPart → FlushPart
after_submit t r n f = if is_did t then submit r n f else f

-- one that submits; `out` is the part after it
abbrev pub submits : Bool → FlushPart → FlushPart → FlushTurn
submits full f out =
    if at_limit f then record { part = f; turn = turns.SessionFull }
    else if full then record { part = f; turn = turns.QueueFull }
    else record { part = out; turn = turns.Did }

-- a flush is an ordered barrier, and its id is the number of requests before it
abbrev pub submit_flush : FlushPart → FlushPart
submit_flush f = submit (record { id = length f.requests; kind = puts.Flush; ordered = true; barrier = true }) notes.Flush f

-- a completion, where one waits
abbrev pub take_turn : Option Completion → FlushPart → FlushTurn
take_turn next f = elim next as (λ _. FlushTurn) [
  | None ↦ record { part = f; turn = turns.Idle }
  | Some c ↦ record { part = take_completion c f; turn = turns.Did }
]

-- a flush where one is due, else a completion
abbrev pub flush_turn : Bool → Option Completion → FlushPart → FlushTurn
flush_turn full next f = if flush_due f then submits full f (submit_flush f) else take_turn next f
