-- What others see of a host: its calls and cuts, what it submitted and may submit, the completions that it took, and the
-- places of its log; and how one step changes it.
use Rattle.std.specs.Prelude.{◌≡◌, ℕ, ◌<◌, List, [], ◌∷◌, ◌++◌, length}
use Rattle.order_model.specs.declared.completion.Completion.{Completion}
use Rattle.order_model.specs.declared.note.Note.{Note}
use Rattle.order_model.specs.declared.request.Request.{Request}
use Rattle.log_model.specs.Ring.{Ring}
use Rattle.host_machine.specs.State.{Entry, Host}

pub record Trace (C R : Type 0) : Type 0 where
  pub history : List (Entry C R)
  pub cuts : List ℕ
  pub requests : List Request
  pub notes : List Note
  pub taken : List Completion
  pub limit : ℕ
  pub places : Ring

abbrev pub trace_of : {V C R : Type 0} → Host V C R → Trace C R
trace_of s = record { history = s.history; cuts = s.cuts; requests = s.journal.flush.requests; notes = s.journal.flush.notes; taken = s.journal.flush.taken; limit = s.journal.flush.limit; places = s.journal.ring.places }

-- nothing; or one request, one entry, one cut behind the last entry, or one completion
pub data Move {C R : Type 0} (old new : Trace C R) : Type 0 where
  Stays : old ≡ new → Move old new
  Puts : (q : Request) (n : Note) → length old.requests < old.limit → record old { requests = old.requests ++ q ∷ []; notes = old.notes ++ n ∷ [] } ≡ new → Move old new
  Enters : (e : Entry C R) → record old { history = old.history ++ e ∷ [] } ≡ new → Move old new
  Cuts : record old { cuts = old.cuts ++ length old.history ∷ [] } ≡ new → Move old new
  Takes : (c : Completion) → record old { taken = old.taken ++ c ∷ [] } ≡ new → Move old new
