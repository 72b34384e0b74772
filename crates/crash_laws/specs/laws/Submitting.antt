-- A session, and the session with one request more.
use Rattle.std.specs.Prelude.{◌≡◌, ℕ, [], ◌∷◌, ◌++◌, length}
use Rattle.order_model.specs.declared.request.Request.{Request}
use Rattle.order_model.specs.declared.note.Note.{Note}
use Rattle.log_model.specs.Marks.{Transaction}
use Rattle.crash_laws.specs.Session.{Session, IsCommit}

-- One request is submitted. Transactions may be told anew as long as their commit block is not submitted.
pub record Submitting : Type 0 where
  pub session : Session
  pub counted : length session.notes ≡ length session.requests
  pub request : Request
  pub note : Note
  pub transactions : ℕ → Transaction
  pub same : (k i : ℕ) → IsCommit session k i → transactions k ≡ session.transactions k

-- the session with it
abbrev pub after : Submitting → Session
after p = record p.session { requests = p.session.requests ++ p.request ∷ []; notes = p.session.notes ++ p.note ∷ []; transactions = p.transactions }

-- its place
abbrev pub new_place : Submitting → ℕ
new_place p = length p.session.notes

-- the commit block of k is in the list
abbrev pub IsCommitted : Session → ℕ → Type 0
IsCommitted s k = (c : ℕ) × IsCommit s k c
