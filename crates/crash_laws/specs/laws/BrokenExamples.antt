-- Two sessions that each break one rule, and a medium that a power cut may then leave: order-closed, and yet a sentence
-- does not hold of it.
use Rattle.std.specs.Prelude.{true, false, [], ◌∷◌, Some, None, ℕ, List, take}
use Rattle.order_model.specs.declared.request.Request.{Request}
use Rattle.order_model.specs.declared.note.Note.{Note}
use Rattle.order_model.specs.declared.note.Note.TheVariants.{Page, Super, Descriptor, Body, Commit}
use Rattle.crash_laws.specs.laws.Example.{put, with_first}
use Rattle.crash_laws.specs.Session.{Session, Medium}

-- The commit block is in the epoch of its body: no barrier stands between requests 2 and 3.
abbrev pub unfenced : Session
unfenced = record (with_first 0) {
  requests =
      put true true 0 4 (1 ∷ 1 ∷ [])
      ∷ put true false 1 5 (2 ∷ 1 ∷ 1 ∷ [])
      ∷ put true false 2 6 (7 ∷ [])
      ∷ put true true 3 7 (1 ∷ 1 ∷ [])
      ∷ [];
  notes = Super ∷ Descriptor 1 ∷ Body 1 1 ∷ Commit 1 ∷ [];
}

-- the commit block is there, and the body is not
abbrev pub without_body : Medium
without_body = record {
  image = [] ∷ [] ∷ [] ∷ [] ∷ (1 ∷ 1 ∷ []) ∷ (2 ∷ 1 ∷ 1 ∷ []) ∷ [] ∷ (1 ∷ 1 ∷ []) ∷ [];
  origins = None ∷ None ∷ None ∷ None ∷ Some 0 ∷ Some 1 ∷ None ∷ Some 3 ∷ [];
}

-- The page of the file that transaction 1 changed stands behind its commit block; all other order rules are kept.
abbrev pub late_requests : List Request
late_requests =
    put true true 0 4 (1 ∷ 1 ∷ [])
    ∷ put true false 1 5 (2 ∷ 1 ∷ 1 ∷ [])
    ∷ put true true 2 6 (7 ∷ [])
    ∷ put true true 3 7 (1 ∷ 1 ∷ [])
    ∷ put true true 4 2 (2 ∷ [])
    ∷ []

abbrev pub late_notes : List Note
late_notes = Super ∷ Descriptor 1 ∷ Body 1 1 ∷ Commit 1 ∷ Page 5 0 2 ∷ []

-- the session with the first n of them
abbrev pub late_with : ℕ → Session
late_with n = record (with_first 0) { requests = take n late_requests; notes = take n late_notes }

abbrev pub page_late : Session
page_late = late_with 5

-- all is there but the page
abbrev pub without_page : Medium
without_page = record {
  image = [] ∷ [] ∷ [] ∷ [] ∷ (1 ∷ 1 ∷ []) ∷ (2 ∷ 1 ∷ 1 ∷ []) ∷ (7 ∷ []) ∷ (1 ∷ 1 ∷ []) ∷ [];
  origins = None ∷ None ∷ None ∷ None ∷ Some 0 ∷ Some 1 ∷ Some 2 ∷ Some 3 ∷ [];
}
