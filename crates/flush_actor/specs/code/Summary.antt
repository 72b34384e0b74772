-- What is kept in place of whole lists: each changes with one note or one completion.
use Rattle.std.specs.Prelude.{ℕ, Bool, true, false, nat_lt, List, Option, Some, None, set, if◌then◌else◌}
use Rattle.order_model.specs.declared.completion.Completion.TheVariants as completions
use Rattle.order_model.specs.declared.completion.Completion.{Completion}
use Rattle.order_model.specs.declared.note.Note.TheVariants as notes
use Rattle.order_model.specs.declared.note.Note.{Note}
use Rattle.flush_actor.specs.conflicts.Commits.{with_commit}
use Rattle.flush_actor.specs.declared.conflicts.commits.CommitBlock.{CommitBlock}
use Rattle.flush_actor.specs.Part.{is_flush_note}

-- the number is above id
abbrev pub is_above : ℕ → Option ℕ → Bool
is_above id None = false
is_above id (Some n) = nat_lt id n

-- id where there is no number yet
abbrev pub greater : Option ℕ → ℕ → ℕ
greater None id = id
greater (Some n) id = if nat_lt n id then id else n

-- the number that is kept; id where there is none yet
abbrev pub first_of : Option ℕ → ℕ → ℕ
first_of None id = id
first_of (Some n) id = n

-- ---- of completions

-- the greatest id of a flush that is answered
abbrev pub flushed_with : Option ℕ → Completion → Option ℕ
flushed_with last (completions.Flushed id) = Some (greater last id)
flushed_with last other = last

-- the request whose failure is reported first
abbrev pub failed_with : Option ℕ → Completion → Option ℕ
failed_with first (completions.Failed id) = Some (first_of first id)
failed_with first other = first

-- for each request whether it is moved
abbrev pub moved_with : List Bool → Completion → List Bool
moved_with moved (completions.Moved id) = set moved id true
moved_with moved other = moved

-- ---- of notes

-- the last flush; the note is that of request id
abbrev pub flush_with : Option ℕ → Note → ℕ → Option ℕ
flush_with last n id = if is_flush_note n then Some id else last

-- the last put; the note is that of request id
abbrev pub put_with : Option ℕ → Note → ℕ → Option ℕ
put_with last n id = if is_flush_note n then last else Some id

-- where commit blocks stand; the note is that of request id
abbrev pub commits_with : List CommitBlock → Note → ℕ → List CommitBlock
commits_with cs (notes.Commit k) id = with_commit k id cs
commits_with cs other id = cs
