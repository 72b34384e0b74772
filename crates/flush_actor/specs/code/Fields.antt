-- What holds of the fields of the flush actor.
use Rattle.std.specs.List.{list_any}
use Rattle.std.specs.Prelude.{◌≡◌, ℕ, ◌+◌, ◌<◌, ◌≤◌, ◌^◌, Bool, List, length, Option, Some, None, slice_get}
use Rattle.order_model.specs.declared.completion.Completion.{Completion}
use Rattle.order_model.specs.declared.note.Note.{Note}
use Rattle.order_model.specs.declared.request.Request.{Request}
use Rattle.blk_base.specs.Members.{In}
use Rattle.flush_actor.specs.conflicts.Commits.{CommitTable, is_committed}
use Rattle.flush_actor.specs.conflicts.Conflicts.{ConflictTable}
use Rattle.flush_actor.specs.declared.conflicts.commits.CommitBlock.{CommitBlock}
use Rattle.flush_actor.specs.Actor.{Submission, Completed}
use Rattle.flush_actor.specs.Part.{is_cut, first_failed, is_moved, is_flushed_after, flush_above, last_put}
use Rattle.flush_actor.specs.Steps.{commits_before}
use Rattle.flush_actor.specs.code.Summary.{is_above}
use Rattle.flush_actor.specs.declared.wait.Wait.{Wait}

-- the last flush and the last put, and the first commit block of each transaction
pub record IsSubmission (limit : ℕ) (requests : List Request) (notes : List Note) (capacity : ℕ) (flush put : Option ℕ) (commits : CommitTable) : Type 0 where
  pub paired : length requests ≡ length notes
  pub few : length notes ≤ limit
  pub short : limit < 2 ^ 32
  pub reserved : limit ≤ capacity
  pub flushes : (id : ℕ) → is_above id flush ≡ flush_above id 0 notes
  pub flush_within : (id : ℕ) → flush ≡ Some id → id < length notes
  pub put_is : put ≡ last_put 0 notes None
  pub committed : (k id : ℕ) → is_committed id k commits.commits ≡ commits_before k id 0 notes
  pub commits_within : (c : CommitBlock) → In c commits.commits → c.id < length notes
  pub commits_few : length commits.commits ≤ length notes
  pub room : commits.room ≡ limit

-- whether the power went, the first failure, the greatest flush that was answered, and for each request whether it
-- was moved
pub record IsCompleted (moved : List Bool) (count : ℕ) (cut : Bool) (failed flushed : Option ℕ) (taken : List Completion) : Type 0 where
  pub counted : count ≡ length taken
  pub most : length taken ≤ length moved + 1
  pub short : length moved < 2 ^ 32
  pub cut_is : cut ≡ list_any is_cut taken
  pub failed_is : failed ≡ first_failed taken
  pub answered : (id : ℕ) → is_above id flushed ≡ list_any (is_flushed_after id) taken
  pub done : (id : ℕ) → id < length moved → slice_get moved id ≡ Some (list_any (is_moved id) taken)

-- what a call needs durable was submitted
abbrev pub NeedsSubmitted : List Request → List Wait → Type 0
NeedsSubmitted requests waits = (w : Wait) (id : ℕ) → In w waits → w.need ≡ Some id → id < length requests

-- both halves know of as many requests, and the table of conflicts has these blocks
pub record IsFlushPart (s : Submission) (c : Completed) (blocks : ℕ) (t : ConflictTable) (waits : List Wait) : Type 0 where
  pub paired : length s.requests ≡ length s.notes
  pub few : length s.requests ≤ s.limit
  pub short : s.limit < 2 ^ 32
  pub known : c.known ≡ s.limit
  pub held : t.blocks ≡ blocks
  pub needs : NeedsSubmitted s.requests waits
