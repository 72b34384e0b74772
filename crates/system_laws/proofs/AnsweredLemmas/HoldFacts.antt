-- What a host keeps of the blocks that transactions hold, and of what sync calls need: a hold ends once the commit block has
-- moved, or, where a sync call waits for it, once a flush behind it is answered.
use Rattle.std.specs.List.{list_any}
use Rattle.std.specs.Prelude.{◌≡◌, ℕ, ◌<◌, ◌≤◌, true, false, length, Some, slice_get, slice_index_or}
use Rattle.blk_base.specs.Members.{In}
use Rattle.order_model.specs.declared.completion.Completion.TheVariants as completions
use Rattle.order_model.specs.declared.note.Note.TheVariants as notes
use Rattle.order_model.specs.declared.note.Note.{Note}
use Rattle.flush_actor.specs.Part.{is_over, at_limit, is_flush_note}
use Rattle.flush_actor.specs.Steps.{commits_before}
use Rattle.flush_actor.specs.Waits.{no_wait, awaits}
use Rattle.flush_actor.specs.conflicts.Conflicts.{is_held}
use Rattle.flush_actor.specs.declared.conflicts.held.Held.{Held}
use Rattle.flush_actor.specs.declared.wait.Wait.{Wait}
use Rattle.commit_actor.specs.Journal.{JournalPart, is_submitted}

-- what thread t waits for
abbrev pub wait_of : JournalPart → ℕ → Wait
wait_of j t = slice_index_or j.flush.waits t no_wait

pub record HoldFacts (j : JournalPart) : Type 0 where
  -- a flush is answered only once it was submitted
  pub submitted : (f : ℕ) → In (completions.Flushed f) j.flush.taken → f < length j.flush.notes
  -- and so does a request move
  pub moved : (id : ℕ) → In (completions.Moved id) j.flush.taken → id < length j.flush.notes
  -- a commit block is that of a transaction which is through
  pub through : (k id : ℕ) → slice_get j.flush.notes id ≡ Some (notes.Commit k) → is_submitted j k ≡ true
  -- closed transactions alone hold blocks, and what the running one wants is held
  pub closed : (x : Held) → In x j.flush.conflicts.held → (1 ≤ x.transaction) × (x.transaction < j.running.number)
  pub wanted : (b : ℕ) → In b j.flush.conflicts.wanted → is_held j.flush.conflicts b ≡ true
  -- no flush behind the commit block of a transaction that holds a block is answered
  pub unflushed : (x : Held) (f : ℕ) → In x j.flush.conflicts.held → In (completions.Flushed f) j.flush.taken → commits_before x.transaction f 0 j.flush.notes ≡ false
  -- and where that commit block has moved, a sync call waits for it
  pub awaited : is_over j.flush ≡ false → at_limit j.flush ≡ false → (x : Held) (id : ℕ) → In x j.flush.conflicts.held → slice_get j.flush.notes id ≡ Some (notes.Commit x.transaction)
      → In (completions.Moved id) j.flush.taken → list_any (awaits x.transaction) j.flush.waits ≡ true
  -- what a call needs is a put, which stands at or behind the commit block of its transaction, and that is through
  pub put : (t id : ℕ) → (wait_of j t).need ≡ Some id → (n : Note) × (slice_get j.flush.notes id ≡ Some n) × (is_flush_note n ≡ false)
  pub behind : (t k id c : ℕ) → (wait_of j t).target ≡ Some k → (wait_of j t).need ≡ Some id → slice_get j.flush.notes c ≡ Some (notes.Commit k) → c ≤ id
  pub settled : (t k id : ℕ) → (wait_of j t).target ≡ Some k → (wait_of j t).need ≡ Some id → is_submitted j k ≡ true
