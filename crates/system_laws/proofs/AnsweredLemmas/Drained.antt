-- A host all of whose requests have completed.
use Rattle.std.specs.Prelude.{◌≡◌, ℕ, false, Some, slice_get}
use Rattle.blk_base.specs.Members.{In}
use Rattle.order_model.specs.declared.completion.Completion.TheVariants as completions
use Rattle.order_model.specs.declared.note.Note.TheVariants as notes
use Rattle.order_model.specs.declared.note.Note.{Note}
use Rattle.flush_actor.specs.Part.{FlushPart, is_flush_note}
use Rattle.flush_actor.specs.Steps.{flush_due}

-- each request that was submitted has its completion, and no flush is due
pub record IsDrained (f : FlushPart) : Type 0 where
  pub moved : (id : ℕ) (n : Note) → slice_get f.notes id ≡ Some n → is_flush_note n ≡ false → In (completions.Moved id) f.taken
  pub flushed : (id : ℕ) → slice_get f.notes id ≡ Some notes.Flush → In (completions.Flushed id) f.taken
  pub none_due : flush_due f ≡ false
