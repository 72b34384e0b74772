-- The flush actor of one volume, and its two halves: what was submitted, and what was completed.
use Rattle.std.specs.Prelude.{ℕ, List, [], replicate}
use Rattle.order_model.specs.declared.completion.Completion.{Completion}
use Rattle.order_model.specs.declared.note.Note.{Note}
use Rattle.order_model.specs.declared.request.Request.{Request}
use Rattle.flush_actor.specs.conflicts.Conflicts.{Conflicts}
use Rattle.flush_actor.specs.Part.{FlushPart}
use Rattle.flush_actor.specs.Waits.{no_wait}

-- how many requests there may be, which they are, and what each carries
pub record Submission : Type 0 where
  pub limit : ℕ
  pub requests : List Request
  pub notes : List Note

-- of how many requests it is known whether they were completed, and the completions that were taken
pub record Completed : Type 0 where
  pub known : ℕ
  pub taken : List Completion

-- how many blocks there are that can be held, and the part
pub record FlushActor : Type 0 where
  pub blocks : ℕ
  pub part : FlushPart

abbrev pub with_part : FlushActor → FlushPart → FlushActor
with_part a f = record { blocks = a.blocks; part = f }

abbrev pub with_conflicts : FlushActor → Conflicts → FlushActor
with_conflicts a c = with_part a (record a.part { conflicts = c })

-- nothing was submitted, and no thread waits
abbrev pub made : ℕ → ℕ → ℕ → FlushActor
made limit blocks threads = record {
  blocks = blocks;
  part = record {
    requests = [];
    notes = [];
    limit = limit;
    taken = [];
    conflicts = record { held = []; wanted = [] };
    waits = replicate threads no_wait;
  };
}
