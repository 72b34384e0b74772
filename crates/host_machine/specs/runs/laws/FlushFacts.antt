-- What the host keeps of flushes: each is charged to the Begin of a sync call.
use Rattle.std.specs.Prelude.{◌≡◌, ℕ, ◌+◌, ◌<◌, ◌≤◌, ◌&&◌, Bool, true, false, not, List, [], ◌∷◌, length, Some, None}
use Rattle.blk_base.specs.Members.{In}
use Rattle.order_model.specs.declared.note.Note.{Note}
use Rattle.host_machine.specs.State.{Entry}
use Rattle.host_machine.specs.runs.Flushes.{count, is_sync_begin}
use Rattle.flush_actor.specs.Kinds.{is_durable}
use Rattle.flush_actor.specs.Part.{is_flush_note, flush_above}
use Rattle.flush_actor.specs.declared.call_kind.CallKind.{CallKind}
use Rattle.flush_actor.specs.declared.wait.Wait.{Wait}

-- a sync call that may still want a flush: it does not know what it needs, or no flush is behind that
abbrev pub is_open : List Note → Wait → Bool
is_open ns w = is_durable w.kind && elim w.need as (λ _. Bool) [ None ↦ true | Some id ↦ not (flush_above id 0 ns) ]

pub record FlushFacts {C R : Type 0} (kind : C → CallKind) (ns : List Note) (waits : List Wait) (history : List (Entry C R)) : Type 0 where
  pub charged : count is_flush_note ns + count (is_open ns) waits ≤ count (is_sync_begin kind) history
  -- what is needed was submitted, and a sync call needs it
  pub needed : (w : Wait) → In w waits → (id : ℕ) → w.need ≡ Some id → (id < length ns) × (is_durable w.kind ≡ true)
