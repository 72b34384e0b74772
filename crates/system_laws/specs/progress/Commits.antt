-- Transactions on their way to their commit block, and barrier calls on theirs to an answer.
use Rattle.std.specs.Prelude.{◌≡◌, ℕ, ◌-◌, true, false, List, [], ◌∷◌, ◌++◌, length, replicate, Some, None, slice_get, slice_index_or}
use Rattle.flush_actor.specs.Kinds.{is_durable}
use Rattle.flush_actor.specs.Part.{at_limit}
use Rattle.flush_actor.specs.Waits.{no_wait}
use Rattle.flush_actor.specs.conflicts.Conflicts.{least}
use Rattle.commit_actor.specs.Journal.{Plan, Closing, Committing, is_closing, is_submitted}
use Rattle.host_machine.specs.State.{Answered, Begun, Thread, Host}
use Rattle.host_machine.specs.runs.Runs.{Event, Call, Commit}
use Rattle.call_sessions.specs.promises.Entries.{EndsAt}

module _ {V C R : Type 0} where
  -- Transaction k is under way: it runs, somebody wants it closed, and no block that it changed is held by one before; or it is
  -- being closed; or its log blocks are being sent.
  pub data IsUnderWay (h : Host V C R) (k : ℕ) : Type 0 where
    wanted : h.journal.running.wanted ≡ true → least h.journal.flush.conflicts ≡ None → h.journal.running.number ≡ k → IsUnderWay h k
    closing : h.journal.phase ≡ Closing → h.journal.running.number ≡ k → IsUnderWay h k
    sending : (p : Plan) → h.journal.phase ≡ Committing p → h.journal.running.number - 1 ≡ k → IsUnderWay h k

  -- transaction k runs and is not being closed, and a block that it changed is held by one before it
  pub record IsHeldBack (h : Host V C R) (k : ℕ) : Type 0 where
    pub block : ℕ
    pub held : least h.journal.flush.conflicts ≡ Some block
    pub running : h.journal.running.number ≡ k
    pub unclosed : is_closing h.journal.phase ≡ false

  -- its commit block is submitted, or the session has as many requests as it may have
  pub data IsThrough (h : Host V C R) (k : ℕ) : Type 0 where
    committed : is_submitted h.journal k ≡ true → IsThrough h k
    full : at_limit h.journal.flush ≡ true → IsThrough h k

  -- thread t's next call is this, and it has not begun
  pub record IsNext (h : Host V C R) (t : ℕ) (c : C) : Type 0 where
    pub thread : Thread C
    pub rest : List C
    pub stands : slice_get h.threads t ≡ Some thread
    pub calls : thread.calls ≡ c ∷ rest
    pub unbegun : thread.begun ≡ None

  -- thread t is in this call, which has begun and not ended
  pub record IsInCall (h : Host V C R) (t : ℕ) (c : C) : Type 0 where
    pub thread : Thread C
    pub rest : List C
    pub begun : Begun
    pub stands : slice_get h.threads t ≡ Some thread
    pub calls : thread.calls ≡ c ∷ rest
    pub has_begun : thread.begun ≡ Some begun

  -- thread t is in a barrier call, which has begun and not ended
  pub record IsInBarrier (h : Host V C R) (t : ℕ) (c : C) : Type 0 where
    pub called : IsInCall h t c
    pub barrier : is_durable called.begun.kind ≡ false

  -- it waits for the commit block of transaction k
  pub record IsBarrierWaiting (h : Host V C R) (t : ℕ) (c : C) (k : ℕ) : Type 0 where
    pub call : IsInBarrier h t c
    pub barrier : is_durable (slice_index_or h.journal.flush.waits t no_wait).kind ≡ false
    pub target : (slice_index_or h.journal.flush.waits t no_wait).target ≡ Some k

-- so many steps of this thread, and so many of the commit actor behind them, which find room in the submission queue
abbrev pub host_moves : ℕ → ℕ → ℕ → List Event
host_moves t own commits = replicate own (Call false t) ++ replicate commits (Commit false)

-- From these events on thread t's call is answered by such steps and one more of the thread's own, none of them of the device;
-- or the session comes to its limit by such steps; or the call waits for a transaction that is held back.
pub data BarrierOutcome {V C R : Type 0} (session : List Event → Host V C R) (ok : R) (events : List Event) (t : ℕ) (c : C) : Type 0 where
  answered : (own commits : ℕ) →
      EndsAt (session (events ++ (host_moves t own commits ++ Call false t ∷ []))).history (length (session (events ++ host_moves t own commits)).history) t c (Answered ok) → BarrierOutcome session ok events t c
  session_full : (own commits : ℕ) → at_limit (session (events ++ host_moves t own commits)).journal.flush ≡ true → BarrierOutcome session ok events t c
  held_back : (own k : ℕ) → (slice_index_or (session (events ++ host_moves t own 0)).journal.flush.waits t no_wait).target ≡ Some k → IsHeldBack (session (events ++ host_moves t own 0)) k → BarrierOutcome session ok events t c
