-- The host's state as plain data.
use Rattle.std.specs.Prelude.{ℕ, Bool, List, Option}
use Rattle.page_cache.specs.declared.cached_page.CachedPage.{CachedPage}
use Rattle.journal_ring.specs.running.Plan.{Writers}
use Rattle.flush_actor.specs.declared.call_kind.CallKind.{CallKind}
use Rattle.commit_actor.specs.Journal.{JournalPart}

-- ---- the history

-- how a call ends: with the tree model's reply, or since the power went, a request failed, or the session's
-- limit is reached
pub data Ending (R : Type 0) : Type 0 where
  Answered : R → Ending R
  Down : Ending R
  ReadOnly : ℕ → Ending R
  SessionFull : Ending R

-- what an entry notes: a barrier or sync call has begun, or a call has ended
pub data What (R : Type 0) : Type 0 where
  Begins : What R
  Ends : Ending R → What R

-- threads are counted from 0
pub record Entry (C R : Type 0) : Type 0 where
  pub thread : ℕ
  pub call : C
  pub what : What R

-- ---- the callers

-- A begun call: the number of its Begin, the file that it is on, the pages that it has still to pass, and
-- whether it sent a barrier.
pub record Begun : Type 0 where
  pub begin : ℕ
  pub kind : CallKind
  pub file : ℕ
  pub list : List (ℕ × ℕ)
  pub sent_barrier : Bool

-- the calls that a thread has still to end, and whether the first of them has begun
pub record Thread (C : Type 0) : Type 0 where
  pub calls : List C
  pub begun : Option Begun

-- ---- all

-- V are volumes, C calls and R their replies
pub record Host (V C R : Type 0) : Type 0 where
  pub journal : JournalPart
  pub volume : V
  pub pages : List CachedPage
  -- for each zone the transaction that took it for a file
  pub owners : List ℕ
  pub history : List (Entry C R)
  -- the number of the last entry of each closed transaction
  pub cuts : List ℕ
  pub threads : List (Thread C)

-- what does not change: the block of the journal superblock, the sequence of transaction 1, how blocks are
-- written, the blocks of the zone bitmap, and how many log blocks a transaction may have
pub record Setup : Type 0 where
  pub journal : ℕ
  pub sequence : ℕ
  pub writers : Writers
  pub zmap : ℕ
  pub quota : ℕ
