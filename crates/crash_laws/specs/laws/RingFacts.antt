-- The ring of the log and the bodies that wait for a checkpoint, as a host has them.
use Rattle.std.specs.Prelude.{◌≡◌, ℕ, ◌+◌, ◌≤◌, List, length, Option, Some, None}
use Rattle.order_model.specs.declared.note.Note.TheVariants.{Home}
use Rattle.order_model.specs.OrderClosed.{IsPutWith}
use Rattle.log_model.specs.Marks.{Set, mark_in, transactions_from}
use Rattle.log_model.specs.Ring.{places_on}
use Rattle.crash_laws.specs.Ordering.{IsClosedOff}
use Rattle.crash_laws.specs.Session.{Session, HasNote, IsCommit, CommitBefore, log_blocks, log_blocks_below, IsSuperOf}

-- what they read of a host: the bodies that were not sent home since they were committed, the last transaction
-- that a superblock freed, the next place of the log, and how many places are in use
pub record RingHost : Type 0 where
  pub homes : ℕ → Option (List ℕ)
  pub freed : ℕ
  pub head : ℕ
  pub used : ℕ

-- a Home request carried the body of b that it has after each transaction from `since` to N
pub record IsAtHome (s : Session) (b : ℕ) (x : List ℕ) (N : ℕ) : Type 0 where
  pub home : ℕ
  pub note : HasNote s home (Home b)
  pub body : IsPutWith s.requests home x
  pub since : ℕ
  pub committed : CommitBefore s since home
  pub within : since ≤ N
  pub stays : (j : ℕ) → since ≤ j → j ≤ N → mark_in (transactions_from s.transactions 1 j) b ≡ Set x

pub record RingFacts (s : Session) (ring : RingHost) (N : ℕ) : Type 0 where
  pub committed : (k : ℕ) → 1 ≤ k → k ≤ N → (c : ℕ) × IsCommit s k c
  pub no_more : (k c : ℕ) → IsCommit s k c → k ≤ N
  -- a body that waits is the last one of its block; one that does not wait is at home
  pub pending : (b : ℕ) (x : List ℕ) → ring.homes b ≡ Some x → mark_in (transactions_from s.transactions 1 N) b ≡ Set x
  pub at_home : (b : ℕ) (x : List ℕ) → mark_in (transactions_from s.transactions 1 N) b ≡ Set x → ring.homes b ≡ None → IsAtHome s b x N
  -- where none waits, each Home request has a barrier at or behind it
  pub closed : ((b : ℕ) → ring.homes b ≡ None) → (o b : ℕ) → HasNote s o (Home b) → IsClosedOff s.requests o
  pub head : ring.head ≡ places_on s.ring (length (log_blocks s)) s.head
  pub used : ring.used + length (log_blocks_below (ring.freed + 1) (log_blocks s)) ≡ length (log_blocks s)
  pub super : 1 ≤ ring.freed → (x : ℕ) × IsSuperOf s x ring.freed
