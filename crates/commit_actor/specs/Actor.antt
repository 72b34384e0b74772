-- The commit actor of one journal.
use Rattle.std.specs.Prelude.{ℕ, Bool, not, ◌&&◌, nat_lt, List, is_none, if◌then◌else◌}
use Rattle.order_model.specs.declared.turn.Turn.{Turn}
use Rattle.page_cache.specs.Pages.{unsent_of}
use Rattle.page_cache.specs.declared.cached_page.CachedPage.{CachedPage}
use Rattle.journal_blocks.specs.declared.super_block.JournalSuper.{JournalSuper}
use Rattle.journal_ring.specs.Journal.{JournalRing}
use Rattle.journal_ring.specs.LogRing.{LogRing, ring_free}
use Rattle.journal_ring.specs.running.Open.{OpenTransaction}
use Rattle.journal_ring.specs.running.Plan.{Writers}
use Rattle.journal_ring.specs.running.Running.{Running, fresh, log_needs}
use Rattle.flush_actor.specs.Actor as flush
use Rattle.flush_actor.specs.Outcomes.{is_did}
use Rattle.flush_actor.specs.Part.{FlushPart, is_over}
use Rattle.commit_actor.specs.Journal.{Phase, Idle, JournalPart, is_closing}

-- the part without its phase, with the superblock that the journal was made from and its block, how many blocks there
-- are, and for how many notes of the running transaction there is room
pub record LogState : Type 0 where
  pub made_with : JournalSuper
  pub journal : ℕ
  pub blocks : ℕ
  pub spare : ℕ
  pub flush : FlushPart
  pub ring : LogRing
  pub running : Running

-- the same with the whole part
pub record CommitActor : Type 0 where
  pub made_with : JournalSuper
  pub journal : ℕ
  pub blocks : ℕ
  pub spare : ℕ
  pub part : JournalPart

abbrev pub with_part : CommitActor → JournalPart → CommitActor
with_part a j = record { made_with = a.made_with; journal = a.journal; blocks = a.blocks; spare = a.spare; part = j }

-- ---- the part without its phase

-- the whole part, in this phase
abbrev pub part_of : LogState → Phase → JournalPart
part_of l p = record { flush = l.flush; ring = l.ring; running = l.running; phase = p }

-- the part's fields come, but for its phase
abbrev pub with_parts : LogState → JournalPart → LogState
with_parts l j = record { made_with = l.made_with; journal = l.journal; blocks = l.blocks; spare = l.spare; flush = j.flush; ring = j.ring; running = j.running }

abbrev pub with_flush : LogState → FlushPart → LogState
with_flush l f = record { made_with = l.made_with; journal = l.journal; blocks = l.blocks; spare = l.spare; flush = f; ring = l.ring; running = l.running }

-- the running transaction, with what it is made with and its room
abbrev pub open_of : LogState → OpenTransaction
open_of l = record { made_with = l.made_with; spare = l.spare; running = l.running }

-- the running transaction and its room are these
abbrev pub with_open : LogState → OpenTransaction → LogState
with_open l t = record { made_with = l.made_with; journal = l.journal; blocks = l.blocks; spare = t.spare; flush = l.flush; ring = l.ring; running = t.running }

abbrev pub actor_of : LogState → Phase → CommitActor
actor_of l p = record { made_with = l.made_with; journal = l.journal; blocks = l.blocks; spare = l.spare; part = part_of l p }

-- what a step leaves where it did something, and else
abbrev pub if_did : {X : Type 0} → Turn → X → X → X
if_did t x y = if is_did t then x else y

-- ---- calls

-- nothing was submitted
abbrev pub made_log : JournalRing → ℕ → ℕ → ℕ → LogState
made_log r journal blocks threads = record {
  made_with = r.made_with;
  journal = journal;
  blocks = blocks;
  spare = 0;
  flush = (flush.made r.limit blocks threads).part;
  ring = r.ring;
  running = fresh 1;
}

-- a new session has no plan, and transaction 1 runs
abbrev pub made : JournalRing → ℕ → ℕ → ℕ → CommitActor
made r journal blocks threads = actor_of (made_log r journal blocks threads) Idle

-- its step builds a plan
abbrev pub builds_plan : Writers → JournalPart → List CachedPage → Bool
builds_plan w j ps =
    not (is_over j.flush) && (is_closing j.phase && (is_none (unsent_of ps j.running.changed) && not (nat_lt (ring_free j.ring) (log_needs w j.running))))
