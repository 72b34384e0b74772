-- The ring of the log of one journal.
use Rattle.std.specs.Prelude.{ℕ, false, [], ◌∷◌, Option, Some, None}
use Rattle.log_model.specs.Marks.{Logged}
use Rattle.journal_blocks.specs.declared.super_block.JournalSuper.{JournalSuper}
use Rattle.journal_ring.specs.LogRing.{LogRing}

-- the superblock that it was made from, how many bodies may wait, the last transaction whose commit block was told,
-- and the ring
pub record JournalRing : Type 0 where
  pub made_with : JournalSuper
  pub limit : ℕ
  pub committed : ℕ
  pub ring : LogRing

abbrev pub with_ring : JournalRing → LogRing → JournalRing
with_ring j r = record j { ring = r }

-- before the first transaction: the first place is next, and nothing is in use
abbrev pub made : JournalSuper → ℕ → JournalRing
made s limit = record {
  made_with = s;
  limit = limit;
  committed = 0;
  ring = record { places = record { first = s.first; past = s.maxlen }; head = s.first; used = 0; started = false; homes = [] };
}

-- the body that goes home next
abbrev pub first_home : LogRing → Option Logged
first_home r = elim r.homes as (λ _. Option Logged) [ [] ↦ None | h ∷ hs ↦ Some h ]

-- the superblock by which a log begins at the ring's head with this sequence
abbrev pub tail_at_head : JournalRing → ℕ → JournalSuper
tail_at_head j sequence = record {
  maxlen = j.made_with.maxlen;
  first = j.made_with.first;
  sequence = sequence;
  start = j.ring.head;
  incompat = j.made_with.incompat;
}
