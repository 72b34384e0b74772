-- Hosts whose transaction or log is full, or nearly so.
use Rattle.std.specs.Prelude.{ℕ, true, false, List, [], ◌∷◌, map}
use Rattle.order_model.specs.declared.request.Kind.{Kind}
use Rattle.order_model.specs.declared.request.Kind.TheVariants as puts
use Rattle.order_model.specs.declared.request.Request.{Request}
use Rattle.log_model.specs.Marks.{Logged}
use Rattle.journal_blocks.specs.declared.super_block.JournalSuper.{JournalSuper}
use Rattle.commit_actor.specs.Journal.{Closing}
use Rattle.flush_actor.specs.declared.call_kind.CallKind.TheVariants.{FileSync}
use Rattle.host_machine.specs.Host.{opened}
use Rattle.host_machine.specs.laws.Rows.{State, model, setup, ring, begun, changing}
use Rattle.host_tests.specs.machine.Samples.{asked, in_phase, numbers}

-- a call that changes something, where the running transaction has so many bodies and revokes
abbrev pub running_with : ℕ → ℕ → State
running_with bodies revokes = filled (asked (changing [] [] [] []) [])
  where
    filled : State → State
    filled s = record s { journal = record s.journal { running = record { number = 1; touched = numbers 100 bodies; revoked = numbers 200 revokes; changed = []; wanted = false } } }

-- a call that takes these zones, where transaction 3 runs, zone 1 is free, and three wait
abbrev pub needs_zones : List ℕ → State
needs_zones takes = numbered (opened model setup (record { free = 1 ∷ []; waiting = record { zone = 2; transaction = 1 } ∷ record { zone = 3; transaction = 2 } ∷ record { zone = 4; transaction = 3 } ∷ [] }) ring 64 1000 ((changing takes [] [] [] ∷ []) ∷ []))
  where
    numbered : State → State
    numbered s = record s { journal = record s.journal { running = record s.journal.running { number = 3 } } }

abbrev pub logged : ℕ → ℕ → Logged
logged b n = record { block = b; body = n ∷ [] }

-- Transaction 3 is closed, with three bodies; of the nine places of the log so many are in use before this head, and the
-- bodies of three blocks wait.
abbrev pub log_with : ℕ → ℕ → State
log_with used head = closed (in_phase Closing (asked (begun FileSync 0) []))
  where
    closed : State → State
    closed s = record s {
      journal = record s.journal {
        running = record { number = 3; touched = 20 ∷ 21 ∷ 22 ∷ []; revoked = []; changed = []; wanted = true };
        ring = record { places = record { first = 1; past = 10 }; head = head; used = used; started = true; homes = logged 2 2 ∷ logged 4 4 ∷ logged 6 6 ∷ [] };
      };
    }

abbrev pub body_of : Kind → List ℕ
body_of (puts.Put block body) = body
body_of puts.Flush = []

abbrev pub bodies_of : State → List (List ℕ)
bodies_of s = map (λ (r : Request). body_of r.kind) s.journal.flush.requests

-- the same with two places in use, where transaction 3 revokes block 4
abbrev pub revoking : State
revoking = revokes (log_with 2 5)
  where
    revokes : State → State
    revokes s = record s { journal = record s.journal { running = record s.journal.running { revoked = 4 ∷ [] } } }

-- the superblock of an empty log of so many blocks, with these features
abbrev pub journal_of : ℕ → ℕ → JournalSuper
journal_of blocks incompat = record { maxlen = blocks; first = 1; sequence = 7; start = 0; incompat = incompat }
