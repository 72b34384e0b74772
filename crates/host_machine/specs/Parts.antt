-- The actors' steps on the host, as steps on their parts: what these leave, and what the host does besides.
use Rattle.std.specs.Prelude.{ℕ, ◌-◌, List, [], ◌∷◌, ◌++◌, length}
use Rattle.flush_actor.specs.Steps.{FlushTurn}
use Rattle.commit_actor.specs.Journal.{Phase, Idle, Closing, Committing}
use Rattle.commit_actor.specs.Steps.{CommitTurn}
use Rattle.host_machine.specs.Host.{Turned, with_flush}
use Rattle.host_machine.specs.Model.{Model}
use Rattle.host_machine.specs.State.{Host, Setup}

-- where a plan was built, the cut is noted
abbrev pub noted_cuts : Phase → Phase → List ℕ → ℕ → List ℕ
noted_cuts Closing (Committing p) cuts now = cuts ++ now ∷ []
noted_cuts old new cuts now = cuts

module _ {T V C R : Type 0} (M : Model T V C R) (u : Setup) where
  -- where a plan is done, the zones of its transaction are free
  abbrev pub released : Phase → Phase → V → ℕ → V
  released (Committing p) Idle v k = M.release v k
  released old new v k = v

  -- a step of the commit actor on the journal's part and the pages, from this phase
  abbrev pub commit_from : Phase → Host V C R → CommitTurn → Turned V C R
  commit_from old s t = record {
    host = record {
      journal = t.part;
      volume = released old t.part.phase s.volume (s.journal.running.number - 1);
      pages = t.pages;
      owners = s.owners;
      history = s.history;
      cuts = noted_cuts old t.part.phase s.cuts (length s.history);
      threads = s.threads;
    };
    turn = t.turn;
  }

  -- a step of the commit actor, from the phase in which the host is
  abbrev pub with_commit : Host V C R → CommitTurn → Turned V C R
  with_commit s t = commit_from s.journal.phase s t

  -- a step of the flush actor on its part
  abbrev pub with_flushed : Host V C R → FlushTurn → Turned V C R
  with_flushed s t = record { host = with_flush M u s t.part; turn = t.turn }
