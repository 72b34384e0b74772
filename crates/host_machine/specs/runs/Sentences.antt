-- What a power cut leaves of a host's session, on a medium that keeps the order of barriers.
use Rattle.std.specs.Prelude.{◌≡◌, ℕ, ◌≤◌, true, false, List, length}
use Rattle.blk_base.specs.Members.{In}
use Rattle.order_model.specs.OrderClosed.{IsOrderClosed, KeepsFlushed}
use Rattle.order_model.specs.declared.completion.Completion.{Completion}
use Rattle.log_model.specs.Marks.{Transaction}
use Rattle.volume_ops.specs.Reads.{answer}
use Rattle.crash_laws.specs.Found.{found}
use Rattle.crash_laws.specs.Headline.{HoldsPrefix}
use Rattle.crash_laws.specs.PromiseRules.{Covers, CoversEntry, IsSettled, IsLaterKept}
use Rattle.crash_laws.specs.Recovery.{IsRecovered}
use Rattle.crash_laws.specs.Session.{Medium}
use Rattle.host_machine.specs.State.{Begun, Host}
use Rattle.flush_actor.specs.Kinds.{is_durable}
use Rattle.host_machine.specs.Views.{cut_of, tree_after}
use Rattle.host_machine.specs.laws.Contract.{Over, noted_history, IsAlike, session}
use Rattle.host_machine.specs.runs.Promises.{call_of, IsAnswered}

module _ {A T V C R : Type 0} (o : Over A T V C R) (Stands : V → T → Type 0) (s : Host V C R) (txs : List Transaction) where
  -- the number of transactions whose commit block the medium has
  abbrev pub kept_number : Medium → ℕ
  kept_number m = found (session o Stands txs s) m

  -- all that the call covers survived or was superseded
  pub record IsAllSettled (m : Medium) (b : Begun) : Type 0 where
    pub pages : (f i n : ℕ) → Covers (noted_history o Stands s.history s.cuts) (call_of b) f i n → IsSettled o.program (noted_history o Stands s.history s.cuts) (session o Stands txs s) m (kept_number m) f i n
    pub metadata : (n : ℕ) → CoversEntry (call_of b) n → n ≤ cut_of s.cuts (length s.history) (kept_number m)

  -- `txs` are the bodies and revokes of the closed transactions.
  pub record KeepsSentences : Type 0 where
    -- The recovered disk holds the transactions whose commit block was kept, which are the first ones, and versions of
    -- the file blocks that are no older than those which the last change of their file asks for.
    pub prefix : (m : Medium) (disk : ℕ → List ℕ) → IsOrderClosed o.base s.journal.flush.requests m.image m.origins → IsRecovered (session o Stands txs s) m disk
        → HoldsPrefix o.program (noted_history o Stands s.history s.cuts) (session o Stands txs s) m disk (kept_number m)
    -- and its tree is that after the last entry of the last of them
    pub tree : (m : Medium) (disk : ℕ → List ℕ) → IsOrderClosed o.base s.journal.flush.requests m.image m.origins → IsRecovered (session o Stands txs s) m disk
        → IsAlike o Stands (answer disk o.program) (tree_after o.model s.history (cut_of s.cuts (length s.history) (kept_number m)))
    -- a barrier call that answered Ok as entry e: where a later write survived
    pub barriers : (m : Medium) (e : ℕ) (b : Begun) → IsOrderClosed o.base s.journal.flush.requests m.image m.origins → IsAnswered o Stands s e b → is_durable b.kind ≡ false
        → IsLaterKept (noted_history o Stands s.history s.cuts) (session o Stands txs s) m (kept_number m) e → IsAllSettled m b
    -- a sync call that answered Ok, where the device keeps what it has flushed
    pub syncs : (m : Medium) (e : ℕ) (b : Begun) (sent : List Completion) → IsOrderClosed o.base s.journal.flush.requests m.image m.origins → KeepsFlushed s.journal.flush.requests m.origins sent
        → ((c : Completion) → In c s.journal.flush.taken → In c sent) → IsAnswered o Stands s e b → is_durable b.kind ≡ true → IsAllSettled m b
