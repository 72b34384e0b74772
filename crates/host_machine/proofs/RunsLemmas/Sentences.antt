-- A power cut in a host's session: what its facts give of a medium that keeps the order of barriers.
use Rattle.std.proofs.Common.{sym, subst, ⊎_elim, arith}
use Rattle.std.specs.Prelude.{◌≡◌, ℕ, zero, suc, ◌+◌, ◌<◌, ◌⊎◌, List, [], length}
use Rattle.order_model.specs.OrderClosed.{IsOrderClosed}
use Rattle.log_model.specs.Marks.{Transaction}
use Rattle.volume_ops.specs.Volume.{disk_of}
use Rattle.crash_laws.proofs.Commits.{kept_commits_are_prefix}
use Rattle.crash_laws.proofs.Sentences.{prefix_and_versions, promises}
use Rattle.crash_laws.specs.Found.{found, IsFound}
use Rattle.crash_laws.specs.History.{History, HasTrees}
use Rattle.crash_laws.specs.Session.{Session, Medium}
use Rattle.host_machine.proofs.Entries.{trees_noted}
use Rattle.host_machine.specs.State.{Begun, Host}
use Rattle.host_machine.specs.Views.{cut_of, tree_after}
use Rattle.host_machine.specs.laws.Contract.{Over, Contract, noted_history, IsAlike, session}
use Rattle.host_machine.proofs.RunsLemmas.Answered.{ok_as}
use Rattle.host_machine.specs.runs.Promises.{call_of, KeepsOk, IsAnswered}
use Rattle.host_machine.specs.runs.Sentences.{KeepsSentences}
use Rattle.host_machine.specs.runs.laws.Kept.{KeepsRules}

module _ {A T V C R : Type 0} {o : Over A T V C R} {Stands : V → T → Type 0} (contract : Contract o Stands) (s : Host V C R) (txs : List Transaction) (N : ℕ) (kept : KeepsRules contract s txs N) where
  abbrev sess : Session
  sess = session o Stands txs s

  abbrev h : History A
  h = noted_history o Stands s.history s.cuts

  trees : HasTrees h
  trees = trees_noted o.model contract.trees o.place s.history s.cuts kept.images.0.rise

  -- the transactions that a medium has are submitted, so their images are alike to their trees
  found_closed : (m : Medium) → IsOrderClosed o.base s.journal.flush.requests m.image m.origins → found sess m < s.journal.running.number
  found_closed m closed = by (found sess m) (kept_commits_are_prefix closed kept.rules.order.fits kept.rules.order.commits)
    where
      numbers : (N + 1 ≡ s.journal.running.number) ⊎ (N + 2 ≡ s.journal.running.number)
      numbers = kept.images.0.numbers.closed

      by : (F : ℕ) → IsFound sess m F → F < s.journal.running.number
      by zero f = ⊎_elim (λ e. omega arith) (λ e. omega arith) numbers
      by (suc F) f =
          let c = f.there (suc F) (omega arith) (omega arith) in
          let le = kept.images.0.numbers.no_more (suc F) c.0 c.1 in
          ⊎_elim (λ e. omega arith) (λ e. omega arith) numbers

  answered : (e : ℕ) (b : Begun) → IsAnswered o Stands s e b → KeepsOk h sess s.journal.flush.taken e b
  answered e b ok = ok_as sess.base sess.format sess.journal sess.ring sess.head sess.sequence sess.transactions sess.reserved sess.freeable ok

  pub sentences : KeepsSentences o Stands s txs
  sentences = record {
    prefix = λ m disk closed recovers. prefix_and_versions o.program h sess m disk kept.rules.order closed trees kept.rules.pages kept.rules.committed recovers;
    tree = λ m disk closed recovers.
        let all = prefix_and_versions o.program h sess m disk kept.rules.order closed trees kept.rules.pages kept.rules.committed recovers in
        subst (λ a. IsAlike o Stands a (tree_after o.model s.history (cut_of s.cuts (length s.history) (found sess m)))) (sym all.tree)
        (kept.images.0.alike (found sess m) (found_closed m closed));
    barriers = λ m e b closed ok barrier later.
        let all = promises o.program h sess m (disk_of m.image) kept.rules.order closed trees kept.rules.pages [] (λ flush i here lt put. absurd here) in
        let x = all.barriers (call_of b) e ((answered e b ok).barrier barrier) later in
        record { pages = x.0; metadata = x.1 };
    syncs = λ m e b sent closed flushed fit ok sync.
        let all = promises o.program h sess m (disk_of m.image) kept.rules.order closed trees kept.rules.pages sent flushed in
        ⊎_elim
        (λ k. let x = all.syncs (call_of b) s.journal.flush.taken fit k in record { pages = x.0; metadata = x.1 })
        (λ none. record { pages = λ f i n c. absurd (none.pages f i n c); metadata = λ n c. absurd (none.metadata n c) })
        ((answered e b ok).sync sync);
  }
