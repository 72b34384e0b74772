-- The plan is built, and the history grows: the rules and the facts stay.
use Rattle.std.proofs.Common.{sym, ap, subst, ◌∙◌, ⊎_elim, arith, lt-ltb}
use Rattle.std.proofs.lemmas.Bool.{cases_lt, false≢true}
use Rattle.std.proofs.lemmas.Option.{none-some}
use Rattle.std.specs.Prelude.{◌≡◌, ℕ, suc, ◌+◌, ◌-◌, ◌≤◌, true, false, List, [], ◌∷◌, ◌++◌, map, length, Some, slice_index_or, nat_lt, refl}
use Rattle.blk_base.specs.Members.{In}
use Rattle.blk_base.specs.laws.Members.{In-map}
use Rattle.log_model.specs.Marks.{Logged, Transaction}
use Rattle.page_cache.specs.Pages.{page_at}
use Rattle.page_cache.specs.declared.cached_page.CachedPage.{CachedPage}
use Rattle.page_cache.specs.declared.cached_page.PageState.TheVariants.{Firm}
use Rattle.crash_laws.proofs.Commits.{commit_positive}
use Rattle.crash_laws.proofs.Growth.{page_order_grows, data_before_commit_grows}
use Rattle.crash_laws.specs.History.{History}
use Rattle.crash_laws.specs.PageRules.{PageOrder, DataBeforeCommit}
use Rattle.crash_laws.specs.Session.{Session, IsCommit}
use Rattle.host_machine.proofs.ChangeSteps.{extends}
use Rattle.host_machine.proofs.Entries.{history_noted, index_push, index_push_left, entry_noted}
use Rattle.host_machine.proofs.Machine.{plain_at}
use Rattle.host_machine.proofs.PlanSteps.{closing_transaction, plan_keeps}
use Rattle.host_machine.proofs.Retold.{rules_retold, pages_retold, data_retold}
use Rattle.host_machine.specs.Host.{build_plan}
use Rattle.journal_ring.specs.LogRing.{place_blocks, ring_free}
use Rattle.journal_ring.specs.running.Running.{log_blocks_for, log_needs}
use Rattle.journal_ring.specs.running.Plan.{plan_of}
use Rattle.host_machine.specs.State.{Entry, Host}
use Rattle.commit_actor.specs.Journal.{Plan, Closing, Committing}
use Rattle.host_machine.specs.Views.{transaction_of}
use Rattle.host_machine.specs.laws.Contract.{Over, Contract, noted_history, InPhase, session}
use Rattle.host_machine.specs.laws.Rules.{AllRules}
use Rattle.host_machine.proofs.RunsLemmas.RingHost.{plan_is_built}
use Rattle.journal_ring.specs.laws.Homes.{IsApart}
use Rattle.host_machine.specs.runs.laws.Kept.{KeepsRules}
use Rattle.host_machine.specs.runs.laws.RingFacts.{RingKept}
use Rattle.host_machine.specs.runs.laws.Written.{IsWord, AreWritten, IsWritable}

length_map : {X Y : Type 0} (g : X → Y) (xs : List X) → length (map g xs) ≡ length xs
length_map g [] = refl
length_map g (x ∷ xs) = ap suc (length_map g xs)

module _ {A T V C R : Type 0} {o : Over A T V C R} {Stands : V → T → Type 0} (contract : Contract o Stands) (s : Host V C R) (txs : List Transaction) (N : ℕ) (kept : KeepsRules contract s txs N) where
  abbrev sess : Session
  sess = session o Stands txs s

  abbrev r : ℕ
  r = s.journal.running.number

  abbrev pub transaction_now : Transaction
  transaction_now = closing_transaction contract s txs N kept.images

  -- no block that it logs is one that it revokes
  pub apart_now : IsApart transaction_now
  apart_now l i revoked =
      let m = In-map (λ b. record { block = b; body = o.model.bytes s.volume b }) s.journal.running.touched l i in
      let plain = plain_at contract s.history s.cuts sess s.volume (length s.history) refl refl kept.images.0.stands in
      let b = kept.images.0.bodies in
      let same = ap (λ (x : Logged). x.block) m.2 in
      none-some r (sym (plain.metadata_free m.0 (b.bodies_on m.0 m.1)) ∙ b.waits m.0 (subst (λ c. In c s.journal.running.revoked) (sym same) revoked))

  -- ---- the plan is built

  module _ (at : s.journal.phase ≡ Closing) (all_sent : (f i : ℕ) (p : CachedPage) → In f s.journal.running.changed → page_at s.pages f i ≡ Some p → p.state ≡ Firm)
      (room : nat_lt (ring_free s.journal.ring) (log_needs o.setup.writers s.journal.running) ≡ false)
      (written : AreWritten o.format o.setup.writers) (writable : IsWritable transaction_now) (fits : IsWord (o.setup.sequence + (N + 1 - 1))) (head_fits : IsWord s.journal.ring.places.first) where
    all_closed : N + 1 ≡ r
    all_closed = subst (InPhase o Stands s.history s.cuts sess r N) at kept.images.0.in_phase

    abbrev transactions : ℕ → Transaction
    transactions = transaction_of (txs ++ transaction_now ∷ [])

    same_transactions_told : (k : ℕ) → 1 ≤ k → k ≤ N → transactions k ≡ transaction_of txs k
    same_transactions_told k lo hi = let e = kept.images.1 in let c = all_closed in index_push_left txs transaction_now (k - 1) (record { bodies = []; revokes = [] }) (omega arith)

    same_committed : (k i : ℕ) → IsCommit sess k i → transactions k ≡ transaction_of txs k
    same_committed k i commit = same_transactions_told k (commit_positive kept.rules.order.commits k i commit) (kept.images.0.numbers.no_more k i commit)

    new_transaction : transactions (N + 1) ≡ transaction_now
    new_transaction =
        let l = kept.images.1 in
        let c = all_closed in
        let e : N + 1 - 1 ≡ length txs = omega arith in
        ap (λ k. slice_index_or (txs ++ transaction_now ∷ []) k (record { bodies = []; revokes = [] })) e ∙ index_push txs transaction_now (record { bodies = []; revokes = [] })

    abbrev before : History A
    before = noted_history o Stands s.history s.cuts

    pub same_history : before ≡ noted_history o Stands s.history (s.cuts ++ length s.history ∷ [])
    same_history = history_noted o.model o.place s.history s.cuts

    abbrev the_plan : Plan
    the_plan = record {
      rest = plan_of o.setup.writers o.setup.journal s.journal.ring.places s.journal.ring.head s.journal.ring.started r (o.setup.sequence + (r - 1)) transaction_now.bodies transaction_now.revokes;
      bodies = transaction_now.bodies;
      revokes = transaction_now.revokes;
      changed = s.journal.running.changed;
    }

    counted : length transaction_now.bodies ≡ length s.journal.running.touched
    counted = length_map (λ b. record { block = b; body = o.model.bytes s.volume b }) s.journal.running.touched

    enough : log_blocks_for o.setup.writers (length transaction_now.bodies) (length transaction_now.revokes) ≤ ring_free s.journal.ring
    enough =
        let n = ap (λ k. log_blocks_for o.setup.writers k (length s.journal.running.revoked)) counted in
        ⊎_elim
        (λ lt. absurd (false≢true (sym room ∙ lt-ltb (ring_free s.journal.ring) (log_needs o.setup.writers s.journal.running) lt)))
        (λ le. omega arith)
        (cases_lt (ring_free s.journal.ring) (log_needs o.setup.writers s.journal.running))

    pub build_keeps : KeepsRules contract (build_plan o.model o.setup s) (txs ++ transaction_now ∷ []) N
    build_keeps = record {
      rules = record {
        order = rules_retold kept.rules.order.commits transactions same_committed kept.rules.order;
        pages = subst (λ h. PageOrder o.program h (record sess { transactions = transactions })) same_history (pages_retold kept.rules.order.commits transactions same_committed o.program before kept.rules.pages);
        committed = subst (λ h. DataBeforeCommit o.program h (record sess { transactions = transactions })) same_history (data_retold kept.rules.order.commits transactions same_committed o.program before kept.rules.committed);
      };
      images = plan_keeps contract s txs N kept.images kept.rules.order.commits all_closed all_sent;
      ring =
          subst (λ n. RingKept (record sess { transactions = transactions }) (record (place_blocks (log_blocks_for o.setup.writers n (length s.journal.running.revoked)) s.journal.ring) { started = true }) N (Committing the_plan)) counted
          (plan_is_built sess N kept.rules.order.commits transactions same_transactions_told o.setup.writers the_plan s.journal.ring written writable apart_now fits head_fits new_transaction enough
          (ap (λ k. plan_of o.setup.writers o.setup.journal s.journal.ring.places s.journal.ring.head s.journal.ring.started k (o.setup.sequence + (k - 1)) transaction_now.bodies transaction_now.revokes) (sym all_closed))
          (subst (RingKept sess s.journal.ring N) at kept.ring));
    }

  -- ---- an entry more

  -- Whatever it is, and whatever it did to volume and pages: the rules and the ring's facts stay.
  pub entry_rules : (e : Entry C R) → AllRules o.program (noted_history o Stands (s.history ++ e ∷ []) s.cuts) sess
  entry_rules e =
      let numbers = kept.images.0.numbers in
      let ext = extends (entry_noted o.model s.history e o.place s.cuts r kept.images.0.closed numbers.cuts) numbers in
      record {
        order = kept.rules.order;
        pages = page_order_grows ext o.program kept.rules.pages;
        committed = data_before_commit_grows ext o.program kept.rules.committed;
      }
