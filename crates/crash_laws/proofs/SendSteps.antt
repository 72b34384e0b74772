-- A page that is sent owes nothing that the facts do not give.
use Rattle.std.specs.Prelude.{◌≡◌, ℕ, ◌+◌, ◌-◌, ◌<◌, ◌≤◌, ◌⊎◌, List, [], ◌∷◌, Some, refl}
use Rattle.std.proofs.Common.{sym, ap, subst, ◌∙◌, inl, inr, ⊎_elim, arith}
use Rattle.std.proofs.lemmas.Bool.{cases_lt, false≢true}
use Rattle.std.proofs.lemmas.Option.{none-some}
use Rattle.blk_base.specs.Members.{In}
use Rattle.order_model.specs.declared.request.Request.{Request}
use Rattle.order_model.specs.OrderClosed.{kind_body}
use Rattle.volume_ops.specs.Reads.{Reads}
use Rattle.log_model.specs.Marks.{Mark, Keep, Clear, Set, followed, mark_in, transaction_mark, transactions_from}
use Rattle.log_model.proofs.Marks.{mark-split, transaction_mark-clear}
use Rattle.crash_laws.specs.History.{History, last_write, HasTrees}
use Rattle.crash_laws.specs.laws.HostFacts.{Host, IsLive, IsDead, IsOpenedDead, HostFacts}
use Rattle.crash_laws.specs.laws.PageClauses.{NewPageClause, IsGivenUpNow, IsOpenedGivenUp}
use Rattle.crash_laws.specs.PageRules.{IsPageTo, place_at}
use Rattle.crash_laws.specs.Session.{Session, IsSubmitted, Before, Submitted}
use Rattle.crash_laws.specs.laws.Submitting.{IsCommitted}
use Rattle.crash_laws.proofs.Histories.{mapped_was_written}

-- A block has no body in the image of the last closed transaction, and that transaction does not revoke it: then it
-- has none in the image before.
pub no_earlier_body : (s : Session) (N r z : ℕ) → N + 2 ≡ r → ((y : List ℕ) → mark_in (transactions_from s.transactions 1 (r - 1)) z ≡ Set y → ⊥) → (In z (s.transactions (N + 1)).revokes → ⊥)
    → (x : List ℕ) → mark_in (transactions_from s.transactions 1 N) z ≡ Set x → ⊥
no_earlier_body s N r z on_way none kept x set = by (transaction_mark (s.transactions (1 + N)) z) refl
  where
    last : mark_in (transactions_from s.transactions 1 (r - 1)) z ≡ followed (mark_in (transactions_from s.transactions 1 N) z) (transaction_mark (s.transactions (1 + N)) z)
    last =
        let e : r - 1 ≡ N + 1 = omega arith in
        ap (λ k. mark_in (transactions_from s.transactions 1 k) z) e ∙ mark-split s.transactions N 1 z ∙ ap (λ k. followed (mark_in (transactions_from s.transactions 1 N) z) (mark_in (s.transactions k ∷ []) z)) (let q : 1 + N + 0 ≡ 1 + N = omega arith in q)

    by : (t : Mark) → transaction_mark (s.transactions (1 + N)) z ≡ t → ⊥
    by Keep e = none x (last ∙ ap (followed (mark_in (transactions_from s.transactions 1 N) z)) e ∙ set)
    by (Set y) e = none y (last ∙ ap (followed (mark_in (transactions_from s.transactions 1 N) z)) e)
    by Clear e =
        let q : 1 + N ≡ N + 1 = omega arith in
        kept (subst (λ k. In z (s.transactions k).revokes) q (transaction_mark-clear (s.transactions (1 + N)) z e))

module _ {A : Type 0} {program : Reads A} {h : History A} {s : Session} {host : Host} {N : ℕ} (trees : HasTrees h) (facts : HostFacts program h s host N) where
  no_quarantine : (f i z k : ℕ) → host.zone f i ≡ Some z → host.quarantine z ≡ Some k → ⊥
  no_quarantine f i z k there waits = none-some k (sym (facts.page_free f i z there).1 ∙ waits)

  -- no block of a page has a body in the last closed transaction's image
  pub no_body_now : (f i z : ℕ) (x : List ℕ) → host.zone f i ≡ Some z → mark_in (transactions_from s.transactions 1 (host.running - 1)) z ≡ Set x → ⊥
  no_body_now f i z x there set =
      ⊎_elim
      (λ meta. false≢true (sym (facts.page_free f i z there).0 ∙ meta))
      (λ revoked. no_quarantine f i z host.running there (facts.revokes_wait z revoked))
      (facts.bodies_on_metadata z x set)

  -- nor, while that transaction is on its way, in the one before
  no_body_before : (f i z : ℕ) (x : List ℕ) → host.zone f i ≡ Some z → N + 2 ≡ host.running → mark_in (transactions_from s.transactions 1 N) z ≡ Set x → ⊥
  no_body_before f i z x there on_way set =
      no_earlier_body s N host.running z on_way (λ y. no_body_now f i z y there) (λ revoked. no_quarantine f i z (N + 1) there (facts.plan_revokes_wait z on_way revoked)) x set

  submitted_closed : (k : ℕ) → IsSubmitted s k → k ≤ N
  submitted_closed k (Before e) = omega arith
  submitted_closed k (Submitted c g) = facts.no_more k c g

  pub page_clause : (q : Request) (f i z : ℕ) → host.zone f i ≡ Some z → kind_body q.kind ≡ Some (h.content f i (last_write h f i host.now)) → NewPageClause program h s q f i (last_write h f i host.now) z
  page_clause q f i z there body =
      let written = mapped_was_written trees f i host.now (facts.zone_mapped f i z there) in
      record {
        content = body;
        there = written.there;
        place = λ k sub maps before behind.
            let le = submitted_closed k sub in
            let closed = running_above in
            facts.keeps_zone k f i z (omega arith) maps
            (λ m lo hi un. ⊎_elim (λ later. written.calm m later hi un) (λ early. behind m lo early un) (cases_lt (last_write h f i host.now) m))
            there;
        versions = λ o w y page. facts.sent_version o f i w z y page there;
        another = λ o g j w page apart. given_up o g j w page apart (facts.live_or_dead o g j w z page);
        logged = λ k x c set. next k x c set;
        given_up = λ g j maps at apart. opened_given_up g j at apart (facts.opened_live_or_dead g j maps);
      }
    where
      running_above : N < host.running
      running_above = ⊎_elim (λ e. omega arith) (λ e. omega arith) facts.closed

      given_up : (o g j w : ℕ) → IsPageTo s o g j w z → ((g ≡ f) × (j ≡ i) → ⊥) → IsLive h host g j w z ⊎ IsDead h s host N o g j w z → IsGivenUpNow h s g j w o
      given_up o g j w page apart (inl live) = absurd (apart (facts.one_page g j f i z live.there there))
      given_up o g j w page apart (inr dead) =
          ⊎_elim
          (λ c. record { k = dead.k; commit = c.0; committed = c.1; behind = c.2; entry = dead.entry; later = dead.later; within = c.3; unmapped = dead.unmapped })
          (λ waits. absurd (no_quarantine f i z dead.k there waits.1))
          dead.given_up

      opened_given_up : (g j : ℕ) → z ≡ place_at program h s 0 g j → ((g ≡ f) × (j ≡ i) → ⊥) → IsLive h host g j 0 (place_at program h s 0 g j) ⊎ IsOpenedDead h s host N g j (place_at program h s 0 g j) → IsOpenedGivenUp h s g j
      opened_given_up g j at apart (inl live) = absurd (apart (facts.one_page g j f i z (live.there ∙ ap Some (sym at)) there))
      opened_given_up g j at apart (inr dead) =
          ⊎_elim
          (λ c. record { k = dead.k; commit = c.0; committed = c.1; entry = dead.entry; later = dead.later; within = c.2; unmapped = dead.unmapped })
          (λ waits. absurd (no_quarantine f i z dead.k there (ap host.quarantine at ∙ waits.1)))
          dead.given_up

      next : (k : ℕ) (x : List ℕ) → IsCommitted s k → mark_in (transactions_from s.transactions 1 k) z ≡ Set x → IsCommitted s (k + 1)
      next k x c set =
          let le = facts.no_more k c.0 c.1 in
          ⊎_elim
          (λ less. facts.committed (k + 1) (omega arith) (omega arith))
          (λ ge.
          let e : k ≡ N = omega arith in
          ⊎_elim
          (λ at_rest. let q : k ≡ host.running - 1 = omega arith in absurd (no_body_now f i z x there (ap (λ n. mark_in (transactions_from s.transactions 1 n) z) (sym q) ∙ set)))
          (λ on_way. absurd (no_body_before f i z x there on_way (ap (λ n. mark_in (transactions_from s.transactions 1 n) z) (sym e) ∙ set)))
          facts.closed)
          (cases_lt k N)
