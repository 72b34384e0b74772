-- From the plan to the commit block: what the pages owe to it, also those that are sent in between.
use Rattle.std.specs.Prelude.{◌≡◌, ℕ, ◌+◌, ◌-◌, ◌<◌, ◌≤◌, true, Some}
use Rattle.std.proofs.Common.{sym, ap, subst, ◌∙◌, ⊎_elim, arith}
use Rattle.std.proofs.lemmas.Bool.{cases_lt}
use Rattle.order_model.specs.declared.note.Note.TheVariants.{Page, Commit}
use Rattle.order_model.specs.OrderClosed.{IsOrdered, kind_block}
use Rattle.volume_ops.specs.Reads.{Reads}
use Rattle.log_model.specs.Marks.{mark_in, transactions_from}
use Rattle.crash_laws.specs.History.{History, Calm, last_write, HasTrees}
use Rattle.crash_laws.specs.laws.HostFacts.{Host, HostFacts}
use Rattle.crash_laws.specs.Ordering.{IsClosedOff}
use Rattle.crash_laws.specs.laws.PageClauses.{CommitPagesClause}
use Rattle.crash_laws.specs.PageRules.{place_at}
use Rattle.crash_laws.specs.laws.Plans.{PlanFacts, IsCommitting}
use Rattle.crash_laws.specs.Rules.{CommitOrder}
use Rattle.crash_laws.specs.Session.{Session, HasNote}
use Rattle.crash_laws.specs.laws.Submitting.{Submitting, after}
use Rattle.crash_laws.proofs.Growing.{note_old}
use Rattle.crash_laws.proofs.Histories.{mapped_was_written}
use Rattle.crash_laws.proofs.HostSteps.{page_cases, transactions_agree, place_agrees}
use Rattle.crash_laws.proofs.PlanSteps.{page_given_up, page_in_place, opened_in_place, files_after}
use Rattle.crash_laws.proofs.SendSteps.{no_body_now}

-- it holds at the plan
pub committing_at_plan : {A : Type 0} {program : Reads A} {h : History A} {s : Session} {host : Host} {N : ℕ} → HasTrees h → CommitOrder s → HostFacts program h s host N → PlanFacts program h s host → N + 1 ≡ host.running
    → IsCommitting program h s host.running
committing_at_plan trees order facts plan all_closed = record {
  place = λ o f i v z page maps calm back. page_in_place trees order facts plan all_closed o f i v z page maps calm;
  logged = λ o f i v z x page set. page_given_up trees order facts plan all_closed o f i v z x page set;
  files = λ f i x maps set. files_after trees order facts plan all_closed f i x maps set;
  stays = λ f i there calm. opened_in_place trees order facts plan all_closed f i there calm;
}

module _ {A : Type 0} {program : Reads A} {h : History A} {host : Host} {N : ℕ} (p : Submitting) (trees : HasTrees h) (facts : HostFacts program h p.session host N)
    (agree : (k : ℕ) → k < host.running → p.transactions k ≡ p.session.transactions k) (on_way : N + 2 ≡ host.running) where
  -- and while requests are sent, pages among them
  pub committing_step : ((f i v z : ℕ) → p.note ≡ Page f i v → kind_block p.request.kind ≡ Some z → (host.zone f i ≡ Some z) × (v ≡ last_write h f i host.now))
      → IsCommitting program h p.session (host.running - 1) → IsCommitting program h (after p) (host.running - 1)
  committing_step page old =
      let lt : host.running - 1 < host.running = omega arith in
      record {
        place = λ o f i v z t maps calm back.
            ⊎_elim
            (λ l. old.place o f i v z l maps calm back ∙ sym (place_agrees p trees facts agree (host.running - 1) f i lt))
            (λ n.
            let q = page f i v z n.1 n.2 in
            let w = mapped_was_written trees f i host.now (facts.zone_mapped f i z q.0) in
            let since = subst (λ a. Calm h f i a host.now) (sym q.1) w.calm in
            facts.keeps_zone (host.running - 1) f i z lt maps
            (λ m lo hi un. ⊎_elim (λ later. since m later hi un) (λ early. back m lo early un) (cases_lt v m)) q.0
            ∙ sym (place_agrees p trees facts agree (host.running - 1) f i lt))
            (page_cases p trees facts agree o f i v z t);
        logged = λ o f i v z x t set.
            let set_old = ap (λ txs. mark_in txs z) (sym (transactions_agree p trees facts agree (host.running - 1) lt)) ∙ set in
            ⊎_elim
            (λ l. let c = old.logged o f i v z x l set_old in (c.0, note_old p c.0 (Commit (host.running - 1 - 1)) c.1, c.2, c.3))
            (λ n. absurd (no_body_now trees facts f i z x (page f i v z n.1 n.2).0 set_old))
            (page_cases p trees facts agree o f i v z t);
        files = λ f i x maps set.
            old.files f i x maps
            (ap (λ txs. mark_in txs (place_at program h p.session (host.running - 1) f i)) (sym (transactions_agree p trees facts agree (host.running - 1) lt))
            ∙ ap (mark_in (transactions_from p.transactions 1 (host.running - 1))) (sym (place_agrees p trees facts agree (host.running - 1) f i lt))
            ∙ set);
        stays = λ f i there calm. old.stays f i there calm ∙ sym (place_agrees p trees facts agree (host.running - 1) f i lt);
      }

  -- so the commit block owes of pages only that the changed files' were sent
  pub commit_pages_clause : ((f i : ℕ) → h.changes (host.running - 1) f ≡ true → h.maps (h.cut (host.running - 1)) f i ≡ true → 1 ≤ last_write h f i (h.cut (host.running - 1))
      → (o : ℕ) × HasNote p.session o (Page f i (last_write h f i (h.cut (host.running - 1)))) × IsOrdered p.session.requests o × IsClosedOff p.session.requests o)
      → IsCommitting program h p.session (host.running - 1) → CommitPagesClause program h p (host.running - 1)
  commit_pages_clause sent old =
      let lt : host.running - 1 < host.running = omega arith in
      record {
        place = λ o f i v z t maps calm back. old.place o f i v z t maps calm back ∙ sym (place_agrees p trees facts agree (host.running - 1) f i lt);
        logged = λ o f i v z x t set. old.logged o f i v z x t (ap (λ txs. mark_in txs z) (sym (transactions_agree p trees facts agree (host.running - 1) lt)) ∙ set);
        files = λ f i x maps set.
            old.files f i x maps
            (ap (λ txs. mark_in txs (place_at program h p.session (host.running - 1) f i)) (sym (transactions_agree p trees facts agree (host.running - 1) lt))
            ∙ ap (mark_in (transactions_from p.transactions 1 (host.running - 1))) (sym (place_agrees p trees facts agree (host.running - 1) f i lt))
            ∙ set);
        stays = λ f i there calm. old.stays f i there calm ∙ sym (place_agrees p trees facts agree (host.running - 1) f i lt);
        sent = sent;
      }
