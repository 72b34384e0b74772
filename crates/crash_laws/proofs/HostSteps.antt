-- A request that is sent, a plan, and a commit block keep the facts.
use Rattle.std.specs.Prelude.{◌≡◌, ◌≢◌, ℕ, ◌+◌, ◌-◌, ◌<◌, ◌≤◌, ◌⊎◌, [], ◌∷◌, ◌++◌, Option, Some, None}
use Rattle.std.proofs.Common.{sym, ap, subst, ◌∙◌, inl, inr, ⊎_elim, arith}
use Rattle.std.proofs.lemmas.Bool.{cases_lt}
use Rattle.blk_base.specs.Members.{In}
use Rattle.blk_base.specs.laws.Members.{slice_get-length}
use Rattle.order_model.specs.declared.note.Note.TheVariants.{Page, Commit}
use Rattle.order_model.specs.OrderClosed.{IsPutOf, kind_block}
use Rattle.volume_ops.specs.Volume.{disk_of}
use Rattle.volume_ops.specs.Reads.{Reads, answer}
use Rattle.log_model.specs.Marks.{Transaction, mark_in, body_after, transactions_from}
use Rattle.crash_laws.specs.History.{History, Calm, last_write, HasTrees}
use Rattle.crash_laws.specs.laws.HostFacts.{Host, IsDead, IsOpenedDead, HostFacts}
use Rattle.crash_laws.specs.PageRules.{IsPageTo, place_at}
use Rattle.crash_laws.specs.laws.Plans.{PlanFacts}
use Rattle.crash_laws.specs.Rules.{CommitOrder}
use Rattle.crash_laws.specs.Session.{Session, HasNote, IsCommit}
use Rattle.crash_laws.specs.laws.Submitting.{Submitting, after, new_place}
use Rattle.crash_laws.proofs.Growing.{note_old, note_new, note_cases, put_back, new_put}
use Rattle.crash_laws.proofs.Histories.{mapped_was_written}
use Rattle.crash_laws.proofs.LogSteps.{same_transactions}
use Rattle.crash_laws.proofs.PlanSteps.{bodies_after, place_of_page}

module _ {A : Type 0} {program : Reads A} {h : History A} {host : Host} {N : ℕ} (p : Submitting) (trees : HasTrees h) (facts : HostFacts program h p.session host N)
    (agree : (k : ℕ) → k < host.running → p.transactions k ≡ p.session.transactions k) where
  running_above : N < host.running
  running_above = ⊎_elim (λ e. omega arith) (λ e. omega arith) facts.closed

  pub transactions_agree : (k : ℕ) → k < host.running → transactions_from p.transactions 1 k ≡ transactions_from p.session.transactions 1 k
  transactions_agree k lt = same_transactions p.transactions p.session.transactions 1 k (λ j lo hi. agree j (omega arith))

  pub place_agrees : (k f i : ℕ) → k < host.running → place_at program h (after p) k f i ≡ place_at program h p.session k f i
  place_agrees k f i lt =
      ap (λ txs. h.place (answer (λ b. body_after (mark_in txs b) (disk_of p.session.base b)) program) (h.cut k) f i) (transactions_agree k lt)

  pub page_cases : (o f i v z : ℕ) → IsPageTo (after p) o f i v z → IsPageTo p.session o f i v z ⊎ ((o ≡ new_place p) × (p.note ≡ Page f i v) × (kind_block p.request.kind ≡ Some z))
  page_cases o f i v z t =
      ⊎_elim
      (λ n. inl (record { note = n; put = put_back p o z (slice_get-length p.session.notes o (Page f i v) n) t.put }))
      (λ n. inr (n.0, n.1, new_put p z (subst (λ j. IsPutOf (p.session.requests ++ p.request ∷ []) j z) n.0 t.put)))
      (note_cases p o (Page f i v) t.note)

  dead_after : (o f i v z : ℕ) → IsDead h p.session host N o f i v z → IsDead h (after p) host N o f i v z
  dead_after o f i v z dead = record {
    k = dead.k;
    entry = dead.entry;
    later = dead.later;
    in_time = dead.in_time;
    unmapped = dead.unmapped;
    closed = dead.closed;
    given_up = ⊎_elim (λ c. inl (c.0, note_old p c.0 (Commit dead.k) c.1, c.2, c.3)) inr dead.given_up;
  }

  opened_dead_after : (f i z : ℕ) → IsOpenedDead h p.session host N f i z → IsOpenedDead h (after p) host N f i z
  opened_dead_after f i z dead = record {
    k = dead.k;
    entry = dead.entry;
    later = dead.later;
    in_time = dead.in_time;
    unmapped = dead.unmapped;
    closed = dead.closed;
    given_up = ⊎_elim (λ c. inl (c.0, note_old p c.0 (Commit dead.k) c.1, c.2)) inr dead.given_up;
  }

  -- ---- a page, or a request that is neither a page nor a commit block

  pub sent_step : ((f i v z : ℕ) → p.note ≡ Page f i v → kind_block p.request.kind ≡ Some z → (host.zone f i ≡ Some z) × (v ≡ last_write h f i host.now)) → ((k : ℕ) → p.note ≡ Commit k → ⊥) → HostFacts program h (after p) host N
  sent_step page none = record {
    closed = facts.closed;
    committed = λ k lo hi. let c = facts.committed k lo hi in (c.0, note_old p c.0 (Commit k) c.1);
    no_more = λ k c g. ⊎_elim (λ o. facts.no_more k c o) (λ n. absurd (none k n.1)) (note_cases p c (Commit k) g);
    metadata_free = facts.metadata_free;
    page_free = facts.page_free;
    one_page = facts.one_page;
    bodies_on_metadata = λ b x set. let above = running_above in facts.bodies_on_metadata b x (ap (λ txs. mark_in txs b) (sym (transactions_agree (host.running - 1) (omega arith))) ∙ set);
    revokes_wait = facts.revokes_wait;
    plan_revokes_wait = λ b e i. facts.plan_revokes_wait b e (subst (λ (t : Transaction). In b t.revokes) (agree (N + 1) (omega arith)) i);
    mapped_zone = facts.mapped_zone;
    zone_mapped = facts.zone_mapped;
    sent_before = λ o f i v y t.
        ⊎_elim (λ l. facts.sent_before o f i v y l)
        (λ n. let z = page f i v y n.1 n.2 in let w = mapped_was_written trees f i host.now (facts.zone_mapped f i y z.0) in let le = w.within in let at = z.1 in omega arith)
        (page_cases o f i v y t);
    sent_version = λ o f i v z y t there.
        ⊎_elim (λ l. facts.sent_version o f i v z y l there) (λ n. let q = page f i v y n.1 n.2 in let at = q.1 in omega arith) (page_cases o f i v y t);
    keeps_zone = λ k f i z lt maps calm there. facts.keeps_zone k f i z lt maps calm there ∙ sym (place_agrees k f i lt);
    cuts_now = facts.cuts_now;
    live_or_dead = λ o f i v z t.
        ⊎_elim
        (λ l. ⊎_elim inl (λ d. inr (dead_after o f i v z d)) (facts.live_or_dead o f i v z l))
        (λ n.
        let q = page f i v z n.1 n.2 in
        let w = mapped_was_written trees f i host.now (facts.zone_mapped f i z q.0) in
        inl (record { calm = subst (λ a. Calm h f i a host.now) (sym q.1) w.calm; there = q.0 }))
        (page_cases o f i v z t);
    opened_live_or_dead = λ f i there. ⊎_elim inl (λ d. inr (opened_dead_after f i (place_at program h p.session 0 f i) d)) (facts.opened_live_or_dead f i there);
  }

  -- ---- the commit block of the transaction that was planned

  -- the zones that waited for it wait no more, the others as before
  pub commit_step : (quarantine : ℕ → Option ℕ) → N + 2 ≡ host.running → p.note ≡ Commit (N + 1)
      → ((b : ℕ) → host.quarantine b ≡ Some (N + 1) → quarantine b ≡ None) → ((b k : ℕ) → host.quarantine b ≡ Some k → k ≢ N + 1 → quarantine b ≡ Some k) → ((b : ℕ) → host.quarantine b ≡ None → quarantine b ≡ None)
      → HostFacts program h (after p) (record host { quarantine = quarantine }) (N + 1)
  commit_step quarantine on_way note released waiting free = record {
    closed = inl (omega arith);
    committed = λ k lo hi.
        ⊎_elim
        (λ less. let c = facts.committed k lo (omega arith) in (c.0, note_old p c.0 (Commit k) c.1))
        (λ ge. let e : N + 1 ≡ k = omega arith in (new_place p, subst (λ j. HasNote (after p) (new_place p) (Commit j)) e (subst (HasNote (after p) (new_place p)) note (note_new p))))
        (cases_lt k (N + 1));
    no_more = λ k c g.
        ⊎_elim (λ o. let le = facts.no_more k c o in omega arith) (λ n. let e = same_tx (N + 1) k (sym note ∙ n.1) in omega arith) (note_cases p c (Commit k) g);
    metadata_free = λ b m. free b (facts.metadata_free b m);
    page_free = λ f i b z. let r = facts.page_free f i b z in (r.0, free b r.1);
    one_page = facts.one_page;
    bodies_on_metadata = λ b x set. facts.bodies_on_metadata b x (ap (λ txs. mark_in txs b) (sym (transactions_agree (host.running - 1) (omega arith))) ∙ set);
    revokes_wait = λ b i. waiting b host.running (facts.revokes_wait b i) (λ e. absurd (omega arith));
    plan_revokes_wait = λ b e i. absurd (omega arith);
    mapped_zone = facts.mapped_zone;
    zone_mapped = facts.zone_mapped;
    sent_before = λ o f i v y t. ⊎_elim (λ l. facts.sent_before o f i v y l) (λ n. absurd (page_commit f i v (sym n.1 ∙ note))) (page_cases o f i v y t);
    sent_version = λ o f i v z y t there. ⊎_elim (λ l. facts.sent_version o f i v z y l there) (λ n. absurd (page_commit f i v (sym n.1 ∙ note))) (page_cases o f i v y t);
    keeps_zone = λ k f i z lt maps calm there. facts.keeps_zone k f i z lt maps calm there ∙ sym (place_agrees k f i lt);
    cuts_now = facts.cuts_now;
    live_or_dead = λ o f i v z t.
        ⊎_elim
        (λ l.
        ⊎_elim
        (λ live. inl (record { calm = live.calm; there = live.there }))
        (λ dead. inr (record {
          k = dead.k;
          entry = dead.entry;
          later = dead.later;
          in_time = dead.in_time;
          unmapped = dead.unmapped;
          closed = dead.closed;
          given_up = given_up o f i v z l dead;
        }))
        (facts.live_or_dead o f i v z l))
        (λ n. absurd (page_commit f i v (sym n.1 ∙ note)))
        (page_cases o f i v z t);
    opened_live_or_dead = λ f i there.
        ⊎_elim
        (λ live. inl (record { calm = live.calm; there = live.there }))
        (λ dead. inr (record {
          k = dead.k;
          entry = dead.entry;
          later = dead.later;
          in_time = dead.in_time;
          unmapped = dead.unmapped;
          closed = dead.closed;
          given_up = opened_given_up f i (place_at program h p.session 0 f i) dead;
        }))
        (facts.opened_live_or_dead f i there);
  }
    where
      same_tx : (a b : ℕ) → Commit a ≡ Commit b → a ≡ b
      same_tx a b e = cc

      page_commit : (f i v : ℕ) → Page f i v ≡ Commit (N + 1) → ⊥
      page_commit f i v e = cc

      given_up : (o f i v z : ℕ) → IsPageTo p.session o f i v z → (dead : IsDead h p.session host N o f i v z)
          → ((c : ℕ) × IsCommit (after p) dead.k c × (o < c) × (dead.entry ≤ h.cut dead.k)) ⊎ ((N + 1 < dead.k) × (quarantine z ≡ Some dead.k))
      given_up o f i v z page dead =
          ⊎_elim
          (λ c. inl (c.0, note_old p c.0 (Commit dead.k) c.1, c.2, c.3))
          (λ w.
          let above = w.0 in
          ⊎_elim
          (λ later. inr (later, waiting z dead.k w.1 (λ e. absurd (omega arith))))
          (λ now.
          let e : N + 1 ≡ dead.k = omega arith in
          inl (
            new_place p,
            subst (λ j. HasNote (after p) (new_place p) (Commit j)) e (subst (HasNote (after p) (new_place p)) note (note_new p)),
            slice_get-length p.session.notes o (Page f i v) page.note,
            dead.closed (omega arith),
          ))
          (cases_lt (N + 1) dead.k))
          dead.given_up

      opened_given_up : (f i z : ℕ) → (dead : IsOpenedDead h p.session host N f i z) → ((c : ℕ) × IsCommit (after p) dead.k c × (dead.entry ≤ h.cut dead.k)) ⊎ ((N + 1 < dead.k) × (quarantine z ≡ Some dead.k))
      opened_given_up f i z dead =
          ⊎_elim
          (λ c. inl (c.0, note_old p c.0 (Commit dead.k) c.1, c.2))
          (λ w.
          let above = w.0 in
          ⊎_elim
          (λ later. inr (later, waiting z dead.k w.1 (λ e. absurd (omega arith))))
          (λ now.
          let e : N + 1 ≡ dead.k = omega arith in
          inl (
            new_place p,
            subst (λ j. HasNote (after p) (new_place p) (Commit j)) e (subst (HasNote (after p) (new_place p)) note (note_new p)),
            dead.closed (omega arith),
          ))
          (cases_lt (N + 1) dead.k))
          dead.given_up

-- ---- the plan: the running transaction closes, and the next one begins

module _ {A : Type 0} {program : Reads A} {h : History A} {s : Session} {host : Host} {N : ℕ} (trees : HasTrees h) (order : CommitOrder s) (facts : HostFacts program h s host N) (plan : PlanFacts program h s host) (all_closed : N + 1 ≡ host.running) where
  pub plan_step : HostFacts program h s (record host { running = host.running + 1; bodies = []; revokes = [] }) N
  plan_step = record {
    closed = inr (omega arith);
    committed = facts.committed;
    no_more = facts.no_more;
    metadata_free = facts.metadata_free;
    page_free = facts.page_free;
    one_page = facts.one_page;
    bodies_on_metadata = λ b x set.
        let e : host.running + 1 - 1 ≡ host.running = omega arith in
        inl (bodies_after trees order facts plan all_closed b x (ap (λ k. mark_in (transactions_from s.transactions 1 k) b) (sym e) ∙ set));
    revokes_wait = λ b i. absurd i;
    plan_revokes_wait = λ b e i.
        subst (λ k. host.quarantine b ≡ Some k) (sym all_closed)
        (facts.revokes_wait b (subst (λ (t : Transaction). In b t.revokes) (ap s.transactions all_closed ∙ plan.planned) i));
    mapped_zone = facts.mapped_zone;
    zone_mapped = facts.zone_mapped;
    sent_before = facts.sent_before;
    sent_version = facts.sent_version;
    keeps_zone = λ k f i z lt maps calm there.
        ⊎_elim
        (λ old. facts.keeps_zone k f i z old maps calm there)
        (λ ge. let e : host.running ≡ k = omega arith in subst (λ j. z ≡ place_at program h s j f i) e (sym (place_of_page trees order facts plan all_closed f i z there)))
        (cases_lt k host.running);
    cuts_now = λ k lt.
        ⊎_elim (λ old. facts.cuts_now k old) (λ ge. let e : k ≡ host.running = omega arith in let c = ap h.cut e in let at = plan.cut in omega arith) (cases_lt k host.running);
    live_or_dead = λ o f i v z t.
        ⊎_elim
        (λ live. inl (record { calm = live.calm; there = live.there }))
        (λ dead. inr (record {
          k = dead.k;
          entry = dead.entry;
          later = dead.later;
          in_time = dead.in_time;
          unmapped = dead.unmapped;
          closed = λ lt.
              ⊎_elim (λ old. dead.closed old)
              (λ ge. let e : dead.k ≡ host.running = omega arith in let c = ap h.cut e in let at = plan.cut in let in_time = dead.in_time in omega arith)
              (cases_lt dead.k host.running);
          given_up = dead.given_up;
        }))
        (facts.live_or_dead o f i v z t);
    opened_live_or_dead = λ f i there.
        ⊎_elim
        (λ live. inl (record { calm = live.calm; there = live.there }))
        (λ dead. inr (record {
          k = dead.k;
          entry = dead.entry;
          later = dead.later;
          in_time = dead.in_time;
          unmapped = dead.unmapped;
          closed = λ lt.
              ⊎_elim (λ old. dead.closed old)
              (λ ge. let e : dead.k ≡ host.running = omega arith in let c = ap h.cut e in let at = plan.cut in let in_time = dead.in_time in omega arith)
              (cases_lt dead.k host.running);
          given_up = dead.given_up;
        }))
        (facts.opened_live_or_dead f i there);
  }
