-- A page that is sent owes nothing that the facts do not give; and what a request leaves of the facts.
use Rattle.std.proofs.Common.{sym, ap, subst, ◌∙◌, inl, inr, ⊎_elim, arith}
use Rattle.std.proofs.lemmas.Bool.{cases_lt, false≢true}
use Rattle.std.proofs.lemmas.Option.{none-some, same_Some}
use Rattle.std.specs.Prelude.{◌≡◌, ℕ, ◌+◌, ◌-◌, ◌<◌, ◌≤◌, ◌⊎◌, Bool, true, false, List, [], ◌∷◌, ◌++◌, length, Some, refl, if◌then◌else◌, IsTrue}
use Rattle.blk_base.specs.laws.Members.{slice_get-length}
use Rattle.order_model.specs.OrderClosed.{IsPutOf, IsOrdered, kind_block, kind_body}
use Rattle.order_model.specs.declared.note.Note.TheVariants.{Page, Commit}
use Rattle.order_model.specs.declared.note.Note.{Note}
use Rattle.order_model.specs.declared.request.Request.{Request}
use Rattle.log_model.specs.Marks.{Set, mark_in, transactions_from}
use Rattle.volume_ops.specs.Reads.{Reads}
use Rattle.page_cache.specs.Pages.{is_page, page_at, put_page, marked}
use Rattle.page_cache.specs.declared.cached_page.CachedPage.{CachedPage}
use Rattle.page_cache.specs.declared.cached_page.PageState.TheVariants.{Clean, Firm}
use Rattle.page_cache.specs.declared.cached_page.PageState.{PageState}
use Rattle.page_cache.specs.laws.Maps.{is_page-same, page_at-put}
use Rattle.crash_laws.proofs.Growing.{note_old, note_new, note_cases, put_old, put_new, new_put, put_back, ordered_old, ordered_new}
use Rattle.crash_laws.proofs.Histories.{mapped_was_written}
use Rattle.crash_laws.proofs.SendSteps.{no_earlier_body}
use Rattle.crash_laws.specs.History.{History, last_write, HasTrees}
use Rattle.crash_laws.proofs.LogSteps.{same_transactions}
use Rattle.crash_laws.specs.laws.Clauses.{IsFreedNow}
use Rattle.crash_laws.specs.laws.PageClauses.{NewPageClause, IsGivenUpNow, IsOpenedGivenUp}
use Rattle.blk_base.specs.Members.{In}
use Rattle.crash_laws.specs.PageRules.{IsPageTo, place_at}
use Rattle.crash_laws.specs.Session.{Session, HasNote, IsSubmitted, Before, Submitted}
use Rattle.crash_laws.specs.laws.Submitting.{Submitting, after, new_place, IsCommitted}
use Rattle.host_machine.specs.laws.Facts.{View, IsPlain, Numbers, Bodies, PlanRevokes, KeepsPlaces, IsCached, PagesMapped, PagesSent, IsLive, IsDead, ZoneHistory, IsOpenedDead, IsFreed, OpenedZones}

-- ---- what a page owes

module _ {A : Type 0} {program : Reads A} {h : History A} {s : Session} {now r N : ℕ} {v : View} {touched revoked : List ℕ} (numbers : Numbers h s now r N) (plain : IsPlain program h s now v) (bodies : Bodies s r v touched revoked) (plan : PlanRevokes s r N v) where
  no_quarantine : (f i z k : ℕ) → v.zone f i ≡ Some z → v.quarantine z ≡ Some k → ⊥
  no_quarantine f i z k there waits = none-some k (sym (plain.page_free f i z there).1 ∙ waits)

  -- no block of a page has a body in the image of the last closed transaction
  pub no_body_now : (f i z : ℕ) (x : List ℕ) → v.zone f i ≡ Some z → mark_in (transactions_from s.transactions 1 (r - 1)) z ≡ Set x → ⊥
  no_body_now f i z x there set =
      ⊎_elim
      (λ meta. false≢true (sym (plain.page_free f i z there).0 ∙ meta))
      (λ revoked. no_quarantine f i z r there (bodies.waits z revoked))
      (bodies.on_metadata z x set)

  -- nor, while that transaction is on its way, in the one before
  no_body_before : (f i z : ℕ) (x : List ℕ) → v.zone f i ≡ Some z → N + 2 ≡ r → mark_in (transactions_from s.transactions 1 N) z ≡ Set x → ⊥
  no_body_before f i z x there on_way set =
      no_earlier_body s N r z on_way (λ y. no_body_now f i z y there) (λ revoked. no_quarantine f i z (N + 1) there (plan.waits z on_way revoked)) x set

  submitted_closed : (k : ℕ) → IsSubmitted s k → k < r
  submitted_closed k (Before none) = ⊎_elim (λ e. omega arith) (λ e. omega arith) numbers.closed
  submitted_closed k (Submitted c g) = let le = numbers.no_more k c g in ⊎_elim (λ e. omega arith) (λ e. omega arith) numbers.closed

  -- a page goes to metadata of the base image only once that was given up
  pub freed_now : (f i z : ℕ) → OpenedZones program h s now r N v revoked → v.zone f i ≡ Some z → In z s.freeable → IsFreedNow s z
  freed_now f i z opened there old =
      ⊎_elim
      (λ meta. absurd (false≢true (sym (plain.page_free f i z there).0 ∙ meta)))
      (⊎_elim
      (λ i_revoked. absurd (no_quarantine f i z r there (bodies.waits z i_revoked)))
      (λ x.
      ⊎_elim
      (λ le. let c = numbers.committed x.k x.numbered le in (x.k, c, x.clear))
      (λ waits. absurd (no_quarantine f i z x.k there waits.1))
      x.given_up))
      (opened.freeable z old)

  module _ {pages : List CachedPage} (trees : HasTrees h) (places : KeepsPlaces program h s now r v) (mapped : PagesMapped h now v pages) (sent : PagesSent s pages) (history : ZoneHistory h s now N v) (opened : OpenedZones program h s now r N v revoked) where
    pub page_clause : (q : Request) (f i : ℕ) (p : CachedPage) → page_at pages f i ≡ Some p → kind_body q.kind ≡ Some p.body → NewPageClause program h s q f i p.version p.block
    page_clause q f i p here body =
        let cached = mapped.cached f i p here in
        let there = cached.zone in
        let written = mapped_was_written trees f i now (plain.mapped f i p.block there) in
        let version = cached.version in
        record {
          content = body ∙ ap Some cached.body;
          there = ap (λ w. h.maps w f i) version ∙ written.there;
          place = λ k sub maps before behind.
              places.kept k f i p.block (submitted_closed k sub) maps
              (λ m lo hi un. ⊎_elim (λ later. written.calm m later hi un) (λ early. behind m lo (omega arith) un) (cases_lt (last_write h f i now) m))
              there;
          versions = λ o w y page. sent.older o f i w y p page here;
          another = λ o g j w page apart. given_up o g j w page apart there (history.live_or_dead o g j w p.block page);
          logged = λ k x c set. next k x c there set;
          given_up = λ g j maps at apart. opened_given_up g j at apart there (opened.pages g j maps);
        }
      where
        opened_given_up : (g j : ℕ) → p.block ≡ place_at program h s 0 g j → ((g ≡ f) × (j ≡ i) → ⊥) → v.zone f i ≡ Some p.block → IsLive h now v g j 0 (place_at program h s 0 g j) ⊎ IsOpenedDead h s now N v g j (place_at program h s 0 g j) → IsOpenedGivenUp h s g j
        opened_given_up g j at apart there (inl live) = absurd (apart (plain.one_page g j f i p.block (live.there ∙ ap Some (sym at)) there))
        opened_given_up g j at apart there (inr dead) =
            ⊎_elim
            (λ c. record { k = dead.k; commit = c.0; committed = c.1; entry = dead.entry; later = dead.later; within = dead.of_k; unmapped = dead.unmapped })
            (λ waits. absurd (no_quarantine f i p.block dead.k there (ap v.quarantine at ∙ waits.1)))
            dead.given_up

        given_up : (o g j w : ℕ) → IsPageTo s o g j w p.block → ((g ≡ f) × (j ≡ i) → ⊥) → v.zone f i ≡ Some p.block → IsLive h now v g j w p.block ⊎ IsDead h s now N v o g j w p.block → IsGivenUpNow h s g j w o
        given_up o g j w page apart there (inl live) = absurd (apart (plain.one_page g j f i p.block live.there there))
        given_up o g j w page apart there (inr dead) =
            ⊎_elim
            (λ c. record { k = dead.k; commit = c.0; committed = c.1; behind = c.2; entry = dead.entry; later = dead.later; within = dead.of_k; unmapped = dead.unmapped })
            (λ waits. absurd (no_quarantine f i p.block dead.k there waits.1))
            dead.given_up

        next : (k : ℕ) (x : List ℕ) → IsCommitted s k → v.zone f i ≡ Some p.block → mark_in (transactions_from s.transactions 1 k) p.block ≡ Set x → IsCommitted s (k + 1)
        next k x c there set =
            let le = numbers.no_more k c.0 c.1 in
            ⊎_elim
            (λ less. numbers.committed (k + 1) (omega arith) (omega arith))
            (λ ge.
            let e : k ≡ N = omega arith in
            ⊎_elim
            (λ at_rest. let q : k ≡ r - 1 = omega arith in absurd (no_body_now f i p.block x there (ap (λ n. mark_in (transactions_from s.transactions 1 n) p.block) (sym q) ∙ set)))
            (λ on_way. absurd (no_body_before f i p.block x there on_way (ap (λ n. mark_in (transactions_from s.transactions 1 n) p.block) (sym e) ∙ set)))
            numbers.closed)
            (cases_lt k N)

-- ---- one request more

-- transactions are told as before
abbrev pub plainly : (s : Session) → length s.notes ≡ length s.requests → Request → Note → Submitting
plainly s counted q n = record { session = s; counted = counted; request = q; note = n; transactions = s.transactions; same = λ k i c. refl }

pub page≢commit : (f i v k : ℕ) → Page f i v ≡ Commit k → ⊥
page≢commit f i v k e = let z : ⊥ = cc in z

module _ (p : Submitting) where
  pub page_cases : (o f i w z : ℕ) → IsPageTo (after p) o f i w z → IsPageTo p.session o f i w z ⊎ ((o ≡ new_place p) × (p.note ≡ Page f i w) × (kind_block p.request.kind ≡ Some z))
  page_cases o f i w z t =
      ⊎_elim
      (λ n. inl (record { note = n; put = put_back p o z (slice_get-length p.session.notes o (Page f i w) n) t.put }))
      (λ n. inr (n.0, n.1, new_put p z (subst (λ j. IsPutOf (p.session.requests ++ p.request ∷ []) j z) n.0 t.put)))
      (note_cases p o (Page f i w) t.note)

  pub page_old : (o f i w z : ℕ) → IsPageTo p.session o f i w z → IsPageTo (after p) o f i w z
  page_old o f i w z t = record { note = note_old p o (Page f i w) t.note; put = put_old p.session.requests p.request o z t.put }

  -- a request that is no page
  pub sent_pushed : {pages : List CachedPage} → ((f i w : ℕ) → p.note ≡ Page f i w → ⊥) → PagesSent p.session pages → PagesSent (after p) pages
  sent_pushed other was = record {
    not_clean = was.not_clean;
    firm = λ f i q e st. let o = was.firm f i q e st in (o.0, page_old o.0 f i q.version q.block o.1, ordered_old p.session.requests p.request o.0 o.2);
    older = λ o f i w y q t e. ⊎_elim (λ l. was.older o f i w y q l e) (λ l. absurd (other f i w l.1)) (page_cases o f i w y t);
  }

module _ {A : Type 0} {h : History A} {now r N : ℕ} (p : Submitting) where
  -- a request that is no commit block
  pub numbers_pushed : ((k : ℕ) → p.note ≡ Commit k → ⊥) → ((f i w : ℕ) → p.note ≡ Page f i w → w ≤ now) → Numbers h p.session now r N → Numbers h (after p) now r N
  numbers_pushed other version was = record {
    closed = was.closed;
    committed = λ k pos le. let c = was.committed k pos le in (c.0, note_old p c.0 (Commit k) c.1);
    no_more = λ k c g. ⊎_elim (λ o. was.no_more k c o) (λ n. absurd (other k n.1)) (note_cases p c (Commit k) g);
    cuts = was.cuts;
    running = was.running;
    versions = λ o f i w g. ⊎_elim (λ n. was.versions o f i w n) (λ n. version f i w n.1) (note_cases p o (Page f i w) g);
  }

  -- the commit block of the transaction that is on its way
  pub numbers_committed : N + 2 ≡ r → p.note ≡ Commit (N + 1) → Numbers h p.session now r N → Numbers h (after p) now r (N + 1)
  numbers_committed on_way note was = record {
    closed = inl (let e : N + 1 + 1 ≡ r = omega arith in e);
    committed = λ k pos le.
        ⊎_elim
        (λ lt. let c = was.committed k pos (omega arith) in (c.0, note_old p c.0 (Commit k) c.1))
        (λ ge. let e : N + 1 ≡ k = omega arith in (new_place p, note_new p ∙ ap Some (note ∙ ap Commit e)))
        (cases_lt k (N + 1));
    no_more = λ k c g. ⊎_elim (λ o. let le = was.no_more k c o in omega arith) (λ n. let e = same_commit (N + 1) k (sym note ∙ n.1) in omega arith) (note_cases p c (Commit k) g);
    cuts = was.cuts;
    running = was.running;
    versions = λ o f i w g. ⊎_elim (λ n. was.versions o f i w n) (λ n. absurd (page≢commit f i w (N + 1) (sym n.1 ∙ note))) (note_cases p o (Page f i w) g);
  }
    where
      same_commit : (k l : ℕ) → Commit k ≡ Commit l → k ≡ l
      same_commit k l e = cc

module _ {A : Type 0} {h : History A} {now N : ℕ} (p : Submitting) where
  pub history_pushed : {v : View} → ((f i w z : ℕ) → p.note ≡ Page f i w → kind_block p.request.kind ≡ Some z → IsLive h now v f i w z) → ZoneHistory h p.session now N v → ZoneHistory h (after p) now N v
  history_pushed {v = v} live was = record { live_or_dead = λ o f i w z t. by o f i w z (page_cases p o f i w z t) }
    where
      by : (o f i w z : ℕ) → IsPageTo p.session o f i w z ⊎ ((o ≡ new_place p) × (p.note ≡ Page f i w) × (kind_block p.request.kind ≡ Some z)) → IsLive h now v f i w z ⊎ IsDead h (after p) now N v o f i w z
      by o f i w z (inr new) = inl (live f i w z new.1 new.2)
      by o f i w z (inl t) =
          ⊎_elim inl
          (λ dead. inr (record {
            k = dead.k;
            entry = dead.entry;
            later = dead.later;
            within = dead.within;
            unmapped = dead.unmapped;
            of_k = dead.of_k;
            given_up = ⊎_elim (λ c. inl (c.0, note_old p c.0 (Commit dead.k) c.1, c.2)) inr dead.given_up;
          }))
          (was.live_or_dead o f i w z t)

  -- The commit block: what waited for its transaction is given up. No other zone stops waiting.
  pub history_committed : {v w : View} → p.note ≡ Commit (N + 1) → ((f i : ℕ) → w.zone f i ≡ v.zone f i) → ((z k : ℕ) → N + 1 < k → v.quarantine z ≡ Some k → w.quarantine z ≡ Some k) → ZoneHistory h p.session now N v → ZoneHistory h (after p) now (N + 1) w
  history_committed {v = v} {w = w} note zones waits was = record { live_or_dead = λ o f i x z t. by o f i x z (page_cases p o f i x z t) }
    where
      by : (o f i x z : ℕ) → IsPageTo p.session o f i x z ⊎ ((o ≡ new_place p) × (p.note ≡ Page f i x) × (kind_block p.request.kind ≡ Some z)) → IsLive h now w f i x z ⊎ IsDead h (after p) now (N + 1) w o f i x z
      by o f i x z (inr new) = absurd (page≢commit f i x (N + 1) (sym new.1 ∙ note))
      by o f i x z (inl t) =
          let within = slice_get-length p.session.notes o (Page f i x) t.note in
          ⊎_elim
          (λ live. inl (record { calm = live.calm; there = zones f i ∙ live.there }))
          (λ dead. inr (record {
            k = dead.k;
            entry = dead.entry;
            later = dead.later;
            within = dead.within;
            unmapped = dead.unmapped;
            of_k = dead.of_k;
            given_up =
                ⊎_elim
                (λ c. inl (c.0, note_old p c.0 (Commit dead.k) c.1, c.2))
                (λ q.
                let up = q.0 in
                ⊎_elim
                (λ more. inr (more, waits z dead.k more q.1))
                (λ same. let e : N + 1 ≡ dead.k = omega arith in inl (new_place p, note_new p ∙ ap Some (note ∙ ap Commit e), within))
                (cases_lt (N + 1) dead.k))
                dead.given_up;
          }))
          (was.live_or_dead o f i x z t)

module _ {A : Type 0} {program : Reads A} {h : History A} {now r N : ℕ} {revoked : List ℕ} (p : Submitting) where
  -- a request that is no commit block
  pub opened_pushed : {v : View} → ((k : ℕ) → p.note ≡ Commit k → ⊥) → ((k : ℕ) → p.transactions k ≡ p.session.transactions k) → OpenedZones program h p.session now r N v revoked → OpenedZones program h (after p) now r N v revoked
  opened_pushed other same was = record {
    pages = λ f i there.
        ⊎_elim inl
        (λ dead. inr (record {
          k = dead.k;
          entry = dead.entry;
          later = dead.later;
          within = dead.within;
          unmapped = dead.unmapped;
          of_k = dead.of_k;
          given_up = ⊎_elim (λ c. inl (c.0, note_old p c.0 (Commit dead.k) c.1)) inr dead.given_up;
        }))
        (was.pages f i there);
    freeable = λ b i.
        ⊎_elim inl
        (λ y. inr (⊎_elim inl (λ x. inr (record { k = x.k; numbered = x.numbered; closed = x.closed; clear = ap (λ txs. mark_in txs b) (same_transactions p.transactions p.session.transactions 1 x.k (λ j lo hi. same j)) ∙ x.clear; given_up = x.given_up })) y))
        (was.freeable b i);
  }

  -- The commit block: what waited for its transaction is given up.
  pub opened_committed : {v w : View} → p.note ≡ Commit (N + 1) → ((f i : ℕ) → w.zone f i ≡ v.zone f i) → ((b : ℕ) → w.metadata b ≡ v.metadata b) → ((z k : ℕ) → N + 1 < k → v.quarantine z ≡ Some k → w.quarantine z ≡ Some k)
      → ((k : ℕ) → p.transactions k ≡ p.session.transactions k) → OpenedZones program h p.session now r N v revoked → OpenedZones program h (after p) now r (N + 1) w revoked
  opened_committed {v = v} {w = w} note zones metadata waits same was = record {
    pages = λ f i there.
        ⊎_elim
        (λ live. inl (record { calm = live.calm; there = zones f i ∙ live.there }))
        (λ dead. inr (record {
          k = dead.k;
          entry = dead.entry;
          later = dead.later;
          within = dead.within;
          unmapped = dead.unmapped;
          of_k = dead.of_k;
          given_up =
              ⊎_elim
              (λ c. inl (c.0, note_old p c.0 (Commit dead.k) c.1))
              (λ q.
              let up = q.0 in
              ⊎_elim
              (λ more. inr (more, waits (place_at program h p.session 0 f i) dead.k more q.1))
              (λ at. let e : N + 1 ≡ dead.k = omega arith in inl (new_place p, note_new p ∙ ap Some (note ∙ ap Commit e)))
              (cases_lt (N + 1) dead.k))
              dead.given_up;
        }))
        (was.pages f i there);
    freeable = λ b i.
        ⊎_elim (λ meta. inl (metadata b ∙ meta))
        (λ y. inr (⊎_elim inl
        (λ x. inr (record {
          k = x.k;
          numbered = x.numbered;
          closed = x.closed;
          clear = ap (λ txs. mark_in txs b) (same_transactions p.transactions p.session.transactions 1 x.k (λ j lo hi. same j)) ∙ x.clear;
          given_up =
              ⊎_elim (λ le. inl (omega arith))
              (λ q. let up = q.0 in ⊎_elim (λ more. inr (more, waits b x.k more q.1)) (λ at. inl (omega arith)) (cases_lt (N + 1) x.k))
              x.given_up;
        })) y))
        (was.freeable b i);
  }

-- ---- the page that is sent

-- a page of the cache is marked
pub marked-cases : (pages : List CachedPage) (q : CachedPage) (st : PageState) (f i : ℕ) (p : CachedPage) → page_at (put_page pages (marked q st)) f i ≡ Some p
    → ((q.birth ≡ f) × (q.index ≡ i) × (marked q st ≡ p)) ⊎ (page_at pages f i ≡ Some p)
marked-cases pages q st f i p e = by (is_page (marked q st) f i) refl (sym (page_at-put pages (marked q st) f i) ∙ e)
  where
    by : (t : Bool) → is_page (marked q st) f i ≡ t → (if t then Some (marked q st) else page_at pages f i) ≡ Some p → ((q.birth ≡ f) × (q.index ≡ i) × (marked q st ≡ p)) ⊎ (page_at pages f i ≡ Some p)
    by true t d = let k = is_page-same (marked q st) f i t in inl (k.0, k.1, same_Some (marked q st) p d)
    by false t d = inr d

pub marked-stays : (pages : List CachedPage) (q : CachedPage) (st : PageState) (f i : ℕ) (p : CachedPage) → page_at pages f i ≡ Some p → (x : CachedPage) × (page_at (put_page pages (marked q st)) f i ≡ Some x)
marked-stays pages q st f i p e = let r = by (is_page (marked q st) f i) in (r.0, page_at-put pages (marked q st) f i ∙ r.1)
  where
    by : (t : Bool) → (x : CachedPage) × ((if t then Some (marked q st) else page_at pages f i) ≡ Some x)
    by true = (marked q st, refl)
    by false = (p, e)

module _ {A : Type 0} {h : History A} {now : ℕ} {v : View} (pages : List CachedPage) (q : CachedPage) (st : PageState) (here : page_at pages q.birth q.index ≡ Some q) where
  pub mapped_marked : PagesMapped h now v pages → PagesMapped h now v (put_page pages (marked q st))
  mapped_marked was = record {
    cached = λ f i p e. ⊎_elim (λ n. subst (IsCached h now v f i) n.2 (same f i n.0 n.1)) (λ o. was.cached f i p o) (marked-cases pages q st f i p e);
    all = λ f i z there wrote. let p = was.all f i z there wrote in marked-stays pages q st f i p.0 p.1;
  }
    where
      same : (f i : ℕ) → q.birth ≡ f → q.index ≡ i → IsCached h now v f i (marked q st)
      same f i b x =
          let c = was.cached f i q (ap (λ g. page_at pages g i) (sym b) ∙ ap (page_at pages q.birth) (sym x) ∙ here) in
          record { birth = c.birth; index = c.index; zone = c.zone; body = c.body; version = c.version; written = c.written }

module _ (pages : List CachedPage) (q : CachedPage) (st : PageState) (here : page_at pages q.birth q.index ≡ Some q) where
  -- the page goes out with its version, to its block; order-preserving where it becomes Firm
  pub sent_marked : (p : Submitting) → p.note ≡ Page q.birth q.index q.version → kind_block p.request.kind ≡ Some q.block → (st ≡ Clean → ⊥) → (st ≡ Firm → IsTrue p.request.ordered)
      → PagesSent p.session pages → PagesSent (after p) (put_page pages (marked q st))
  sent_marked p note block unclean ordered was = record {
    not_clean = λ f i x e d. ⊎_elim (λ n. unclean (ap (λ (c : CachedPage). c.state) n.2 ∙ d)) (λ o. was.not_clean f i x o d) (marked-cases pages q st f i x e);
    firm = λ f i x e d. firm f i x (marked-cases pages q st f i x e) d;
    older = λ o f i w y x t e. older o f i w y x (page_cases p o f i w y t) (marked-cases pages q st f i x e);
  }
    where
      page : HasNote (after p) (new_place p) (Page q.birth q.index q.version)
      page = note_new p ∙ ap Some note

      firm : (f i : ℕ) (x : CachedPage) → ((q.birth ≡ f) × (q.index ≡ i) × (marked q st ≡ x)) ⊎ (page_at pages f i ≡ Some x) → x.state ≡ Firm
          → (o : ℕ) × IsPageTo (after p) o f i x.version x.block × IsOrdered (p.session.requests ++ p.request ∷ []) o
      firm f i x (inl (b, j, e)) d =
          subst (λ (c : CachedPage). (o : ℕ) × IsPageTo (after p) o f i c.version c.block × IsOrdered (p.session.requests ++ p.request ∷ []) o) e
          (new_place p, record { note = page ∙ ap (λ g. Some (Page g q.index q.version)) b ∙ ap (λ k. Some (Page f k q.version)) j; put = put_new p q.block block }, ordered_new p (ordered (ap (λ (c : CachedPage). c.state) e ∙ d)))
      firm f i x (inr e) d = let o = was.firm f i x e d in (o.0, record { note = note_old p o.0 (Page f i x.version) o.1.note; put = put_old p.session.requests p.request o.0 x.block o.1.put }, ordered_old p.session.requests p.request o.0 o.2)

      same_page : (f i w g j y : ℕ) → Page f i w ≡ Page g j y → (f ≡ g) × (i ≡ j) × (w ≡ y)
      same_page f i w g j y e = (cc, cc, cc)

      at_q : (f i : ℕ) → q.birth ≡ f → q.index ≡ i → page_at pages f i ≡ Some q
      at_q f i b x = ap (λ g. page_at pages g i) (sym b) ∙ ap (page_at pages q.birth) (sym x) ∙ here

      older : (o f i w y : ℕ) (x : CachedPage) → IsPageTo p.session o f i w y ⊎ ((o ≡ new_place p) × (p.note ≡ Page f i w) × (kind_block p.request.kind ≡ Some y)) → ((q.birth ≡ f) × (q.index ≡ i) × (marked q st ≡ x)) ⊎ (page_at pages f i ≡ Some x) → w ≤ x.version
      older o f i w y x (inl t) (inl (b, j, e)) =
          let le = was.older o f i w y q t (at_q f i b j) in
          let d = ap (λ (c : CachedPage). c.version) e in
          omega arith
      older o f i w y x (inl t) (inr e) = was.older o f i w y x t e
      older o f i w y x (inr new) (inl (b, j, e)) =
          let k = same_page q.birth q.index q.version f i w (sym note ∙ new.1) in
          let same = k.2 in
          let d = ap (λ (c : CachedPage). c.version) e in
          omega arith
      older o f i w y x (inr new) (inr e) =
          let k = same_page q.birth q.index q.version f i w (sym note ∙ new.1) in
          let same = k.2 in
          let d = ap (λ (c : CachedPage). c.version) (same_Some q x (sym (at_q f i k.0 k.1) ∙ e)) in
          omega arith
