-- A call that changes the volume keeps the facts, by what the volume tells of the call.
use Rattle.std.specs.Prelude.{◌≡◌, ℕ, suc, ◌+◌, ◌-◌, ◌≤◌, ◌⊎◌, true, false, Some}
use Rattle.std.proofs.Common.{sym, ap, subst, ◌∙◌, inl, inr, ⊎_elim, arith}
use Rattle.std.proofs.lemmas.Bool.{cases_Bool, cases_lt, false≢true, cond-true, cond-false}
use Rattle.std.proofs.lemmas.Option.{none-some, same_Some}
use Rattle.blk_base.specs.Members.{In}
use Rattle.volume_ops.specs.Reads.{Reads}
use Rattle.log_model.specs.Marks.{Set, mark_in, transactions_from}
use Rattle.crash_laws.specs.laws.Changes.{Told, IsChange, HasZones, IsPresent}
use Rattle.crash_laws.specs.History.{History, Calm, last_write, HasTrees}
use Rattle.crash_laws.specs.laws.HostFacts.{Host, IsLive, IsDead, IsOpenedDead, HostFacts}
use Rattle.crash_laws.specs.PageRules.{IsPageTo, place_at}
use Rattle.crash_laws.specs.Session.{Session, image_of}
use Rattle.crash_laws.proofs.Histories.{stays_mapped}

last_write_next : {A : Type 0} (h : History A) (f i n : ℕ) → ((h.writes (n + 1) f i ≡ true) × (last_write h f i (n + 1) ≡ n + 1)) ⊎ ((h.writes (n + 1) f i ≡ false) × (last_write h f i (n + 1) ≡ last_write h f i n))
last_write_next h f i n =
    let e : suc n ≡ n + 1 = omega arith in
    subst (λ k. ((h.writes k f i ≡ true) × (last_write h f i k ≡ k)) ⊎ ((h.writes k f i ≡ false) × (last_write h f i k ≡ last_write h f i n))) e
    (⊎_elim
    (λ t. inl (t, cond-true (h.writes (suc n) f i) (suc n) (last_write h f i n) t))
    (λ t. inr (t, cond-false (h.writes (suc n) f i) (suc n) (last_write h f i n) t))
    (cases_Bool (h.writes (suc n) f i)))

module _ {A : Type 0} {program : Reads A} {h : History A} {s : Session} {old new : Host} {N : ℕ} {told : Told} (trees : HasTrees h) (facts : HostFacts program h s old N) (change : IsChange h s old new told) (zones : HasZones h new) where
  revoked_waits : (b : ℕ) → In b new.revokes → new.quarantine b ≡ Some new.running
  revoked_waits b i =
      let r = change.running in
      ⊎_elim
      (λ o.
      ⊎_elim
      (λ freed. (change.freed b freed).1 ∙ ap Some (sym r))
      (λ not_freed. change.waiting b not_freed ∙ facts.revokes_wait b o ∙ ap Some (sym r))
      (cases_Bool (told.freed b)))
      (λ t. (change.freed b (change.revoked b t).1).1 ∙ ap Some (sym r))
      (change.new_revokes b i)

  -- a waiting zone waits on
  waits_on : (b k : ℕ) → old.quarantine b ≡ Some k → new.quarantine b ≡ Some k
  waits_on b k e =
      ⊎_elim
      (λ freed. absurd (none-some k (sym (change.freed b freed).0 ∙ e)))
      (λ not_freed. change.waiting b not_freed ∙ e)
      (cases_Bool (told.freed b))

  metadata_or_revoked : (b : ℕ) → (old.metadata b ≡ true) ⊎ In b old.revokes → (new.metadata b ≡ true) ⊎ In b new.revokes
  metadata_or_revoked b (inl meta) =
      ⊎_elim inl (λ gone. inr (change.its_revokes b (change.gone b meta gone))) (cases_Bool (new.metadata b))
  metadata_or_revoked b (inr r) = inr (change.old_revokes b r)

  -- a page that is there and is not unmapped by the call stays in its zone
  live_or_dead : (o f i v z : ℕ) → IsPageTo s o f i v z → IsLive h old f i v z ⊎ IsDead h s old N o f i v z → IsLive h new f i v z ⊎ IsDead h s new N o f i v z
  live_or_dead o f i v z page (inr dead) =
      let up = change.now in
      let hi = dead.in_time in
      inr (record {
        k = dead.k;
        entry = dead.entry;
        later = dead.later;
        in_time = omega arith;
        unmapped = dead.unmapped;
        closed = λ lt. let same = change.running in dead.closed (omega arith);
        given_up = ⊎_elim inl (λ w. inr (w.0, waits_on z dead.k w.1)) dead.given_up;
      })
  live_or_dead o f i v z page (inl live) =
      let up = change.now in
      let before = facts.zone_mapped f i z live.there in
      ⊎_elim
      (λ there. inl (record {
        calm = λ m lo hi un.
            ⊎_elim
            (λ early. live.calm m lo (omega arith) un)
            (λ last. let e : m ≡ new.now = omega arith in false≢true (sym un.after ∙ ap (λ n. h.maps n f i) e ∙ there))
            (cases_lt m new.now);
        there = change.stays f i z live.there there;
      }))
      (λ gone.
      let le = facts.sent_before o f i v z page in
      let closed = facts.closed in
      let e : new.now - 1 ≡ old.now = omega arith in
      inr (record {
        k = old.running;
        entry = new.now;
        later = omega arith;
        in_time = omega arith;
        unmapped = record { before = ap (λ n. h.maps n f i) e ∙ before; after = gone };
        closed = λ lt. let same = change.running in absurd (omega arith);
        given_up = inr (⊎_elim (λ q. omega arith) (λ q. omega arith) facts.closed, (change.freed z (change.dropped f i z live.there gone)).1);
      }))
      (cases_Bool (h.maps new.now f i))

  opened_live_or_dead : (f i z : ℕ) → IsLive h old f i 0 z ⊎ IsOpenedDead h s old N f i z → IsLive h new f i 0 z ⊎ IsOpenedDead h s new N f i z
  opened_live_or_dead f i z (inr dead) =
      let up = change.now in
      let hi = dead.in_time in
      inr (record {
        k = dead.k;
        entry = dead.entry;
        later = dead.later;
        in_time = omega arith;
        unmapped = dead.unmapped;
        closed = λ lt. let same = change.running in dead.closed (omega arith);
        given_up = ⊎_elim inl (λ w. inr (w.0, waits_on z dead.k w.1)) dead.given_up;
      })
  opened_live_or_dead f i z (inl live) =
      let up = change.now in
      let before = facts.zone_mapped f i z live.there in
      ⊎_elim
      (λ there. inl (record {
        calm = λ m lo hi un.
            ⊎_elim
            (λ early. live.calm m lo (omega arith) un)
            (λ last. let e : m ≡ new.now = omega arith in false≢true (sym un.after ∙ ap (λ n. h.maps n f i) e ∙ there))
            (cases_lt m new.now);
        there = change.stays f i z live.there there;
      }))
      (λ gone.
      let e : new.now - 1 ≡ old.now = omega arith in
      inr (record {
        k = old.running;
        entry = new.now;
        later = omega arith;
        in_time = omega arith;
        unmapped = record { before = ap (λ n. h.maps n f i) e ∙ before; after = gone };
        closed = λ lt. let same = change.running in absurd (omega arith);
        given_up = inr (⊎_elim (λ q. omega arith) (λ q. omega arith) facts.closed, (change.freed z (change.dropped f i z live.there gone)).1);
      }))
      (cases_Bool (h.maps new.now f i))

  sent_version : (o f i v z y : ℕ) → IsPageTo s o f i v y → new.zone f i ≡ Some z → v ≤ last_write h f i new.now
  sent_version o f i v z y page there =
      let up = change.now in
      let at = ap (last_write h f i) up in
      let le = facts.sent_before o f i v y page in
      ⊎_elim
      (λ w. let e = w.1 in omega arith)
      (λ w.
      let e = w.1 in
      ⊎_elim
      (λ maps. let zone = facts.mapped_zone f i maps in let older = facts.sent_version o f i v zone.0 y page zone.1 in omega arith)
      (λ none. absurd (false≢true (sym w.0 ∙ trees.mapped f i old.now none (ap (λ n. h.maps n f i) (sym up) ∙ zones.zone_mapped f i z there))))
      (cases_Bool (h.maps old.now f i)))
      (last_write_next h f i old.now)

  pub change_step : HostFacts program h s new N
  change_step =
      let up = change.now in
      let same = change.running in
      record {
        closed = ⊎_elim (λ e. inl (e ∙ sym same)) (λ e. inr (e ∙ sym same)) facts.closed;
        committed = facts.committed;
        no_more = facts.no_more;
        metadata_free = zones.metadata_free;
        page_free = zones.page_free;
        one_page = zones.one_page;
        bodies_on_metadata = λ b x set. metadata_or_revoked b (facts.bodies_on_metadata b x (ap (λ k. mark_in (transactions_from s.transactions 1 (k - 1)) b) (sym same) ∙ set));
        revokes_wait = revoked_waits;
        plan_revokes_wait = λ b e i. waits_on b (N + 1) (facts.plan_revokes_wait b (e ∙ same) i);
        mapped_zone = zones.mapped_zone;
        zone_mapped = zones.zone_mapped;
        sent_before = λ o f i v y page. let le = facts.sent_before o f i v y page in omega arith;
        sent_version = sent_version;
        keeps_zone = λ k f i z lt maps calm there.
            let in_time = facts.cuts_now k (omega arith) in
            let calm_old : Calm h f i (h.cut k) old.now = λ m lo hi un. calm m lo (omega arith) un in
            let maps_old = stays_mapped f i (h.cut k) old.now in_time calm_old maps in
            let zone = facts.mapped_zone f i maps_old in
            let stayed = change.stays f i zone.0 zone.1 (zones.zone_mapped f i z there) in
            same_Some z zone.0 (sym there ∙ stayed) ∙ facts.keeps_zone k f i zone.0 (omega arith) maps calm_old zone.1;
        cuts_now = λ k lt. let le = facts.cuts_now k (omega arith) in omega arith;
        live_or_dead = λ o f i v z page. live_or_dead o f i v z page (facts.live_or_dead o f i v z page);
        opened_live_or_dead = λ f i there. opened_live_or_dead f i (place_at program h s 0 f i) (facts.opened_live_or_dead f i there);
      }

-- ---- what the plan needs of the volume

pub present_step : {A : Type 0} (h : History A) (s : Session) (old new : Host) (told : Told) → IsChange h s old new told → ((b : ℕ) → old.metadata b ≡ true → IsPresent s old b) → (b : ℕ) → new.metadata b ≡ true → IsPresent s new b
present_step h s old new told change before b meta =
    ⊎_elim
    (λ revoked. absurd (false≢true (sym (change.revoked b revoked).0 ∙ meta)))
    (λ stays.
    ⊎_elim
    (λ touched. inl (change.logged b touched stays))
    (λ untouched.
    let was = ⊎_elim (λ m. m) (λ f. absurd (false≢true (sym untouched ∙ f.0))) (change.fresh b meta) in
    let volume = change.kept b was meta untouched in
    let bodies = change.as_before b untouched stays in
    let same = change.running in
    ⊎_elim
    (λ body. inl (bodies ∙ body ∙ ap Set (sym volume)))
    (λ o. inr (bodies ∙ o.0, volume ∙ o.1 ∙ ap (λ k. image_of s (k - 1) b) (sym same), ⊎_elim (λ older. inl (⊎_elim inl (λ keep. inr (keep.0, ap (λ k. mark_in (transactions_from s.transactions 1 (k - 1)) b) same ∙ keep.1)) older)) (λ set. inr (set.0, ap (λ k. mark_in (transactions_from s.transactions 1 (k - 1)) b) same ∙ set.1)) o.2))
    (before b was))
    (cases_Bool (told.touched b)))
    (cases_Bool (told.revoked b))
