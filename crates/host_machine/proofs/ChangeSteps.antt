-- A changing call keeps the facts of images.
use Rattle.std.proofs.Common.{sym, ap, subst, ◌∙◌, inl, inr, ⊎_elim, arith}
use Rattle.std.proofs.lemmas.Bool.{cases_Bool, cases_lt, cond-true, cond-false, false≢true}
use Rattle.std.proofs.lemmas.Option.{none-some}
use Rattle.std.specs.Prelude.{◌≡◌, ℕ, suc, ◌+◌, ◌-◌, ◌<◌, ◌≤◌, ◌⊎◌, Bool, true, false, List, Option, Some, None, refl, zero, if◌then◌else◌}
use Rattle.blk_base.specs.Members.{In}
use Rattle.order_model.specs.declared.note.Note.TheVariants.{Page}
use Rattle.log_model.specs.Marks.{mark_in, transactions_from}
use Rattle.volume_ops.specs.Reads.{Reads, answer}
use Rattle.page_cache.specs.Pages.{page_at}
use Rattle.page_cache.specs.declared.cached_page.CachedPage.{CachedPage}
use Rattle.page_cache.specs.declared.cached_page.PageState.TheVariants.{Clean, Dirty, Firm}
use Rattle.crash_laws.proofs.Growth.{unmapped_old, unmapped_new}
use Rattle.crash_laws.proofs.Histories.{stays_mapped}
use Rattle.crash_laws.specs.laws.Extending.{Extends}
use Rattle.crash_laws.specs.History.{History, Calm, last_write, HasTrees}
use Rattle.crash_laws.specs.PageRules.{IsPageTo, place_at}
use Rattle.crash_laws.specs.Session.{Session, IsSubmitted, Before, Submitted, image_of}
use Rattle.host_machine.proofs.PageMaps.{page_written, dropped-left, left-dropped, written-cases, written-stays, among-written}
use Rattle.number_sets.specs.laws.Members.{In_or_not, In-with_all, with_all-In, In-without_all, without_all-In}
use Rattle.host_machine.specs.Host.{dropped_pages, written_pages}
use Rattle.host_machine.specs.Model.{Model, FileBlock, Touched}
use Rattle.number_sets.specs.Sets.{with_all, without_all}
use Rattle.host_machine.specs.State.{Setup}
use Rattle.host_machine.specs.laws.Facts.{View, IsPlain, IsChange, Numbers, Present, Bodies, PlanRevokes, KeepsPlaces, IsCached, PagesMapped, PagesSent, IsLive, IsDead, ZoneHistory, IsOpenedDead, IsFreed, OpenedZones, Altered, OnItsWay}

-- One entry more, in the running transaction: what was told of the old ones stays.
pub record IsEntry {A : Type 0} (h more : History A) (now r : ℕ) : Type 0 where
  pub cuts : (k : ℕ) → k < r → more.cut k ≡ h.cut k
  pub running : (k : ℕ) → r ≤ k → more.cut k ≡ now + 1
  pub maps : (n f i : ℕ) → n ≤ now → more.maps n f i ≡ h.maps n f i
  pub writes : (n f i : ℕ) → n ≤ now → more.writes n f i ≡ h.writes n f i
  pub content : (f i v : ℕ) → v ≤ now → more.content f i v ≡ h.content f i v
  pub changes : (k f : ℕ) → k < r → more.changes k f ≡ h.changes k f
  pub place : (a : A) (n f i : ℕ) → n ≤ now → more.place a n f i ≡ h.place a n f i

pub last_write_within : {A : Type 0} (h : History A) (f i n : ℕ) → last_write h f i n ≤ n
last_write_within h f i zero = omega arith
last_write_within h f i (suc n) = by (last_write_within h f i n) (h.writes (suc n) f i)
  where
    by : last_write h f i n ≤ n → (t : Bool) → (if t then suc n else last_write h f i n) ≤ suc n
    by le true = omega arith
    by le false = omega arith

dirty≢clean : Dirty ≡ Clean → ⊥
dirty≢clean e = let k : ⊥ = cc in k

dirty≢firm : Dirty ≡ Firm → ⊥
dirty≢firm e = let k : ⊥ = cc in k

module _ {A : Type 0} {h more : History A} {s : Session} {now r N : ℕ} (entry : IsEntry h more now r) (numbers : Numbers h s now r N) where
  submitted_below : (k : ℕ) → IsSubmitted s k → k < r
  submitted_below k (Before z) = ⊎_elim (λ e. omega arith) (λ e. omega arith) numbers.closed
  submitted_below k (Submitted c g) = let le = numbers.no_more k c g in ⊎_elim (λ e. omega arith) (λ e. omega arith) numbers.closed

  pub extends : Extends h more s now
  extends = record {
    cuts = λ k sub. entry.cuts k (submitted_below k sub);
    within = λ k sub. numbers.cuts k;
    versions = numbers.versions;
    maps = entry.maps;
    writes = entry.writes;
    content = entry.content;
    changes = λ k c f g. entry.changes k f (submitted_below k (Submitted c g));
    place = entry.place;
  }

  pub numbers_grow : Numbers more s (now + 1) r N
  numbers_grow = record {
    closed = numbers.closed;
    committed = numbers.committed;
    no_more = numbers.no_more;
    cuts = λ k.
        ⊎_elim
        (λ lt. let e = entry.cuts k lt in let le = numbers.cuts k in omega arith)
        (λ ge. let e = entry.running k ge in omega arith)
        (cases_lt k r);
    running = entry.running;
    versions = λ o f i v note. let le = numbers.versions o f i v note in omega arith;
  }

  last_write_same : (f i n : ℕ) → n ≤ now → last_write more f i n ≡ last_write h f i n
  last_write_same f i zero le = refl
  last_write_same f i (suc n) le =
      ap (λ t. if t then suc n else last_write more f i n) (entry.writes (suc n) f i le)
      ∙ ap (λ l. if h.writes (suc n) f i then suc n else l) (last_write_same f i n (omega arith))

  -- what was written before stays written
  pub last_write_stays : (f i : ℕ) → 1 ≤ last_write h f i now → 1 ≤ last_write more f i (now + 1)
  last_write_stays f i pos =
      let e : now + 1 ≡ suc now = omega arith in
      subst (λ n. 1 ≤ last_write more f i n) (sym e) (by (more.writes (suc now) f i))
    where
      by : (t : Bool) → 1 ≤ (if t then suc now else last_write more f i now)
      by true = omega arith
      by false = let same = last_write_same f i now (omega arith) in omega arith

  -- what is on its way stays as it is
  pub way_grows : {program : Reads A} {k from : ℕ} → k < r → OnItsWay program h s k from → OnItsWay program more s k from
  way_grows {program = program} {k = k} {from = from} lt was = record {
    place = λ o f i w z t maps calm back.
        let hi = numbers.cuts k in
        let lo = numbers.versions o f i w t.note in
        was.place o f i w z t (maps_then f i maps) (λ m a b un. calm m a (omega arith) (unmapped_new extends f i m (omega arith) un)) (λ m a b un. back m (omega arith) b (unmapped_new extends f i m (omega arith) un)) ∙ place_then f i;
    logged = λ o f i w z x t set.
        let c = was.logged o f i w z x t set in
        let e = entry.cuts (k - 1) (omega arith) in
        let le = c.3 in
        (c.0, c.1, c.2, omega arith);
    files = λ f i x maps set. was.files f i x (maps_then f i maps) (ap (mark_in (transactions_from s.transactions 1 k)) (place_then f i) ∙ set);
    stays = λ f i there calm.
        let hi = numbers.cuts k in
        ap (λ n. more.place (answer (image_of s 0) program) n f i) (entry.cuts 0 (omega arith)) ∙ entry.place (answer (image_of s 0) program) (h.cut 0) f i (numbers.cuts 0)
        ∙ was.stays f i (sym (entry.maps 0 f i (omega arith)) ∙ there) (λ m a b un. calm m a (omega arith) (unmapped_new extends f i m (omega arith) un)) ∙ place_then f i;
    walked = was.walked;
    low = was.low;
    own = was.own;
    sent = λ f i ch maps wrote.
        let last : last_write h f i (h.cut k) ≡ last_write more f i (more.cut k) = sym (last_write_same f i (h.cut k) (numbers.cuts k)) ∙ ap (last_write more f i) (sym cut) in
        let x = was.sent f i (sym (entry.changes k f lt) ∙ ch) (maps_then f i maps) (subst (λ n. 1 ≤ n) (sym last) wrote) in
        (x.0, x.1 ∙ ap (λ n. Some (Page f i n)) last, x.2, x.3);
  }
    where
      cut : more.cut k ≡ h.cut k
      cut = entry.cuts k lt

      maps_then : (f i : ℕ) → more.maps (more.cut k) f i ≡ true → h.maps (h.cut k) f i ≡ true
      maps_then f i maps = sym (entry.maps (h.cut k) f i (numbers.cuts k)) ∙ ap (λ n. more.maps n f i) (sym cut) ∙ maps

      place_then : (f i : ℕ) → place_at program h s k f i ≡ place_at program more s k f i
      place_then f i = sym (entry.place (answer (image_of s k) program) (h.cut k) f i (numbers.cuts k)) ∙ ap (λ n. more.place (answer (image_of s k) program) n f i) (sym cut)

  -- ---- with what the call did

  module _ {program : Reads A} {old new : View} {t : Touched} (trees : HasTrees more) (before : IsPlain program h s now old) (after : IsPlain program more s (now + 1) new) (c : IsChange more s now r old new t) where
    not_revoked : (b : ℕ) → new.metadata b ≡ true → In b t.revoked → ⊥
    not_revoked b meta i = false≢true (sym (c.revoked b i).0 ∙ meta)

    pub present_changed : (touched : List ℕ) → Present s r old touched → Present s r new (without_all (with_all touched t.blocks) t.revoked)
    present_changed touched was = record {
      present = λ b meta.
          ⊎_elim
          (λ i. inl (without_all-In (with_all touched t.blocks) t.revoked b (with_all-In touched t.blocks b (inr i)) (not_revoked b meta)))
          (λ none.
          ⊎_elim
          (λ old_meta.
          ⊎_elim
          (λ i. inl (without_all-In (with_all touched t.blocks) t.revoked b (with_all-In touched t.blocks b (inl i)) (not_revoked b meta)))
          (λ same. inr (c.same_bytes b old_meta meta none ∙ same.0, same.1))
          (was.present b old_meta))
          (λ i. absurd (none i))
          (c.fresh b meta))
          (In_or_not t.blocks b);
    }

    pub waiting_stays : (b k : ℕ) → old.quarantine b ≡ Some k → new.quarantine b ≡ Some k
    waiting_stays b k e =
        ⊎_elim
        (λ i. absurd (none-some k (sym (c.freed b i).0 ∙ e)))
        (λ none. c.not_freed b none ∙ e)
        (In_or_not t.freed b)

    pub bodies_changed : (touched revoked : List ℕ) → Bodies s r old touched revoked → Bodies s r new (without_all (with_all touched t.blocks) t.revoked) (with_all revoked t.revoked)
    bodies_changed touched revoked was = record {
      on_metadata = λ b x set.
          ⊎_elim
          (λ meta.
          ⊎_elim inl
          (λ none. inr (with_all-In revoked t.revoked b (inr (c.gone b meta none))))
          (cases_Bool (new.metadata b)))
          (λ i. inr (with_all-In revoked t.revoked b (inl i)))
          (was.on_metadata b x set);
      bodies_on = λ b i.
          let p = In-without_all (with_all touched t.blocks) t.revoked b i in
          ⊎_elim
          (λ l.
          ⊎_elim (λ meta. meta) (λ none. absurd (p.1 (c.gone b (was.bodies_on b l) none))) (cases_Bool (new.metadata b)))
          (λ l. ⊎_elim (λ r. absurd (p.1 r)) (λ meta. meta) (c.blocks b l))
          (In-with_all touched t.blocks b p.0);
      waits = λ b i.
          ⊎_elim
          (λ l. waiting_stays b r (was.waits b l))
          (λ l. (c.freed b (c.revoked b l).1).1)
          (In-with_all revoked t.revoked b i);
      own = λ b i. ⊎_elim (λ l. was.own b l) (λ l. (c.revoked b l).2) (In-with_all revoked t.revoked b i);
    }

    pub plan_revokes_changed : PlanRevokes s r N old → PlanRevokes s r N new
    plan_revokes_changed was = record { waits = λ b on i. waiting_stays b (N + 1) (was.waits b on i) }

    pub places_changed : KeepsPlaces program h s now r old → KeepsPlaces program more s (now + 1) r new
    places_changed was = record {
      kept = λ k f i z lt maps calm there.
          let cut = entry.cuts k lt in
          let le = numbers.cuts k in
          let maps_then : h.maps (h.cut k) f i ≡ true = sym (entry.maps (h.cut k) f i le) ∙ ap (λ n. more.maps n f i) (sym cut) ∙ maps in
          let calm_then : Calm h f i (h.cut k) now = λ m lo hi un. calm m (omega arith) (omega arith) (unmapped_new extends f i m hi un) in
          let y = before.there f i (stays_mapped f i (h.cut k) now le calm_then maps_then) in
          c.same_zone f i y.0 z y.1 there
          ∙ was.kept k f i y.0 lt maps_then calm_then y.1
          ∙ sym (entry.place (answer (image_of s k) program) (h.cut k) f i le)
          ∙ ap (λ n. more.place (answer (image_of s k) program) n f i) (sym cut);
    }

    mapped_before : (f i z : ℕ) → new.zone f i ≡ Some z → more.writes (now + 1) f i ≡ false → (y : ℕ) × (old.zone f i ≡ Some y)
    mapped_before f i z there quiet =
        ⊎_elim
        (λ yes. before.there f i (sym (entry.maps now f i (omega arith)) ∙ yes))
        (λ none. absurd (false≢true (sym quiet ∙ trees.mapped f i now none (after.mapped f i z there))))
        (cases_Bool (more.maps now f i))

    pub last_written : (f i : ℕ) → more.writes (now + 1) f i ≡ true → now + 1 ≡ last_write more f i (now + 1)
    last_written f i w =
        let e : now + 1 ≡ suc now = omega arith in
        subst (λ n. n ≡ last_write more f i n) (sym e) (sym (cond-true (more.writes (suc now) f i) (suc now) (last_write more f i now) (ap (λ n. more.writes n f i) (sym e) ∙ w)))

    not_written : (f i : ℕ) → more.writes (now + 1) f i ≡ false → last_write h f i now ≡ last_write more f i (now + 1)
    not_written f i w =
        let e : now + 1 ≡ suc now = omega arith in
        sym (last_write_same f i now (omega arith))
        ∙ subst (λ n. last_write more f i now ≡ last_write more f i n) (sym e) (sym (cond-false (more.writes (suc now) f i) (suc now) (last_write more f i now) (ap (λ n. more.writes n f i) (sym e) ∙ w)))

    zone_after : (f i z : ℕ) → old.zone f i ≡ Some z → (new.zone f i ≡ Some z) ⊎ (new.zone f i ≡ None)
    zone_after f i z there = by (new.zone f i) refl
      where
        by : (o : Option ℕ) → new.zone f i ≡ o → (new.zone f i ≡ Some z) ⊎ (new.zone f i ≡ None)
        by None e = inr e
        by (Some y) e = inl (e ∙ ap Some (c.same_zone f i z y there e))

    pub history_changed : ZoneHistory h s now N old → ZoneHistory more s (now + 1) N new
    history_changed was = record { live_or_dead = λ o f i w z page. by o f i w z page (was.live_or_dead o f i w z page) }
      where
        below : N < r
        below = ⊎_elim (λ e. omega arith) (λ e. omega arith) numbers.closed

        by : (o f i w z : ℕ) → IsPageTo s o f i w z → IsLive h now old f i w z ⊎ IsDead h s now N old o f i w z → IsLive more (now + 1) new f i w z ⊎ IsDead more s (now + 1) N new o f i w z
        by o f i w z page (inl live) =
            ⊎_elim
            (λ there. inl (record {
              calm = λ m lo hi un.
                  ⊎_elim
                  (λ lt. live.calm m lo (omega arith) (unmapped_old extends f i m (omega arith) un))
                  (λ ge. let e : m ≡ now + 1 = omega arith in false≢true (sym un.after ∙ ap (λ n. more.maps n f i) e ∙ after.mapped f i z there))
                  (cases_lt m (now + 1));
              there = there;
            }))
            (λ none.
            let le = numbers.versions o f i w page.note in
            let cut = entry.running r (omega arith) in
            let e : now + 1 - 1 ≡ now = omega arith in
            inr (record {
              k = r;
              entry = now + 1;
              later = omega arith;
              within = omega arith;
              unmapped = record {
                before = ap (λ n. more.maps n f i) e ∙ entry.maps now f i (omega arith) ∙ before.mapped f i z live.there;
                after = ⊎_elim (λ yes. let y = after.there f i yes in absurd (none-some y.0 (sym none ∙ y.1))) (λ no. no) (cases_Bool (more.maps (now + 1) f i));
              };
              of_k = omega arith;
              given_up = inr (below, (c.freed z (c.all_dropped f i z live.there none).0).1);
            }))
            (zone_after f i z live.there)
        by o f i w z page (inr dead) =
            let le = dead.within in
            let of_k = dead.of_k in
            inr (record {
              k = dead.k;
              entry = dead.entry;
              later = dead.later;
              within = omega arith;
              unmapped = unmapped_new extends f i dead.entry le dead.unmapped;
              of_k = ⊎_elim (λ lt. let e = entry.cuts dead.k lt in omega arith) (λ ge. let e = entry.running dead.k ge in omega arith) (cases_lt dead.k r);
              given_up = ⊎_elim inl (λ q. inr (q.0, waiting_stays z dead.k q.1)) dead.given_up;
            })

    pub opened_changed : (revoked : List ℕ) → OpenedZones program h s now r N old revoked → OpenedZones program more s (now + 1) r N new (with_all revoked t.revoked)
    opened_changed revoked was = record {
      pages = λ f i there. by f i (was.pages f i (sym (entry.maps 0 f i (omega arith)) ∙ there));
      freeable = λ b i. zone b (was.freeable b i);
    }
      where
        below : N < r
        below = ⊎_elim (λ e. omega arith) (λ e. omega arith) numbers.closed

        same_place : (f i : ℕ) → place_at program h s 0 f i ≡ place_at program more s 0 f i
        same_place f i = sym (entry.place (answer (image_of s 0) program) (h.cut 0) f i (numbers.cuts 0)) ∙ ap (λ n. more.place (answer (image_of s 0) program) n f i) (sym (entry.cuts 0 (omega arith)))

        by : (f i : ℕ) → IsLive h now old f i 0 (place_at program h s 0 f i) ⊎ IsOpenedDead h s now N old f i (place_at program h s 0 f i)
            → IsLive more (now + 1) new f i 0 (place_at program more s 0 f i) ⊎ IsOpenedDead more s (now + 1) N new f i (place_at program more s 0 f i)
        by f i (inl live) =
            ⊎_elim
            (λ there. inl (record {
              calm = λ m lo hi un.
                  ⊎_elim
                  (λ lt. live.calm m lo (omega arith) (unmapped_old extends f i m (omega arith) un))
                  (λ ge. let e : m ≡ now + 1 = omega arith in false≢true (sym un.after ∙ ap (λ n. more.maps n f i) e ∙ after.mapped f i (place_at program h s 0 f i) there))
                  (cases_lt m (now + 1));
              there = there ∙ ap Some (same_place f i);
            }))
            (λ none.
            let cut = entry.running r (omega arith) in
            let e : now + 1 - 1 ≡ now = omega arith in
            inr (record {
              k = r;
              entry = now + 1;
              later = omega arith;
              within = omega arith;
              unmapped = record {
                before = ap (λ n. more.maps n f i) e ∙ entry.maps now f i (omega arith) ∙ before.mapped f i (place_at program h s 0 f i) live.there;
                after = ⊎_elim (λ yes. let y = after.there f i yes in absurd (none-some y.0 (sym none ∙ y.1))) (λ no. no) (cases_Bool (more.maps (now + 1) f i));
              };
              of_k = omega arith;
              given_up = inr (below, ap new.quarantine (sym (same_place f i)) ∙ (c.freed (place_at program h s 0 f i) (c.all_dropped f i (place_at program h s 0 f i) live.there none).0).1);
            }))
            (zone_after f i (place_at program h s 0 f i) live.there)
        by f i (inr dead) =
            let le = dead.within in
            let of_k = dead.of_k in
            inr (record {
              k = dead.k;
              entry = dead.entry;
              later = dead.later;
              within = omega arith;
              unmapped = unmapped_new extends f i dead.entry le dead.unmapped;
              of_k = ⊎_elim (λ lt. let e = entry.cuts dead.k lt in omega arith) (λ ge. let e = entry.running dead.k ge in omega arith) (cases_lt dead.k r);
              given_up = ⊎_elim inl (λ q. inr (q.0, ap new.quarantine (sym (same_place f i)) ∙ waiting_stays (place_at program h s 0 f i) dead.k q.1)) dead.given_up;
            })

        zone : (b : ℕ) → (old.metadata b ≡ true) ⊎ In b revoked ⊎ IsFreed s r N old b → (new.metadata b ≡ true) ⊎ In b (with_all revoked t.revoked) ⊎ IsFreed s r N new b
        zone b (inl meta) = ⊎_elim inl (λ none. inr (inl (with_all-In revoked t.revoked b (inr (c.gone b meta none))))) (cases_Bool (new.metadata b))
        zone b (inr (inl i)) = inr (inl (with_all-In revoked t.revoked b (inl i)))
        zone b (inr (inr x)) =
            inr (inr (record { k = x.k; numbered = x.numbered; closed = x.closed; clear = x.clear; given_up = ⊎_elim inl (λ q. inr (q.0, waiting_stays b x.k q.1)) x.given_up }))

    pub altered_changed : (touched changed : List ℕ) → ((f : ℕ) → more.changes r f ≡ true → (h.changes r f ≡ true) ⊎ In f t.nodes) → Altered h s r old touched changed
        → Altered more s r new (without_all (with_all touched t.blocks) t.revoked) (with_all changed t.nodes)
    altered_changed touched changed alters was = record {
      listed = λ f e. with_all-In changed t.nodes f (⊎_elim (λ o. inl (was.listed f o)) inr (alters f e));
      not_empty = λ f j z i there.
          ⊎_elim
          (λ l. let b = before_it f j z l there (old.zone f j) refl in (b.0, without_all-In (with_all touched t.blocks) t.revoked b.0 (with_all-In touched t.blocks b.0 b.1) (λ j. (c.revoked b.0 j).2 b.2), b.2))
          (λ l. let b = c.nodes f j z l there in (b.0, without_all-In (with_all touched t.blocks) t.revoked b.0 (with_all-In touched t.blocks b.0 (inr b.1)) (λ j. (c.revoked b.0 j).2 b.2), b.2))
          (In-with_all changed t.nodes f i);
    }
      where
        before_it : (f j z : ℕ) → In f changed → new.zone f j ≡ Some z → (q : Option ℕ) → old.zone f j ≡ q → (b : ℕ) × (In b touched ⊎ In b t.blocks) × In b s.reserved
        before_it f j z l there (Some y) e = let b = was.not_empty f j y l e in (b.0, inl b.1, b.2)
        before_it f j z l there None e = let b = c.nodes f j z (c.newly f j z e there) there in (b.0, inr b.1, b.2)

    module _ {T V C R : Type 0} (M : Model T V C R) (u : Setup) (v : V) (bytes : (b : ℕ) → M.bytes v b ≡ new.bytes b) where
      abbrev pub pages_after : List CachedPage → List CachedPage
      pages_after pages = written_pages M u v (now + 1) (dropped_pages M u pages t.dropped) t.pages

      pub pages_changed : (pages : List CachedPage) → PagesMapped h now old pages → PagesMapped more (now + 1) new (pages_after pages)
      pages_changed pages was = record {
        cached = λ f i p e. cached f i p (written-cases M u v (now + 1) (dropped_pages M u pages t.dropped) t.pages f i p e);
        all = λ f i z there wrote.
            ⊎_elim
            (λ w. let a = c.all_written f i w in among-written M u v (now + 1) (dropped_pages M u pages t.dropped) t.pages f i (a.0, a.1, a.2, a.3))
            (λ quiet.
            let y = mapped_before f i z there quiet in
            let p = was.all f i y.0 y.1 (subst (λ n. 1 ≤ n) (sym (not_written f i quiet)) wrote) in
            written-stays M u v (now + 1) (dropped_pages M u pages t.dropped) t.pages f i p.0
            (left-dropped M u pages t.dropped f i p.0 p.1
            (λ a. none-some z (sym (ap (λ g. new.zone g i) (sym a.2) ∙ ap (new.zone a.0.birth) (sym a.3) ∙ c.dropped a.0 a.1) ∙ there))))
            (cases_Bool (more.writes (now + 1) f i));
      }
        where
          cached : (f i : ℕ) (p : CachedPage)
              → ((w : FileBlock) × In w t.pages × (w.birth ≡ f) × (w.index ≡ i) × (page_written M u v (now + 1) w ≡ p)) ⊎ ((page_at (dropped_pages M u pages t.dropped) f i ≡ Some p) × (((w : FileBlock) × In w t.pages × (w.birth ≡ f) × (w.index ≡ i)) → ⊥))
              → IsCached more (now + 1) new f i p
          cached f i p (inl (w, there, b, x, e)) =
              let d = c.written w there in
              subst (IsCached more (now + 1) new f i) e (record {
                birth = b;
                index = x;
                zone = ap (λ g. new.zone g i) (sym b) ∙ ap (new.zone w.birth) (sym x) ∙ d.1;
                body = bytes w.block ∙ after.content f i w.block (ap (λ g. new.zone g i) (sym b) ∙ ap (new.zone w.birth) (sym x) ∙ d.1);
                version = last_written f i (ap (λ g. more.writes (now + 1) g i) (sym b) ∙ ap (more.writes (now + 1) w.birth) (sym x) ∙ d.0);
                written = omega arith;
              })
          cached f i p (inr (e, none)) =
              let d = dropped-left M u pages t.dropped f i p e in
              let o = was.cached f i p d.0 in
              let quiet : more.writes (now + 1) f i ≡ false = ⊎_elim (λ w. absurd (none (c.all_written f i w))) (λ q. q) (cases_Bool (more.writes (now + 1) f i)) in
              let there : new.zone f i ≡ Some p.block = ⊎_elim (λ z. z) (λ gone. absurd (d.1 (c.all_dropped f i p.block o.zone gone).1)) (zone_after f i p.block o.zone) in
              record {
                birth = o.birth;
                index = o.index;
                zone = there;
                body = o.body ∙ sym (entry.content f i p.version (let e = o.version in let le = last_write_within h f i now in omega arith));
                version = o.version ∙ not_written f i quiet;
                written = o.written;
              }

      pub sent_changed : (pages : List CachedPage) → PagesSent s pages → PagesSent s (pages_after pages)
      sent_changed pages was = record {
        not_clean = λ f i p e st.
            ⊎_elim
            (λ w. dirty≢clean (ap (λ (q : CachedPage). q.state) w.4 ∙ st))
            (λ o. was.not_clean f i p (dropped-left M u pages t.dropped f i p o.0).0 st)
            (written-cases M u v (now + 1) (dropped_pages M u pages t.dropped) t.pages f i p e);
        firm = λ f i p e st.
            ⊎_elim
            (λ w. absurd (dirty≢firm (ap (λ (q : CachedPage). q.state) w.4 ∙ st)))
            (λ o. was.firm f i p (dropped-left M u pages t.dropped f i p o.0).0 st)
            (written-cases M u v (now + 1) (dropped_pages M u pages t.dropped) t.pages f i p e);
        older = λ o f i w y p page e.
            ⊎_elim
            (λ x. let le = numbers.versions o f i w page.note in let q = ap (λ (q : CachedPage). q.version) x.4 in omega arith)
            (λ x. was.older o f i w y p page (dropped-left M u pages t.dropped f i p x.0).0)
            (written-cases M u v (now + 1) (dropped_pages M u pages t.dropped) t.pages f i p e);
      }
