-- The running transaction closes: what the facts give of its image, and what they are for the next one.
use Rattle.std.proofs.Common.{sym, ap, subst, ◌∙◌, inl, inr, ⊎_elim, arith, eqb-true, eq-eqb}
use Rattle.std.proofs.lemmas.Bool.{cases_Bool, cases_lt, false≢true}
use Rattle.std.proofs.lemmas.Option.{none-some}
use Rattle.std.specs.Prelude.{◌≡◌, ℕ, ◌+◌, ◌-◌, ◌<◌, ◌≤◌, ◌==◌, ◌⊎◌, Bool, true, false, List, [], ◌∷◌, length, map, Some, refl, if◌then◌else◌}
use Rattle.blk_base.specs.Members.{In}
use Rattle.blk_base.specs.laws.Members.{slice_get-length}
use Rattle.order_model.specs.declared.note.Note.TheVariants.{Page}
use Rattle.log_model.proofs.Marks.{clear≢set, mark-split}
use Rattle.log_model.specs.Marks.{Transaction, Logged, Mark, Keep, Clear, Set, followed, bodies_mark, mark_in, transaction_mark, body_after, transactions_from}
use Rattle.volume_ops.specs.Reads.{Reads, answer, blocks_read, AgreeOn}
use Rattle.volume_ops.specs.laws.ReadsLaws.{answer-agrees, blocks_read-agree}
use Rattle.volume_ops.specs.Volume.{disk_of}
use Rattle.page_cache.specs.Pages.{page_at}
use Rattle.page_cache.specs.declared.cached_page.CachedPage.{CachedPage}
use Rattle.page_cache.specs.declared.cached_page.PageState.TheVariants.{Firm}
use Rattle.crash_laws.proofs.LogSteps.{same_transactions}
use Rattle.crash_laws.proofs.PlanSteps.{behind_later}
use Rattle.crash_laws.specs.History.{History, last_write, HasTrees}
use Rattle.crash_laws.specs.PageRules.{IsPageTo, place_at}
use Rattle.crash_laws.specs.Rules.{CommitOrder, IsOlder}
use Rattle.crash_laws.specs.Session.{Session, IsCommit, image_of}
use Rattle.number_sets.specs.laws.Members.{has-In, In-has}
use Rattle.number_sets.specs.Sets.{has}
use Rattle.host_machine.specs.laws.Facts.{View, IsPlain, Numbers, Present, Bodies, PlanRevokes, KeepsPlaces, PagesMapped, PagesSent, ZoneHistory, IsFreed, OpenedZones, Altered, OnItsWay}

-- the bodies that blocks have now
abbrev pub bodies_in : (ℕ → List ℕ) → List ℕ → List Logged
bodies_in bytes blocks = map (λ b. record { block = b; body = bytes b }) blocks

one_body : (bytes : ℕ → List ℕ) (b c : ℕ) (t : Bool) → (b == c) ≡ t → (m : Mark) → (m ≡ Keep) ⊎ (m ≡ Set (bytes c)) → (t ≡ true) ⊎ (m ≡ Set (bytes c)) → followed (if t then Set (bytes b) else Keep) m ≡ Set (bytes c)
one_body bytes b c true e m (inl k) some = ap (followed (Set (bytes b))) k ∙ ap (λ x. Set (bytes x)) (eqb-true b c e)
one_body bytes b c true e m (inr k) some = ap (followed (Set (bytes b))) k
one_body bytes b c false e m k (inl t) = absurd (false≢true t)
one_body bytes b c false e m k (inr q) = ap (followed Keep) q

body_or_none : (bytes : ℕ → List ℕ) (blocks : List ℕ) (c : ℕ) → (bodies_mark (bodies_in bytes blocks) c ≡ Keep) ⊎ (bodies_mark (bodies_in bytes blocks) c ≡ Set (bytes c))
body_or_none bytes [] c = inl refl
body_or_none bytes (b ∷ bs) c = by (body_or_none bytes bs c) (b == c) refl
  where
    by : (bodies_mark (bodies_in bytes bs) c ≡ Keep) ⊎ (bodies_mark (bodies_in bytes bs) c ≡ Set (bytes c)) → (t : Bool) → (b == c) ≡ t
        → (followed (if t then Set (bytes b) else Keep) (bodies_mark (bodies_in bytes bs) c) ≡ Keep) ⊎ (followed (if t then Set (bytes b) else Keep) (bodies_mark (bodies_in bytes bs) c) ≡ Set (bytes c))
    by rest true e = inr (one_body bytes b c true e (bodies_mark (bodies_in bytes bs) c) rest (inl refl))
    by (inl k) false e = inl (ap (followed Keep) k)
    by (inr k) false e = inr (ap (followed Keep) k)

-- a block that is among them has its body, and no other has one
pub body_of : (bytes : ℕ → List ℕ) (blocks : List ℕ) (c : ℕ) → In c blocks → bodies_mark (bodies_in bytes blocks) c ≡ Set (bytes c)
body_of bytes [] c i = absurd i
body_of bytes (b ∷ bs) c (inl e) = one_body bytes b c (b == c) refl (bodies_mark (bodies_in bytes bs) c) (body_or_none bytes bs c) (inl (eq-eqb b c e))
body_of bytes (b ∷ bs) c (inr i) = one_body bytes b c (b == c) refl (bodies_mark (bodies_in bytes bs) c) (body_or_none bytes bs c) (inr (body_of bytes bs c i))

pub no_body : (bytes : ℕ → List ℕ) (blocks : List ℕ) (c : ℕ) → has blocks c ≡ false → bodies_mark (bodies_in bytes blocks) c ≡ Keep
no_body bytes [] c e = refl
no_body bytes (b ∷ bs) c e = by (no_body bytes bs c) (b == c) refl e
  where
    by : (has bs c ≡ false → bodies_mark (bodies_in bytes bs) c ≡ Keep) → (t : Bool) → (b == c) ≡ t → has (b ∷ bs) c ≡ false → followed (if t then Set (bytes b) else Keep) (bodies_mark (bodies_in bytes bs) c) ≡ Keep
    by rest true q f = absurd (false≢true (sym f ∙ In-has (b ∷ bs) c (inl (eqb-true b c q))))
    by rest false q f = ap (followed Keep) (rest (not_behind (has bs c) refl))
      where
        not_behind : (t : Bool) → has bs c ≡ t → has bs c ≡ false
        not_behind false t = t
        not_behind true t = absurd (false≢true (sym f ∙ In-has (b ∷ bs) c (inr (has-In bs c t))))

module _ {A : Type 0} {program : Reads A} {h : History A} {s : Session} {now r N : ℕ} {v : View} {touched revoked : List ℕ}
    (trees : HasTrees h) (order : CommitOrder s) (numbers : Numbers h s now r N) (plain : IsPlain program h s now v) (present : Present s r v touched) (bodies : Bodies s r v touched revoked) (history : ZoneHistory h s now N v)
    (transactions : ℕ → Transaction) (same : (k : ℕ) → 1 ≤ k → k < r → transactions k ≡ s.transactions k) (planned : transactions r ≡ record { bodies = bodies_in v.bytes touched; revokes = revoked }) (all_closed : N + 1 ≡ r) where
  -- the transaction is told
  abbrev pub told : Session
  told = record s { transactions = transactions }

  runs : (k : ℕ) → k < r → transactions_from transactions 1 k ≡ transactions_from s.transactions 1 k
  runs k lt = same_transactions transactions s.transactions 1 k (λ j lo hi. same j lo (omega arith))

  -- an older image is as it was
  pub walk_before : (k : ℕ) → k < r → answer (image_of told k) program ≡ answer (image_of s k) program
  walk_before k lt = ap (λ txs. answer (λ b. body_after (mark_in txs b) (disk_of s.base b)) program) (runs k lt)

  mark_before : (b : ℕ) → mark_in (transactions_from transactions 1 (r - 1)) b ≡ mark_in (transactions_from s.transactions 1 (r - 1)) b
  mark_before b = ap (λ txs. mark_in txs b) (runs (r - 1) (omega arith))

  mark_after : (b : ℕ) → mark_in (transactions_from transactions 1 r) b ≡ followed (mark_in (transactions_from s.transactions 1 (r - 1)) b) (transaction_mark (record { bodies = bodies_in v.bytes touched; revokes = revoked }) b)
  mark_after b =
      let e : r ≡ r - 1 + 1 = omega arith in
      let q : 1 + (r - 1) + 0 ≡ r = omega arith in
      ap (λ n. mark_in (transactions_from transactions 1 n) b) e
      ∙ mark-split transactions (r - 1) 1 b
      ∙ ap (λ m. followed m (mark_in (transactions_from transactions (1 + (r - 1)) 1) b)) (mark_before b)
      ∙ ap (λ n. followed (mark_in (transactions_from s.transactions 1 (r - 1)) b) (mark_in (transactions n ∷ []) b)) q
      ∙ ap (λ t. followed (mark_in (transactions_from s.transactions 1 (r - 1)) b) (transaction_mark t b)) planned

  not_revoked : (b : ℕ) → v.metadata b ≡ true → has revoked b ≡ false
  not_revoked b meta =
      ⊎_elim
      (λ t. absurd (none-some r (sym (plain.metadata_free b meta) ∙ bodies.waits b (has-In revoked b t))))
      (λ f. f)
      (cases_Bool (has revoked b))

  mark_on_metadata : (b : ℕ) → v.metadata b ≡ true → mark_in (transactions_from transactions 1 r) b ≡ followed (mark_in (transactions_from s.transactions 1 (r - 1)) b) (bodies_mark (bodies_in v.bytes touched) b)
  mark_on_metadata b meta =
      mark_after b ∙ ap (λ u. followed (mark_in (transactions_from s.transactions 1 (r - 1)) b) (followed (bodies_mark (bodies_in v.bytes touched) b) (if u then Clear else Keep))) (not_revoked b meta)

  mark_touched : (b : ℕ) → v.metadata b ≡ true → In b touched → mark_in (transactions_from transactions 1 r) b ≡ Set (v.bytes b)
  mark_touched b meta i = mark_on_metadata b meta ∙ ap (followed (mark_in (transactions_from s.transactions 1 (r - 1)) b)) (body_of v.bytes touched b i)

  mark_kept : (b : ℕ) → v.metadata b ≡ true → has touched b ≡ false → mark_in (transactions_from transactions 1 r) b ≡ mark_in (transactions_from s.transactions 1 (r - 1)) b
  mark_kept b meta f = mark_on_metadata b meta ∙ ap (followed (mark_in (transactions_from s.transactions 1 (r - 1)) b)) (no_body v.bytes touched b f)

  -- The new image has the volume's metadata.
  pub image_is_present : (b : ℕ) → v.metadata b ≡ true → image_of told r b ≡ v.bytes b
  image_is_present b meta =
      ⊎_elim
      (λ t. ap (λ m. body_after m (disk_of s.base b)) (mark_touched b meta (has-In touched b t)))
      (λ f.
      ⊎_elim
      (λ i. absurd (false≢true (sym f ∙ In-has touched b i)))
      (λ old. ap (λ m. body_after m (disk_of s.base b)) (mark_kept b meta f) ∙ sym old.0)
      (present.present b meta))
      (cases_Bool (has touched b))

  logged_or_reserved : (b : ℕ) → v.metadata b ≡ true → IsOlder told r b ⊎ ((x : List ℕ) × (mark_in (transactions_from transactions 1 r) b ≡ Set x))
  logged_or_reserved b meta =
      ⊎_elim
      (λ t. inr (v.bytes b, mark_touched b meta (has-In touched b t)))
      (λ f.
      ⊎_elim
      (λ i. absurd (false≢true (sym f ∙ In-has touched b i)))
      (λ old. ⊎_elim (λ older. inl (⊎_elim inl (λ keep. inr (keep.0, mark_kept b meta f ∙ keep.1)) older)) (λ set. inr (set.0, mark_kept b meta f ∙ set.1)) old.1)
      (present.present b meta))
      (cases_Bool (has touched b))

  agrees : AgreeOn (blocks_read v.bytes program) v.bytes (image_of told r)
  agrees b read = image_is_present b (plain.walk b read)

  pub walk_of_image : answer (image_of told r) program ≡ answer v.bytes program
  walk_of_image = answer-agrees v.bytes (image_of told r) program agrees

  -- A body in the new image lies on metadata.
  pub bodies_after : (b : ℕ) (x : List ℕ) → mark_in (transactions_from transactions 1 r) b ≡ Set x → v.metadata b ≡ true
  bodies_after b x set = by (has revoked b) refl (cases_Bool (has touched b)) (sym (mark_after b) ∙ set)
    where
      before : Mark
      before = mark_in (transactions_from s.transactions 1 (r - 1)) b

      by : (u : Bool) → has revoked b ≡ u → (has touched b ≡ true) ⊎ (has touched b ≡ false) → followed before (followed (bodies_mark (bodies_in v.bytes touched) b) (if has revoked b then Clear else Keep)) ≡ Set x → v.metadata b ≡ true
      by true e t q = absurd (clear≢set x (sym (ap (λ w. followed before (followed (bodies_mark (bodies_in v.bytes touched) b) (if w then Clear else Keep))) e) ∙ q))
      by false e (inl t) q = bodies.bodies_on b (has-In touched b t)
      by false e (inr t) q =
          let old : before ≡ Set x = sym (ap (λ w. followed before (followed (bodies_mark (bodies_in v.bytes touched) b) (if w then Clear else Keep))) e ∙ ap (followed before) (no_body v.bytes touched b t)) ∙ q in
          ⊎_elim (λ meta. meta) (λ i. absurd (false≢true (sym e ∙ In-has revoked b i))) (bodies.on_metadata b x old)

  place_of_page : (f i z : ℕ) → v.zone f i ≡ Some z → place_at program h told r f i ≡ z
  place_of_page f i z there =
      ap (λ a. h.place a (h.cut r) f i) walk_of_image ∙ ap (λ n. h.place (answer v.bytes program) n f i) (numbers.running r (omega arith)) ∙ plain.places f i z there

  -- ---- what the commit block will owe

  pub on_its_way : {pages : List CachedPage} {changed : List ℕ} → PagesMapped h now v pages → PagesSent s pages → Altered h s r v touched changed → OpenedZones program h s now r N v revoked
      → ((f i : ℕ) (p : CachedPage) → In f changed → page_at pages f i ≡ Some p → p.state ≡ Firm) → OnItsWay program h told r (length s.notes)
  on_its_way mapped sent altered opened all_sent = record {
    place = λ o f i w z page maps calm back.
        ⊎_elim
        (λ live. sym (place_of_page f i z live.there))
        (λ dead. let le = dead.within in let e = numbers.running r (omega arith) in absurd (calm dead.entry dead.later (omega arith) dead.unmapped))
        (history.live_or_dead o f i w z (old_page o f i w z page));
    logged = λ o f i w z x page set. given_up o f i w z x (old_page o f i w z page) set;
    files = λ f i x maps set.
        let z = plain.there f i (ap (λ n. h.maps n f i) (sym (numbers.running r (omega arith))) ∙ maps) in
        let meta = bodies_after z.0 x (ap (mark_in (transactions_from transactions 1 r)) (sym (place_of_page f i z.0 z.1)) ∙ set) in
        false≢true (sym (plain.page_free f i z.0 z.1).0 ∙ meta);
    stays = λ f i there calm.
        ⊎_elim
        (λ live. sym (place_of_page f i (place_at program h s 0 f i) live.there))
        (λ dead. let le = dead.within in let e = numbers.running r (omega arith) in absurd (calm dead.entry dead.later (omega arith) dead.unmapped))
        (opened.pages f i there);
    walked = λ b read. logged_or_reserved b (plain.walk b (subst (In b) (blocks_read-agree v.bytes (image_of told r) program agrees) read));
    low = λ b x set. plain.metadata_low b (bodies_after b x set);
    own = λ b i e. bodies.own b (subst (λ (t : Transaction). In b t.revokes) planned i) e;
    sent = λ f i ch maps wrote.
        let e = numbers.running r (omega arith) in
        let z = plain.there f i (ap (λ n. h.maps n f i) (sym e) ∙ maps) in
        let p = mapped.all f i z.0 z.1 (subst (λ n. 1 ≤ last_write h f i n) e wrote) in
        let o = sent.firm f i p.0 p.1 (all_sent f i p.0 (altered.listed f ch) p.1) in
        let version = (mapped.cached f i p.0 p.1).version ∙ ap (last_write h f i) (sym e) in
        (o.0, o.1.note ∙ ap (λ w. Some (Page f i w)) version, o.2, slice_get-length s.notes o.0 (Page f i p.0.version) o.1.note);
  }
    where
      old_page : (o f i w z : ℕ) → IsPageTo told o f i w z → IsPageTo s o f i w z
      old_page o f i w z t = record { note = t.note; put = t.put }

      given_up : (o f i w z : ℕ) (x : List ℕ) → IsPageTo s o f i w z → mark_in (transactions_from transactions 1 r) z ≡ Set x → (c : ℕ) × IsCommit s (r - 1) c × (o < c) × (w ≤ h.cut (r - 1))
      given_up o f i w z x page set =
          let meta = bodies_after z x set in
          ⊎_elim
          (λ live. absurd (false≢true (sym (plain.page_free f i z live.there).0 ∙ meta)))
          (λ dead.
          ⊎_elim
          (λ c.
          let le = numbers.no_more dead.k c.0 c.1 in
          let later = dead.later in
          let hi = dead.of_k in
          behind_later trees order dead.k (r - 1) c.0 o w (omega arith) c.1 c.2 (omega arith) (λ pos. numbers.committed (r - 1) pos (omega arith)))
          (λ waits. absurd (none-some dead.k (sym (plain.metadata_free z meta) ∙ waits.1)))
          dead.given_up)
          (history.live_or_dead o f i w z page)

  -- ---- the facts for the next transaction

  pub numbers_closed : Numbers h told now (r + 1) N
  numbers_closed = record {
    closed = inr (let e : N + 2 ≡ r + 1 = omega arith in e);
    committed = numbers.committed;
    no_more = numbers.no_more;
    cuts = numbers.cuts;
    running = λ k le. numbers.running k (omega arith);
    versions = numbers.versions;
  }

  last_closed : r + 1 - 1 ≡ r
  last_closed = omega arith

  pub present_closed : Present told (r + 1) v []
  present_closed = record {
    present = λ b meta.
        inr (
          sym (image_is_present b meta) ∙ ap (λ k. image_of told k b) (sym last_closed),
          ⊎_elim (λ older. inl (⊎_elim inl (λ keep. inr (keep.0, ap (λ k. mark_in (transactions_from transactions 1 k) b) last_closed ∙ keep.1)) older)) (λ set. inr (set.0, ap (λ k. mark_in (transactions_from transactions 1 k) b) last_closed ∙ set.1)) (logged_or_reserved b meta),
        );
  }

  pub bodies_closed : Bodies told (r + 1) v [] []
  bodies_closed = record {
    on_metadata = λ b x set. inl (bodies_after b x (ap (λ k. mark_in (transactions_from transactions 1 k) b) (sym last_closed) ∙ set));
    bodies_on = λ b i. absurd i;
    waits = λ b i. absurd i;
    own = λ b i. absurd i;
  }

  pub plan_revokes_closed : PlanRevokes told (r + 1) N v
  plan_revokes_closed = record {
    waits = λ b on i.
        bodies.waits b (subst (λ (t : Transaction). In b t.revokes) (ap transactions all_closed ∙ planned) i) ∙ ap Some (sym all_closed);
  }

  pub places_closed : KeepsPlaces program h s now r v → KeepsPlaces program h told now (r + 1) v
  places_closed was = record {
    kept = λ k f i z lt maps calm there.
        ⊎_elim
        (λ before. was.kept k f i z before maps calm there ∙ ap (λ txs. h.place (answer (λ b. body_after (mark_in txs b) (disk_of s.base b)) program) (h.cut k) f i) (sym (runs k before)))
        (λ ge. let e : r ≡ k = omega arith in sym (place_of_page f i z there) ∙ ap (λ n. place_at program h told n f i) e)
        (cases_lt k r);
  }

  pub opened_closed : OpenedZones program h s now r N v revoked → OpenedZones program h told now (r + 1) N v []
  opened_closed was = record {
    pages = λ f i there.
        ⊎_elim (λ live. inl (record { calm = live.calm; there = live.there }))
        (λ dead. inr (record { k = dead.k; entry = dead.entry; later = dead.later; within = dead.within; unmapped = dead.unmapped; of_k = dead.of_k; given_up = dead.given_up }))
        (was.pages f i there);
    freeable = λ b i. zone b (was.freeable b i);
  }
    where
      zone : (b : ℕ) → (v.metadata b ≡ true) ⊎ In b revoked ⊎ IsFreed s r N v b → (v.metadata b ≡ true) ⊎ In b [] ⊎ IsFreed told (r + 1) N v b
      zone b (inl meta) = inl meta
      zone b (inr (inl i)) =
          inr (inr (record {
            k = r;
            numbered = omega arith;
            closed = omega arith;
            clear = mark_after b ∙ ap (λ u. followed (mark_in (transactions_from s.transactions 1 (r - 1)) b) (followed (bodies_mark (bodies_in v.bytes touched) b) (if u then Clear else Keep))) (In-has revoked b i);
            given_up = inr (omega arith, bodies.waits b i);
          }))
      zone b (inr (inr x)) =
          let lt = x.closed in
          inr (inr (record { k = x.k; numbered = x.numbered; closed = omega arith; clear = ap (λ txs. mark_in txs b) (runs x.k lt) ∙ x.clear; given_up = x.given_up }))

-- ---- where nothing is told anew but transactions

module _ {s : Session} (transactions : ℕ → Transaction) where
  page_told : (o f i w z : ℕ) → IsPageTo s o f i w z → IsPageTo (record s { transactions = transactions }) o f i w z
  page_told o f i w z t = record { note = t.note; put = t.put }

  page_untold : (o f i w z : ℕ) → IsPageTo (record s { transactions = transactions }) o f i w z → IsPageTo s o f i w z
  page_untold o f i w z t = record { note = t.note; put = t.put }

  pub sent_told : {pages : List CachedPage} → PagesSent s pages → PagesSent (record s { transactions = transactions }) pages
  sent_told was = record {
    not_clean = was.not_clean;
    firm = λ f i p e st. let o = was.firm f i p e st in (o.0, page_told o.0 f i p.version p.block o.1, o.2);
    older = λ o f i w y p t e. was.older o f i w y p (page_untold o f i w y t) e;
  }

  pub history_told : {A : Type 0} {h : History A} {now N : ℕ} {v : View} → ZoneHistory h s now N v → ZoneHistory h (record s { transactions = transactions }) now N v
  history_told was = record {
    live_or_dead = λ o f i w z t.
        ⊎_elim inl
        (λ dead. inr (record { k = dead.k; entry = dead.entry; later = dead.later; within = dead.within; unmapped = dead.unmapped; of_k = dead.of_k; given_up = dead.given_up }))
        (was.live_or_dead o f i w z (page_untold o f i w z t));
  }
