-- What a begun call's own steps give: its beginning, its walk along its list, and the pages that are sent.
use Rattle.std.proofs.Common.{sym, ap, subst, ◌∙◌, inl, inr, ⊎_elim, arith, eq-eqb}
use Rattle.std.proofs.lemmas.Bool.{cases_Bool, cases_lt, cond-true, cond-false, false≢true}
use Rattle.std.proofs.lemmas.Option.{none-some, same_Some}
use Rattle.std.specs.List.{filter}
use Rattle.std.specs.Prelude.{◌≡◌, ℕ, ◌<◌, ◌≤◌, ◌==◌, ◌&&◌, ◌||◌, ◌⊎◌, Bool, true, false, List, [], ◌∷◌, map, Option, Some, None, IsTrue, if◌then◌else◌, refl}
use Rattle.blk_base.specs.Members.{In}
use Rattle.blk_base.specs.laws.Members.{filter-In, map-In, slice_get-length}
use Rattle.order_model.specs.OrderClosed.{is_flush}
use Rattle.order_model.specs.declared.note.Note.TheVariants.{Page}
use Rattle.volume_ops.specs.Reads.{Reads}
use Rattle.page_cache.specs.Pages.{is_page, page_at, put_page, marked, is_unsent}
use Rattle.page_cache.specs.declared.cached_page.CachedPage.{CachedPage}
use Rattle.page_cache.specs.declared.cached_page.PageState.TheVariants.{Clean, Dirty, Loose, Firm}
use Rattle.page_cache.specs.declared.cached_page.PageState.{PageState}
use Rattle.page_cache.specs.laws.Maps.{is_page-same, page_at-key, page_at-put}
use Rattle.crash_laws.proofs.Growing.{note_new, fence_new, ordered_new}
use Rattle.crash_laws.specs.laws.CallFacts.{IsSent, IsDone}
use Rattle.crash_laws.specs.History.{History, last_write, HasTrees}
use Rattle.crash_laws.specs.PromiseRules.{IsOn, Covers}
use Rattle.crash_laws.specs.Session.{Session}
use Rattle.crash_laws.specs.laws.Submitting.{Submitting, after, new_place}
use Rattle.host_machine.specs.Host.{unsent_on}
use Rattle.host_machine.specs.State.{Begun}
use Rattle.flush_actor.specs.Kinds.{is_whole}
use Rattle.flush_actor.specs.declared.call_kind.CallKind.{CallKind}
use Rattle.flush_actor.specs.declared.wait.Wait.{Wait}
use Rattle.host_machine.specs.laws.Facts.{View, IsPlain, PagesMapped, PagesSent}
use Rattle.host_machine.proofs.RunsLemmas.CallSteps.{mapped_or_gone, last_write_above, sent_old, done_old, call_pushed}
use Rattle.host_machine.specs.runs.Promises.{call_of}
use Rattle.host_machine.specs.runs.laws.CallFacts.{Anywhere, IsToDo, HasSentBarrier, CallFacts}

-- ---- pages

pub page_at-In : (ps : List CachedPage) (f i : ℕ) (p : CachedPage) → page_at ps f i ≡ Some p → In p ps
page_at-In [] f i p e = absurd (none-some p e)
page_at-In (q ∷ ps) f i p e = by (is_page q f i) e (page_at-In ps f i p)
  where
    by : (t : Bool) → (if t then Some q else page_at ps f i) ≡ Some p → (page_at ps f i ≡ Some p → In p ps) → In p (q ∷ ps)
    by true e rest = inl (same_Some q p e)
    by false e rest = inr (rest e)

-- ---- the list of a call

module _ (pages : List CachedPage) where
  -- a page that is not unsent is none to do
  passed : (k : ℕ × ℕ) (ks : List (ℕ × ℕ)) → ((p : CachedPage) → page_at pages k.0 k.1 ≡ Some p → is_unsent p.state ≡ false) → (f i : ℕ) → IsToDo pages (k ∷ ks) f i → IsToDo pages ks f i
  passed k ks sent f i d = record { listed = by d.listed; page = d.page; there = d.there; unsent = d.unsent }
    where
      by : In (f, i) (k ∷ ks) → In (f, i) ks
      by (inl same) = absurd (false≢true (sym (sent d.page (ap (λ (x : ℕ × ℕ). page_at pages x.0 x.1) same ∙ d.there)) ∙ d.unsent))
      by (inr j) = j

  abbrev looked : ℕ × ℕ → List (ℕ × ℕ) → Option CachedPage → Option (CachedPage × List (ℕ × ℕ))
  looked k ks o = elim o as (λ _. Option (CachedPage × List (ℕ × ℕ))) [ None ↦ unsent_on pages ks | Some p ↦ if is_unsent p.state then Some (p, ks) else unsent_on pages ks ]

  pub unsent_on-none : (list : List (ℕ × ℕ)) → unsent_on pages list ≡ None → (f i : ℕ) → IsToDo pages list f i → ⊥
  unsent_on-none [] e f i d = d.listed
  unsent_on-none (k ∷ ks) e f i d = by (page_at pages k.0 k.1) refl e (unsent_on-none ks)
    where
      tested : (p : CachedPage) → page_at pages k.0 k.1 ≡ Some p → (t : Bool) → is_unsent p.state ≡ t → (if t then Some (p, ks) else unsent_on pages ks) ≡ None
          → (unsent_on pages ks ≡ None → (g j : ℕ) → IsToDo pages ks g j → ⊥) → ⊥
      tested p q true t n rest = none-some (p, ks) (sym n)
      tested p q false t n rest = rest n f i (passed k ks (λ x e. ap (λ (y : CachedPage). is_unsent y.state) (same_Some x p (sym e ∙ q)) ∙ t) f i d)

      by : (o : Option CachedPage) → page_at pages k.0 k.1 ≡ o → looked k ks o ≡ None → (unsent_on pages ks ≡ None → (g j : ℕ) → IsToDo pages ks g j → ⊥) → ⊥
      by None q n rest = rest n f i (passed k ks (λ x e. absurd (none-some x (sym q ∙ e))) f i d)
      by (Some p) q n rest = tested p q (is_unsent p.state) refl n rest

  -- The next page is there and unsent, and what is to do is that page or is on the rest of the list.
  pub record IsNext (list : List (ℕ × ℕ)) (p : CachedPage) (ks : List (ℕ × ℕ)) : Type 0 where
    pub there : page_at pages p.birth p.index ≡ Some p
    pub unsent : is_unsent p.state ≡ true
    pub others : (f i : ℕ) → IsToDo pages list f i → ((p.birth ≡ f) × (p.index ≡ i)) ⊎ IsToDo pages ks f i

  pub unsent_on-some : (list : List (ℕ × ℕ)) (p : CachedPage) (rest : List (ℕ × ℕ)) → unsent_on pages list ≡ Some (p, rest) → IsNext list p rest
  unsent_on-some [] p rest e = absurd (none-some (p, rest) e)
  unsent_on-some (k ∷ ks) p rest e = by (page_at pages k.0 k.1) refl e (unsent_on-some ks p rest)
    where
      later : ((x : CachedPage) → page_at pages k.0 k.1 ≡ Some x → is_unsent x.state ≡ false) → IsNext ks p rest → IsNext (k ∷ ks) p rest
      later sent n = record { there = n.there; unsent = n.unsent; others = λ f i d. n.others f i (passed k ks sent f i d) }

      here : (f i : ℕ) → IsToDo pages (k ∷ ks) f i → page_at pages k.0 k.1 ≡ Some p → In (f, i) (k ∷ ks) → ((p.birth ≡ f) × (p.index ≡ i)) ⊎ IsToDo pages ks f i
      here f i d q (inl same) = let key = page_at-key pages k.0 k.1 p q in inl (key.0 ∙ ap (λ (x : ℕ × ℕ). x.0) same, key.1 ∙ ap (λ (x : ℕ × ℕ). x.1) same)
      here f i d q (inr j) = inr (record { listed = j; page = d.page; there = d.there; unsent = d.unsent })

      found : page_at pages k.0 k.1 ≡ Some p → is_unsent p.state ≡ true → IsNext (k ∷ ks) p ks
      found q t =
          let key = page_at-key pages k.0 k.1 p q in
          record {
            there = ap (λ n. page_at pages n p.index) key.0 ∙ ap (page_at pages k.0) key.1 ∙ q;
            unsent = t;
            others = λ f i d. here f i d q d.listed;
          }

      tested : (x : CachedPage) → page_at pages k.0 k.1 ≡ Some x → (t : Bool) → is_unsent x.state ≡ t → (if t then Some (x, ks) else unsent_on pages ks) ≡ Some (p, rest)
          → (unsent_on pages ks ≡ Some (p, rest) → IsNext ks p rest) → IsNext (k ∷ ks) p rest
      tested x q true t n more =
          let e = same_Some (x, ks) (p, rest) n in
          let same = ap (λ (y : CachedPage × List (ℕ × ℕ)). y.0) e in
          subst (IsNext (k ∷ ks) p) (ap (λ (y : CachedPage × List (ℕ × ℕ)). y.1) e) (found (q ∙ ap Some same) (ap (λ (y : CachedPage). is_unsent y.state) (sym same) ∙ t))
      tested x q false t n more = later (λ y e. ap (λ (z : CachedPage). is_unsent z.state) (same_Some y x (sym e ∙ q)) ∙ t) (more n)

      by : (o : Option CachedPage) → page_at pages k.0 k.1 ≡ o → looked k ks o ≡ Some (p, rest) → (unsent_on pages ks ≡ Some (p, rest) → IsNext ks p rest) → IsNext (k ∷ ks) p rest
      by None q n more = later (λ x e. absurd (none-some x (sym q ∙ e))) (more n)
      by (Some x) q n more = tested x q (is_unsent x.state) refl n more

-- ---- the call begins

module _ {A : Type 0} {program : Reads A} {h : History A} {s : Session} {now : ℕ} {v : View} (trees : HasTrees h) (plain : IsPlain program h s now v) (pages : List CachedPage) (mapped : PagesMapped h now v pages) (sent : PagesSent s pages) where
  -- a page of the call that is unsent is listed
  abbrev is_of_call : CallKind → ℕ → CachedPage → Bool
  is_of_call kind file p = is_unsent p.state && (is_whole kind || p.birth == file)

  abbrev listed : CallKind → ℕ → List (ℕ × ℕ)
  listed kind file = map (λ (p : CachedPage). (p.birth, p.index)) (filter (is_of_call kind file) pages)

  on_file : (kind : CallKind) (file f : ℕ) → IsOn (if is_whole kind then None else Some file) f → (is_whole kind || f == file) ≡ true
  on_file kind file f on = by (is_whole kind) on
    where
      by : (t : Bool) → IsOn (if t then None else Some file) f → (t || f == file) ≡ true
      by true o = refl
      by false o = eq-eqb f file (sym o)

  pub begins : (b : Begun) (w : Wait) → b.begin ≡ now → b.list ≡ listed b.kind b.file → b.sent_barrier ≡ false → w.kind ≡ b.kind → w.target ≡ None → w.need ≡ None → (r : ℕ) → CallFacts h s pages now r b w
  begins b w at list no_barrier kind no_target no_need r = record {
    begun = omega arith;
    kind = kind;
    pairs = λ t u f i n c.
        let lt = c.1 in
        ⊎_elim
        (λ gone. inl (inr gone))
        (λ here.
        let z = plain.there f i here in
        let last = last_write_above h f i n now c.2 (omega arith) in
        let pos : 1 ≤ n = ⊎_elim (λ x. x) (λ x. let e : n ≡ 0 = omega arith in absurd (false≢true (sym (trees.unwritten f i) ∙ ap (λ m. h.writes m f i) (sym e) ∙ c.2))) (cases_lt 0 n) in
        let p = mapped.all f i z.0 z.1 (omega arith) in
        of_page f i n c p.0 p.1 (mapped.cached f i p.0 p.1).version (p.0.state) refl)
        (mapped_or_gone h trees f i n now c.2 (omega arith));
    barrier = λ e. absurd (false≢true (sym no_barrier ∙ e));
    target = λ T e. absurd (none-some T (sym no_target ∙ e));
    need = λ id e. absurd (none-some id (sym no_need ∙ e));
    cause = λ id e u. absurd (none-some id (sym no_need ∙ e));
  }
    where
      to_do : (f i : ℕ) → IsOn (call_of b).file f → (p : CachedPage) → page_at pages f i ≡ Some p → is_unsent p.state ≡ true → IsToDo pages b.list f i
      to_do f i on p there unsent =
          let key = page_at-key pages f i p there in
          let test : is_of_call b.kind b.file p ≡ true =
          ap (λ t. t && (is_whole b.kind || p.birth == b.file)) unsent ∙ ap (λ n. is_whole b.kind || n == b.file) key.0 ∙ on_file b.kind b.file f on in
          let i_in = map-In (λ (q : CachedPage). (q.birth, q.index)) (filter (is_of_call b.kind b.file) pages) p (filter-In (is_of_call b.kind b.file) pages p (page_at-In pages f i p there) test) in
          record {
            listed = subst (In (f, i)) (sym list) (subst (λ (k : ℕ × ℕ). In k (listed b.kind b.file)) (ap (λ n. (n, p.index)) key.0 ∙ ap (λ n. (f, n)) key.1) i_in);
            page = p;
            there = there;
            unsent = unsent;
          }

      of_page : (f i n : ℕ) → Covers h (call_of b) f i n → (p : CachedPage) → page_at pages f i ≡ Some p → p.version ≡ last_write h f i now → (st : PageState) → p.state ≡ st → IsDone h s Anywhere now f i n ⊎ IsToDo pages b.list f i
      of_page f i n c p there version Clean st = absurd (sent.not_clean f i p there st)
      of_page f i n c p there version Dirty st = inr (to_do f i c.0 p there (ap is_unsent st))
      of_page f i n c p there version Loose st = inr (to_do f i c.0 p there (ap is_unsent st))
      of_page f i n c p there version Firm st =
          let o = sent.firm f i p there st in
          let lt = c.1 in
          let last = last_write_above h f i n now c.2 (omega arith) in
          inl (inl (record { place = o.0; version = p.version; note = o.1.note; ordered = o.2; good = tt; later = omega arith }))

-- ---- a page is sent

module _ {A : Type 0} {h : History A} {now : ℕ} {v : View} (p : Submitting) (pages : List CachedPage) (mapped : PagesMapped h now v pages) (q : CachedPage) (here : page_at pages q.birth q.index ≡ Some q) (note : p.note ≡ Page q.birth q.index q.version) where
  -- its pair is done by this request, where it is order-preserving
  sent_now : (f i n : ℕ) {Good : ℕ → Type 0} → IsTrue p.request.ordered → (q.birth ≡ f) × (q.index ≡ i) → h.writes n f i ≡ true → n ≤ now → Good (new_place p) → IsSent (after p) Good f i n
  sent_now f i n ordered same w le good =
      let there : page_at pages f i ≡ Some q = ap (λ g. page_at pages g i) (sym same.0) ∙ ap (page_at pages q.birth) (sym same.1) ∙ here in
      let version = (mapped.cached f i q there).version in
      let last = last_write_above h f i n now w le in
      record {
        place = new_place p;
        version = q.version;
        note = note_new p ∙ ap Some (note ∙ ap (λ g. Page g q.index q.version) same.0 ∙ ap (λ j. Page f j q.version) same.1);
        ordered = ordered_new p ordered;
        good = good;
        later = omega arith;
      }

  -- what is to do of another page stays to do
  other_page : (st : PageState) (list : List (ℕ × ℕ)) (f i : ℕ) → IsToDo pages list f i → is_page (marked q st) f i ≡ false → IsToDo (put_page pages (marked q st)) list f i
  other_page st list f i d apart = record {
    listed = d.listed;
    page = d.page;
    there = page_at-put pages (marked q st) f i ∙ cond-false (is_page (marked q st) f i) (Some (marked q st)) (page_at pages f i) apart ∙ d.there;
    unsent = d.unsent;
  }

  same_page : (st : PageState) (list : List (ℕ × ℕ)) (f i : ℕ) → IsToDo pages list f i → is_page (marked q st) f i ≡ true → is_unsent st ≡ true → IsToDo (put_page pages (marked q st)) list f i
  same_page st list f i d own unsent = record {
    listed = d.listed;
    page = marked q st;
    there = page_at-put pages (marked q st) f i ∙ cond-true (is_page (marked q st) f i) (Some (marked q st)) (page_at pages f i) own;
    unsent = unsent;
  }

  -- one step of what is to do: it is done by this request, or stays to do
  done_or_stays : (st : PageState) (ordered : (is_unsent st ≡ false) → IsTrue p.request.ordered) (list : List (ℕ × ℕ)) (f i n : ℕ) → h.writes n f i ≡ true → n ≤ now → IsToDo pages list f i
      → IsSent (after p) Anywhere f i n ⊎ IsToDo (put_page pages (marked q st)) list f i
  done_or_stays st ordered list f i n w le d =
      ⊎_elim
      (λ yes.
      ⊎_elim
      (λ loose. inr (same_page st list f i d yes loose))
      (λ firm. inl (sent_now f i n (ordered firm) (is_page-same (marked q st) f i yes) w le tt))
      (cases_Bool (is_unsent st)))
      (λ no. inr (other_page st list f i d no))
      (cases_Bool (is_page (marked q st) f i))

  -- For any call: where the page goes out order-preserving it is Firm, else Loose.
  pub call_sent : (r : ℕ) (b : Begun) (w : Wait) (st : PageState) → (is_unsent st ≡ false → IsTrue p.request.ordered) → CallFacts h p.session pages now r b w → CallFacts h (after p) (put_page pages (marked q st)) now r b w
  call_sent r b w st ordered old =
      let now_facts = call_pushed p old in
      let begun = old.begun in
      record {
        begun = old.begun;
        kind = old.kind;
        pairs = λ t u f i n c.
            let lt = c.1 in
            ⊎_elim
            (λ d. inl d)
            (λ d. ⊎_elim (λ x. inl (inl x)) (λ x. inr x) (done_or_stays st ordered b.list f i n c.2 (omega arith) d))
            (now_facts.pairs t u f i n c);
        barrier = now_facts.barrier;
        target = now_facts.target;
        need = now_facts.need;
        cause = now_facts.cause;
      }

  -- For the call that walks on along its list: it sends the page order-preserving, as a barrier only where
  -- nothing is left.
  pub call_walks : (r : ℕ) (b : Begun) (w : Wait) (rest : List (ℕ × ℕ)) (barrier : Bool) → IsNext pages b.list q rest → IsTrue p.request.ordered → (barrier ≡ true → (unsent_on pages rest ≡ None) × IsTrue (p.request.barrier || is_flush p.request.kind))
      → w.target ≡ None → w.need ≡ None → CallFacts h p.session pages now r b w → CallFacts h (after p) (put_page pages (marked q Firm)) now r (record b { list = rest; sent_barrier = b.sent_barrier || barrier }) w
  call_walks r b w rest barrier next ordered last no_target no_need old =
      let now_facts = call_pushed p old in
      let begun = old.begun in
      record {
        begun = old.begun;
        kind = old.kind;
        pairs = λ t u f i n c.
            let lt = c.1 in
            ⊎_elim
            (λ d. inl (done_old p d))
            (λ d.
            ⊎_elim
            (λ same. inl (inl (sent_now f i n ordered same c.2 (omega arith) tt)))
            (λ d. ⊎_elim (λ x. inl (inl x)) (λ x. inr x) (done_or_stays Firm (λ e. ordered) rest f i n c.2 (omega arith) d))
            (next.others f i d))
            (old.pairs t u f i n c);
        barrier = λ e. by b.sent_barrier refl barrier refl e;
        target = λ T e. absurd (none-some T (sym no_target ∙ e));
        need = λ id e. absurd (none-some id (sym no_need ∙ e));
        cause = λ id e u. absurd (none-some id (sym no_need ∙ e));
      }
    where
      -- behind all that was sent
      behind : (is_last : unsent_on pages rest ≡ None) (f i n : ℕ) → Covers h (call_of b) f i n → IsDone h (after p) (λ o. o ≤ new_place p) now f i n
      behind is_last f i n c =
          let lt = c.1 in
          let begun = old.begun in
          ⊎_elim
          (λ d.
          ⊎_elim
          (λ x.
          let within = slice_get-length p.session.notes x.place (Page f i x.version) x.note in
          inl (sent_old p (record { place = x.place; version = x.version; note = x.note; ordered = x.ordered; good = omega arith; later = x.later })))
          (λ g. inr g)
          d)
          (λ d.
          ⊎_elim
          (λ same. inl (sent_now f i n ordered same c.2 (omega arith) (omega arith)))
          (λ d. absurd (unsent_on-none pages rest is_last f i d))
          (next.others f i d))
          (old.pairs no_target no_need f i n c)

      by : (x : Bool) → b.sent_barrier ≡ x → (y : Bool) → barrier ≡ y → (b.sent_barrier || barrier) ≡ true → HasSentBarrier h (after p) now (record b { list = rest; sent_barrier = b.sent_barrier || barrier })
      by true e y u t = let o = (call_pushed p old).barrier e in record { barrier = o.barrier; fence = o.fence; pairs = o.pairs }
      by false e true u t = let l = last u in record { barrier = new_place p; fence = fence_new p l.1; pairs = behind l.0 }
      by false e false u t = absurd (false≢true (sym (ap (λ x. x || barrier) e ∙ u) ∙ t))
