-- The lists of unsent and of Dirty pages at each step of the code, and what is read in them.
use Rattle.std.proofs.Common.{◌≡◌, ◌≢◌, ℕ, ◌≤◌, ◌&&◌, Bool, true, false, not, cond, List, [], ◌∷◌, length, map, Option, Some, None, refl, sym, ap, subst, ◌∙◌, arith}
use Rattle.std.specs.Prelude.{Result, Ok, Err, IfOk}
use Rattle.std.specs.List.{filter, slice_get}
use Rattle.std.specs.Option.{option_map}
use Rattle.std.proofs.lemmas.List.{length-map}
use Rattle.std.proofs.lemmas.List.Sums.{length-filter, count_by-le-length}
use Rattle.std.proofs.lemmas.Option.{none-some, same_Some}
use Rattle.blk_base.specs.Members.{In}
use Rattle.blk_base.specs.laws.Members.{In-filter, slice_get-In}
use Rattle.number_sets.specs.Sets.{has}
use Rattle.page_cache.specs.declared.cached_page.CachedPage.{CachedPage}
use Rattle.page_cache.specs.declared.cached_page.PageState.{PageState}
use Rattle.page_cache.specs.Pages.{Cache, with_pages, IsRising, is_page, is_unsent, is_dirty, key_of, page_at, put_page, drop_page, marked, mark_page, next_unsent, next_in_file, unsent_of, dirty_page}
use Rattle.page_cache.specs.Unsent.{is_in, unsent_keys}
use Rattle.page_cache.specs.code.Keys.{IsRisingKeys, keys_where, place_of, drop_key, with_key, is_key_in, first_of}
use Rattle.page_cache.specs.code.Pages.{IsCache}
use Rattle.page_cache.specs.laws.Maps.{page_at-key}
use Rattle.page_cache.specs.laws.Order.{put-rising, drop-rising, put-known, page_at-In, keyed}
use Rattle.page_cache.proofs.Places.{file_next, no_file_next, nothing_next, found_is_there}
use Rattle.page_cache.proofs.Keyed.{pages_where, with_page, keys_rising, keys_put, keys_drop, keys_next}

-- ---- one list

pub list_rising : (test : PageState → Bool) (ps : List CachedPage) (ks : List (ℕ × ℕ)) → IsRising ps → ks ≡ keys_where test ps → IsRisingKeys ks
list_rising test ps ks r e = subst IsRisingKeys (sym e) (keys_rising test ps r)

few_keys : (test : PageState → Bool) (ps : List CachedPage) → length (keys_where test ps) ≤ length ps
few_keys test ps =
    let long = length-map (filter (λ (p : CachedPage). test p.state) ps) key_of in
    let size = length-filter (λ (p : CachedPage). test p.state) ps in
    let fewer = count_by-le-length (λ (p : CachedPage). test p.state) ps in
    omega arith

list_put : (test : PageState → Bool) (ps : List CachedPage) (ks : List (ℕ × ℕ)) (q : CachedPage) → IsRising ps → ks ≡ keys_where test ps → with_key ks q.birth q.index (test q.state) ≡ keys_where test (put_page ps q)
list_put test ps ks q r e = ap (λ xs. with_key xs q.birth q.index (test q.state)) e ∙ keys_put test ps q r

list_drop : (test : PageState → Bool) (ps : List CachedPage) (ks : List (ℕ × ℕ)) (f i : ℕ) → IsRising ps → ks ≡ keys_where test ps → drop_key ks f i ≡ keys_where test (drop_page ps f i)
list_drop test ps ks f i r e = ap (λ xs. drop_key xs f i) e ∙ keys_drop test ps f i r

-- a list has room for what a page that is put brings
pub list_room : (test : PageState → Bool) (ps new : List CachedPage) (ks : List (ℕ × ℕ)) (q : CachedPage) (room capacity : ℕ) → IsRising ps → ks ≡ keys_where test ps
    → new ≡ put_page ps q → length new ≤ room → room ≤ capacity → length (with_key ks q.birth q.index (test q.state)) ≤ capacity
list_room test ps new ks q room capacity r e put most enough =
    let same = ap (λ (xs : List (ℕ × ℕ)). length xs) (list_put test ps ks q r e) in
    let few = few_keys test (put_page ps q) in
    let long = ap (λ (xs : List CachedPage). length xs) put in
    omega arith

-- ---- both lists

-- a page was put
pub put_cache : (c n : Cache) (q : CachedPage) (unsent : List (ℕ × ℕ)) (uc : ℕ) (dirty : List (ℕ × ℕ)) (dc : ℕ) (new_unsent : List (ℕ × ℕ)) (ud : ℕ) (new_dirty : List (ℕ × ℕ)) (dd : ℕ)
    → IsCache c unsent uc dirty dc → n ≡ with_pages c (put_page c.pages q) → length n.pages ≤ n.room
    → new_unsent ≡ with_key unsent q.birth q.index (is_unsent q.state) → new_dirty ≡ with_key dirty q.birth q.index (is_dirty q.state) → ud ≡ uc → dd ≡ dc → IsCache n new_unsent ud new_dirty dd
put_cache c n q unsent uc dirty dc new_unsent ud new_dirty dd h new most u d more_unsent more_dirty =
    let same = ap (λ (k : Cache). k.room) new in
    let enough_unsent = h.enough_unsent in
    let enough_dirty = h.enough_dirty in
    record {
      rising = subst (λ (k : Cache). IsRising k.pages) (sym new) (put-rising c.pages q h.rising);
      most = most;
      unsent_listed = u ∙ list_put is_unsent c.pages unsent q h.rising h.unsent_listed ∙ sym (ap (λ (k : Cache). keys_where is_unsent k.pages) new);
      dirty_listed = d ∙ list_put is_dirty c.pages dirty q h.rising h.dirty_listed ∙ sym (ap (λ (k : Cache). keys_where is_dirty k.pages) new);
      enough_unsent = omega arith;
      enough_dirty = omega arith;
    }

-- a page that is marked is put
pub mark_is_put : (ps : List CachedPage) (f i : ℕ) (s : PageState) → page_at ps f i ≢ None → (x : CachedPage) × (page_at ps f i ≡ Some x) × (x.birth ≡ f) × (x.index ≡ i) × (mark_page ps f i s ≡ put_page ps (marked x s))
mark_is_put ps f i s there = by (page_at ps f i) refl
  where
    by : (o : Option CachedPage) → page_at ps f i ≡ o → (x : CachedPage) × (page_at ps f i ≡ Some x) × (x.birth ≡ f) × (x.index ≡ i) × (mark_page ps f i s ≡ put_page ps (marked x s))
    by None e = absurd (there e)
    by (Some x) e =
        let key = page_at-key ps f i x e in
        (x, e, key.0, key.1, ap (λ (o : Option CachedPage). elim o as (λ _. List CachedPage) [ None ↦ ps | Some p ↦ put_page ps (marked p s) ]) e)

pub mark_most : (c n : Cache) (f i : ℕ) (s : PageState) (unsent : List (ℕ × ℕ)) (uc : ℕ) (dirty : List (ℕ × ℕ)) (dc : ℕ)
    → IsCache c unsent uc dirty dc → page_at c.pages f i ≢ None → n ≡ with_pages c (mark_page c.pages f i s) → length n.pages ≤ n.room
mark_most c n f i s unsent uc dirty dc h there new =
    let x = mark_is_put c.pages f i s there in
    let same = put-known c.pages x.0 (marked x.0 s) h.rising (keyed c.pages h.rising x.0 (page_at-In c.pages f i x.0 x.1)) in
    let long = ap (λ (k : Cache). length k.pages) new ∙ ap (λ (ps : List CachedPage). length ps) x.4 in
    let room = ap (λ (k : Cache). k.room) new in
    let most = h.most in
    omega arith

-- a list has room for what a page that is marked brings
pub mark_room : (test : PageState → Bool) (c n : Cache) (ks : List (ℕ × ℕ)) (f i : ℕ) (s : PageState) (t : Bool) (capacity : ℕ) → IsRising c.pages → ks ≡ keys_where test c.pages → page_at c.pages f i ≢ None
    → n ≡ with_pages c (mark_page c.pages f i s) → length n.pages ≤ n.room → c.room ≤ capacity → t ≡ test s → length (with_key ks f i t) ≤ capacity
mark_room test c n ks f i s t capacity r e there new most enough is =
    let x = mark_is_put c.pages f i s there in
    let same = ap (λ (k : Cache). k.room) new in
    subst (λ u. length (with_key ks f i u) ≤ capacity) (sym is)
    (subst (λ g. length (with_key ks g i (test s)) ≤ capacity) x.2
    (subst (λ j. length (with_key ks x.0.birth j (test s)) ≤ capacity) x.3
    (list_room test c.pages n.pages ks (marked x.0 s) n.room capacity r e (ap (λ (k : Cache). k.pages) new ∙ x.4) most (omega arith))))

pub mark_cache : (c n : Cache) (f i : ℕ) (s : PageState) (unsent : List (ℕ × ℕ)) (uc : ℕ) (dirty : List (ℕ × ℕ)) (dc : ℕ) (new_unsent : List (ℕ × ℕ)) (ud : ℕ) (new_dirty : List (ℕ × ℕ)) (dd : ℕ)
    → IsCache c unsent uc dirty dc → page_at c.pages f i ≢ None → n ≡ with_pages c (mark_page c.pages f i s)
    → new_unsent ≡ with_key unsent f i (is_unsent s) → new_dirty ≡ with_key dirty f i (is_dirty s) → ud ≡ uc → dd ≡ dc → IsCache n new_unsent ud new_dirty dd
mark_cache c n f i s unsent uc dirty dc new_unsent ud new_dirty dd h there new u d more_unsent more_dirty =
    let x = mark_is_put c.pages f i s there in
    put_cache c n (marked x.0 s) unsent uc dirty dc new_unsent ud new_dirty dd h (new ∙ ap (with_pages c) x.4) (mark_most c n f i s unsent uc dirty dc h there new)
    (u ∙ ap (λ g. with_key unsent g i (is_unsent s)) (sym x.2) ∙ ap (λ j. with_key unsent x.0.birth j (is_unsent s)) (sym x.3))
    (d ∙ ap (λ g. with_key dirty g i (is_dirty s)) (sym x.2) ∙ ap (λ j. with_key dirty x.0.birth j (is_dirty s)) (sym x.3))
    more_unsent more_dirty

-- a page went
pub drop_cache : (c n : Cache) (f i : ℕ) (unsent : List (ℕ × ℕ)) (uc : ℕ) (dirty : List (ℕ × ℕ)) (dc : ℕ) (new_unsent : List (ℕ × ℕ)) (ud : ℕ) (new_dirty : List (ℕ × ℕ)) (dd : ℕ)
    → IsCache c unsent uc dirty dc → n ≡ with_pages c (drop_page c.pages f i) → new_unsent ≡ drop_key unsent f i → new_dirty ≡ drop_key dirty f i → ud ≡ uc → dd ≡ dc → IsCache n new_unsent ud new_dirty dd
drop_cache c n f i unsent uc dirty dc new_unsent ud new_dirty dd h new u d more_unsent more_dirty =
    let same = ap (λ (k : Cache). k.room) new in
    let long = ap (λ (k : Cache). length k.pages) new in
    let fewer = count_by-le-length (λ p. not (is_page p f i)) c.pages in
    let size = length-filter (λ p. not (is_page p f i)) c.pages in
    let before = h.most in
    let enough_unsent = h.enough_unsent in
    let enough_dirty = h.enough_dirty in
    record {
      rising = subst (λ (k : Cache). IsRising k.pages) (sym new) (drop-rising c.pages f i h.rising);
      most = omega arith;
      unsent_listed = u ∙ list_drop is_unsent c.pages unsent f i h.rising h.unsent_listed ∙ sym (ap (λ (k : Cache). keys_where is_unsent k.pages) new);
      dirty_listed = d ∙ list_drop is_dirty c.pages dirty f i h.rising h.dirty_listed ∙ sym (ap (λ (k : Cache). keys_where is_dirty k.pages) new);
      enough_unsent = omega arith;
      enough_dirty = omega arith;
    }

-- ---- what is read

-- the page of a key that was found
found_by : (ps : List CachedPage) (o : Option CachedPage) (k : ℕ × ℕ) → IsRising ps → ((p : CachedPage) → o ≡ Some p → In p ps) → option_map key_of o ≡ Some k → page_at ps k.0 k.1 ≡ o
found_by ps None k r there e = absurd (none-some k e)
found_by ps (Some p) k r there e = ap (λ (l : ℕ × ℕ). page_at ps l.0 l.1) (sym (same_Some (key_of p) k e)) ∙ keyed ps r p (there p refl)

pub none_by : (o : Option CachedPage) → option_map key_of o ≡ None → None ≡ o
none_by None e = refl
none_by (Some p) e = absurd (none-some (key_of p) (sym e))

dirty_there : (ps : List CachedPage) (pick : ℕ) (p : CachedPage) → dirty_page ps pick ≡ Some p → In p ps
dirty_there ps pick p e = (In-filter (λ (p : CachedPage). is_dirty p.state) ps p (slice_get-In (filter (λ (p : CachedPage). is_dirty p.state) ps) pick p e)).0

pub dirty_is : (ps : List CachedPage) (pick : ℕ) (k : ℕ × ℕ) → IsRising ps → option_map key_of (dirty_page ps pick) ≡ Some k → page_at ps k.0 k.1 ≡ dirty_page ps pick
dirty_is ps pick k r e = found_by ps (dirty_page ps pick) k r (dirty_there ps pick) e

pub dirty_found : (ps : List CachedPage) (pick : ℕ) (p : CachedPage) → IsRising ps → dirty_page ps pick ≡ Some p → page_at ps p.birth p.index ≡ Some p
dirty_found ps pick p r e = keyed ps r p (dirty_there ps pick p e)

first_keys : (ps : List CachedPage) (births : List ℕ) → first_of births (keys_where is_unsent ps) ≡ option_map key_of (unsent_of ps births)
first_keys [] births = refl
first_keys (p ∷ ps) births = by (is_unsent p.state) (first_keys ps births)
  where
    second : (t : Bool) → first_of births (keys_where is_unsent ps) ≡ option_map key_of (unsent_of ps births)
        → cond t (Some (key_of p)) (first_of births (keys_where is_unsent ps)) ≡ option_map key_of (cond t (Some p) (unsent_of ps births))
    second true rest = refl
    second false rest = rest

    by : (u : Bool) → first_of births (keys_where is_unsent ps) ≡ option_map key_of (unsent_of ps births)
        → first_of births (with_page u p (pages_where is_unsent ps)) ≡ option_map key_of (cond (u && has births p.birth) (Some p) (unsent_of ps births))
    by true rest = second (has births p.birth) rest
    by false rest = rest

unsent_there : (ps : List CachedPage) (births : List ℕ) (p : CachedPage) → unsent_of ps births ≡ Some p → In p ps
unsent_there ps births p e = found_is_there (λ (p : CachedPage). is_unsent p.state && has births p.birth) ps p e

pub unsent_is : (ps : List CachedPage) (unsent : List (ℕ × ℕ)) (births : List ℕ) (k : ℕ × ℕ) → IsRising ps → unsent ≡ keys_where is_unsent ps → first_of births unsent ≡ Some k → page_at ps k.0 k.1 ≡ unsent_of ps births
unsent_is ps unsent births k r e at = found_by ps (unsent_of ps births) k r (unsent_there ps births) (sym (ap (first_of births) e ∙ first_keys ps births) ∙ at)

pub unsent_is_none : (ps : List CachedPage) (unsent : List (ℕ × ℕ)) (births : List ℕ) → unsent ≡ keys_where is_unsent ps → first_of births unsent ≡ None → None ≡ unsent_of ps births
unsent_is_none ps unsent births e at = none_by (unsent_of ps births) (sym (ap (first_of births) e ∙ first_keys ps births) ∙ at)

pub unsent_found : (ps : List CachedPage) (births : List ℕ) (p : CachedPage) → IsRising ps → unsent_of ps births ≡ Some p → page_at ps p.birth p.index ≡ Some p
unsent_found ps births p r e = keyed ps r p (unsent_there ps births p e)

-- the keys of a file's unsent pages
same_in : (file : Option ℕ) (p : CachedPage) → is_key_in file (key_of p) ≡ is_in file p
same_in None p = refl
same_in (Some f) p = refl

pub keys_of_file : (ps : List CachedPage) (unsent : List (ℕ × ℕ)) (file : Option ℕ) → unsent ≡ keys_where is_unsent ps → filter (is_key_in file) unsent ≡ unsent_keys file ps
keys_of_file ps unsent file e = ap (filter (is_key_in file)) e ∙ all ps
  where
    all : (ps : List CachedPage) → filter (is_key_in file) (keys_where is_unsent ps) ≡ unsent_keys file ps
    all [] = refl
    all (p ∷ ps) = by (is_unsent p.state) (all ps)
      where
        second : (t : Bool) → filter (is_key_in file) (keys_where is_unsent ps) ≡ unsent_keys file ps
            → cond t (key_of p ∷ filter (is_key_in file) (keys_where is_unsent ps)) (filter (is_key_in file) (keys_where is_unsent ps))
            ≡ map key_of (cond t (p ∷ filter (λ (q : CachedPage). is_unsent q.state && is_in file q) ps) (filter (λ (q : CachedPage). is_unsent q.state && is_in file q) ps))
        second true rest = ap (λ ks. key_of p ∷ ks) rest
        second false rest = rest

        by : (u : Bool) → filter (is_key_in file) (keys_where is_unsent ps) ≡ unsent_keys file ps
            → filter (is_key_in file) (with_page u p (pages_where is_unsent ps))
            ≡ map key_of (cond (u && is_in file p) (p ∷ filter (λ (q : CachedPage). is_unsent q.state && is_in file q) ps) (filter (λ (q : CachedPage). is_unsent q.state && is_in file q) ps))
        by true rest =
            ap (λ t. cond t (key_of p ∷ filter (is_key_in file) (keys_where is_unsent ps)) (filter (is_key_in file) (keys_where is_unsent ps))) (same_in file p) ∙ second (is_in file p) rest
        by false rest = rest

-- ---- the next of a file

pub next_key : (ps : List CachedPage) (unsent : List (ℕ × ℕ)) (f from : ℕ) → unsent ≡ keys_where is_unsent ps → slice_get unsent (place_of unsent f from) ≡ option_map key_of (next_unsent ps f from)
next_key ps unsent f from e = ap (λ ks. slice_get ks (place_of ks f from)) e ∙ keys_next ps f from

by_key : (o : Option CachedPage) (k : ℕ × ℕ) → option_map key_of o ≡ Some k → (p : CachedPage) × (o ≡ Some p) × (key_of p ≡ k)
by_key None k e = absurd (none-some k e)
by_key (Some p) k e = (p, refl, same_Some (key_of p) k e)

pub of_none : (ps : List CachedPage) (unsent : List (ℕ × ℕ)) (f from : ℕ) → unsent ≡ keys_where is_unsent ps → slice_get unsent (place_of unsent f from) ≡ None → None ≡ option_map (λ (p : CachedPage). p.index) (next_in_file ps f from)
of_none ps unsent f from e at =
    sym (ap (option_map (λ (p : CachedPage). p.index)) (nothing_next ps f from (sym (none_by (next_unsent ps f from) (sym (next_key ps unsent f from e) ∙ at)))))

pub of_some : (ps : List CachedPage) (unsent : List (ℕ × ℕ)) (f from : ℕ) (k : ℕ × ℕ) → IsRising ps → unsent ≡ keys_where is_unsent ps → slice_get unsent (place_of unsent f from) ≡ Some k → k.0 ≡ f
    → Some k.1 ≡ option_map (λ (p : CachedPage). p.index) (next_in_file ps f from)
of_some ps unsent f from k r e at b =
    let p = by_key (next_unsent ps f from) k (sym (next_key ps unsent f from e) ∙ at) in
    ap (λ (l : ℕ × ℕ). Some l.1) (sym p.2) ∙ sym (ap (option_map (λ (p : CachedPage). p.index)) (file_next ps f from p.0 r p.1 (ap (λ (l : ℕ × ℕ). l.0) p.2 ∙ b)))

pub of_other : (ps : List CachedPage) (unsent : List (ℕ × ℕ)) (f from : ℕ) (k : ℕ × ℕ) → IsRising ps → unsent ≡ keys_where is_unsent ps → slice_get unsent (place_of unsent f from) ≡ Some k → (k.0 ≡ f → ⊥)
    → None ≡ option_map (λ (p : CachedPage). p.index) (next_in_file ps f from)
of_other ps unsent f from k r e at other =
    let p = by_key (next_unsent ps f from) k (sym (next_key ps unsent f from e) ∙ at) in
    sym (ap (option_map (λ (p : CachedPage). p.index)) (no_file_next ps f from p.0 r p.1 (λ b. other (sym (ap (λ (l : ℕ × ℕ). l.0) p.2) ∙ b))))

-- what holds of a value, if there is one, by what is known of it
pub if_ok : {T E : Type 0} (P Q : T → Type 0) (r : Result T E) → ((x : T) → P x → Q x) → IfOk r P → IfOk r Q
if_ok P Q (Ok x) more h = more x h
if_ok P Q (Err e) more h = tt
