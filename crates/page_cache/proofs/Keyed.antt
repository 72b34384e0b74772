-- The keys of some of the pages, where a page comes, changes or goes.
use Rattle.std.proofs.Common.{◌≡◌, ℕ, suc, ◌&&◌, Bool, true, false, not, cond, if◌then◌else◌, List, [], ◌∷◌, map, Some, refl, sym, ap, subst, ◌∙◌, inl, inr}
use Rattle.std.specs.List.{filter, insert, remove, slice_get}
use Rattle.std.specs.Option.{option_map}
use Rattle.blk_base.specs.Members.{In}
use Rattle.page_cache.specs.declared.cached_page.CachedPage.{CachedPage}
use Rattle.page_cache.specs.declared.cached_page.PageState.{PageState}
use Rattle.page_cache.specs.Pages.{Below, IsRising, is_page, is_before, is_below, is_unsent, key_of, put_page, drop_page, next_unsent}
use Rattle.page_cache.specs.code.Keys as keys
use Rattle.page_cache.specs.code.Keys.{KeyBelow, IsRisingKeys, keys_where, place_of, is_before as key_before, stands, put_key, drop_key, with_key}
use Rattle.page_cache.specs.laws.Maps.{is_page-same}
use Rattle.page_cache.proofs.Places.{before_other, before_not_below, not_before_below, behind, later_other, none_among}

abbrev pub pages_where : (PageState → Bool) → List CachedPage → List CachedPage
pages_where test ps = filter (λ (p : CachedPage). test p.state) ps

-- the keys of these pages with one more, if its state passes
abbrev pub with_page : Bool → CachedPage → List CachedPage → List (ℕ × ℕ)
with_page t p ps = map key_of (if t then p ∷ ps else ps)

-- ---- the keys of pages that stand in order do so too

below_key : (test : PageState → Bool) (p : CachedPage) (ps : List CachedPage) → ((q : CachedPage) → In q ps → Below p q) → (l : ℕ × ℕ) → In l (keys_where test ps) → KeyBelow (key_of p) l
below_key test p [] all l i = absurd i
below_key test p (q ∷ ps) all l i = by (test q.state) (below_key test p ps (λ x j. all x (inr j)) l) i
  where
    by : (t : Bool) → (In l (keys_where test ps) → KeyBelow (key_of p) l) → In l (with_page t q (pages_where test ps)) → KeyBelow (key_of p) l
    by true rest (inl e) = subst (KeyBelow (key_of p)) e (all q (inl refl))
    by true rest (inr j) = rest j
    by false rest j = rest j

pub keys_rising : (test : PageState → Bool) (ps : List CachedPage) → IsRising ps → IsRisingKeys (keys_where test ps)
keys_rising test [] r = tt
keys_rising test (p ∷ ps) r = by (test p.state) (keys_rising test ps r.1)
  where
    by : (t : Bool) → IsRisingKeys (keys_where test ps) → IsRisingKeys (with_page t p (pages_where test ps))
    by true rest = (below_key test p ps r.0, rest)
    by false rest = rest

-- ---- one key comes or goes

put_behind : (k : ℕ × ℕ) (ks : List (ℕ × ℕ)) (f i : ℕ) → key_before k f i ≡ true → put_key (k ∷ ks) f i ≡ k ∷ put_key ks f i
put_behind k ks f i e =
    ap (λ t. cond (if t then stands ks f i else keys.is_key k f i) (k ∷ ks) (insert (k ∷ ks) (if t then suc (place_of ks f i) else 0) (f, i))) e ∙ by (stands ks f i)
  where
    by : (t : Bool) → cond t (k ∷ ks) (insert (k ∷ ks) (suc (place_of ks f i)) (f, i)) ≡ k ∷ cond t ks (insert ks (place_of ks f i) (f, i))
    by true = refl
    by false = refl

drop_behind : (k : ℕ × ℕ) (ks : List (ℕ × ℕ)) (f i : ℕ) → key_before k f i ≡ true → drop_key (k ∷ ks) f i ≡ k ∷ drop_key ks f i
drop_behind k ks f i e =
    ap (λ t. cond (if t then stands ks f i else keys.is_key k f i) (remove (k ∷ ks) (if t then suc (place_of ks f i) else 0)) (k ∷ ks)) e ∙ by (stands ks f i)
  where
    by : (t : Bool) → cond t (remove (k ∷ ks) (suc (place_of ks f i))) (k ∷ ks) ≡ k ∷ cond t (remove ks (place_of ks f i)) ks
    by true = refl
    by false = refl

with_behind : (t : Bool) (k : ℕ × ℕ) (ks : List (ℕ × ℕ)) (f i : ℕ) → key_before k f i ≡ true → with_key (k ∷ ks) f i t ≡ k ∷ with_key ks f i t
with_behind true k ks f i e = put_behind k ks f i e
with_behind false k ks f i e = drop_behind k ks f i e

-- the keys that are left where this one would stand first
abbrev after_key : Bool → ℕ → ℕ → List (ℕ × ℕ) → List (ℕ × ℕ)
after_key t f i ks = if t then (f, i) ∷ ks else ks

with_first : (t : Bool) (ks : List (ℕ × ℕ)) (f i : ℕ) → place_of ks f i ≡ 0 → stands ks f i ≡ false → with_key ks f i t ≡ after_key t f i ks
with_first true ks f i z s = ap (λ t. cond t ks (insert ks (place_of ks f i) (f, i))) s ∙ ap (λ n. insert ks n (f, i)) z
with_first false ks f i z s = ap (λ t. cond t (remove ks (place_of ks f i)) ks) s

-- the first key is this one
with_same : (t : Bool) (k : ℕ × ℕ) (ks : List (ℕ × ℕ)) (f i : ℕ) → key_before k f i ≡ false → keys.is_key k f i ≡ true → k ≡ (f, i) → with_key (k ∷ ks) f i t ≡ after_key t f i ks
with_same true k ks f i e s same =
    ap (λ t. cond (if t then stands ks f i else keys.is_key k f i) (k ∷ ks) (insert (k ∷ ks) (if t then suc (place_of ks f i) else 0) (f, i))) e
    ∙ ap (λ t. cond t (k ∷ ks) (insert (k ∷ ks) 0 (f, i))) s
    ∙ ap (λ l. l ∷ ks) same
with_same false k ks f i e s same =
    ap (λ t. cond (if t then stands ks f i else keys.is_key k f i) (remove (k ∷ ks) (if t then suc (place_of ks f i) else 0)) (k ∷ ks)) e
    ∙ ap (λ t. cond t (remove (k ∷ ks) 0) (k ∷ ks)) s

-- ---- where all pages stand behind (f, i)

abbrev AreBehind : List CachedPage → ℕ → ℕ → Type 0
AreBehind ps f i = (q : CachedPage) → In q ps → (is_before q f i ≡ false) × (is_page q f i ≡ false)

first_place : (test : PageState → Bool) (ps : List CachedPage) (f i : ℕ) → AreBehind ps f i → (place_of (keys_where test ps) f i ≡ 0) × (stands (keys_where test ps) f i ≡ false)
first_place test [] f i all = (refl, refl)
first_place test (q ∷ ps) f i all = by (all q (inl refl)) (test q.state) (first_place test ps f i (λ x j. all x (inr j)))
  where
    by : (is_before q f i ≡ false) × (is_page q f i ≡ false) → (t : Bool) → (place_of (keys_where test ps) f i ≡ 0) × (stands (keys_where test ps) f i ≡ false)
        → (place_of (with_page t q (pages_where test ps)) f i ≡ 0) × (stands (with_page t q (pages_where test ps)) f i ≡ false)
    by here true rest = (ap (λ t. if t then suc (place_of (keys_where test ps) f i) else 0) here.0, ap (λ t. if t then stands (keys_where test ps) f i else is_page q f i) here.0 ∙ here.1)
    by here false rest = rest

behind_all : (test : PageState → Bool) (t : Bool) (ps : List CachedPage) (f i : ℕ) → AreBehind ps f i → with_key (keys_where test ps) f i t ≡ after_key t f i (keys_where test ps)
behind_all test t ps f i all = let first = first_place test ps f i all in with_first t (keys_where test ps) f i first.0 first.1

rest_behind : (p : CachedPage) (ps : List CachedPage) (f i : ℕ) → IsRising (p ∷ ps) → is_before p f i ≡ false → AreBehind ps f i
rest_behind p ps f i r e q j = (behind p q f i (r.0 q j) e, later_other p q f i (r.0 q j) e)

all_behind : (p : CachedPage) (ps : List CachedPage) (f i : ℕ) → IsRising (p ∷ ps) → is_before p f i ≡ false → is_page p f i ≡ false → AreBehind (p ∷ ps) f i
all_behind p ps f i r e other q (inl same) = subst (λ x. (is_before x f i ≡ false) × (is_page x f i ≡ false)) same (e, other)
all_behind p ps f i r e other q (inr j) = rest_behind p ps f i r e q j

-- where the first page is the one, and others follow it
instead : (test : PageState → Bool) (t u : Bool) (p : CachedPage) (ps : List CachedPage) (f i : ℕ) → IsRising (p ∷ ps) → is_before p f i ≡ false → is_page p f i ≡ true
    → with_key (with_page u p (pages_where test ps)) f i t ≡ after_key t f i (keys_where test ps)
instead test t true p ps f i r e s =
    let k = is_page-same p f i s in
    with_same t (key_of p) (keys_where test ps) f i e s (ap (λ n. (n, p.index)) k.0 ∙ ap (λ n. (f, n)) k.1)
instead test t false p ps f i r e s = behind_all test t ps f i (rest_behind p ps f i r e)

-- ---- a page comes

come_first : (t : Bool) (q : CachedPage) (ps : List CachedPage) → with_page t q ps ≡ after_key t q.birth q.index (map key_of ps)
come_first true q ps = refl
come_first false q ps = refl

-- the keys of the pages that pass, once a page is put
pub keys_put : (test : PageState → Bool) (ps : List CachedPage) (q : CachedPage) → IsRising ps → with_key (keys_where test ps) q.birth q.index (test q.state) ≡ keys_where test (put_page ps q)
keys_put test [] q r = by (test q.state)
  where
    by : (t : Bool) → with_key [] q.birth q.index t ≡ with_page t q []
    by true = refl
    by false = refl
keys_put test (p ∷ ps) q r = first (is_before p q.birth q.index) refl (keys_put test ps q r.1)
  where
    passed : is_before p q.birth q.index ≡ true → with_key (keys_where test ps) q.birth q.index (test q.state) ≡ keys_where test (put_page ps q) → (u : Bool)
        → with_key (with_page u p (pages_where test ps)) q.birth q.index (test q.state) ≡ with_page u p (pages_where test (put_page ps q))
    passed e rest true = with_behind (test q.state) (key_of p) (keys_where test ps) q.birth q.index e ∙ ap (λ ks. key_of p ∷ ks) rest
    passed e rest false = rest

    second : is_before p q.birth q.index ≡ false → (s : Bool) → is_page p q.birth q.index ≡ s → with_key (keys_where test (p ∷ ps)) q.birth q.index (test q.state) ≡ keys_where test (put_page (p ∷ ps) q)
    second e true s =
        instead test (test q.state) (test p.state) p ps q.birth q.index r e s
        ∙ sym (come_first (test q.state) q (pages_where test ps))
        ∙ sym (ap (keys_where test) (ap (λ t. if t then q ∷ ps else if is_below q.birth q.index p then q ∷ p ∷ ps else p ∷ put_page ps q) s))
    second e false s =
        behind_all test (test q.state) (p ∷ ps) q.birth q.index (all_behind p ps q.birth q.index r e s)
        ∙ sym (come_first (test q.state) q (pages_where test (p ∷ ps)))
        ∙ sym (ap (keys_where test) (ap (λ t. if t then q ∷ ps else if is_below q.birth q.index p then q ∷ p ∷ ps else p ∷ put_page ps q) s ∙ ap (λ t. if t then q ∷ p ∷ ps else p ∷ put_page ps q) (not_before_below p q.birth q.index e s)))

    first : (b : Bool) → is_before p q.birth q.index ≡ b → with_key (keys_where test ps) q.birth q.index (test q.state) ≡ keys_where test (put_page ps q)
        → with_key (keys_where test (p ∷ ps)) q.birth q.index (test q.state) ≡ keys_where test (put_page (p ∷ ps) q)
    first true e rest =
        passed e rest (test p.state)
        ∙ sym (ap (keys_where test) (ap (λ t. if t then q ∷ ps else if is_below q.birth q.index p then q ∷ p ∷ ps else p ∷ put_page ps q) (before_other p q.birth q.index e) ∙ ap (λ t. if t then q ∷ p ∷ ps else p ∷ put_page ps q) (before_not_below p q.birth q.index e)))
    first false e rest = second e (is_page p q.birth q.index) refl

-- and once one goes
pub keys_drop : (test : PageState → Bool) (ps : List CachedPage) (f i : ℕ) → IsRising ps → drop_key (keys_where test ps) f i ≡ keys_where test (drop_page ps f i)
keys_drop test [] f i r = refl
keys_drop test (p ∷ ps) f i r = first (is_before p f i) refl (keys_drop test ps f i r.1)
  where
    passed : is_before p f i ≡ true → drop_key (keys_where test ps) f i ≡ keys_where test (drop_page ps f i) → (u : Bool)
        → drop_key (with_page u p (pages_where test ps)) f i ≡ with_page u p (pages_where test (drop_page ps f i))
    passed e rest true = drop_behind (key_of p) (keys_where test ps) f i e ∙ ap (λ ks. key_of p ∷ ks) rest
    passed e rest false = rest

    second : is_before p f i ≡ false → (s : Bool) → is_page p f i ≡ s → drop_key (keys_where test (p ∷ ps)) f i ≡ keys_where test (drop_page (p ∷ ps) f i)
    second e true s =
        instead test false (test p.state) p ps f i r e s
        ∙ sym (ap (keys_where test) (ap (λ t. cond (not t) (p ∷ drop_page ps f i) (drop_page ps f i)) s ∙ (none_among ps f i (λ q j. later_other p q f i (r.0 q j) e)).1))
    second e false s =
        let all = all_behind p ps f i r e s in
        behind_all test false (p ∷ ps) f i all ∙ sym (ap (keys_where test) (none_among (p ∷ ps) f i (λ q j. (all q j).1)).1)

    first : (b : Bool) → is_before p f i ≡ b → drop_key (keys_where test ps) f i ≡ keys_where test (drop_page ps f i)
        → drop_key (keys_where test (p ∷ ps)) f i ≡ keys_where test (drop_page (p ∷ ps) f i)
    first true e rest =
        passed e rest (test p.state)
        ∙ sym (ap (keys_where test) (ap (λ t. cond (not t) (p ∷ drop_page ps f i) (drop_page ps f i)) (before_other p f i e)))
    first false e rest = second e (is_page p f i) refl

-- ---- what is read

-- the first unsent key from (f, from) on is that of the first unsent page
pub keys_next : (ps : List CachedPage) (f from : ℕ) → slice_get (keys_where is_unsent ps) (place_of (keys_where is_unsent ps) f from) ≡ option_map key_of (next_unsent ps f from)
keys_next [] f from = refl
keys_next (p ∷ ps) f from = by (is_unsent p.state) (is_before p f from) refl (keys_next ps f from)
  where
    by : (u b : Bool) → is_before p f from ≡ b → slice_get (keys_where is_unsent ps) (place_of (keys_where is_unsent ps) f from) ≡ option_map key_of (next_unsent ps f from)
        → slice_get (with_page u p (pages_where is_unsent ps)) (place_of (with_page u p (pages_where is_unsent ps)) f from)
        ≡ option_map key_of (cond (u && not (is_before p f from)) (Some p) (next_unsent ps f from))
    by true true e rest =
        ap (λ t. slice_get (key_of p ∷ keys_where is_unsent ps) (if t then suc (place_of (keys_where is_unsent ps) f from) else 0)) e
        ∙ rest ∙ sym (ap (λ t. option_map key_of (cond (not t) (Some p) (next_unsent ps f from))) e)
    by true false e rest =
        ap (λ t. slice_get (key_of p ∷ keys_where is_unsent ps) (if t then suc (place_of (keys_where is_unsent ps) f from) else 0)) e
        ∙ sym (ap (λ t. option_map key_of (cond (not t) (Some p) (next_unsent ps f from))) e)
    by false b e rest = rest
