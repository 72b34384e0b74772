-- The list of pages as a map by birth and index.
use Rattle.std.specs.Prelude.{◌≡◌, ℕ, ◌==◌, Bool, true, false, not, ◌&&◌, List, [], ◌∷◌, Option, Some, None, refl, if◌then◌else◌}
use Rattle.std.specs.Option.{option_map}
use Rattle.std.proofs.Common.{sym, ap, subst, ◌∙◌, ⊎_elim, eqb-true, eq-eqb}
use Rattle.std.proofs.lemmas.Bool.{cases_Bool, false≢true, and_from, and_parts}
use Rattle.std.proofs.lemmas.Option.{none-some, same_Some}
use Rattle.page_cache.specs.declared.cached_page.CachedPage.{CachedPage}
use Rattle.page_cache.specs.declared.cached_page.PageState.{PageState}
use Rattle.page_cache.specs.Pages.{is_page, is_below, page_at, put_page, drop_page, marked, mark_page}

pub is_page-same : (p : CachedPage) (f i : ℕ) → is_page p f i ≡ true → (p.birth ≡ f) × (p.index ≡ i)
is_page-same p f i t = let b = and_parts (p.birth == f) (p.index == i) t in (eqb-true p.birth f b.0, eqb-true p.index i b.1)

pub same-is_page : (p : CachedPage) (f i : ℕ) → p.birth ≡ f → p.index ≡ i → is_page p f i ≡ true
same-is_page p f i e d = and_from (p.birth == f) (p.index == i) (eq-eqb p.birth f e) (eq-eqb p.index i d)

pub page_at-key : (ps : List CachedPage) (f i : ℕ) (p : CachedPage) → page_at ps f i ≡ Some p → (p.birth ≡ f) × (p.index ≡ i)
page_at-key [] f i p e = absurd (none-some p e)
page_at-key (q ∷ ps) f i p e = by (page_at-key ps f i p) (is_page q f i) refl e
  where
    by : (page_at ps f i ≡ Some p → (p.birth ≡ f) × (p.index ≡ i)) → (t : Bool) → is_page q f i ≡ t → (if t then Some q else page_at ps f i) ≡ Some p → (p.birth ≡ f) × (p.index ≡ i)
    by rest true t d = is_page-same p f i (subst (λ x. is_page x f i ≡ true) (same_Some q p d) t)
    by rest false t d = rest d

-- a page that is put is there, and the others stay
pub page_at-put : (ps : List CachedPage) (q : CachedPage) (f i : ℕ) → page_at (put_page ps q) f i ≡ (if is_page q f i then Some q else page_at ps f i)
page_at-put [] q f i = refl
page_at-put (p ∷ ps) q f i = first (page_at-put ps q f i) (is_page p q.birth q.index) refl
  where
    -- q stands in the place of a page with its key
    replaced : is_page p q.birth q.index ≡ true → (t u : Bool) → is_page q f i ≡ t → is_page p f i ≡ u → (if t then Some q else page_at ps f i) ≡ (if t then Some q else if u then Some p else page_at ps f i)
    replaced same true u e d = refl
    replaced same false false e d = refl
    replaced same false true e d =
        let k = is_page-same p q.birth q.index same in
        let l = is_page-same p f i d in
        absurd (false≢true (sym e ∙ same-is_page q f i (sym k.0 ∙ l.0) (sym k.1 ∙ l.1)))

    behind : is_page p q.birth q.index ≡ false → (t u : Bool) → is_page q f i ≡ t → is_page p f i ≡ u → (if u then Some p else if t then Some q else page_at ps f i) ≡ (if t then Some q else if u then Some p else page_at ps f i)
    behind other true true e d =
        let k = is_page-same q f i e in
        let l = is_page-same p f i d in
        absurd (false≢true (sym other ∙ same-is_page p q.birth q.index (l.0 ∙ sym k.0) (l.1 ∙ sym k.1)))
    behind other true false e d = refl
    behind other false u e d = refl

    second : page_at (put_page ps q) f i ≡ (if is_page q f i then Some q else page_at ps f i) → is_page p q.birth q.index ≡ false → (t : Bool) → page_at (if t then q ∷ p ∷ ps else p ∷ put_page ps q) f i ≡ (if is_page q f i then Some q else page_at (p ∷ ps) f i)
    second rest other true = refl
    second rest other false =
        ap (λ o. if is_page p f i then Some p else o) rest ∙ behind other (is_page q f i) (is_page p f i) refl refl

    first : page_at (put_page ps q) f i ≡ (if is_page q f i then Some q else page_at ps f i) → (t : Bool) → is_page p q.birth q.index ≡ t → page_at (if t then q ∷ ps else if is_below q.birth q.index p then q ∷ p ∷ ps else p ∷ put_page ps q) f i ≡ (if is_page q f i then Some q else page_at (p ∷ ps) f i)
    first rest true e = replaced e (is_page q f i) (is_page p f i) refl refl
    first rest false e = second rest e (is_below q.birth q.index p)

pub page_at-drop : (ps : List CachedPage) (g j f i : ℕ) → page_at (drop_page ps g j) f i ≡ (if (g == f && j == i) then None else page_at ps f i)
page_at-drop [] g j f i = by (g == f && j == i)
  where
    by : (t : Bool) → ◌≡◌ {A = Option CachedPage} None (if t then None else None)
    by true = refl
    by false = refl
page_at-drop (p ∷ ps) g j f i = by (page_at-drop ps g j f i) (is_page p g j) refl (is_page p f i) refl (g == f && j == i) refl
  where
    by : page_at (drop_page ps g j) f i ≡ (if (g == f && j == i) then None else page_at ps f i) → (t : Bool) → is_page p g j ≡ t → (u : Bool) → is_page p f i ≡ u → (w : Bool) → (g == f && j == i) ≡ w
        → page_at (if not t then p ∷ drop_page ps g j else drop_page ps g j) f i ≡ (if w then None else if u then Some p else page_at ps f i)
    by rest true et true eu true ew = rest ∙ ap (λ t. if t then None else page_at ps f i) ew
    by rest true et true eu false ew =
        let k = is_page-same p g j et in
        let l = is_page-same p f i eu in
        absurd (false≢true (sym ew ∙ and_from (g == f) (j == i) (eq-eqb g f (sym k.0 ∙ l.0)) (eq-eqb j i (sym k.1 ∙ l.1))))
    by rest true et false eu w ew = rest ∙ ap (λ t. if t then None else page_at ps f i) ew
    by rest false et true eu true ew =
        let b = and_parts (g == f) (j == i) ew in
        let l = is_page-same p f i eu in
        absurd (false≢true (sym et ∙ same-is_page p g j (l.0 ∙ sym (eqb-true g f b.0)) (l.1 ∙ sym (eqb-true j i b.1))))
    by rest false et true eu false ew = ap (λ t. if t then Some p else page_at (drop_page ps g j) f i) eu
    by rest false et false eu w ew = ap (λ t. if t then Some p else page_at (drop_page ps g j) f i) eu ∙ rest ∙ ap (λ t. if t then None else page_at ps f i) ew

-- a page that is marked has the state, and the others stay
pub page_at-mark : (ps : List CachedPage) (g j f i : ℕ) (s : PageState) → page_at (mark_page ps g j s) f i ≡ (if (g == f && j == i) then option_map (λ p. marked p s) (page_at ps f i) else page_at ps f i)
page_at-mark ps g j f i s = by (page_at ps g j) refl
  where
    none : page_at ps g j ≡ None → (t : Bool) → (g == f && j == i) ≡ t → page_at ps f i ≡ (if t then option_map (λ p. marked p s) (page_at ps f i) else page_at ps f i)
    none e true h =
        let k = and_parts (g == f) (j == i) h in
        let gone : page_at ps f i ≡ None = sym (ap (λ x. page_at ps x i) (eqb-true g f k.0)) ∙ sym (ap (λ x. page_at ps g x) (eqb-true j i k.1)) ∙ e in
        gone ∙ sym (ap (option_map (λ p. marked p s)) gone)
    none e false h = refl

    some : (p : CachedPage) → page_at ps g j ≡ Some p → (t : Bool) → (g == f && j == i) ≡ t
        → (if is_page (marked p s) f i then Some (marked p s) else page_at ps f i) ≡ (if t then option_map (λ q. marked q s) (page_at ps f i) else page_at ps f i)
    some p e true h =
        let k = and_parts (g == f) (j == i) h in
        let key = page_at-key ps g j p e in
        let here : page_at ps f i ≡ Some p = sym (ap (λ x. page_at ps x i) (eqb-true g f k.0)) ∙ sym (ap (λ x. page_at ps g x) (eqb-true j i k.1)) ∙ e in
        ap (λ t. if t then Some (marked p s) else page_at ps f i) (same-is_page p f i (key.0 ∙ eqb-true g f k.0) (key.1 ∙ eqb-true j i k.1))
        ∙ sym (ap (option_map (λ q. marked q s)) here)
    some p e false h =
        let key = page_at-key ps g j p e in
        ⊎_elim
        (λ t. let same = is_page-same p f i t in absurd (false≢true (sym h ∙ and_from (g == f) (j == i) (eq-eqb g f (sym key.0 ∙ same.0)) (eq-eqb j i (sym key.1 ∙ same.1)))))
        (λ f'. ap (λ t. if t then Some (marked p s) else page_at ps f i) f')
        (cases_Bool (is_page p f i))

    by : (o : Option CachedPage) → page_at ps g j ≡ o
        → page_at (elim o as (λ _. List CachedPage) [ None ↦ ps | Some p ↦ put_page ps (marked p s) ]) f i ≡ (if (g == f && j == i) then option_map (λ p. marked p s) (page_at ps f i) else page_at ps f i)
    by None e = none e (g == f && j == i) refl
    by (Some p) e = page_at-put ps (marked p s) f i ∙ some p e (g == f && j == i) refl
