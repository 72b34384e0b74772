-- What becomes of the cached pages.
use Rattle.std.proofs.Common.{◌≡◌, ℕ, ◌+◌, ◌<◌, ◌≤◌, Bool, true, false, not, if◌then◌else◌, List, [], ◌∷◌, length, filter, drop, get_or, sym, ap, subst, ◌∙◌, arith}
use Rattle.std.proofs.lemmas.List.{drop_more}
use Rattle.page_cache.specs.Pages.{Cache, is_page, is_below, put_page, drop_page, with_pages}
use Rattle.page_cache.specs.declared.cached_page.CachedPage.{CachedPage}
use Rattle.page_cache.specs.declared.cached_page.PageState.TheVariants.{Dirty}
use Rattle.volume_model.specs.Touched.{Page}
use Rattle.host_core.specs.effects.Effects.{dropped_pages, written_pages}

-- ---- how many there are

fewer : (test : CachedPage → Bool) (ps : List CachedPage) → length (filter test ps) ≤ length ps
fewer test [] = omega arith
fewer test (p ∷ ps) = by (test p) (fewer test ps)
  where
    by : (b : Bool) → length (filter test ps) ≤ length ps → length (if b then p ∷ filter test ps else filter test ps) ≤ length (p ∷ ps)
    by true h = omega (arith, h)
    by false h = omega (arith, h)

pub dropped_fewer : (ps : List CachedPage) (ds : List Page) → length (dropped_pages ps ds) ≤ length ps
dropped_fewer ps [] = omega arith
dropped_fewer ps (d ∷ ds) =
    let rest = dropped_fewer (drop_page ps d.birth d.index) ds in
    let one = fewer (λ p. not (is_page p d.birth d.index)) ps in
    omega (arith, rest, one)

put_longer : (ps : List CachedPage) (q : CachedPage) → length (put_page ps q) ≤ length ps + 1
put_longer [] q = omega arith
put_longer (p ∷ ps) q = by (is_page p q.birth q.index) (is_below q.birth q.index p) (put_longer ps q)
  where
    by : (a b : Bool) → length (put_page ps q) ≤ length ps + 1 → length (if a then q ∷ ps else if b then q ∷ p ∷ ps else p ∷ put_page ps q) ≤ length (p ∷ ps) + 1
    by true b h = omega arith
    by false true h = omega arith
    by false false h = omega (arith, h)

-- ---- pages that are written, one after the other

abbrev pub page_of : (ℕ → List ℕ) → ℕ → Page → CachedPage
page_of bytes n w = record { birth = w.birth; index = w.index; block = w.zone; body = bytes w.zone; version = n; state = Dirty }

-- what is left to write, with room for it
abbrev pub WritesLeft : (ℕ → List ℕ) → ℕ → Cache → Cache → List Page → ℕ → Type 0
WritesLeft bytes n old now ws at =
    (with_pages now (written_pages bytes n now.pages (drop at ws)) ≡ with_pages old (written_pages bytes n old.pages ws))
    × (length now.pages + length (drop at ws) ≤ now.room)

pub writes_more : (bytes : ℕ → List ℕ) (n : ℕ) (old now new : Cache) (ws : List Page) (at : ℕ) (w : Page) → WritesLeft bytes n old now ws at → at < length ws → w ≡ get_or ws at w
    → new ≡ with_pages now (put_page now.pages (page_of bytes n w)) → WritesLeft bytes n old new ws (at + 1)
writes_more bytes n old now new ws at w left inside read e =
    let next : drop at ws ≡ w ∷ drop (at + 1) ws = drop_more ws at w inside ∙ ap (λ x. x ∷ drop (at + 1) ws) (sym read) in
    let longer = put_longer now.pages (page_of bytes n w) in
    let size = ap (λ (l : List Page). length l) next in
    let room = left.1 in
    subst (λ (x : Cache). WritesLeft bytes n old x ws (at + 1)) (sym e)
    (ap (λ (l : List Page). with_pages now (written_pages bytes n now.pages l)) (sym next) ∙ left.0, omega (arith, longer, size, room))
