-- The cached pages of files: a list in the order of birth and index.
use Rattle.std.specs.Prelude.{◌≡◌, ℕ, ◌<◌, ◌==◌, ◌⊎◌, ⊤, nat_lt, nat_le, Bool, true, false, not, ◌&&◌, ◌||◌, if◌then◌else◌, List, [], ◌∷◌, Option, Some, None}
use Rattle.std.specs.List.{filter, find, slice_get}
use Rattle.blk_base.specs.Members.{In}
use Rattle.number_sets.specs.Sets.{has}
use Rattle.page_cache.specs.declared.cached_page.CachedPage.{CachedPage}
use Rattle.page_cache.specs.declared.cached_page.PageState.{PageState}
use Rattle.page_cache.specs.declared.cached_page.PageState.TheVariants as page_states

-- how many pages there is room for, and the pages
pub record Cache : Type 0 where
  pub room : ℕ
  pub pages : List CachedPage

abbrev pub with_pages : Cache → List CachedPage → Cache
with_pages c ps = record { room = c.room; pages = ps }

-- no order holds the page yet
abbrev pub is_unsent : PageState → Bool
is_unsent page_states.Dirty = true
is_unsent page_states.Loose = true
is_unsent other = false

abbrev pub is_dirty : PageState → Bool
is_dirty page_states.Dirty = true
is_dirty other = false

-- this is page i of the file with birth f
abbrev pub is_page : CachedPage → ℕ → ℕ → Bool
is_page p f i = p.birth == f && p.index == i

-- (f, i) stands before this page, in the order of birth and index
abbrev pub is_below : ℕ → ℕ → CachedPage → Bool
is_below f i p = nat_lt f p.birth || (f == p.birth && nat_lt i p.index)

-- this page stands before (f, i)
abbrev pub is_before : CachedPage → ℕ → ℕ → Bool
is_before p f i = nat_lt p.birth f || (p.birth == f && nat_lt p.index i)

-- the one page before the other
abbrev pub Below : CachedPage → CachedPage → Type 0
Below p q = (p.birth < q.birth) ⊎ ((p.birth ≡ q.birth) × (p.index < q.index))

-- each page stands before all that follow, so no two have one birth and index
abbrev pub IsRising : List CachedPage → Type 0
IsRising [] = ⊤
IsRising (p ∷ ps) = ((q : CachedPage) → In q ps → Below p q) × IsRising ps

-- page i of the file with birth f
abbrev pub page_at : List CachedPage → ℕ → ℕ → Option CachedPage
page_at [] f i = None
page_at (p ∷ ps) f i = if is_page p f i then Some p else page_at ps f i

-- a page comes in the place of the one with its birth and index, or else where it stands in order
abbrev pub put_page : List CachedPage → CachedPage → List CachedPage
put_page [] q = q ∷ []
put_page (p ∷ ps) q =
    if is_page p q.birth q.index then q ∷ ps
    else if is_below q.birth q.index p then q ∷ p ∷ ps
    else p ∷ put_page ps q

-- page i of the file with birth f goes, if it is there
abbrev pub drop_page : List CachedPage → ℕ → ℕ → List CachedPage
drop_page ps f i = filter (λ p. not (is_page p f i)) ps

abbrev pub marked : CachedPage → PageState → CachedPage
marked p s = record { birth = p.birth; index = p.index; block = p.block; body = p.body; version = p.version; state = s }

-- the page, if it is there, with another state
abbrev pub mark_page : List CachedPage → ℕ → ℕ → PageState → List CachedPage
mark_page ps f i s = elim (page_at ps f i) as (λ _. List CachedPage) [ None ↦ ps | Some p ↦ put_page ps (marked p s) ]

-- the first unsent page, in order, that does not stand before (f, from)
abbrev pub next_unsent : List CachedPage → ℕ → ℕ → Option CachedPage
next_unsent ps f from = find (λ p. is_unsent p.state && not (is_before p f from)) ps

-- the first unsent page of a file, from an index on
abbrev pub next_in_file : List CachedPage → ℕ → ℕ → Option CachedPage
next_in_file ps f from = find (λ p. is_unsent p.state && (p.birth == f && nat_le from p.index)) ps

-- the first unsent page, in order, of one of the files with these births
abbrev pub unsent_of : List CachedPage → List ℕ → Option CachedPage
unsent_of ps births = find (λ p. is_unsent p.state && has births p.birth) ps

-- the Dirty page number `pick`, in order
abbrev pub dirty_page : List CachedPage → ℕ → Option CachedPage
dirty_page ps pick = slice_get (filter (λ p. is_dirty p.state) ps) pick

-- birth and index, by which pages are in order
abbrev pub key_of : CachedPage → ℕ × ℕ
key_of p = (p.birth, p.index)
