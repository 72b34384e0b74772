-- Lists of the births and indexes of pages, as the code searches and changes them.
use Rattle.std.specs.Prelude.{◌≡◌, ℕ, suc, ◌<◌, ◌==◌, ◌⊎◌, ⊤, nat_lt, Bool, true, false, ◌&&◌, ◌||◌, if◌then◌else◌, List, [], ◌∷◌, map, Option, Some, None}
use Rattle.std.specs.List.{filter, find, insert, remove, slice_get}
use Rattle.blk_base.specs.Members.{In}
use Rattle.number_sets.specs.Sets.{has}
use Rattle.page_cache.specs.declared.cached_page.CachedPage.{CachedPage}
use Rattle.page_cache.specs.declared.cached_page.PageState.{PageState}
use Rattle.page_cache.specs.Pages.{key_of}

-- the keys of the pages in such a state, in order
abbrev pub keys_where : (PageState → Bool) → List CachedPage → List (ℕ × ℕ)
keys_where test ps = map key_of (filter (λ (p : CachedPage). test p.state) ps)

-- the key stands before (f, i)
abbrev pub is_before : ℕ × ℕ → ℕ → ℕ → Bool
is_before k f i = nat_lt k.0 f || (k.0 == f && nat_lt k.1 i)

abbrev pub is_key : ℕ × ℕ → ℕ → ℕ → Bool
is_key k f i = k.0 == f && k.1 == i

-- k stands before l, in the order of birth and index
abbrev pub KeyBelow : ℕ × ℕ → ℕ × ℕ → Type 0
KeyBelow k l = (k.0 < l.0) ⊎ ((k.0 ≡ l.0) × (k.1 < l.1))

-- each key stands before all that follow
abbrev pub IsRisingKeys : List (ℕ × ℕ) → Type 0
IsRisingKeys [] = ⊤
IsRisingKeys (k ∷ ks) = ((l : ℕ × ℕ) → In l ks → KeyBelow k l) × IsRisingKeys ks

-- how many keys stand before (f, i)
abbrev pub place_of : List (ℕ × ℕ) → ℕ → ℕ → ℕ
place_of [] f i = 0
place_of (k ∷ ks) f i = if is_before k f i then suc (place_of ks f i) else 0

-- whether the key stands at its place
abbrev pub stands : List (ℕ × ℕ) → ℕ → ℕ → Bool
stands [] f i = false
stands (k ∷ ks) f i = if is_before k f i then stands ks f i else is_key k f i

-- it comes, if it is not there
abbrev pub put_key : List (ℕ × ℕ) → ℕ → ℕ → List (ℕ × ℕ)
put_key ks f i = if stands ks f i then ks else insert ks (place_of ks f i) (f, i)

-- it goes, if it is there
abbrev pub drop_key : List (ℕ × ℕ) → ℕ → ℕ → List (ℕ × ℕ)
drop_key ks f i = if stands ks f i then remove ks (place_of ks f i) else ks

-- it is there exactly where this says so
abbrev pub with_key : List (ℕ × ℕ) → ℕ → ℕ → Bool → List (ℕ × ℕ)
with_key ks f i listed = if listed then put_key ks f i else drop_key ks f i

-- the key is of this file; of any, where none is said
abbrev pub is_key_in : Option ℕ → ℕ × ℕ → Bool
is_key_in None k = true
is_key_in (Some f) k = k.0 == f

-- a key of another file is none
abbrev pub if_in : ℕ → Option (ℕ × ℕ) → Option (ℕ × ℕ)
if_in f None = None
if_in f (Some k) = if k.0 == f then Some k else None

-- the first key of the file with birth f, from index `from` on
abbrev pub next_in : List (ℕ × ℕ) → ℕ → ℕ → Option (ℕ × ℕ)
next_in ks f from = if_in f (slice_get ks (place_of ks f from))

-- the first key of one of the files with these births
abbrev pub first_of : List ℕ → List (ℕ × ℕ) → Option (ℕ × ℕ)
first_of births ks = find (λ (k : ℕ × ℕ). has births k.0) ks
