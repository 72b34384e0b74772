-- Which pages are unsent, and room for more.
use Rattle.std.specs.Prelude.{ℕ, ◌+◌, ◌==◌, Bool, true, ◌&&◌, nat_lt, if◌then◌else◌, List, length, map, Option, Some, None}
use Rattle.std.specs.List.{filter}
use Rattle.page_cache.specs.declared.cached_page.CachedPage.{CachedPage}
use Rattle.page_cache.specs.Pages.{Cache, is_unsent, key_of}

-- the page is of this file; of any, where none is said
abbrev pub is_in : Option ℕ → CachedPage → Bool
is_in None p = true
is_in (Some f) p = p.birth == f

-- birth and index of each unsent page of this file, or of all, in order
abbrev pub unsent_keys : Option ℕ → List CachedPage → List (ℕ × ℕ)
unsent_keys file ps = map key_of (filter (λ p. is_unsent p.state && is_in file p) ps)

-- room for so many pages besides those that are there
abbrev pub with_room_for : ℕ → Cache → Cache
with_room_for more c = record { room = if nat_lt c.room (length c.pages + more) then length c.pages + more else c.room; pages = c.pages }
