-- Pages in frames, and what holds of the fields.
use Rattle.std.specs.Prelude.{◌≡◌, ℕ, ◌≤◌, List, [], length, map, Option, Some, None, IsSome}
use Rattle.slab.specs.Slab.{Slab, get, slab_len}
use Rattle.blk_base.specs.Members.{In}
use Rattle.page_cache.specs.declared.cached_page.CachedPage.{CachedPage}
use Rattle.page_cache.specs.declared.cached_page.PageState.TheVariants as page_states
use Rattle.page_cache.specs.Pages.{IsRising, key_of}

-- stands for the page of a frame that is free; no list names such a frame
abbrev pub no_page : CachedPage
no_page = record { birth = 0; index = 0; block = 0; body = []; version = 0; state = page_states.Clean }

abbrev pub page_or_none : Option CachedPage → CachedPage
page_or_none None = no_page
page_or_none (Some p) = p

-- the page of this frame
abbrev pub page_in : Slab CachedPage → ℕ → CachedPage
page_in frames k = page_or_none (get frames k)

-- the pages of these frames
abbrev pub pages_in : Slab CachedPage → List ℕ → List CachedPage
pages_in frames places = map (page_in frames) places

-- each place is a frame with a page and no other frame has one, the pages stand in order, the keys are theirs, and
-- there is room for as many as there may be
pub record AreFrames (frames : Slab CachedPage) (places : List ℕ) (places_capacity : ℕ) (keys : List (ℕ × ℕ)) (keys_capacity room : ℕ) : Type 0 where
  pub filled : (k : ℕ) → In k places → IsSome (get frames k)
  pub count : slab_len frames ≡ length places
  pub rising : IsRising (pages_in frames places)
  pub keyed : keys ≡ map key_of (pages_in frames places)
  pub most : length places ≤ room
  pub enough_frames : room ≤ frames.capacity
  pub enough_places : room ≤ places_capacity
  pub enough_keys : room ≤ keys_capacity
