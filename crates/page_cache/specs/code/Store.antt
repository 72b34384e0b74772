-- Pages whose bodies stand apart, and what holds of the fields.
use Rattle.std.specs.Prelude.{◌≡◌, ℕ, ◌+◌, ◌≤◌, ⊤, Bool, List, [], map, count_by, Option, Some, None, is_some, IsSome}
use Rattle.std.specs.Option.{option_map}
use Rattle.slab.specs.Slab.{Slab, get, slab_len, Updates}
use Rattle.blk_base.specs.Block.{filled}
use Rattle.page_cache.specs.declared.cached_page.CachedPage.{CachedPage}
use Rattle.page_cache.specs.declared.page_body.PageBody.{PageBody}
use Rattle.page_cache.specs.declared.page_body.PageBody.TheVariants.{Full, Slot}
use Rattle.page_cache.specs.declared.page_store.PageHead.{PageHead}

-- a slot that is free has no bytes; no head names such a slot
abbrev pub body_or_none : Option (List ℕ) → List ℕ
body_or_none None = []
body_or_none (Some b) = b

-- the body that is kept so
abbrev pub body_of : Slab (List ℕ) → PageBody → List ℕ
body_of bodies (Full v) = filled v
body_of bodies (Slot k) = body_or_none (get bodies k)

-- a head and a body are a page
abbrev pub with_body : PageHead → List ℕ → CachedPage
with_body h b = record { birth = h.birth; index = h.index; block = h.block; body = b; version = h.version; state = h.state }

abbrev pub page_of : Slab (List ℕ) → PageHead → CachedPage
page_of bodies h = with_body h (body_of bodies h.body)

-- the pages in their frames
abbrev pub stored : Slab (List ℕ) → Slab PageHead → ℕ → Slab CachedPage
stored bodies heads room = record { slots = map (option_map (page_of bodies)) heads.slots; vacant_key = heads.vacant_key; capacity = room }

-- the slot of a body, if it has one
abbrev pub slot_in : PageBody → Option ℕ
slot_in (Full v) = None
slot_in (Slot k) = Some k

abbrev pub slot_of : Option PageHead → Option ℕ
slot_of None = None
slot_of (Some h) = slot_in h.body

abbrev pub has_slot : Option PageHead → Bool
has_slot o = is_some (slot_of o)

-- the slot, if there is one, has a body
abbrev pub IsThere : Slab (List ℕ) → Option ℕ → Type 0
IsThere bodies None = ⊤
IsThere bodies (Some k) = IsSome (get bodies k)

-- a body came into the slot, which was free, or needed none
abbrev pub IsKept : Slab (List ℕ) → Slab (List ℕ) → Option ℕ → Type 0
IsKept old new None = new ≡ old
IsKept old new (Some k) = (get old k ≡ None) × (b : List ℕ) × Updates old new k (Some b) × (slab_len new ≡ slab_len old + 1)

-- the body went from the slot, or had none
abbrev pub IsReleased : Slab (List ℕ) → Slab (List ℕ) → Option ℕ → Type 0
IsReleased old new None = new ≡ old
IsReleased old new (Some k) = Updates old new k None × (slab_len new + 1 ≡ slab_len old)

-- each slot that a head names has a body and no other head names it, no other body has a slot, and there is room for
-- as many as there may be
pub record AreStored (bodies : Slab (List ℕ)) (heads : Slab PageHead) (room : ℕ) : Type 0 where
  pub there : (i : ℕ) → IsThere bodies (slot_of (get heads i))
  pub apart : (i j k : ℕ) → slot_of (get heads i) ≡ Some k → slot_of (get heads j) ≡ Some k → i ≡ j
  pub count : slab_len bodies ≡ count_by has_slot heads.slots
  pub most : slab_len heads ≤ room
  pub enough_heads : room ≤ heads.capacity
  pub enough_bodies : room ≤ bodies.capacity
