-- The flash log: pages that were given a place and are not folded yet, in order of the log, and what they lay over the data area.
use Rattle.std.specs.Prelude.{ℕ, zero, suc, ◌+◌, ◌==◌, Bool, true, false, List, [], ◌∷◌, map, Option, Some, slice_set, if◌then◌else◌}
use Rattle.std.specs.List.{list_any}
use Rattle.std.specs.Option.{option_map_or}
use Rattle.order_model.specs.declared.part.Part.{Part}
use Rattle.order_model.specs.declared.command.Command.{Command}
use Rattle.order_model.specs.Received.{part_at}
pub use Rattle.flog_device.specs.declared.log.Place.{Place}
pub use Rattle.flog_device.specs.declared.log.Page.{Page}

-- the pages of parts that begin at this place; none is programmed
abbrev pub pages : ℕ → List Part → List Page
pages place [] = []
pages place (p ∷ ps) = record { place = record { block = p.block; part = place }; programmed = false } ∷ pages (place + 1) ps

-- all before the first one that is not programmed
abbrev pub prefix : List Page → List Page
prefix [] = []
prefix (p ∷ ps) = if p.programmed then p ∷ prefix ps else []

-- the block of the page, and the part whose body it has
abbrev pub place_of : Page → Place
place_of p = p.place

abbrev pub places : List Page → List Place
places ps = map place_of ps

-- the page at this place of the list was programmed
abbrev pub programmed_at : ℕ → List Page → List Page
programmed_at i [] = []
programmed_at zero (p ∷ ps) = record { place = p.place; programmed = true } ∷ ps
programmed_at (suc i) (p ∷ ps) = p ∷ programmed_at i ps

-- a later page of the prefix has this block
abbrev pub is_covered : ℕ → List Page → Bool
is_covered block ps = list_any (λ (p : Page). p.place.block == block) (prefix ps)

-- the bytes of the part at this place; where there is none, the bytes that are given
abbrev pub body_at : List Command → ℕ → List ℕ → List ℕ
body_at took place old = option_map_or (λ (p : Part). p.body) (part_at took place) old

-- places laid over an area in order, and over the parts that it has
abbrev pub laid : List Command → List Place → List (List ℕ) → List (List ℕ)
laid took [] area = area
laid took (p ∷ ps) area = laid took ps (slice_set area p.block (body_at took p.part []))

abbrev pub laid_origins : List Place → List (Option ℕ) → List (Option ℕ)
laid_origins [] area = area
laid_origins (p ∷ ps) area = laid_origins ps (slice_set area p.block (Some p.part))
