-- The device's cache: parts that were transferred and are not yet on the medium, in order of transfer.
use Rattle.std.specs.Prelude.{ℕ, ◌+◌, ◌==◌, ◌&&◌, not, Bool, List, [], ◌∷◌, ◌++◌, filter, map, if◌then◌else◌}
use Rattle.std.specs.List.{list_any}
use Rattle.order_model.specs.declared.part.Part.{Part}
use Rattle.device_epochs.specs.declared.cache.Entry.{Entry}

-- the two are of one epoch and one block
abbrev pub same_place : Entry → Entry → Bool
same_place e f = (e.epoch == f.epoch) && (e.block == f.block)

-- An entry goes in: it takes the place of the one of its epoch and block, or goes to the end.
abbrev pub put_entry : Entry → List Entry → List Entry
put_entry e cache = if list_any (same_place e) cache then map (λ f. if same_place e f then e else f) cache else cache ++ e ∷ []

-- the entries of parts that begin at this place
abbrev pub entries : ℕ → ℕ → List Part → List Entry
entries epoch place [] = []
entries epoch place (p ∷ ps) = record { epoch = epoch; block = p.block; part = place } ∷ entries epoch (place + 1) ps

-- entries go in, one after the other
abbrev pub put_all : List Entry → List Entry → List Entry
put_all [] cache = cache
put_all (e ∷ es) cache = put_all es (put_entry e cache)

-- The entries that may be written next: those of the oldest epoch that has entries, in order. Epochs
-- never fall along the cache, so the oldest is the first entry's.
abbrev pub oldest : List Entry → List Entry
oldest [] = []
oldest (e ∷ es) = filter (λ f. f.epoch == e.epoch) (e ∷ es)

-- all entries but the one of this epoch and block
abbrev pub without_entry : Entry → List Entry → List Entry
without_entry e cache = filter (λ f. not (same_place e f)) cache
