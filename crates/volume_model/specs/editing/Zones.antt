-- Which zones a cut frees, and in which it changes a number.
use Rattle.std.specs.Prelude.{ℕ, nat_lt, nat_eq, Bool, not, ◌&&◌, List, [], ◌∷◌, ◌++◌, map, filter, Option, Some, None}
use Rattle.minix_layout.specs.declared.inode.Inode.{Inode}
use Rattle.volume_ops.specs.declared.found.Mapped.{Mapped}
use Rattle.volume_model.specs.Volume.{Place, zone_in}
use Rattle.volume_model.specs.Counts.{number_places}
use Rattle.volume_model.specs.declared.editing.written.WrittenZones.{WrittenZones}

-- the blocks of a file that go in a cut
abbrev pub blocks_cut : List Mapped → ℕ → List Mapped
blocks_cut zones from = filter (λ m. not (nat_lt m.index from)) zones

-- the zones of numbers that go
unfoldable pub numbers_cut : List (List ℕ) → Inode → (Place → Bool) → List ℕ
numbers_cut blocks i keeps = map (λ x. zone_in blocks i x) (filter (λ x. not (nat_eq (zone_in blocks i x) 0) && not (keeps x)) number_places)

-- ---- those in which a cut changes a number

abbrev pub as_list : Option ℕ → List ℕ
as_list None = []
as_list (Some zone) = zone ∷ []

-- those zones of numbers, in the order in which a cut clears them
abbrev pub written_list : WrittenZones → List ℕ
written_list w = as_list w.inner ++ as_list w.outer
