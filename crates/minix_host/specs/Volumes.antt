-- What the host sees of a volume in use: its metadata, the zones of blocks of files, and which zones are free or wait.
use Rattle.std.specs.Prelude.{ℕ, ◌+◌, ◌<◌, ◌==◌, slice_index, Bool, ◌||◌, nat_lt, if◌then◌else◌, List, [], ◌∷◌, Option, Some, None}
use Rattle.std.specs.List.{list_any}
use Rattle.minix_layout.specs.declared.inode.Inode.{Inode}
use Rattle.tree_model.specs.Maps.{at_number}
use Rattle.volume_ops.specs.Volume.{disk_of}
use Rattle.minix_tables.specs.declared.zones.zone_state.ZoneState.{ZoneState}
use Rattle.minix_tables.specs.declared.zones.zone_state.ZoneState.TheVariants as states
use Rattle.volume_model.specs.declared.placed.Placed.{Placed}
use Rattle.volume_model.specs.declared.placed.Part.{Part}
use Rattle.volume_model.specs.declared.placed.Part.TheVariants as parts
use Rattle.volume_model.specs.Volume.{block, zone_in}
use Rattle.volume_steps.specs.Now.{VolumeNow}
use Rattle.volume_steps.specs.Steps.{metadata_gone}
use Rattle.host_machine.specs.Model.{Freed, Zones}

-- all numbers are bytes: of a list, and of each block
abbrev pub AreBytes : List ℕ → Type 0
AreBytes xs = (k : ℕ) → slice_index xs k < 256

abbrev pub HaveBytes : List (List ℕ) → Type 0
HaveBytes blocks = (b : ℕ) → AreBytes (disk_of blocks b)

-- a block is metadata of this node: a zone of numbers, or one of a directory's slots
abbrev pub is_metadata_of : VolumeNow → ℕ → Placed → Bool
is_metadata_of v b p = list_any (λ zone. zone == b) (metadata_gone v.contents p p.part)

-- a block is metadata: it lies before the zones, or is metadata of a node
unfoldable pub is_metadata : VolumeNow → ℕ → Bool
is_metadata v b = nat_lt b v.geometry.first || list_any (λ (e : ℕ × Placed). is_metadata_of v b e.1) v.contents.nodes

-- the zone of a block of a file; none where it is a hole
abbrev pub some_zone : ℕ → Option ℕ
some_zone zone = if zone == 0 then None else Some zone

-- none in a hole, and none of a directory
abbrev pub zone_of_part : List (List ℕ) → Inode → Part → ℕ → Option ℕ
zone_of_part blocks i (parts.Directory d) index = None
zone_of_part blocks i (parts.File zones) index = some_zone (zone_in blocks i (block index))

unfoldable pub zone_of : VolumeNow → ℕ → ℕ → Option ℕ
zone_of v birth index = elim (at_number v.contents.nodes birth) as (λ _. Option ℕ) [ None ↦ None | Some p ↦ zone_of_part v.contents.blocks p.inode p.part index ]

-- the free zones, and those that wait for a transaction, where the first of these zones has this number
abbrev pub free_from : ℕ → List ZoneState → List ℕ
free_from zone [] = []
free_from zone (states.Free ∷ more) = zone ∷ free_from (zone + 1) more
free_from zone (other ∷ more) = free_from (zone + 1) more

abbrev pub waiting_from : ℕ → List ZoneState → List Freed
waiting_from zone [] = []
waiting_from zone (states.Quarantined transaction ∷ more) = record { zone = zone; transaction = transaction } ∷ waiting_from (zone + 1) more
waiting_from zone (other ∷ more) = waiting_from (zone + 1) more

unfoldable pub zones_of : VolumeNow → Zones
zones_of v = record { free = free_from v.zones.first v.zones.states; waiting = waiting_from v.zones.first v.zones.states }
