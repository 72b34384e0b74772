-- A small volume, and what calls on it touch and take: 64 zones with 32 inodes, of which the first five blocks are no
-- zones of data.
use Rattle.std.specs.Prelude.{ℕ, ◌+◌, ◌==◌, List, [], ◌∷◌, ◌++◌, map, take, codes}
use Rattle.std.specs.List.{list_any, range_with_len, count_by}
use Rattle.minix_layout.specs.declared.division.Geometry.{Geometry}
use Rattle.minix_layout.specs.Geometry.{geometry_made}
use Rattle.tree_model.specs.declared.call.Call.{Call}
use Rattle.tree_model.specs.declared.call.Call.TheVariants as calls
use Rattle.minix_tables.specs.declared.zones.zone_state.ZoneState.{ZoneState}
use Rattle.minix_tables.specs.zones.Zones.{made}
use Rattle.volume_model.specs.declared.placed.Placed.{Placed}
use Rattle.volume_model.specs.NewVolume.{new_volume}
use Rattle.volume_model.specs.Touched.{Touched, and_then}
use Rattle.volume_steps.specs.Now.{VolumeNow, untouched}
use Rattle.volume_steps.specs.Calls.{called}

abbrev pub small_geometry : Geometry
small_geometry = geometry_made 32 64 14

abbrev pub small_volume : VolumeNow
small_volume = record { geometry = small_geometry; contents = new_volume small_geometry; zones = made small_geometry (5 ∷ []) }

-- the volume after calls, the first with this number, all in one transaction
abbrev pub after_calls : ℕ → ℕ → VolumeNow → List Call → VolumeNow
after_calls tx n v [] = v
after_calls tx n v (c ∷ cs) = after_calls tx (n + 1) (called v n tx c).change.volume cs

-- what they touched, told as one
abbrev pub touched_in : ℕ → ℕ → VolumeNow → List Call → Touched
touched_in tx n v [] = untouched
touched_in tx n v (c ∷ cs) = and_then (called v n tx c).change.touched (touched_in tx (n + 1) (called v n tx c).change.volume cs)

-- a block that is listed counts once
abbrev pub count_once : List ℕ → ℕ
count_once blocks = count_by (λ b. list_any (λ x. x == b) blocks) (range_with_len 0 64)

-- the numbers of the inodes of its nodes
abbrev pub numbers_of : VolumeNow → List ℕ
numbers_of v = map (λ (e : ℕ × Placed). e.1.number) v.contents.nodes

-- what its first zones of data are
abbrev pub first_zones : VolumeNow → List ZoneState
first_zones v = take 3 v.zones.states

-- ---- calls

abbrev pub first_session : List Call
first_session = calls.Mkdir (codes "/a") ∷ calls.Create (codes "/a/f") ∷ calls.Write (codes "/a/f") 0 3 0x61 ∷ []

abbrev pub removing_session : List Call
removing_session = first_session ++ (calls.Unlink (codes "/a/f") ∷ calls.Rmdir (codes "/a") ∷ [])

-- a file and a directory that move to other directories, and a file that takes another one's name
abbrev pub renaming_session : List Call
renaming_session =
    calls.Mkdir (codes "/a") ∷ calls.Create (codes "/a/f") ∷ calls.Rename (codes "/a/f") (codes "/g")
    ∷ calls.Mkdir (codes "/b") ∷ calls.Rename (codes "/a") (codes "/b/a")
    ∷ calls.Create (codes "/h") ∷ calls.Rename (codes "/h") (codes "/g") ∷ []

-- eleven directories, and the first ten of them
abbrev pub ten_directories : List Call
ten_directories = map calls.Mkdir (codes "/a" ∷ codes "/b" ∷ codes "/c" ∷ codes "/d" ∷ codes "/e" ∷ codes "/f" ∷ codes "/g" ∷ codes "/h" ∷ codes "/i" ∷ codes "/j" ∷ [])
