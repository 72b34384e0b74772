-- A block of a file or a directory is mapped: the places on the way to it that have no zone get one, from the inode down.
use Rattle.std.specs.Prelude.{ℕ, nat_eq, if◌then◌else◌, List, [], ◌∷◌, ◌++◌, slice_set}
use Rattle.byte_fields.specs.Fields.{zeros}
use Rattle.minix_layout.specs.declared.division.Geometry.{Geometry}
use Rattle.minix_layout.specs.declared.inode.Inode.{Inode}
use Rattle.volume_model.specs.Edits.{Edit, put_body, put_entry, edited_all}
use Rattle.volume_model.specs.Volume.{Place, block, indirect, double, inner, zone_in}
use Rattle.volume_model.specs.Ways.{way, Home, slot, entry, nowhere, home}

-- blocks with an inode that is not yet written to them
pub record OpenInode : Type 0 where
  pub blocks : List (List ℕ)
  pub inode : Inode

-- the zone at a place, 0 for none, by the inode that is not written yet
abbrev pub own_of : OpenInode → Place → ℕ
own_of s x = zone_in s.blocks s.inode x

abbrev pub with_zones : Inode → List ℕ → Inode
with_zones i zones = record { mode = i.mode; uid = i.uid; size = i.size; time = i.time; gid = i.gid; links = i.links; zones = zones }

-- the number of a place, written to its home
abbrev pub entry_edits : OpenInode → Home → ℕ → List Edit
entry_edits s (slot k) z = []
entry_edits s (entry h k) z = put_entry (own_of s h) k z ∷ []
entry_edits s nowhere z = []

-- so, where that is one of the nine of the inode; else the inode stays
abbrev pub slot_written : Inode → Home → ℕ → Inode
slot_written i (slot k) z = with_zones i (slice_set i.zones k z)
slot_written i (entry h k) z = i
slot_written i nowhere z = i

-- what is written where place `x` gets zone `z`: these bytes, and its number unless the inode has it
abbrev pub gets_edits : OpenInode → Place → ℕ → List ℕ → List Edit
gets_edits s x z body = put_body z body ∷ entry_edits s (home x) z

-- place `x` gets zone `z`, with these bytes
abbrev pub get_zone : Geometry → OpenInode → Place → ℕ → List ℕ → OpenInode
get_zone g s x z body = record { blocks = edited_all g s.blocks (gets_edits s x z body); inode = slot_written s.inode (home x) z }

-- the zones that were taken for it: its own first, then those of numbers from the inode down
pub record TakenZones : Type 0 where
  pub data_zone : ℕ
  pub outer : ℕ
  pub second : ℕ

-- the one that was taken for a place
abbrev pub taken_at : TakenZones → Place → ℕ
taken_at t (block i) = t.data_zone
taken_at t indirect = t.outer
taken_at t double = t.outer
taken_at t (inner k) = t.second

-- a zone of numbers begins with none
abbrev pub first_body : List ℕ → Place → List ℕ
first_body content (block i) = content
first_body content indirect = zeros 1024
first_body content double = zeros 1024
first_body content (inner k) = zeros 1024

-- a place without a zone gets the one that was taken for it; one that has a zone stays
abbrev pub get_step : Geometry → TakenZones → List ℕ → OpenInode → Place → OpenInode
get_step g t content s x = if nat_eq (own_of s x) 0 then get_zone g s x (taken_at t x) (first_body content x) else s

abbrev pub get_steps : Geometry → TakenZones → List ℕ → OpenInode → List Place → OpenInode
get_steps g t content s [] = s
get_steps g t content s (x ∷ xs) = get_steps g t content (get_step g t content s x) xs

-- block `index` has a zone after it, with these bytes where it had none
unfoldable pub map_block : Geometry → TakenZones → List ℕ → OpenInode → ℕ → OpenInode
map_block g t content s index = get_steps g t content s (way index)

-- the same as single writes: those of one place, and those of all places on the way
abbrev pub step_edits : TakenZones → List ℕ → OpenInode → Place → List Edit
step_edits t content s x = if nat_eq (own_of s x) 0 then gets_edits s x (taken_at t x) (first_body content x) else []

abbrev pub all_edits : Geometry → TakenZones → List ℕ → OpenInode → List Place → List Edit
all_edits g t content s [] = []
all_edits g t content s (x ∷ xs) = step_edits t content s x ++ all_edits g t content (get_step g t content s x) xs
