-- A volume that is in use, as plain data; and a change of it, with what the change tells.
use Rattle.std.specs.Prelude.{ℕ, ◌-◌, List, []}
use Rattle.minix_layout.specs.declared.division.Geometry.{Geometry}
use Rattle.tree_model.specs.declared.call.Room.{Room}
use Rattle.tree_model.specs.Calls.{Tree}
use Rattle.minix_tables.specs.zones.Zones.{Zones}
use Rattle.volume_model.specs.Edits.{Edit, edited_all, touched_by_all}
use Rattle.volume_model.specs.Touched.{Contents, Touched, and_then}
use Rattle.volume_model.specs.Trees.{tree_now}

-- its blocks with the nodes that stand in them, and what each zone of data is
pub record VolumeNow : Type 0 where
  pub geometry : Geometry
  pub contents : Contents
  pub zones : Zones

-- the tree that it stands for, by births
abbrev pub tree_of_now : VolumeNow → Tree
tree_of_now v = tree_now v.contents.blocks v.contents.nodes

-- how much it can hold
abbrev pub room_of : Geometry → Room
room_of g = record { inodes = g.inodes; capacity = g.zones - g.first }

-- the volume after a change, and what the change touched
pub record Change : Type 0 where
  pub volume : VolumeNow
  pub touched : Touched

abbrev pub untouched : Touched
untouched = record { blocks = []; freed = []; revoked = []; pages = []; dropped = []; nodes = [] }

abbrev pub unchanged : VolumeNow → Change
unchanged v = record { volume = v; touched = untouched }

-- one change after the other, told as one
abbrev pub followed_by : Change → (VolumeNow → Change) → Change
followed_by c next = record { volume = (next c.volume).volume; touched = and_then c.touched (next c.volume).touched }

-- other contents, and other zones
abbrev pub with_contents : VolumeNow → Contents → VolumeNow
with_contents v contents = record { geometry = v.geometry; contents = contents; zones = v.zones }

abbrev pub with_zone_states : VolumeNow → Zones → VolumeNow
with_zone_states v zones = record { geometry = v.geometry; contents = v.contents; zones = zones }

-- metadata is written, and the nodes stay
abbrev pub written : Geometry → Contents → List Edit → Contents
written g c es = record { blocks = edited_all g c.blocks es; nodes = c.nodes }

-- what such writes tell
abbrev pub tells_blocks : List ℕ → Touched
tells_blocks blocks = record { blocks = blocks; freed = []; revoked = []; pages = []; dropped = []; nodes = [] }

abbrev pub tells_writes : Geometry → List Edit → Touched
tells_writes g es = tells_blocks (touched_by_all g es)
