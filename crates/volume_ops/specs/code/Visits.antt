-- The parts of a visit, and what it leaves to be met.
use Rattle.std.specs.Prelude.{ℕ, ◌/◌, ◌<◌, ◌≤◌, List, [], ◌++◌, Result, Ok, Err}
use Rattle.std.specs.List.{All}
use Rattle.minix_layout.specs.Widths.{slot_size}
use Rattle.minix_layout.specs.declared.division.Geometry.{Geometry}
use Rattle.minix_layout.specs.declared.inode.Inode.{Inode}
use Rattle.volume_ops.specs.Reads.{Reads, Ret, if_ok}
use Rattle.volume_ops.specs.Places.{table_block}
use Rattle.volume_ops.specs.Zones.{Fault, scan_zones}
use Rattle.volume_ops.specs.Slots.{scan_slots}
use Rattle.volume_ops.specs.Walk.{WalkState, Pending, Visit, visit_file, visit_directory}

-- what is to be met after a visit: the names that it gave, and then the rest
abbrev pub met_next : Result Visit Fault → List Pending → Result (WalkState × List Pending) Fault
met_next (Ok v) rest = Ok (v.state, v.names ++ rest)
met_next (Err fault) rest = Err fault

-- a file
abbrev pub file_visit : Geometry → WalkState → ℕ → Inode → Reads (Result Visit Fault)
file_visit g w inode i =
    if_ok (scan_zones g (table_block g inode) i.zones w.zones) (λ z. Ret (visit_file w inode i z))

-- a directory
abbrev pub directory_visit : Geometry → WalkState → Pending → Inode → Reads (Result Visit Fault)
directory_visit g w e i =
    if_ok (scan_zones g (table_block g e.inode) i.zones w.zones)
    (λ z. if_ok (scan_slots g (i.size / slot_size g.width) z.mapped (record { named = w.named; names = [] }))
    (λ s. Ret (visit_directory g w e i z s)))

-- an inode of the volume
pub record IsPending (g : Geometry) (e : Pending) : Type 0 where
  pub some : 0 < e.inode
  pub within : e.inode ≤ g.inodes

pub record ArePending (g : Geometry) (es : List Pending) : Type 0 where
  pub each : All (IsPending g) es
