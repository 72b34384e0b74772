-- The walk through a volume: from its root, each inode where it is met first, and the first fault.
use Rattle.std.specs.Prelude.{ℕ, zero, suc, ◌+◌, ◌/◌, ◌%◌, ◌==◌, Bool, not, ◌&&◌, ◌||◌, nat_lt, if◌then◌else◌, List, [], ◌∷◌, ◌++◌, map, Result, Ok, Err}
use Rattle.minix_layout.specs.Widths.{slot_size}
use Rattle.minix_layout.specs.declared.division.Geometry.{Geometry}
use Rattle.minix_layout.specs.declared.inode.Inode.{Inode}
use Rattle.minix_layout.specs.declared.fault.LayoutFault.TheVariants.{BadInode}
use Rattle.volume_ops.specs.declared.found.Found.{Found}
use Rattle.volume_ops.specs.declared.found.Found.TheVariants as found
use Rattle.volume_ops.specs.declared.found.FoundNode.{FoundNode}
use Rattle.volume_ops.specs.Reads.{Reads, Ret, Read, if_ok}
use Rattle.volume_ops.specs.Places.{largest_size, table_block, inode_in_block, is_directory, is_file, birth_of, inode_of_birth}
use Rattle.volume_ops.specs.Marks.{no_marks, is_marked, marked}
use Rattle.volume_ops.specs.Zones.{Fault, ZoneScan, scan_zones}
use Rattle.volume_ops.specs.Slots.{SlotScan, scan_slots}

-- zones and inodes that were met, directories that were named, and the nodes in the order in which they were met
pub record WalkState : Type 0 where
  pub zones : List Bool
  pub inodes : List Bool
  pub named : List Bool
  pub nodes : List FoundNode

-- What the walk finds: for each zone whether it was met, and the nodes in the order in which they were met.
pub record Walked : Type 0 where
  pub zones : List Bool
  pub nodes : List FoundNode

abbrev pub found_in : WalkState → Walked
found_in w = record { zones = w.zones; nodes = w.nodes }

-- an inode that is to be met, and the birth of the directory that names it
pub record Pending : Type 0 where
  pub inode : ℕ
  pub parent : ℕ

-- what an inode gave: the state after it, and the inodes that it names
pub record Visit : Type 0 where
  pub state : WalkState
  pub names : List Pending

-- the inodes that a directory names, in the order of the names
abbrev pub pending_in : ℕ → List (List ℕ × ℕ) → List Pending
pending_in birth names = map (λ e. record { inode = inode_of_birth e.1; parent = birth }) names

-- the inode is met, with the marks of zones and of named directories after it, and its node comes last
abbrev pub met_node : WalkState → ℕ → List Bool → List Bool → Found → WalkState
met_node w inode zones named found = record {
  zones = zones;
  inodes = marked w.inodes inode;
  named = named;
  nodes = w.nodes ++ record { birth = birth_of inode; found = found } ∷ [];
}

-- inode 1 is no directory, a size is past the largest, or a directory's size is no whole number of slots
abbrev pub is_bad_inode : Geometry → ℕ → Inode → Bool
is_bad_inode g number i =
    (number == 1 && not (is_directory i.mode))
    || ((nat_lt largest_size i.size && (is_directory i.mode || is_file i.mode))
    || (is_directory i.mode && not (i.size % slot_size g.width == 0)))

-- a file, once its zones were tested
abbrev pub visit_file : WalkState → ℕ → Inode → ZoneScan → Result Visit Fault
visit_file w inode i z = Ok (record {
  state = met_node w inode z.met w.named (found.File (record { size = i.size; links = i.links; zones = z.mapped }));
  names = [];
})

-- a directory, once its zones and its slots were tested
abbrev pub visit_directory : Geometry → WalkState → Pending → Inode → ZoneScan → SlotScan → Result Visit Fault
visit_directory g w e i z s = Ok (record {
  state = met_node w e.inode z.met s.named (found.Directory (record { parent = e.parent; width = g.width; slots = i.size / slot_size g.width; names = s.names }));
  names = pending_in (birth_of e.inode) s.names;
})

-- anything else, whose zones are not read
abbrev pub visit_other : WalkState → ℕ → Inode → Result Visit Fault
visit_other w inode i = Ok (record { state = met_node w inode w.zones w.named (found.Other i.mode); names = [] })

-- an inode where it is met first, of the bytes of its block of the table
abbrev pub visit_inode : Geometry → WalkState → Pending → Inode → Reads (Result Visit Fault)
visit_inode g w e i =
    if is_bad_inode g e.inode i then Ret (Err (BadInode, table_block g e.inode))
    else if is_directory i.mode then
    if_ok (scan_zones g (table_block g e.inode) i.zones w.zones)
    (λ z. if_ok (scan_slots g (i.size / slot_size g.width) z.mapped (record { named = w.named; names = [] }))
    (λ s. Ret (visit_directory g w e i z s)))
    else if is_file i.mode then
    if_ok (scan_zones g (table_block g e.inode) i.zones w.zones) (λ z. Ret (visit_file w e.inode i z))
    else Ret (visit_other w e.inode i)

unfoldable pub visit : Geometry → WalkState → Pending → Reads (Result Visit Fault)
visit g w e = Read (table_block g e.inode) (λ body. visit_inode g w e (inode_in_block e.inode body))

-- The walk through the inodes that are to be met, the next one first. What was met before is passed over;
-- `again` goes on with one inode less to be met.
abbrev pub walk_through : Geometry → (WalkState → List Pending → Reads (Result Walked Fault)) → WalkState → List Pending → Reads (Result Walked Fault)
walk_through g again w [] = Ret (Ok (found_in w))
walk_through g again w (e ∷ rest) =
    if is_marked w.inodes e.inode then walk_through g again w rest
    else if_ok (visit g w e) (λ v. again v.state (v.names ++ rest))

-- so, with so many inodes to be met
abbrev pub walk : ℕ → Geometry → WalkState → List Pending → Reads (Result Walked Fault)
walk zero g = walk_through g (λ w rest. Ret (Ok (found_in w)))
walk (suc n) g = walk_through g (walk n g)

-- nothing was met, and of the directories the root was named
abbrev pub at_start : Geometry → WalkState
at_start g = record {
  zones = no_marks g.zones;
  inodes = no_marks (g.inodes + 1);
  named = marked (no_marks (g.inodes + 1)) 1;
  nodes = [];
}

-- inode 1; the root counts as its own parent
abbrev pub root : Pending
root = record { inode = 1; parent = 0 }

-- the walk through a volume
unfoldable pub walk_volume : Geometry → Reads (Result Walked Fault)
walk_volume g = walk g.inodes g (at_start g) (root ∷ [])
