-- What the code does where a file is cut: the zones that go, one by one, and then the map of the file.
use Rattle.std.specs.Prelude.{◌≡◌, ℕ, ◌/◌, ◌%◌, nat_eq, nat_lt, ◌||◌, ⊤, false, if◌then◌else◌, List, [], ◌∷◌, filter, length, Some, ◌++◌}
use Rattle.tree_model.specs.Calls.{cut_body}
use Rattle.volume_ops.specs.declared.found.Mapped.{Mapped}
use Rattle.volume_ops.specs.Places.{table_block}
use Rattle.volume_ops.specs.Volume.{disk_of}
use Rattle.minix_tables.specs.declared.zones.zone_state.ZoneState.TheVariants as states
use Rattle.minix_tables.specs.zones.Zones.{Zones, given, state_of}
use Rattle.volume_model.specs.Counts.{keeps_below, indices_of}
use Rattle.volume_model.specs.Cut.{cut_to}
use Rattle.volume_model.specs.Edits.{edited, put_inode, touched_by}
use Rattle.volume_model.specs.Moves.{page_of, inode_written, inode_told}
use Rattle.volume_model.specs.Touched.{Touched, and_then}
use Rattle.volume_model.specs.Volume.{block, zone_in}
use Rattle.volume_steps.specs.Now.{Change}
use Rattle.volume_steps.specs.Steps.{tells_node}
use Rattle.volume_steps.specs.Zones.{zone_bit}
use Rattle.volume_in_use.specs.bytes.code.Work.{Work, put_work}

-- each of these zones is in use when its turn comes to wait for the transaction
abbrev pub MayGive : ℕ → Zones → List ℕ → Type 0
MayGive tx m [] = ⊤
MayGive tx m (zone ∷ zones) = (state_of m zone ≡ Some states.Used) × MayGive tx (given m zone tx) zones

-- a mapped block of the file with this birth goes
abbrev pub tells_dropped : ℕ → Mapped → Touched
tells_dropped birth m = record { blocks = []; freed = []; revoked = []; pages = []; dropped = page_of birth m ∷ []; nodes = [] }

-- a zone of numbers goes, which was metadata
abbrev pub tells_revoked : ℕ → Touched
tells_revoked zone = record { blocks = []; freed = []; revoked = zone ∷ []; pages = []; dropped = []; nodes = [] }

-- a zone goes, with its bit
unfoldable pub free_zone : ℕ → ℕ → Change → Change
free_zone tx zone c = record {
  volume = record {
    geometry = c.volume.geometry;
    contents = record { blocks = edited c.volume.geometry c.volume.contents.blocks (zone_bit c.volume.geometry false zone); nodes = c.volume.contents.nodes };
    zones = given c.volume.zones zone tx;
  };
  touched = and_then c.touched (record { blocks = touched_by c.volume.geometry (zone_bit c.volume.geometry false zone) ∷ []; freed = zone ∷ []; revoked = []; pages = []; dropped = []; nodes = [] });
}

-- that of a block of the file
abbrev pub free_block : ℕ → ℕ → Mapped → Change → Change
free_block tx birth m c = record { volume = (free_zone tx m.zone c).volume; touched = and_then (free_zone tx m.zone c).touched (tells_dropped birth m) }

-- a zone of numbers
abbrev pub free_number : ℕ → ℕ → Change → Change
free_number tx zone c = record { volume = (free_zone tx zone c).volume; touched = and_then (free_zone tx zone c).touched (tells_revoked zone) }

abbrev pub blocks_freed : ℕ → ℕ → List Mapped → Change → Change
blocks_freed tx birth [] c = c
blocks_freed tx birth (m ∷ ms) c = blocks_freed tx birth ms (free_block tx birth m c)

abbrev pub numbers_freed : ℕ → List ℕ → Change → Change
numbers_freed tx [] c = c
numbers_freed tx (zone ∷ zones) c = numbers_freed tx zones (free_number tx zone c)

-- the blocks first, and then the zones of numbers
abbrev pub all_freed : ℕ → ℕ → List Mapped → List ℕ → Change → Change
all_freed tx birth ms numbers c = numbers_freed tx numbers (blocks_freed tx birth ms c)

-- then the map of the file is cut; `written` are the zones of numbers in which a number changes
unfoldable pub map_cut : ℕ → List ℕ → Work → Work
map_cut from written w =
    let g = w.volume.geometry in
    let u = cut_to g (keeps_below (indices_of w.file.zones) from) (record { blocks = w.volume.contents.blocks; inode = w.file.inode }) from in
    record {
      volume = record { geometry = g; contents = record { blocks = inode_written g u.blocks w.file.number w.file.inode u.inode; nodes = w.volume.contents.nodes }; zones = w.volume.zones };
      file = record { birth = w.file.birth; number = w.file.number; inode = u.inode; zones = filter (λ m. nat_lt m.index from) w.file.zones };
      touched = and_then w.touched (tells_node w.file.birth (written ++ inode_told g w.file.number w.file.inode u.inode));
    }

-- all of it, where any blocks go
abbrev pub cut_work : ℕ → ℕ → List Mapped → List ℕ → List ℕ → Work → Work
cut_work tx from ms numbers written w =
    if nat_eq (length ms) 0 then w
    else
    let c = all_freed tx w.file.birth ms numbers (record { volume = w.volume; touched = w.touched }) in
    map_cut from written (record { volume = c.volume; file = w.file; touched = c.touched })

-- a block in which the size ends has zeros behind it
abbrev pub tail_work : ℕ → Work → Work
tail_work size w =
    let zone = zone_in w.volume.contents.blocks w.file.inode (block (size / 1024)) in
    if nat_eq (size % 1024) 0 || nat_eq zone 0 then w
    else put_work (cut_body size (size / 1024) (disk_of w.volume.contents.blocks zone)) (size / 1024) zone w
