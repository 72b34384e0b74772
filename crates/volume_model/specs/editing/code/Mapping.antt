-- The steps of mapping a block as the code takes them.
use Rattle.std.specs.Prelude.{ℕ, nat_eq, if◌then◌else◌, List, slice_index, slice_set}
use Rattle.minix_layout.specs.declared.division.Geometry.{Geometry}
use Rattle.minix_tables.specs.inodes.Map.{entry_behind}
use Rattle.volume_model.specs.Edits.{put_body, put_entry, edited}
use Rattle.volume_model.specs.Ways.{entry_of}
use Rattle.volume_model.specs.MapBlock.{OpenInode, with_zones}

-- one of the nine is filled where it is a hole
unfoldable pub slot_step : Geometry → OpenInode → ℕ → ℕ → List ℕ → OpenInode
slot_step g s k z body =
    if nat_eq (slice_index s.inode.zones k) 0 then record { blocks = edited g s.blocks (put_body z body); inode = with_zones s.inode (slice_set s.inode.zones k z) }
    else s

-- an entry of a zone of numbers
unfoldable pub entry_step : Geometry → OpenInode → ℕ → ℕ → ℕ → List ℕ → OpenInode
entry_step g s pointer_block k z body =
    if nat_eq (entry_behind (entry_of s.blocks) pointer_block k) 0 then record { blocks = edited g (edited g s.blocks (put_body z body)) (put_entry pointer_block k z); inode = s.inode }
    else s
