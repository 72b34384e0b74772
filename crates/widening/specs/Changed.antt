-- Which blocks of an image are written when its volume is widened.
use Rattle.std.specs.Prelude.{◌≡◌, ◌≢◌, ℕ, ◌+◌, ◌<◌, ◌≤◌, List}
use Rattle.blk_base.specs.Members.{In}
use Rattle.minix_layout.specs.declared.division.Geometry.{Geometry}
use Rattle.tree_model.specs.declared.node.Node.{Node}
use Rattle.volume_ops.specs.Places.{table_block}
use Rattle.volume_ops.specs.ZonePlaces.{ZonePlace}
use Rattle.volume_ops.specs.Faultless.{IsDirectory, zone_at_place, IsReached}
use Rattle.widening.specs.Directories.{directories, zones_got}
use Rattle.widening.specs.Widened.{wide}

-- Of a volume with these blocks and this tree, in which these zones are free: the superblock, a block of the map of
-- zones, the block of the table that has a directory's inode, and a zone that a directory had or gets.
pub data IsWritten (g : Geometry) (blocks : List (List ℕ)) (tree : List (ℕ × Node)) (free : List ℕ) (b : ℕ) : Type 0 where
  superblock : b ≡ 1 → IsWritten g blocks tree free b
  of_map : 2 + g.imap ≤ b → b < 2 + g.imap + g.zmap → IsWritten g blocks tree free b
  of_table : (inode : ℕ) → IsReached g blocks inode → IsDirectory g blocks inode → b ≡ table_block g inode → IsWritten g blocks tree free b
  had : (inode : ℕ) (x : ZonePlace) → IsReached g blocks inode → IsDirectory g blocks inode → b ≢ 0 → zone_at_place g blocks inode x ≡ b → IsWritten g blocks tree free b
  got : In b (zones_got (wide g) blocks (directories tree) free) → IsWritten g blocks tree free b
