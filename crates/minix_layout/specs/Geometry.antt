-- How a volume is divided.
use Rattle.std.specs.Prelude.{◌≡◌, ℕ, ◌+◌, ◌-◌, ◌*◌, ◌^◌, ◌<◌, ◌≤◌, Bool, ◌&&◌, nat_lt, nat_le}
use Rattle.minix_layout.specs.declared.division.Geometry.{Geometry}
use Rattle.minix_layout.specs.Widths.{IsWidth}
use Rattle.minix_layout.specs.Words.{bit_blocks, inode_blocks, first_zone}

-- a new volume of so many inodes and zones, with names of this width
abbrev pub geometry_made : ℕ → ℕ → ℕ → Geometry
geometry_made inodes zones width = record {
  inodes = inodes;
  zones = zones;
  imap = bit_blocks (inodes + 1);
  zmap = bit_blocks (zones + 1);
  first = first_zone inodes zones;
  width = width;
}

-- there is an inode and a zone of data, the tables lie below the first zone of data, and both maps have a bit for each inode and each zone of data and one more
abbrev pub is_consistent : Geometry → Bool
is_consistent g =
    nat_lt 0 g.inodes
    && (nat_lt g.first g.zones
    && (nat_le (2 + g.imap + g.zmap + inode_blocks g.inodes) g.first
    && (nat_lt g.inodes (g.imap * 8192)
    && nat_lt (g.zones - g.first) (g.zmap * 8192))))

-- each number fits its 16 bits
pub record FitGeometry (g : Geometry) : Type 0 where
  pub inodes : g.inodes < 2 ^ 16
  pub zones : g.zones < 2 ^ 16
  pub imap : g.imap < 2 ^ 16
  pub zmap : g.zmap < 2 ^ 16
  pub first : g.first < 2 ^ 16

-- a geometry that a superblock can give
pub record IsSound (g : Geometry) : Type 0 where
  pub fits : FitGeometry g
  pub width : IsWidth g.width
  pub some_inode : 0 < g.inodes
  pub some_zone : g.first < g.zones
  pub tables_below : 2 + g.imap + g.zmap + inode_blocks g.inodes ≤ g.first
  pub inode_bits : g.inodes < g.imap * 8192
  pub zone_bits : g.zones - g.first < g.zmap * 8192
