-- Inodes, 32 bytes each.
use Rattle.std.specs.Prelude.{◌≡◌, ℕ, ◌+◌, ◌*◌, ◌^◌, ◌<◌, List, ◌∷◌, map, length, replicate, slice_index}
use Rattle.std.specs.List.{range_with_len}
use Rattle.byte_fields.specs.Fields.{zeros, number_at, Field, field, written}
use Rattle.byte_fields.specs.Fields.Order.{little}
use Rattle.minix_layout.specs.Widths.{slot_size}
use Rattle.minix_layout.specs.declared.inode.Inode.{Inode}

-- the field of zone k of nine
abbrev pub zone_field : List ℕ → ℕ → Field
zone_field zones k = field 2 (14 + 2 * k) (slice_index zones k)

-- the fields of the nine zones
abbrev pub zone_fields : List ℕ → List Field
zone_fields zones = map (zone_field zones) (range_with_len 0 9)

-- the fields of an inode: width, place, value
abbrev pub inode_fields : Inode → List Field
inode_fields i =
    field 2 0 i.mode
    ∷ field 2 2 i.uid
    ∷ field 4 4 i.size
    ∷ field 4 8 i.time
    ∷ field 1 12 i.gid
    ∷ field 1 13 i.links
    ∷ zone_fields i.zones

-- the 32 bytes of an inode
unfoldable pub inode_bytes : Inode → List ℕ
inode_bytes i = written little (inode_fields i) (zeros 32)

-- zone k of nine
abbrev pub zone_of : List ℕ → ℕ → ℕ
zone_of bytes k = number_at little 2 (14 + 2 * k) bytes

-- the nine zones
unfoldable pub zones_of : List ℕ → List ℕ
zones_of bytes = map (zone_of bytes) (range_with_len 0 9)

-- the inode of these 32 bytes
abbrev pub inode_of : List ℕ → Inode
inode_of bytes = record {
  mode = number_at little 2 0 bytes;
  uid = number_at little 2 2 bytes;
  size = number_at little 4 4 bytes;
  time = number_at little 4 8 bytes;
  gid = number_at little 1 12 bytes;
  links = number_at little 1 13 bytes;
  zones = zones_of bytes;
}

-- the inode of 32 zero bytes
abbrev pub zero_inode : Inode
zero_inode = record { mode = 0; uid = 0; size = 0; time = 0; gid = 0; links = 0; zones = replicate 9 0 }

-- the inode of a new directory: the rights 755, two slots in this zone, two links
abbrev pub new_directory_inode : ℕ → ℕ → Inode
new_directory_inode width zone = record { mode = 0x41ED; uid = 0; size = slot_size width * 2; time = 0; gid = 0; links = 2; zones = zone ∷ replicate 8 0 }

-- each number fits its bits, and there are nine zones
pub record FitInode (i : Inode) : Type 0 where
  pub mode : i.mode < 2 ^ 16
  pub uid : i.uid < 2 ^ 16
  pub size : i.size < 2 ^ 32
  pub time : i.time < 2 ^ 32
  pub gid : i.gid < 2 ^ 8
  pub links : i.links < 2 ^ 8
  pub nine : length i.zones ≡ 9
  pub zones : (k : ℕ) → slice_index i.zones k < 2 ^ 16
