-- The superblock, a block of 1,024 bytes whose numbers have their lowest byte first.
use Rattle.std.specs.Prelude.{ℕ, ◌==◌, Bool, not, ◌&&◌, ◌||◌, if◌then◌else◌, List, [], ◌∷◌, Result, Ok, Err}
use Rattle.byte_fields.specs.Fields.{zeros, number_at, Field, field, written}
use Rattle.byte_fields.specs.Fields.Order.{little}
use Rattle.minix_layout.specs.declared.division.Geometry.{Geometry}
use Rattle.minix_layout.specs.declared.fault.LayoutFault.{LayoutFault}
use Rattle.minix_layout.specs.declared.fault.LayoutFault.TheVariants.{BadMagic, BadGeometry}
use Rattle.minix_layout.specs.Geometry.{is_consistent}
use Rattle.minix_layout.specs.declared.limits.TheConstants.{LARGEST_SIZE}

-- which format, by the width of names; and the width that it has
abbrev pub magic_for : ℕ → ℕ
magic_for width = if width == 30 then 0x138F else 0x137F

abbrev pub width_by : ℕ → ℕ
width_by magic = if magic == 0x138F then 30 else 14

abbrev pub is_magic : ℕ → Bool
is_magic magic = (magic == 0x138F) || (magic == 0x137F)

-- the fields of a superblock: width, place, value
abbrev pub super_fields : Geometry → List Field
super_fields g =
    field 2 0 g.inodes
    ∷ field 2 2 g.zones
    ∷ field 2 4 g.imap
    ∷ field 2 6 g.zmap
    ∷ field 2 8 g.first
    ∷ field 2 10 0
    ∷ field 4 12 LARGEST_SIZE
    ∷ field 2 16 (magic_for g.width)
    ∷ field 2 18 1
    ∷ []

-- the superblock of a volume
unfoldable pub super_block : Geometry → List ℕ
super_block g = written little (super_fields g) (zeros 1024)

-- which format, and which length of names
abbrev pub magic_of : List ℕ → ℕ
magic_of b = number_at little 2 16 b

-- how the volume is divided
abbrev pub geometry_of : List ℕ → Geometry
geometry_of b = record {
  inodes = number_at little 2 0 b;
  zones = number_at little 2 2 b;
  imap = number_at little 2 4 b;
  zmap = number_at little 2 6 b;
  first = number_at little 2 8 b;
  width = width_by (magic_of b);
}

-- a zone is one block, and the numbers of the volume agree
abbrev pub is_divided : List ℕ → Bool
is_divided b = (number_at little 2 10 b == 0) && is_consistent (geometry_of b)

-- what a superblock says
unfoldable pub super_of : List ℕ → Result Geometry LayoutFault
super_of b =
    if not (is_magic (magic_of b)) then Err BadMagic
    else if not (is_divided b) then Err BadGeometry
    else Ok (geometry_of b)
