-- What each directory of a volume needs for names of 30 bytes, which zones it has and gets, and what is written.
use Rattle.std.specs.Prelude.{ℕ, ◌+◌, ◌-◌, ◌*◌, ◌==◌, nat_lt, Bool, true, false, not, ◌&&◌, ◌||◌, if◌then◌else◌, List, [], ◌∷◌, ◌++◌, length, map, filter, take, drop, slice_index, codes}
use Rattle.std.specs.Int.{div_ceil}
use Rattle.std.specs.List.{concat, list_any, range_with_len}
use Rattle.blk_base.specs.Block.{filled}
use Rattle.minix_layout.specs.declared.division.Geometry.{Geometry}
use Rattle.minix_layout.specs.declared.inode.Inode.{Inode}
use Rattle.minix_layout.specs.declared.slot.Slot.{Slot}
use Rattle.minix_layout.specs.Bits.{zone_bit, has_bit}
use Rattle.tree_model.specs.declared.node.Node.{Node}
use Rattle.tree_model.specs.declared.node.Node.TheVariants as nodes
use Rattle.tree_model.specs.declared.node.Directory.{Directory}
use Rattle.volume_ops.specs.Marks.{is_marked}
use Rattle.volume_ops.specs.Places.{zone_numbers, inode_of_birth}
use Rattle.volume_ops.specs.Volume.{disk_of}
use Rattle.volume_ops.specs.VolumeFields.{inode_at}
use Rattle.volume_model.specs.Edits.{Edit, put_inode, set_bit, put_body}
use Rattle.widening.specs.Written.{put_slots, put_numbers}

-- ---- what a directory needs

-- the zones for so many names, `.` and `..`; a zone has 32 slots
abbrev pub zones_needed : ℕ → ℕ
zones_needed names = div_ceil (names + 2) 32

-- one more for the indirect block, behind the seventh
abbrev pub numbers_needed : ℕ → ℕ
numbers_needed zones = if nat_lt 7 zones then 1 else 0

-- ---- what it has

-- those that are no holes
abbrev pub no_holes : List ℕ → List ℕ
no_holes zones = filter (λ z. not (z == 0)) zones

-- the zones whose numbers are in a zone of numbers; there are none behind a hole
abbrev pub zones_behind : List (List ℕ) → ℕ → List ℕ
zones_behind blocks zone = if zone == 0 then [] else no_holes (zone_numbers (disk_of blocks zone))

-- Its zones of data in the order of their index: seven in the inode, those behind the indirect zone, and those behind
-- the zones behind the doubly indirect one.
abbrev pub data_zones : List (List ℕ) → Inode → List ℕ
data_zones blocks i =
    no_holes (take 7 i.zones)
    ++ (zones_behind blocks (slice_index i.zones 7)
    ++ concat (map (zones_behind blocks) (zones_behind blocks (slice_index i.zones 8))))

-- Its zones of numbers: the indirect one, the doubly indirect one, and those behind this. Without the indirect one,
-- where it is kept as what it is.
abbrev pub number_zones : List (List ℕ) → Inode → Bool → List ℕ
number_zones blocks i kept =
    no_holes ((if kept then 0 else slice_index i.zones 7) ∷ slice_index i.zones 8 ∷ [])
    ++ zones_behind blocks (slice_index i.zones 8)

-- the zones of data that the walk did not meet, and whose bits are 0, in rising order
abbrev pub is_free : Geometry → List (List ℕ) → List Bool → ℕ → Bool
is_free g blocks met zone = not (is_marked met zone) && not (has_bit blocks (zone_bit g zone))

unfoldable pub free_zones : Geometry → List (List ℕ) → List Bool → List ℕ
free_zones g blocks met = filter (is_free g blocks met) (range_with_len g.first (g.zones - g.first))

-- ---- the directories

-- those of a tree, each with the number of its inode, in rising order of these numbers
abbrev pub directories : List (ℕ × Node) → List (ℕ × Directory)
directories [] = []
directories ((birth, nodes.Directory d) ∷ tree) = (inode_of_birth birth, d) ∷ directories tree
directories ((birth, nodes.File f) ∷ tree) = directories tree
directories ((birth, nodes.Other mode) ∷ tree) = directories tree

-- the slot of a name
abbrev pub slot_named : List ℕ × ℕ → Slot
slot_named e = record { inode = inode_of_birth e.1; name = e.0 }

-- its slots: `.`, `..`, and its names in the order of their bytes
abbrev pub wide_slots : ℕ → Directory → List Slot
wide_slots number d =
    record { inode = number; name = codes "." }
    ∷ record { inode = inode_of_birth d.parent; name = codes ".." }
    ∷ map slot_named d.names

-- ---- the zones that it gets

-- So many zones of data, with one for the indirect block, where it needs one and none is kept; 0 is none.
abbrev pub all_needed : ℕ → ℕ → ℕ
all_needed needed kept = needed + (if kept == 0 then numbers_needed needed else 0)

-- the indirect block, where one is needed: the one that is kept, or else the zone behind those of data
abbrev pub indirect_of : List ℕ → ℕ → ℕ → ℕ
indirect_of zones needed kept = if nat_lt 7 needed then (if kept == 0 then slice_index zones needed else kept) else 0

-- the zones that it has itself, and the lowest free ones beyond these
module _ (needed kept : ℕ) (own free : List ℕ) where
  -- the first of the free zones, where its own are too few
  abbrev pub zones_taken : List ℕ
  zones_taken = take (all_needed needed kept - length own) free

  -- the free zones that are left for others
  abbrev pub zones_left : List ℕ
  zones_left = drop (all_needed needed kept - length own) free

  -- its own come first
  abbrev pub zones_had : List ℕ
  zones_had = own ++ zones_taken

  -- the zones of its slots, in the order of their index
  abbrev pub slot_zones : List ℕ
  slot_zones = take needed zones_had

  -- 0 where it needs none
  abbrev pub indirect_zone : ℕ
  indirect_zone = indirect_of zones_had needed kept

  -- what it does not need becomes free
  abbrev pub zones_given : List ℕ
  zones_given = drop (all_needed needed kept) zones_had

-- ---- what is written

-- 32 slots in a zone
abbrev pub slot_edits : List ℕ → List Slot → List Edit
slot_edits [] slots = []
slot_edits (zone ∷ zones) slots = put_body zone (put_slots 0 (take 32 slots) (filled 0)) ∷ slot_edits zones (drop 32 slots)

-- the numbers from the eighth on, in the indirect block
abbrev pub number_edits : ℕ → List ℕ → List Edit
number_edits indirect zones = if nat_lt 7 (length zones) then put_body indirect (put_numbers 0 (drop 7 zones) (filled 0)) ∷ [] else []

-- the bits of zones
abbrev pub bit_edits : Geometry → Bool → List ℕ → List Edit
bit_edits g used zones = map (λ z. set_bit (2 + g.imap) (z - g.first + 1) used) zones

-- the inode has the new size and the new zones, and is else as it was
abbrev pub wide_inode : Inode → ℕ → List ℕ → ℕ → Inode
wide_inode i slots zones indirect = record {
  mode = i.mode;
  uid = i.uid;
  size = 32 * slots;
  time = i.time;
  gid = i.gid;
  links = i.links;
  zones = map (slice_index zones) (range_with_len 0 7) ++ indirect ∷ 0 ∷ [];
}

-- a directory keeps its indirect zone, where it has one and needs one
abbrev pub kept_by : Inode → ℕ → ℕ
kept_by i needed = if nat_lt 7 needed then slice_index i.zones 7 else 0

-- the zones that it has and can use anew: those of data first; an indirect zone that is kept is not among them
abbrev pub own_zones : List (List ℕ) → Inode → ℕ → List ℕ
own_zones blocks i needed = data_zones blocks i ++ number_zones blocks i (nat_lt 7 needed)

-- what is written of one, with the inode that it has and the zones that it needs
module _ (g : Geometry) (number : ℕ) (d : Directory) (i : Inode) (needed kept : ℕ) (own free : List ℕ) where
  abbrev pub directory_edits : List Edit
  directory_edits =
      bit_edits g true (zones_taken needed kept own free)
      ++ (bit_edits g false (zones_given needed kept own free)
      ++ (slot_edits (slot_zones needed kept own free) (wide_slots number d)
      ++ (number_edits (indirect_zone needed kept own free) (slot_zones needed kept own free)
      ++ put_inode number (wide_inode i (length d.names + 2) (slot_zones needed kept own free) (indirect_zone needed kept own free)) ∷ [])))

-- what is written of the directory with this inode, where these zones are free
abbrev pub edits_of : Geometry → List (List ℕ) → ℕ → Directory → List ℕ → List Edit
edits_of g blocks number d free = directory_edits g number d (inode_at g blocks number) (zones_needed (length d.names))
    (kept_by (inode_at g blocks number) (zones_needed (length d.names))) (own_zones blocks (inode_at g blocks number) (zones_needed (length d.names))) free

-- the free zones that it leaves
abbrev pub left_by : Geometry → List (List ℕ) → ℕ → Directory → List ℕ → List ℕ
left_by g blocks number d free = zones_left (zones_needed (length d.names))
    (kept_by (inode_at g blocks number) (zones_needed (length d.names))) (own_zones blocks (inode_at g blocks number) (zones_needed (length d.names))) free

-- the free zones that it takes
abbrev pub got_by : Geometry → List (List ℕ) → ℕ → Directory → List ℕ → List ℕ
got_by g blocks number d free = zones_taken (zones_needed (length d.names))
    (kept_by (inode_at g blocks number) (zones_needed (length d.names))) (own_zones blocks (inode_at g blocks number) (zones_needed (length d.names))) free

-- one after the other; each takes of what the ones before left
abbrev pub all_edits : Geometry → List (List ℕ) → List (ℕ × Directory) → List ℕ → List Edit
all_edits g blocks [] free = []
all_edits g blocks (e ∷ es) free = edits_of g blocks e.0 e.1 free ++ all_edits g blocks es (left_by g blocks e.0 e.1 free)

-- the zones that they get
abbrev pub zones_got : Geometry → List (List ℕ) → List (ℕ × Directory) → List ℕ → List ℕ
zones_got g blocks [] free = []
zones_got g blocks (e ∷ es) free = got_by g blocks e.0 e.1 free ++ zones_got g blocks es (left_by g blocks e.0 e.1 free)

-- ---- no room

-- the zones that a directory needs beyond its own
abbrev pub beyond : Inode → List (List ℕ) → ℕ → ℕ
beyond i blocks needed = needed + numbers_needed needed - (length (data_zones blocks i) + length (number_zones blocks i false))

-- of all of these directories
abbrev pub all_beyond : Geometry → List (List ℕ) → List (ℕ × Directory) → ℕ
all_beyond g blocks [] = 0
all_beyond g blocks (e ∷ es) = beyond (inode_at g blocks e.0) blocks (zones_needed (length e.1.names)) + all_beyond g blocks es

-- some directory needs more than 519 zones of data
abbrev pub has_too_many : List (ℕ × Directory) → Bool
has_too_many es = list_any (λ e. nat_lt 519 (zones_needed (length e.1.names))) es

-- that, or all of them need more beyond their own than are free
abbrev pub has_no_room : Geometry → List (List ℕ) → List (ℕ × Directory) → List ℕ → Bool
has_no_room g blocks es free = has_too_many es || nat_lt (length free) (all_beyond g blocks es)
