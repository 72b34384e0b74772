-- Moves: what a volume is after one of its nodes came or changed. A call is a list of them.
use Rattle.std.specs.Prelude.{◌≡◌, ◌≢◌, ℕ, ◌*◌, ◌/◌, ◌%◌, ◌^◌, ◌<◌, ◌≤◌, nat_lt, nat_eq, Bool, not, ◌==◌, ◌&&◌, if◌then◌else◌, List, [], ◌∷◌, ◌++◌, map, filter, length, slice_set, Option, Some, None}
use Rattle.blk_base.specs.Members.{In}
use Rattle.minix_layout.specs.Widths.{slot_size, slots_a_block}
use Rattle.minix_layout.specs.declared.division.Geometry.{Geometry}
use Rattle.minix_layout.specs.declared.inode.Inode.{Inode}
use Rattle.minix_layout.specs.Geometry.{IsSound}
use Rattle.minix_layout.specs.Inodes.{zero_inode}
use Rattle.std.specs.Str.{bytes_eq}
use Rattle.std.specs.Map.{remove_entry}
use Rattle.std.specs.BTreeMap.{is_at}
use Rattle.std.specs.Ordering.{nat_cmp}
use Rattle.minix_layout.specs.declared.slot.Slot.{Slot}
use Rattle.tree_model.specs.Maps.{at_number, put_number, put_name, name_cmp}
use Rattle.volume_ops.specs.declared.found.Mapped.{Mapped}
use Rattle.volume_ops.specs.Places.{table_block}
use Rattle.volume_model.specs.declared.placed.Placed.{Placed}
use Rattle.volume_model.specs.declared.placed.Part.{Part}
use Rattle.volume_model.specs.declared.placed.Part.TheVariants as parts
use Rattle.volume_model.specs.declared.placed.DirectoryPart.{DirectoryPart}
use Rattle.volume_model.specs.Edits.{put_inode, put_slot, edited, touched_by_all}
use Rattle.minix_tables.specs.directories.Slots.{room, with_slot}
pub use Rattle.volume_model.specs.Holes.{with_mapped}
use Rattle.volume_model.specs.Volume.{Place, block, zone_in, IsStored, HasNames, IsVolumeOf}
use Rattle.volume_model.specs.Changes.{Changes}
use Rattle.volume_model.specs.Ways.{way, IsJust}
use Rattle.volume_model.specs.MapBlock.{OpenInode, TakenZones, taken_at, map_block, all_edits}
use Rattle.volume_model.specs.Cut.{cuts, cut_told, cut_to}
use Rattle.volume_model.specs.Counts.{number_places}
use Rattle.volume_model.specs.Touched.{Page, Touched, Contents}

-- a zone of numbers is there only where it leads to a mapped block, at each node
abbrev pub AreJust : List (List ℕ) → List (ℕ × Placed) → Type 0
AreJust blocks nodes = (b : ℕ) (r : Placed) → at_number nodes b ≡ Some r → IsJust (λ x. zone_in blocks r.inode x)

-- the blocks say the nodes, and no zone of numbers is there for nothing
abbrev pub IsVolume : Geometry → Contents → Type 0
IsVolume g v = IsVolumeOf g v.blocks v.nodes × AreJust v.blocks v.nodes

-- ---- a node comes

-- what is asked: a new birth and an inode that no node has
pub record MayAdd (g : Geometry) (blocks : List (List ℕ)) (nodes : List (ℕ × Placed)) (n : ℕ) (q : Placed) : Type 0 where
  pub sound : IsSound g
  pub birth : at_number nodes n ≡ None
  pub unused : (b : ℕ) (p : Placed) → at_number nodes b ≡ Some p → p.number ≢ q.number
  pub stored : IsStored g (edited g blocks (put_inode q.number q.inode)) q
  pub no_zone : (x : Place) → zone_in (edited g blocks (put_inode q.number q.inode)) q.inode x ≡ 0
  pub no_directory : (d : DirectoryPart) → q.part ≡ parts.Directory d → ⊥

-- a node comes with birth `n`, and its inode is written to the table
abbrev pub added : Geometry → Contents → ℕ → Placed → Contents
added g v n q = record { blocks = edited g v.blocks (put_inode q.number q.inode); nodes = put_number v.nodes n q }

-- ---- a node goes

-- the node with birth `n` goes, and its inode becomes zeros
abbrev pub node_removed : Geometry → Contents → ℕ → Placed → Contents
node_removed g v n p = record { blocks = edited g v.blocks (put_inode p.number zero_inode); nodes = remove_entry (is_at (nat_cmp n)) v.nodes }

-- ---- a node changes

-- What is asked: q is stored in the blocks afterwards, no write touched a zone of another node, and q has none of theirs.
pub record MayChange (g : Geometry) (blocks after : List (List ℕ)) (nodes : List (ℕ × Placed)) (n : ℕ) (p q : Placed) (Z : ℕ → Type 0) : Type 0 where
  pub stands : at_number nodes n ≡ Some p
  pub number : q.number ≡ p.number
  pub changes : Changes g (λ j. j ≡ p.number) Z blocks after
  pub not_theirs : (a : ℕ) (r : Placed) (x : Place) → at_number nodes a ≡ Some r → a ≢ n → zone_in blocks r.inode x ≢ 0 → Z (zone_in blocks r.inode x) → ⊥
  pub stored : IsStored g after q
  pub apart : (x y : Place) → zone_in after q.inode x ≡ zone_in after q.inode y → zone_in after q.inode x ≢ 0 → x ≡ y
  pub none_of_theirs : (a : ℕ) (r : Placed) (x y : Place) → at_number nodes a ≡ Some r → a ≢ n → zone_in after q.inode x ≡ zone_in blocks r.inode y → zone_in after q.inode x ≢ 0 → ⊥
  pub names : (d : DirectoryPart) → q.part ≡ parts.Directory d → HasNames nodes d

-- the node's blocks, with its inode taken out of the table
abbrev pub opened : Contents → Placed → OpenInode
opened v p = record { blocks = v.blocks; inode = p.inode }

-- two inodes have the same fields
abbrev pub same_inode : Inode → Inode → Bool
same_inode i j =
    i.mode == j.mode && (i.uid == j.uid && (i.size == j.size && (i.time == j.time && (i.gid == j.gid && (i.links == j.links && bytes_eq i.zones j.zones)))))

-- an inode is written where a field of it changed
unfoldable pub inode_written : Geometry → List (List ℕ) → ℕ → Inode → Inode → List (List ℕ)
inode_written g blocks number before after = if same_inode after before then blocks else edited g blocks (put_inode number after)

-- its block of the table is touched then, and not else
unfoldable pub inode_told : Geometry → ℕ → Inode → Inode → List ℕ
inode_told g number before after = if same_inode after before then [] else table_block g number ∷ []

-- the same of a node's inode
abbrev pub inode_back : Geometry → List (List ℕ) → Placed → Inode → List (List ℕ)
inode_back g blocks p i = inode_written g blocks p.number p.inode i

-- the block of the table that this touches; none where no field changed
abbrev pub back_told : Geometry → Placed → Inode → List ℕ
back_told g p i = inode_told g p.number p.inode i

-- its inode is written back, and it is this part now
abbrev pub closed : Geometry → Contents → ℕ → Placed → OpenInode → Part → Contents
closed g v n p u part = record {
  blocks = inode_back g u.blocks p u.inode;
  nodes = put_number v.nodes n (record { number = p.number; inode = u.inode; part = part });
}

-- ---- a slot of a directory changes, with its name

-- the names but for this one
abbrev pub without : {X : Type 0} → List (List ℕ × X) → List ℕ → List (List ℕ × X)
without names name = remove_entry (is_at (name_cmp name)) names

abbrev pub with_size : Inode → ℕ → Inode
with_size i size = record { mode = i.mode; uid = i.uid; size = size; time = i.time; gid = i.gid; links = i.links; zones = i.zones }

-- slot k is written, and the directory is `next` now
abbrev pub slot_put : Geometry → Contents → ℕ → Placed → ℕ → Option Slot → DirectoryPart → Contents
slot_put g v n p k o next =
    let u : OpenInode = record {
      blocks = edited g v.blocks (put_slot (zone_in v.blocks p.inode (block (k / slots_a_block g.width))) (k % slots_a_block g.width) o);
      inode = with_size p.inode (slot_size g.width * length next.slots);
    } in
    closed g v n p u (parts.Directory next)

-- a name comes with its slot, at the first free place or behind the last one
abbrev pub with_name : DirectoryPart → Slot → ℕ → DirectoryPart
with_name d s birth = record { parent = d.parent; width = d.width; names = put_name d.names s.name birth; slots = with_slot d.slots (room d.slots) s }

-- slot `s` comes into directory `n`, and its name leads to this birth
abbrev pub name_added : Geometry → Contents → ℕ → Placed → DirectoryPart → Slot → ℕ → Contents
name_added g v n p d s birth = slot_put g v n p (room d.slots) (Some s) (with_name d s birth)

-- a name goes with its slot, which is free then
abbrev pub without_name : DirectoryPart → ℕ → Slot → DirectoryPart
without_name d k s = record { parent = d.parent; width = d.width; names = without d.names s.name; slots = slice_set d.slots k None }

-- slot `k` of directory `n`, in which `s` stands, becomes free
abbrev pub name_removed : Geometry → Contents → ℕ → Placed → DirectoryPart → ℕ → Slot → Contents
name_removed g v n p d k s = slot_put g v n p k None (without_name d k s)

-- ---- a block of it is mapped

-- the zones that were taken for it are zones of data that no node has, and they differ
pub record AreFree (g : Geometry) (blocks : List (List ℕ)) (nodes : List (ℕ × Placed)) (i : Inode) (t : TakenZones) (xs : List Place) : Type 0 where
  pub some : (x : Place) → In x xs → zone_in blocks i x ≡ 0 → taken_at t x ≢ 0
  pub low : (x : Place) → In x xs → zone_in blocks i x ≡ 0 → g.first ≤ taken_at t x
  pub high : (x : Place) → In x xs → zone_in blocks i x ≡ 0 → taken_at t x < g.zones
  pub fits : (x : Place) → In x xs → zone_in blocks i x ≡ 0 → taken_at t x < 2 ^ 16
  pub free : (a : ℕ) (r : Placed) (x y : Place) → at_number nodes a ≡ Some r → In x xs → zone_in blocks i x ≡ 0 → zone_in blocks r.inode y ≢ taken_at t x
  pub differ : (x y : Place) → In x xs → In y xs → zone_in blocks i x ≡ 0 → zone_in blocks i y ≡ 0 → taken_at t x ≡ taken_at t y → x ≡ y

-- block `index` of file `n` gets the zones that were taken for it, and these bytes
abbrev pub file_mapped : Geometry → Contents → ℕ → Placed → List Mapped → TakenZones → List ℕ → ℕ → Contents
file_mapped g v n p zones t content index = closed g v n p (map_block g t content (opened v p) index) (parts.File (with_mapped zones index t.data_zone))

-- so does one of directory `n`, which is `d` after it
abbrev pub directory_mapped : Geometry → Contents → ℕ → Placed → DirectoryPart → TakenZones → List ℕ → ℕ → Contents
directory_mapped g v n p d t content index = closed g v n p (map_block g t content (opened v p) index) (parts.Directory d)

-- the block itself is a page, all else that is written is metadata
abbrev pub file_mapped_touches : Geometry → Contents → ℕ → Placed → TakenZones → List ℕ → ℕ → Touched
file_mapped_touches g v n p t content index = record {
  blocks = filter (λ b. not (b == t.data_zone)) (touched_by_all g (all_edits g t content (opened v p) (way index))) ++ back_told g p (map_block g t content (opened v p) index).inode;
  freed = [];
  revoked = [];
  pages = record { birth = n; index = index; zone = t.data_zone } ∷ [];
  dropped = [];
  nodes = n ∷ [];
}

-- ---- its blocks from an index on go

-- the blocks of file `n` from index `from` on go, and of the zones of numbers those that `keeps` does not hold
abbrev pub file_cut : Geometry → Contents → ℕ → Placed → List Mapped → (Place → Bool) → ℕ → Contents
file_cut g v n p zones keeps from = closed g v n p (cut_to g keeps (opened v p) from) (parts.File (filter (λ m. nat_lt m.index from) zones))

-- the zones of numbers that go
abbrev pub numbers_gone : Contents → Placed → (Place → Bool) → List ℕ
numbers_gone v p keeps = map (λ x. zone_in v.blocks p.inode x) (filter (λ x. not (nat_eq (zone_in v.blocks p.inode x) 0) && not (keeps x)) number_places)

abbrev pub page_of : ℕ → Mapped → Page
page_of n m = record { birth = n; index = m.index; zone = m.zone }

-- what is told of it: all that goes is freed, zones of numbers are revoked, and blocks of the file dropped
abbrev pub file_cut_touches : Geometry → Contents → ℕ → Placed → List Mapped → (Place → Bool) → ℕ → Touched
file_cut_touches g v n p zones keeps from = record {
  blocks = cut_told v.blocks (λ x. zone_in v.blocks p.inode x) keeps (cuts keeps from) ++ back_told g p (cut_to g keeps (opened v p) from).inode;
  freed = map (λ (m : Mapped). m.zone) (filter (λ m. not (nat_lt m.index from)) zones) ++ numbers_gone v p keeps;
  revoked = numbers_gone v p keeps;
  pages = [];
  dropped = map (page_of n) (filter (λ m. not (nat_lt m.index from)) zones);
  nodes = n ∷ [];
}
