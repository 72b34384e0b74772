-- Steps that keep a volume bare: a block of a directory or of a file gets zones, and blocks of a file go.
use Rattle.std.specs.Prelude.{◌≡◌, ◌≢◌, ◌-◌, ◌*◌, ◌/◌, ◌%◌, ◌<◌, ◌≤◌, nat_eq, nat_lt, ℕ, zero, suc, true, false, List, ◌∷◌, filter, length, map, take, replicate, Some, None, Ok, refl}
use Rattle.std.proofs.Common.{sym, ap, subst, ◌∙◌, inl, inr}
use Rattle.std.proofs.lemmas.Bool.{cases_Bool, eqb-true, eqb-false}
use Rattle.std.proofs.lemmas.List.{drop-replicate}
use Rattle.byte_fields.specs.Fields.{record_at, zeros, bytes_at, number_at, number_of}
use Rattle.byte_fields.specs.laws.ReadLaws.{length-zeros}
use Rattle.minix_layout.specs.declared.division.Geometry.{Geometry}
use Rattle.minix_layout.specs.Slots.{slot_of, inode_in}
use Rattle.minix_layout.specs.Widths.{slot_size, slots_a_block}
use Rattle.tree_model.specs.Maps.{at_number}
use Rattle.volume_ops.specs.declared.found.Mapped.{Mapped}
use Rattle.volume_ops.specs.Volume.{disk_of}
use Rattle.volume_model.specs.declared.placed.DirectoryPart.{DirectoryPart}
use Rattle.volume_model.specs.declared.placed.Part.TheVariants as parts
use Rattle.volume_model.specs.declared.placed.Placed.{Placed}
use Rattle.volume_model.specs.Counts.{indices_of, keeps_below}
use Rattle.volume_model.specs.Cut.{IsKeep}
use Rattle.volume_model.specs.MapBlock.{OpenInode, own_of}
use Rattle.volume_model.specs.Moves.{IsVolume, AreFree, file_cut}
use Rattle.volume_model.specs.Touched.{Contents}
use Rattle.volume_model.specs.Volume.{block, zone_in, IsPart, IsFilePart}
use Rattle.volume_model.specs.Ways.{way}
use Rattle.volume_model.specs.laws.Counts.{IsIndexed, keep_below}
use Rattle.volume_model.specs.laws.Indexed.{file_indexed}
use Rattle.volume_model.specs.laws.MapBlock.{Outcome, little_zero}
use Rattle.volume_model.specs.laws.MapBody.{mapped_content}
use Rattle.volume_model.specs.laws.OnWay.{in_list, on_way, way_on}
use Rattle.volume_model.specs.laws.ZoneMoves.{grown, MapWrites, may_map, map_file, data_kept, MayMove, same_disk, less, CutWrites, may_cut}
use Rattle.volume_steps.specs.Now.{VolumeNow, written}
use Rattle.volume_steps.specs.Plain.{IsInUse}
use Rattle.volume_steps.specs.Steps.{map_directory_block, map_file_block, blocks_cut}
use Rattle.volume_steps.specs.Zones.{TakenFor, take_zones, zone_bit}
use Rattle.volume_steps.proofs.Bits.{ChangesNone, AreZones, bits_none, kept_volume}
use Rattle.volume_steps.proofs.Rooms as room
use Rattle.volume_steps.proofs.Taking.{frees}
use Rattle.volume_steps.proofs.TakeZones.{volume_marked, own_marked, free_marked, marks_change_none}
use Rattle.vol_check.proofs.KeptCleanLemmas.ChangedLemmas.BareFrames.{AreFreeFrom, IsBare, move_bare, bits_bare}

-- ---- bytes of zeros

pub take_zeros : (n m : ℕ) → (k : ℕ) × (take {A = ℕ} n (replicate m 0) ≡ replicate k 0)
take_zeros zero m = (0, refl)
take_zeros (suc n) zero = (0, refl)
take_zeros (suc n) (suc m) = let rest = take_zeros n m in (suc rest.0, ap (λ (xs : List ℕ). 0 ∷ xs) rest.1)

pub zero_record : (size index : ℕ) → (k : ℕ) × (record_at size index (zeros 1024) ≡ replicate k 0)
unfolding bytes_at zeros
zero_record size index =
    let some = take_zeros size (1024 - size * index) in
    (some.0, ap (take size) (drop-replicate (size * index) 1024 0) ∙ some.1)

-- a slot of zeros is free
pub zero_slot : (width size index : ℕ) → slot_of width (record_at size index (zeros 1024)) ≡ Ok None
unfolding slot_of number_at number_of
zero_slot width size index =
    let some = zero_record size index in
    let none : inode_in (record_at size index (zeros 1024)) ≡ 0 = ap inode_in some.1 ∙ little_zero some.0 in
    rw none refl

-- ---- a block of a directory

module _ (v : VolumeNow) (h : IsInUse v) (n : ℕ) (p : Placed) (d : DirectoryPart) (at : at_number v.contents.nodes n ≡ Some p) (is : p.part ≡ parts.Directory d)
    (index : ℕ) (high : index < 262663) (hole : zone_in v.contents.blocks p.inode (block index) ≡ 0)
    (enough : length (take_zones (λ x. zone_in v.contents.blocks p.inode x) index v.zones).numbers ≤ frees v.zones) where
  abbrev g : Geometry
  g = v.geometry

  abbrev t : TakenFor
  t = room.t v h n p at d is index high hole enough

  abbrev c : Contents
  c = room.c v h n p at d is index high hole enough

  abbrev content : List ℕ
  content = zeros 1024

  abbrev volume : IsVolume g c
  volume = room.volume v h n p at d is index high hole enough

  abbrev free : AreFree g c.blocks c.nodes p.inode t.taken (way index)
  free = room.free v h n p at d is index high hole enough

  gap : zone_in c.blocks p.inode (block index) ≡ 0
  gap = room.own_kept v h n p at d is index high hole enough (block index) ∙ hole

  abbrev u : OpenInode
  u = room.u v h n p at d is index high hole enough

  abbrev outcome : Outcome g t.taken (record { blocks = c.blocks; inode = p.inode }) u (way index)
  outcome = room.outcome v h n p at d is index high hole enough

  abbrev Z : ℕ → Type 0
  Z = room.Z v h n p at d is index high hole enough

  abbrev may : MayMove g h.sound c.blocks c.nodes n p volume.0 at u (parts.Directory d) Z
  may = room.may v h n p at d is index high hole enough

  -- the new block is of zeros
  new_zone : own_of u (block index) ≡ t.taken.data_zone
  new_zone = outcome.got.taken (block index) (on_way (block index) index (refl, high)) gap

  new_some : own_of u (block index) ≢ 0
  new_some e = free.some (block index) (on_way (block index) index (refl, high)) gap (sym new_zone ∙ e)

  new_body : disk_of u.blocks (own_of u (block index)) ≡ zeros 1024
  new_body =
      sym (same_disk g h.sound c.blocks c.nodes n p volume.0 at u (parts.Directory d) Z may (block index) new_some)
      ∙ (ap (disk_of _) new_zone
      ∙ mapped_content g h.sound c.blocks c.nodes n p volume.0 at t.taken content (length-zeros 1024) index high free gap)

  free_slot : (k place : ℕ) → place ≡ index → slot_of g.width (record_at (slot_size g.width) (k % slots_a_block g.width) (disk_of u.blocks (own_of u (block place)))) ≡ Ok None
  free_slot k place e =
      ap (λ place. slot_of g.width (record_at (slot_size g.width) (k % slots_a_block g.width) (disk_of u.blocks (own_of u (block place))))) e
      ∙ (ap (λ body. slot_of g.width (record_at (slot_size g.width) (k % slots_a_block g.width) body)) new_body
      ∙ zero_slot g.width (slot_size g.width) (k % slots_a_block g.width))

  mapped_free : AreFreeFrom g c.blocks p.inode (length d.slots) → AreFreeFrom g u.blocks u.inode (length d.slots)
  mapped_free old k far some = elim (cases_Bool (nat_eq (zone_in c.blocks p.inode (block (k / slots_a_block g.width))) 0)) [
    | inr f ↦
        let there = eqb-false _ _ f in
        let was = old k far there in
        let zone : own_of u (block (k / slots_a_block g.width)) ≡ zone_in c.blocks p.inode (block (k / slots_a_block g.width)) = outcome.got.kept (block (k / slots_a_block g.width)) there in
        record {
          mapped = some;
          stands = ap (λ z. slot_of g.width (record_at (slot_size g.width) (k % slots_a_block g.width) (disk_of u.blocks z))) zone
              ∙ (ap (λ body. slot_of g.width (record_at (slot_size g.width) (k % slots_a_block g.width) body))
              (data_kept g h.sound c.blocks c.nodes n p volume.0 at t.taken content (length-zeros 1024) index high free (k / slots_a_block g.width) there) ∙ was.stands);
        }
    | inl t ↦ elim (in_list (block (k / slots_a_block g.width)) (way index)) [
      | inl i ↦ record { mapped = some; stands = free_slot k (k / slots_a_block g.width) (way_on (block (k / slots_a_block g.width)) index i).0 }
      | inr out ↦ absurd (some (outcome.got.others (block (k / slots_a_block g.width)) out ∙ eqb-true _ _ t))
    ]
  ]

  pub room_bare : IsBare g v.contents → IsBare g (map_directory_block v n p d index).volume.contents
  room_bare bare =
      let marked = bits_bare g v.contents h.volume c.blocks (marks_change_none v h n p at index enough) bare in
      move_bare g h.sound c n p volume.0 at u (parts.Directory d) Z may
      (λ e same. subst (λ (e : DirectoryPart). AreFreeFrom g u.blocks u.inode (length e.slots)) (same_directory same) (mapped_free (marked.behind n p d at is))) marked
    where
      same_directory : {e : DirectoryPart} → parts.Directory d ≡ parts.Directory e → d ≡ e
      same_directory same = cc

-- ---- a block of a file

module _ (v : VolumeNow) (h : IsInUse v) (n : ℕ) (p : Placed) (zones : List Mapped) (at : at_number v.contents.nodes n ≡ Some p) (is : p.part ≡ parts.File zones)
    (content : List ℕ) (size : length content ≡ 1024) (index : ℕ) (high : index < 262663) (hole : zone_in v.contents.blocks p.inode (block index) ≡ 0)
    (enough : length (take_zones (λ x. zone_in v.contents.blocks p.inode x) index v.zones).numbers ≤ frees v.zones) where
  abbrev taken_for : TakenFor
  taken_for = take_zones (λ x. zone_in v.contents.blocks p.inode x) index v.zones

  abbrev marked : Contents
  marked = written v.geometry v.contents (map (zone_bit v.geometry true) taken_for.numbers)

  marked_volume : IsVolume v.geometry marked
  marked_volume = volume_marked v h n p at index enough

  marked_free : AreFree v.geometry marked.blocks marked.nodes p.inode taken_for.taken (way index)
  marked_free = free_marked v h n p at index enough

  file_part : IsFilePart marked.blocks p.inode zones
  file_part = subst (IsPart v.geometry marked.blocks p.inode) is (marked_volume.0.each n p at).part

  pub block_bare : IsBare v.geometry v.contents → IsBare v.geometry (map_file_block v n p zones content index).volume.contents
  block_bare bare = move_bare v.geometry h.sound marked n p marked_volume.0 at
      (grown v.geometry h.sound marked.blocks marked.nodes n p marked_volume.0 at taken_for.taken content size index high marked_free) (parts.File _)
      (MapWrites v.geometry h.sound marked.blocks marked.nodes n p marked_volume.0 at taken_for.taken content size index high marked_free)
      (may_map v.geometry h.sound marked.blocks marked.nodes n p marked_volume.0 at taken_for.taken content size index high marked_free (parts.File _)
      (map_file v.geometry h.sound marked.blocks marked.nodes n p marked_volume.0 at taken_for.taken content size index high marked_free zones (own_marked v h n p at index enough (block index) ∙ hole) file_part)
      (λ e same. absurd (cc same)))
      (λ e same. absurd (cc same)) (bits_bare v.geometry v.contents h.volume marked.blocks (marks_change_none v h n p at index enough) bare)

-- ---- blocks of a file go

module _ (tx : ℕ) (v : VolumeNow) (h : IsInUse v) (n : ℕ) (p : Placed) (zones : List Mapped) (at : at_number v.contents.nodes n ≡ Some p) (is : p.part ≡ parts.File zones) (from : ℕ)
    (freed : List ℕ) (within : AreZones v.geometry freed) where
  abbrev cleared : Contents
  cleared = written v.geometry v.contents (map (zone_bit v.geometry false) freed)

  none : ChangesNone v.geometry v.contents.blocks cleared.blocks
  none = bits_none v.geometry h.sound v.contents h.volume false freed within

  cleared_volume : IsVolume v.geometry cleared
  cleared_volume = kept_volume v.geometry v.contents h.volume cleared.blocks none

  indexed : IsIndexed (λ x. zone_in cleared.blocks p.inode x) (indices_of zones)
  indexed = file_indexed v.geometry cleared.blocks cleared.nodes n p zones cleared_volume.0 at is (cleared_volume.1 n p at)

  keep : IsKeep (λ x. zone_in cleared.blocks p.inode x) from (keeps_below (indices_of zones) from)
  keep = keep_below (λ x. zone_in cleared.blocks p.inode x) (indices_of zones) indexed from

  pub cut_bare : freed ≡ (blocks_cut v tx n p zones (keeps_below (indices_of zones) from) from).touched.freed → IsBare v.geometry v.contents →
      IsBare v.geometry (blocks_cut v tx n p zones (keeps_below (indices_of zones) from) from).volume.contents
  cut_bare same bare = subst (λ freed. IsBare v.geometry (closed_from freed)) same
      (move_bare v.geometry h.sound cleared n p cleared_volume.0 at (less v.geometry h.sound cleared.blocks cleared.nodes n p cleared_volume.0 at from (keeps_below (indices_of zones) from) keep (cleared_volume.1 n p at))
      (parts.File (filter (λ m. nat_lt m.index from) zones)) (CutWrites v.geometry h.sound cleared.blocks cleared.nodes n p cleared_volume.0 at from (keeps_below (indices_of zones) from) keep (cleared_volume.1 n p at))
      (may_cut v.geometry h.sound cleared.blocks cleared.nodes n p cleared_volume.0 at from (keeps_below (indices_of zones) from) keep (cleared_volume.1 n p at) zones is)
      (λ e same. absurd (cc same)) (bits_bare v.geometry v.contents h.volume cleared.blocks none bare))
    where
      closed_from : List ℕ → Contents
      closed_from freed = file_cut v.geometry (written v.geometry v.contents (map (zone_bit v.geometry false) freed)) n p zones (keeps_below (indices_of zones) from) from
