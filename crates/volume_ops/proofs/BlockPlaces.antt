-- The zones of the blocks of files: where they lie, and what they depend on.
use Rattle.std.specs.Prelude.{◌≡◌, ◌≢◌, ℕ, ◌+◌, ◌-◌, ◌*◌, ◌/◌, ◌%◌, ◌<◌, ◌≤◌, ◌==◌, ◌⊎◌, ◌↔◌, Bool, true, false, nat_lt, if◌then◌else◌, List, slice_index, Option, Some, None, option_map, Ok, refl}
use Rattle.std.proofs.Common.{sym, ap, subst, ◌∙◌, inl, inr, ⊎_elim, arith}
use Rattle.std.proofs.lemmas.Bool.{cases_eq, cases_lt, eq-eqb, eqb-true, ne_eqb, lt-ltb}
use Rattle.std.proofs.lemmas.Option.{none-some, same_Some}
use Rattle.byte_fields.specs.Fields.{record_at}
use Rattle.minix_layout.specs.Widths.{slot_size, slots_a_block}
use Rattle.minix_layout.specs.declared.division.Geometry.{Geometry}
use Rattle.minix_layout.specs.declared.inode.Inode.{Inode}
use Rattle.minix_layout.specs.declared.slot.Slot.{Slot}
use Rattle.minix_layout.specs.Geometry.{IsSound}
use Rattle.minix_layout.specs.Slots.{slot_of}
use Rattle.minix_tables.specs.inodes.Map.{zone_at}
use Rattle.minix_tables.specs.inodes.laws.MapLaws.{zone_at-direct, zone_at-past, zone_at-indirect, zone_at-no_indirect, zone_at-double, zone_at-no_double, zone_at-no_inner}
use Rattle.tree_model.specs.declared.node.Node.{Node}
use Rattle.tree_model.specs.declared.node.Node.TheVariants as nodes
use Rattle.tree_model.specs.declared.node.File.{File}
use Rattle.tree_model.specs.Maps.{at_number}
use Rattle.tree_model.specs.Paths.{is_dot}
use Rattle.tree_model.specs.Rooted.{HasEntry, IsLedTo, at_root, by_name}
use Rattle.volume_ops.specs.Places.{zone_number, table_block, inode_in_block, is_directory, is_file, birth_of, inode_of_birth}
use Rattle.volume_ops.specs.Reads.{AgreeOn}
use Rattle.volume_ops.specs.Volume.{disk_of, metadata}
use Rattle.volume_ops.specs.VolumeFields.{inode_at, zone_behind, slot_behind}
use Rattle.volume_ops.proofs.SlotsLaws.{inode_of_birth_of}
use Rattle.volume_ops.specs.ZonePlaces.{ZonePlace, block, indirect, double, inner, entry_of}
use Rattle.volume_ops.specs.Faultless.{IsDirectory, IsFile, HasZones, zone_at_place, NamesAt, IsReached, at_root as reached_root, by_name as reached_by, IsFaultless}
use Rattle.volume_ops.specs.Metadata.{HoldsNumbers, IsMetadata, of_volume, of_numbers, of_directory, AgreeOnMetadata, zone_of_block}
use Rattle.volume_ops.specs.VolumeTrees.{IsVolumeTree}
use Rattle.volume_ops.proofs.VisitTests.{slot_used}
use Rattle.volume_ops.proofs.MetadataReads.{table_is, walk_reads_metadata}

-- ---- births and inodes of a tree

birth_back : (inode : ℕ) → birth_of (inode_of_birth (birth_of inode)) ≡ birth_of inode
birth_back inode = grind arith

module _ (g : Geometry) (blocks : List (List ℕ)) (tree : List (ℕ × Node)) (h : IsVolumeTree g blocks tree) where
  -- a name of the tree is a slot of the volume
  pub named_by : (parent birth : ℕ) (name : List ℕ) → HasEntry tree parent name birth →
      (place : ℕ) × (slot : Slot) × NamesAt g blocks (inode_of_birth parent) place slot × (birth_of slot.inode ≡ birth)
  named_by parent birth name gives =
      let says = h.fields.each parent (nodes.Directory gives.directory) gives.stands in
      let x = (says.names name birth).0 gives.named in (
        x.place,
        x.slot,
        record { directory = says.kind; entry = record { below = x.below; stands = x.stands; no_dot = subst (λ name. is_dot name ≡ false) (sym x.name_is) x.no_dot } },
        x.birth_is,
      )

  pub led_reached : {birth : ℕ} → IsLedTo tree birth → IsReached g blocks (inode_of_birth birth) × (birth_of (inode_of_birth birth) ≡ birth)
  led_reached at_root = (reached_root, refl)
  led_reached (by_name {parent} {birth} {name} led gives) =
      let x = named_by parent birth name gives in
      let used : 0 < x.1.inode = slot_used g blocks (inode_at g blocks (inode_of_birth parent)) x.0 x.1 x.2.entry in
      let same : x.1.inode ≡ inode_of_birth birth = sym (inode_of_birth_of x.1.inode used) ∙ ap inode_of_birth x.3 in (
        subst (λ k. IsReached g blocks k) same (reached_by (led_reached led).0 x.2),
        subst (λ birth. birth_of (inode_of_birth birth) ≡ birth) x.3 (birth_back x.1.inode),
      )

  module _ (birth : ℕ) (f : File) (stands : at_number tree birth ≡ Some (nodes.File f)) where
    file_reached : IsReached g blocks (inode_of_birth birth)
    file_reached = (led_reached (h.rooted.led_to birth (nodes.File f) stands)).0

    file_birth : birth_of (inode_of_birth birth) ≡ birth
    file_birth = (led_reached (h.rooted.led_to birth (nodes.File f) stands)).1

    file_kind : IsFile g blocks (inode_of_birth birth)
    file_kind = (h.fields.each birth (nodes.File f) stands).kind

  some_zone : (zone found : ℕ) → ◌≡◌ {A = Option ℕ} (if zone == 0 then None else Some zone) (Some found) → (zone ≡ found) × (zone ≢ 0)
  some_zone zone found e =
      ⊎_elim
      (λ none. absurd (none-some found (rw (eq-eqb zone 0 none) at e)))
      (λ some. (same_Some zone found (rw (ne_eqb zone 0 some) at e), some))
      (cases_eq zone 0)

  map_by : (zone : ℕ) → ◌≡◌ {A = Option (List ℕ)} (if zone == 0 then None else Some (disk_of blocks zone)) (option_map (disk_of blocks) (if zone == 0 then None else Some zone))
  map_by zone = ⊎_elim (λ none. rw (eq-eqb zone 0 none) refl) (λ some. rw (ne_eqb zone 0 some) refl) (cases_eq zone 0)

  -- a block of a file has the bytes of its zone
  pub mapped : (birth index : ℕ) (f : File) → at_number tree birth ≡ Some (nodes.File f) → at_number f.blocks index ≡ option_map (disk_of blocks) (zone_of_block g blocks birth index)
  mapped birth index f e = (h.fields.each birth (nodes.File f) e).bodies index ∙ map_by (zone_behind blocks (inode_at g blocks (inode_of_birth birth)) index)

  -- its zone is one of the zones of data
  pub within : (birth index zone : ℕ) (f : File) → at_number tree birth ≡ Some (nodes.File f) → zone_of_block g blocks birth index ≡ Some zone → (g.first ≤ zone) × (zone < g.zones)
  within birth index zone f e z =
      let x = some_zone (zone_behind blocks (inode_at g blocks (inode_of_birth birth)) index) zone z in
      subst (λ z. (g.first ≤ z) × (z < g.zones)) x.0
      (h.faultless.zone_within (inode_of_birth birth) (block index) (file_reached birth f e) (inr (file_kind birth f e)) x.1)

  abbrev block_of : ZonePlace → ℕ
  block_of (block index) = index
  block_of other = 0

  -- no two blocks have one zone
  pub one_place : (birth index other at zone : ℕ) (f k : File) → at_number tree birth ≡ Some (nodes.File f) → at_number tree other ≡ Some (nodes.File k) →
      zone_of_block g blocks birth index ≡ Some zone → zone_of_block g blocks other at ≡ Some zone → (birth ≡ other) × (index ≡ at)
  one_place birth index other at zone f k e q z y =
      let x = some_zone (zone_behind blocks (inode_at g blocks (inode_of_birth birth)) index) zone z in
      let w = some_zone (zone_behind blocks (inode_at g blocks (inode_of_birth other)) at) zone y in
      let one = h.faultless.zone_once (inode_of_birth birth) (inode_of_birth other) (block index) (block at)
      (file_reached birth f e) (file_reached other k q) (inr (file_kind birth f e)) (inr (file_kind other k q)) x.1 (x.0 ∙ sym w.0) in
      (sym (file_birth birth f e) ∙ (ap birth_of one.0 ∙ file_birth other k q), ap block_of one.1)

  numbers_apart : (x : ZonePlace) (index : ℕ) → HoldsNumbers x → block index ≡ x → ⊥
  numbers_apart (block k) index holds e = holds
  numbers_apart indirect index holds e = cc
  numbers_apart double index holds e = cc
  numbers_apart (inner k) index holds e = cc

  -- it lies outside the metadata
  pub outside : IsSound g → (birth index zone : ℕ) (f : File) → at_number tree birth ≡ Some (nodes.File f) → zone_of_block g blocks birth index ≡ Some zone → IsMetadata g blocks zone → ⊥
  outside sound birth index zone f e z m =
      let x = some_zone (zone_behind blocks (inode_at g blocks (inode_of_birth birth)) index) zone z in
      by x.0 x.1 m
    where
      by : zone_behind blocks (inode_at g blocks (inode_of_birth birth)) index ≡ zone → zone_behind blocks (inode_at g blocks (inode_of_birth birth)) index ≢ 0 → IsMetadata g blocks zone → ⊥
      by same some (of_volume low high) = (let from = (within birth index zone f e z).0 in let tables = sound.tables_below in omega arith)
      by same some (of_numbers other y r kind holds there stands) =
          (let one = h.faultless.zone_once (inode_of_birth birth) other (block index) y (file_reached birth f e) r (inr (file_kind birth f e)) kind some (same ∙ sym stands) in
          numbers_apart y index holds one.1)
      by same some (of_directory other at r d there stands) =
          (let one = h.faultless.zone_once (inode_of_birth birth) other (block index) (block at) (file_reached birth f e) r (inr (file_kind birth f e)) (inl d) some (same ∙ sym stands) in
          let four = eqb-true ((inode_at g blocks other).mode / 4096) 4 d in
          let eight = eqb-true ((inode_at g blocks other).mode / 4096) 8 (subst (λ k. IsFile g blocks k) one.0 (file_kind birth f e)) in
          omega (arith, four, eight))

-- ---- the map of a file depends on its zones of numbers alone

module _ (first second : ℕ → ℕ → ℕ) (zones : List ℕ)
    (seventh : (k : ℕ) → slice_index zones 7 ≢ 0 → second (slice_index zones 7) k ≡ first (slice_index zones 7) k)
    (eighth : (k : ℕ) → slice_index zones 8 ≢ 0 → second (slice_index zones 8) k ≡ first (slice_index zones 8) k)
    (inners : (j k : ℕ) → j < 512 → slice_index zones 8 ≢ 0 → first (slice_index zones 8) j ≢ 0 → second (first (slice_index zones 8) j) k ≡ first (first (slice_index zones 8) j) k) where
  same_middle : (index : ℕ) → 7 ≤ index → index < 519 → zone_at second zones index ≡ zone_at first zones index
  same_middle index low high =
      ⊎_elim
      (λ none. zone_at-no_indirect second zones index none low (omega arith) ∙ sym (zone_at-no_indirect first zones index none low (omega arith)))
      (λ some.
      let e : 7 + (index - 7) ≡ index = omega arith in
      subst (λ n. zone_at second zones n ≡ zone_at first zones n) e
      (zone_at-indirect second zones (index - 7) some (omega arith) ∙ (seventh (index - 7) some ∙ sym (zone_at-indirect first zones (index - 7) some (omega arith)))))
      (cases_eq (slice_index zones 7) 0)

  same_high : (j k : ℕ) → j < 512 → k < 512 → zone_at second zones (519 + 512 * j + k) ≡ zone_at first zones (519 + 512 * j + k)
  same_high j k low few =
      ⊎_elim
      (λ none. zone_at-no_double second zones j k none low few ∙ sym (zone_at-no_double first zones j k none low few))
      (λ some.
      ⊎_elim
      (λ hole. zone_at-no_inner second zones j k (eighth j some ∙ hole) low few ∙ sym (zone_at-no_inner first zones j k hole low few))
      (λ there.
      zone_at-double second zones j k some (λ hole. there (sym (eighth j some) ∙ hole)) low few
      ∙ (ap (λ z. second z k) (eighth j some) ∙ (inners j k low some there ∙ sym (zone_at-double first zones j k some there low few))))
      (cases_eq (first (slice_index zones 8) j) 0))
      (cases_eq (slice_index zones 8) 0)

  same_map : (index : ℕ) → zone_at second zones index ≡ zone_at first zones index
  same_map index =
      ⊎_elim
      (λ low. zone_at-direct second zones index low ∙ sym (zone_at-direct first zones index low))
      (λ seven.
      ⊎_elim
      (λ low. same_middle index seven low)
      (λ high.
      ⊎_elim
      (λ below.
      let e : 519 + 512 * ((index - 519) / 512) + (index - 519) % 512 ≡ index = omega arith in
      subst (λ n. zone_at second zones n ≡ zone_at first zones n) e (same_high ((index - 519) / 512) ((index - 519) % 512) (omega arith) (omega arith)))
      (λ past. zone_at-past second zones index past ∙ sym (zone_at-past first zones index past))
      (cases_lt index 262663))
      (cases_lt index 519))
      (cases_lt index 7)

-- ---- images with the same metadata

module _ (g : Geometry) (blocks other : List (List ℕ)) (some_inode : 0 < g.inodes) (same : AgreeOnMetadata g blocks other) where
  -- a block that the walk reads is the same
  pub same_reads : AgreeOn (metadata g blocks) (disk_of blocks) (disk_of other)
  same_reads b i = same b (walk_reads_metadata g blocks some_inode b i)

  module _ (h : IsFaultless g blocks) where
    reached_within : {k : ℕ} → IsReached g blocks k → k ≤ g.inodes
    reached_within reached_root = omega arith
    reached_within (reached_by {inode} {place} {slot} r m) = h.inode_within inode place slot r m

    same_inode : (k : ℕ) → IsReached g blocks k → inode_at g other k ≡ inode_at g blocks k
    same_inode k r = ap (inode_in_block k) (same (table_block g k) (table_is g blocks some_inode k (reached_within r)))

    module _ (k : ℕ) (r : IsReached g blocks k) (kind : HasZones g blocks k) where
      abbrev i : Inode
      i = inode_at g blocks k

      same_body : (x : ZonePlace) → HoldsNumbers x → zone_at_place g blocks k x ≢ 0 → disk_of other (zone_at_place g blocks k x) ≡ disk_of blocks (zone_at_place g blocks k x)
      same_body x holds some = same (zone_at_place g blocks k x) (of_numbers k x r kind holds some refl)

      inner_is : (j : ℕ) → j < 512 → slice_index i.zones 8 ≢ 0 → zone_at_place g blocks k (inner j) ≡ zone_number (disk_of blocks (slice_index i.zones 8)) j
      inner_is j few some = rw (lt-ltb j 512 few, ne_eqb (slice_index i.zones 8) 0 some) refl

      same_behind : (index : ℕ) → zone_behind other i index ≡ zone_behind blocks i index
      same_behind =
          same_map (λ zone at. zone_number (disk_of blocks zone) at) (λ zone at. zone_number (disk_of other zone) at) i.zones
          (λ n some. ap (λ body. zone_number body n) (same_body indirect tt some))
          (λ n some. ap (λ body. zone_number body n) (same_body double tt some))
          (λ j n few some there.
          let at = inner_is j few some in
          ap (λ body. zone_number body n)
          (subst (λ z. disk_of other z ≡ disk_of blocks z) at (same_body (inner j) tt (λ none. there (sym at ∙ none)))))

      same_zone : (index : ℕ) → zone_behind other (inode_at g other k) index ≡ zone_behind blocks i index
      same_zone index = ap (λ i. zone_behind other i index) (same_inode k r) ∙ same_behind index

      entry_same : (t : Bool) (n : ℕ) → (slice_index i.zones 8 ≡ 0) ⊎ (slice_index i.zones 8 ≢ 0) →
          (if t then entry_of other (slice_index i.zones 8) n else 0) ≡ (if t then entry_of blocks (slice_index i.zones 8) n else 0)
      entry_same false n c = refl
      entry_same true n (inl none) = rw (eq-eqb (slice_index i.zones 8) 0 none) refl
      entry_same true n (inr some) = rw (ne_eqb (slice_index i.zones 8) 0 some) (ap (λ body. zone_number body n) (same_body double tt some))

      -- each place has the same zone
      pub same_place : (x : ZonePlace) → zone_at_place g other k x ≡ zone_at_place g blocks k x
      same_place (block index) = same_zone index
      same_place indirect = ap (λ (i : Inode). slice_index i.zones 7) (same_inode k r)
      same_place double = ap (λ (i : Inode). slice_index i.zones 8) (same_inode k r)
      same_place (inner n) =
          ap (λ (i : Inode). if nat_lt n 512 then entry_of other (slice_index i.zones 8) n else 0) (same_inode k r)
          ∙ entry_same (nat_lt n 512) n (cases_eq (slice_index i.zones 8) 0)

    -- ---- the same names

    same_slot : (k : ℕ) → IsReached g blocks k → IsDirectory g blocks k → (place : ℕ) →
        slot_behind g other (inode_at g other k) place ≡ slot_behind g blocks (inode_at g blocks k) place
    same_slot k r d place = by (zone_behind blocks (inode_at g blocks k) (place / slots_a_block g.width)) refl (cases_eq (zone_behind blocks (inode_at g blocks k) (place / slots_a_block g.width)) 0)
      where
        by : (z : ℕ) → zone_behind blocks (inode_at g blocks k) (place / slots_a_block g.width) ≡ z →
            (zone_behind blocks (inode_at g blocks k) (place / slots_a_block g.width) ≡ 0) ⊎ (zone_behind blocks (inode_at g blocks k) (place / slots_a_block g.width) ≢ 0) →
            slot_behind g other (inode_at g other k) place ≡ slot_behind g blocks (inode_at g blocks k) place
        by z is (inl none) = (let there = same_zone k r (inl d) (place / slots_a_block g.width) ∙ none in rw (eq-eqb _ 0 there, eq-eqb _ 0 none) refl)
        by z is (inr some) = (
            let zones = same_zone k r (inl d) (place / slots_a_block g.width) in
            let body = same (zone_behind blocks (inode_at g blocks k) (place / slots_a_block g.width)) (of_directory k (place / slots_a_block g.width) r d some refl) in
            ap (λ z. if z == 0 then Ok None else slot_of g.width (record_at (slot_size g.width) (place % slots_a_block g.width) (disk_of other z))) zones
            ∙ ap (λ body. if zone_behind blocks (inode_at g blocks k) (place / slots_a_block g.width) == 0 then Ok None else slot_of g.width (record_at (slot_size g.width) (place % slots_a_block g.width) body)) body)

    names_there : (k place : ℕ) (slot : Slot) → IsReached g blocks k → NamesAt g blocks k place slot → NamesAt g other k place slot
    names_there k place slot r m =
        let i = same_inode k r in
        record {
          directory = subst (λ (i : Inode). is_directory i.mode ≡ true) (sym i) m.directory;
          entry = record {
            below = subst (λ (i : Inode). place < i.size / slot_size g.width) (sym i) m.entry.below;
            stands = same_slot k r m.directory place ∙ m.entry.stands;
            no_dot = m.entry.no_dot;
          };
        }

    names_back : (k place : ℕ) (slot : Slot) → IsReached g blocks k → NamesAt g other k place slot → NamesAt g blocks k place slot
    names_back k place slot r m =
        let i = same_inode k r in
        let d : IsDirectory g blocks k = subst (λ (i : Inode). is_directory i.mode ≡ true) i m.directory in
        record {
          directory = d;
          entry = record {
            below = subst (λ (i : Inode). place < i.size / slot_size g.width) i m.entry.below;
            stands = sym (same_slot k r d place) ∙ m.entry.stands;
            no_dot = m.entry.no_dot;
          };
        }

    reached_there : {k : ℕ} → IsReached g blocks k → IsReached g other k
    reached_there reached_root = reached_root
    reached_there (reached_by {inode} {place} {slot} r m) = reached_by (reached_there r) (names_there inode place slot r m)

    reached_back : {k : ℕ} → IsReached g other k → IsReached g blocks k
    reached_back reached_root = reached_root
    reached_back (reached_by {inode} {place} {slot} r m) = let back = reached_back r in reached_by back (names_back inode place slot back m)

    kind_there : (k : ℕ) → IsReached g blocks k → HasZones g blocks k → HasZones g other k
    kind_there k r = subst (λ (i : Inode). (is_directory i.mode ≡ true) ⊎ (is_file i.mode ≡ true)) (sym (same_inode k r))

    kind_back : (k : ℕ) → IsReached g blocks k → HasZones g other k → HasZones g blocks k
    kind_back k r = subst (λ (i : Inode). (is_directory i.mode ≡ true) ⊎ (is_file i.mode ≡ true)) (same_inode k r)

    there : (b : ℕ) → IsMetadata g blocks b → IsMetadata g other b
    there b (of_volume low high) = of_volume low high
    there b (of_numbers k x r kind holds some stands) = of_numbers k x (reached_there r) (kind_there k r kind) holds some (same_place k r kind x ∙ stands)
    there b (of_directory k index r d some stands) =
        of_directory k index (reached_there r) (subst (λ (i : Inode). is_directory i.mode ≡ true) (sym (same_inode k r)) d) some (same_place k r (inl d) (block index) ∙ stands)

    back : (b : ℕ) → IsMetadata g other b → IsMetadata g blocks b
    back b (of_volume low high) = of_volume low high
    back b (of_numbers k x far kind holds some stands) =
        let r = reached_back far in let z = kind_back k r kind in of_numbers k x r z holds some (sym (same_place k r z x) ∙ stands)
    back b (of_directory k index far kind some stands) =
        let r = reached_back far in
        let d : IsDirectory g blocks k = subst (λ (i : Inode). is_directory i.mode ≡ true) (same_inode k r) kind in
        of_directory k index r d some (sym (same_place k r (inl d) (block index)) ∙ stands)

    -- the metadata stays what it is
    pub metadata_stays : (b : ℕ) → IsMetadata g other b ↔ IsMetadata g blocks b
    metadata_stays b = (back b, there b)

  -- a block of a file keeps its zone
  pub keeps_zone : (tree : List (ℕ × Node)) → IsVolumeTree g blocks tree → (birth index : ℕ) (f : File) → at_number tree birth ≡ Some (nodes.File f) →
      zone_of_block g other birth index ≡ zone_of_block g blocks birth index
  keeps_zone tree h birth index f e =
      ap (λ z. if z == 0 then None else Some z)
      (same_place h.faultless (inode_of_birth birth) (file_reached g blocks tree h birth f e) (inr (file_kind g blocks tree h birth f e)) (block index))
