-- What the visit of an inode tests, where the walk so far found no fault: all, or all up to the first fault.
use Rattle.std.specs.Prelude.{◌*◌, ◌≡◌, ◌≢◌, ℕ, ◌+◌, ◌-◌, ◌/◌, ◌%◌, ◌<◌, ◌≤◌, ◌==◌, Bool, true, false, not, ◌&&◌, ◌||◌, nat_lt, nat_le, if◌then◌else◌, List, [], ◌∷◌, ◌++◌, map, length, Option, Some, None, Result, Ok, Err, IfOk, refl}
use Rattle.std.proofs.Common.{sym, ap, subst, ◌∙◌, inl, inr, ⊎_elim, arith}
use Rattle.std.proofs.lemmas.Bool.{true≢false, cases_lt, eq-eqb, eqb-true, eqb-false, or_parts, or_cases, and_parts, and_cases, not-true, not-false, ltb-true, ltb-false, leb-true}
use Rattle.std.proofs.lemmas.Option.{none-some}
use Rattle.std.proofs.lemmas.List.FromFn.{length-map-range_with_len}
use Rattle.byte_fields.specs.Fields.{record_at}
use Rattle.blk_base.specs.Members.{In}
use Rattle.blk_base.specs.laws.Members.{In-map, map-In}
use Rattle.minix_layout.specs.laws.Places.{slots_few, form_is}
use Rattle.minix_layout.specs.Widths.{slot_size, slots_a_block}
use Rattle.minix_layout.specs.declared.division.Geometry.{Geometry}
use Rattle.minix_layout.specs.declared.inode.Inode.{Inode}
use Rattle.minix_layout.specs.declared.slot.Slot.{Slot}
use Rattle.minix_layout.specs.declared.fault.LayoutFault.{LayoutFault}
use Rattle.minix_layout.specs.declared.fault.LayoutFault.TheVariants.{BadInode, BadZone, BadSlot}
use Rattle.minix_layout.specs.Inodes.{zones_of, zone_of}
use Rattle.minix_layout.specs.Slots.{slot_of}
use Rattle.tree_model.specs.Maps.{at_name}
use Rattle.tree_model.specs.laws.MapsLaws.{at_name-In}
use Rattle.tree_model.specs.Paths.{is_dot}
use Rattle.volume_ops.specs.declared.found.Found.TheVariants as found
use Rattle.volume_ops.specs.Reads.{Reads, Ret, answer, if_ok, go_on}
use Rattle.volume_ops.specs.laws.ReadsLaws.{answer-and_then, err-ok, same_Ok}
use Rattle.volume_ops.specs.Places.{largest_size, table_block, is_directory, is_file, birth_of, inode_of_birth}
use Rattle.volume_ops.specs.Marks.{is_marked, marked}
use Rattle.volume_ops.specs.Volume.{disk_of}
use Rattle.volume_ops.specs.VolumeFields.{inode_at, zone_behind, HasName}
use Rattle.volume_ops.specs.Zones.{Fault, ZoneScan, is_bad_zone, scan_zones}
use Rattle.volume_ops.proofs.ZonesLaws.{scan_zones-map}
use Rattle.volume_ops.specs.Slots.{SlotScan, scan_slots}
use Rattle.volume_ops.proofs.SlotsLaws.{slot_of-used, inode_of_birth_of}
use Rattle.volume_ops.specs.laws.Rising.{IsRising}
use Rattle.volume_ops.proofs.RisingLaws.{scan_rises}
use Rattle.volume_ops.specs.Walk.{WalkState, Pending, Visit, pending_in, met_node, is_bad_inode, visit_file, visit_directory, visit_other, visit}
use Rattle.volume_ops.specs.ZonePlaces.{ZonePlace, rank}
use Rattle.volume_ops.specs.Faultless.{IsDirectory, IsFile, HasZones, zone_at_place, slots_of, IsEntryAt, NamesAt}
use Rattle.volume_ops.specs.FirstFault.{pointer_block_of, slot_zone, IsBadInode, root_is_none, size_too_large, part_of_a_slot, IsBadZone, too_low, too_high, had_by, had_here, IsBadSlot, no_name, no_inode, name_before, names_root, named_by, named_here, by_directory, by_none, IsFirstHere, of_inode, of_zone, of_slot}
use Rattle.volume_ops.proofs.ZoneTests as zone_tests
use Rattle.volume_ops.proofs.ZoneTests.{AreTaken, zones_scan, all_ranked}
use Rattle.volume_ops.proofs.SlotTests as slot_tests
use Rattle.volume_ops.proofs.SlotTests.{AreScanned, slots_scan, none_scanned}
use Rattle.volume_ops.proofs.SoFar.{IsSoFar, AddsZones, AddsNames, further}

-- ---- an inode by itself

module _ (g : Geometry) (blocks : List (List ℕ)) (n : ℕ) where
  abbrev i : Inode
  i = inode_at g blocks n

  -- what the test of an inode says
  bad_inode : is_bad_inode g n i ≡ true → IsBadInode g blocks n
  bad_inode bad =
      ⊎_elim
      (λ root.
      let both = and_parts (n == 1) (not (is_directory i.mode)) root in
      root_is_none (eqb-true n 1 both.0) (λ t. true≢false (sym t ∙ not-true (is_directory i.mode) both.1)))
      (λ more.
      ⊎_elim
      (λ great.
      let both = and_parts (nat_lt largest_size i.size) (is_directory i.mode || is_file i.mode) great in
      size_too_large (or_cases (is_directory i.mode) (is_file i.mode) both.1) (ltb-true largest_size i.size both.0))
      (λ part.
      let both = and_parts (is_directory i.mode) (not (i.size % slot_size g.width == 0)) part in
      part_of_a_slot both.0 (eqb-false (i.size % slot_size g.width) 0 (not-true (i.size % slot_size g.width == 0) both.1)))
      (or_cases (nat_lt largest_size i.size && (is_directory i.mode || is_file i.mode)) (is_directory i.mode && not (i.size % slot_size g.width == 0)) more))
      (or_cases (n == 1 && not (is_directory i.mode)) ((nat_lt largest_size i.size && (is_directory i.mode || is_file i.mode)) || (is_directory i.mode && not (i.size % slot_size g.width == 0))) bad)

  not_zoned : (is_directory i.mode || is_file i.mode) ≡ false → HasZones g blocks n → ⊥
  not_zoned none (inl d) = true≢false (sym d ∙ (or_parts (is_directory i.mode) (is_file i.mode) none).0)
  not_zoned none (inr f) = true≢false (sym f ∙ (or_parts (is_directory i.mode) (is_file i.mode) none).1)

  good_inode : is_bad_inode g n i ≡ false → IsBadInode g blocks n → ⊥
  good_inode good (root_is_none one none) =
      let first = (or_parts (n == 1 && not (is_directory i.mode)) ((nat_lt largest_size i.size && (is_directory i.mode || is_file i.mode)) || (is_directory i.mode && not (i.size % slot_size g.width == 0))) good).0 in
      ⊎_elim
      (λ apart. true≢false (sym (eq-eqb n 1 one) ∙ apart))
      (λ d. none (not-false (is_directory i.mode) d))
      (and_cases (n == 1) (not (is_directory i.mode)) first)
  good_inode good (size_too_large z great) =
      let rest = (or_parts (n == 1 && not (is_directory i.mode)) ((nat_lt largest_size i.size && (is_directory i.mode || is_file i.mode)) || (is_directory i.mode && not (i.size % slot_size g.width == 0))) good).1 in
      let second = (or_parts (nat_lt largest_size i.size && (is_directory i.mode || is_file i.mode)) (is_directory i.mode && not (i.size % slot_size g.width == 0)) rest).0 in
      ⊎_elim
      (λ low. let few : i.size ≤ 268966912 = ltb-false largest_size i.size low in omega (arith, great))
      (λ none. not_zoned none z)
      (and_cases (nat_lt largest_size i.size) (is_directory i.mode || is_file i.mode) second)
  good_inode good (part_of_a_slot d some) =
      let rest = (or_parts (n == 1 && not (is_directory i.mode)) ((nat_lt largest_size i.size && (is_directory i.mode || is_file i.mode)) || (is_directory i.mode && not (i.size % slot_size g.width == 0))) good).1 in
      let third = (or_parts (nat_lt largest_size i.size && (is_directory i.mode || is_file i.mode)) (is_directory i.mode && not (i.size % slot_size g.width == 0)) rest).1 in
      ⊎_elim
      (λ none. true≢false (sym d ∙ none))
      (λ whole. some (eqb-true (i.size % slot_size g.width) 0 (not-false (i.size % slot_size g.width == 0) whole)))
      (and_cases (is_directory i.mode) (not (i.size % slot_size g.width == 0)) third)

length-nine : (bytes : List ℕ) → length (zones_of bytes) ≡ 9
unfolding zones_of
length-nine bytes = length-map-range_with_len (zone_of bytes) 0 9

pub nine : (g : Geometry) (blocks : List (List ℕ)) (n : ℕ) → length (inode_at g blocks n).zones ≡ 9
nine g blocks n = length-nine (record_at 32 ((n - 1) % 32) (disk_of blocks (table_block g n)))

used_by : (width : ℕ) (hole : Bool) (bytes : List ℕ) (slot : Slot) → ◌≡◌ {A = Result (Option Slot) LayoutFault} (if hole then Ok None else slot_of width bytes) (Ok (Some slot)) → 0 < slot.inode
used_by width true bytes slot h = absurd (none-some slot (same_Ok None (Some slot) h))
used_by width false bytes slot h = slot_of-used width bytes slot h

-- a slot that names has the number of an inode
pub slot_used : (g : Geometry) (blocks : List (List ℕ)) (i : Inode) (p : ℕ) (slot : Slot) → IsEntryAt g blocks i p slot → 0 < slot.inode
slot_used g blocks i p slot e =
    used_by g.width (zone_behind blocks i (p / slots_a_block g.width) == 0) (record_at (slot_size g.width) (p % slots_a_block g.width) (disk_of blocks (zone_behind blocks i (p / slots_a_block g.width)))) slot e.stands

-- the numbers of the inodes that are to be met
abbrev pub numbers_of : List Pending → List ℕ
numbers_of es = map (λ (e : Pending). e.inode) es

numbers_in : (birth : ℕ) (names : List (List ℕ × ℕ)) → map (λ (e : List ℕ × ℕ). inode_of_birth e.1) names ≡ numbers_of (pending_in birth names)
numbers_in birth [] = refl
numbers_in birth (x ∷ xs) = ap (λ ks. inode_of_birth x.1 ∷ ks) (numbers_in birth xs)

-- ---- the visit of an inode

module _ (g : Geometry) (blocks : List (List ℕ)) (met ahead : List ℕ) (w : WalkState) (e : Pending) (h : IsSoFar g blocks met (e.inode ∷ ahead) w) (new : In e.inode met → ⊥) where
  abbrev n : ℕ
  n = e.inode

  abbrev j : Inode
  j = inode_at g blocks e.inode

  abbrev disk : ℕ → List ℕ
  disk = disk_of blocks

  abbrev Before : ℕ → Type 0
  Before k = In k met

  -- the walk goes on, or the fault is the first
  abbrev pub IsTested : Result Visit Fault → Type 0
  IsTested (Ok v) = IsSoFar g blocks (met ++ n ∷ []) (numbers_of v.names ++ ahead) v.state × (v.state.inodes ≡ marked w.inodes n)
  IsTested (Err fault) = IsFirstHere g blocks Before n fault.0 fault.1

  module _ (good : IsBadInode g blocks n → ⊥) where
    -- ---- its zones

    abbrev Taken : ℕ → List Bool → Type 0
    Taken = zone_tests.AreTaken g (zone_at_place g blocks n) (pointer_block_of g blocks n) w.zones

    module _ (zoned : HasZones g blocks n) where
      no_bad_zone : (rank_end : ℕ) (marks : List Bool) → Taken rank_end marks → (x : ZonePlace) → rank x < rank_end → zone_at_place g blocks n x ≢ 0 → IsBadZone g blocks Before n x → ⊥
      no_bad_zone end marks t x low some (too_low under) = let within = (t.within x low some).0 in omega (arith, under, within)
      no_bad_zone end marks t x low some (too_high over) = let within = (t.within x low some).1 in omega (arith, over, within)
      no_bad_zone end marks t x low some (had_by other y was z same) =
          true≢false (sym (h.zones_marked other y was z (λ none. some (sym same ∙ none))) ∙ subst (λ k. is_marked w.zones k ≡ false) (sym same) (t.fresh x low some))
      no_bad_zone end marks t x low some (had_here y before same) =
          let one : y ≡ x = t.once y x (omega arith) low (λ none. some (sym same ∙ none)) same in
          let same_rank : rank y ≡ rank x = ap rank one in
          omega arith

      bad_zone : (x : ZonePlace) (marks : List Bool) → Taken (rank x) marks → is_bad_zone g (zone_at_place g blocks n x) marks ≡ true → IsBadZone g blocks Before n x
      bad_zone x marks t bad =
          ⊎_elim
          (λ low. too_low (ltb-true (zone_at_place g blocks n x) g.first low))
          (λ more.
          ⊎_elim
          (λ high. too_high (leb-true g.zones (zone_at_place g blocks n x) high))
          (λ was.
          ⊎_elim
          (λ old. let y = h.zones_by (zone_at_place g blocks n x) old in had_by y.0 y.1 y.2 y.3 y.5)
          (λ y. had_here y.0 y.1 y.3)
          (t.from (zone_at_place g blocks n x) was))
          (or_cases (nat_le g.zones (zone_at_place g blocks n x)) (is_marked marks (zone_at_place g blocks n x)) more))
          (or_cases (nat_lt (zone_at_place g blocks n x) g.first) (nat_le g.zones (zone_at_place g blocks n x) || is_marked marks (zone_at_place g blocks n x)) bad)

      zone_fault : (fault : Fault) (x : ZonePlace) → zone_tests.StopsAt g (zone_at_place g blocks n) (pointer_block_of g blocks n) w.zones x →
          fault ≡ (BadZone, pointer_block_of g blocks n x) → IsFirstHere g blocks Before n fault.0 fault.1
      zone_fault fault x stop told =
          subst (λ (f : Fault). IsFirstHere g blocks Before n f.0 f.1) (sym told)
          (of_zone x good zoned (λ y low some bad. no_bad_zone (rank x) stop.met stop.taken y low some bad) stop.some (bad_zone x stop.met stop.taken stop.bad))

      zones_added : (marks : List Bool) → Taken 263177 marks → AddsZones g blocks n w.zones marks
      zones_added marks t =
          let last : (x : ZonePlace) → zone_at_place g blocks n x ≢ 0 → rank x < 263177 = all_ranked g blocks (table_block g n) j (nine g blocks n) w.zones in
          record {
            size = t.size;
            kept = t.kept;
            within = λ x _ some. t.within x (last x some) some;
            fresh = λ x _ some. t.fresh x (last x some) some;
            marks = λ x _ some. t.marks x (last x some) some;
            once = λ x y _ some same. t.once x y (last x some) (last y (λ none. some (same ∙ none))) some same;
            from = λ z m. ⊎_elim inl (λ y. inr (y.0, zoned, y.2, y.3)) (t.from z m);
          }

    no_zones : (HasZones g blocks n → ⊥) → AddsZones g blocks n w.zones w.zones
    no_zones none = record {
      size = h.zones_size;
      kept = λ z m. m;
      within = λ x z. absurd (none z);
      fresh = λ x z. absurd (none z);
      marks = λ x z. absurd (none z);
      once = λ x y z. absurd (none z);
      from = λ z m. inl m;
    }

    -- ---- its slots

    abbrev Scanned : ℕ → SlotScan → Type 0
    Scanned = slot_tests.AreScanned g blocks j w.named

    module _ (d : IsDirectory g blocks n) where
      no_bad_slot : (end : ℕ) (s : SlotScan) → Scanned end s → (p : ℕ) → p < end → p < slots_of g blocks n → IsBadSlot g blocks Before n p → ⊥
      no_bad_slot end s t p low below (no_name none) = let r = t.read p low below in err-ok BadSlot r.0 (sym none ∙ r.1)
      no_bad_slot end s t p low below (no_inode slot m past) = let within = t.within p slot low m.entry in omega (arith, past, within)
      no_bad_slot end s t p low below (name_before slot more other m before k same) =
          let one : other ≡ p = t.once other p more slot (omega arith) low k.entry m.entry same in omega arith
      no_bad_slot end s t p low below (names_root slot m one kind) =
          true≢false (sym h.root_named ∙ subst (λ k. is_marked w.named k ≡ false) one (t.fresh p slot low m.entry kind))
      no_bad_slot end s t p low below (named_by slot more other at m kind was k same) =
          true≢false (sym (h.named_marked other at more was k (subst (λ k. IsDirectory g blocks k) (sym same) kind))
          ∙ subst (λ k. is_marked w.named k ≡ false) (sym same) (t.fresh p slot low m.entry kind))
      no_bad_slot end s t p low below (named_here slot more at m kind before k same) =
          let one : at ≡ p = t.alone at p more slot (omega arith) low k.entry m.entry same (subst (λ k. IsDirectory g blocks k) (sym same) kind) in omega arith

      names : (p : ℕ) (slot : Slot) → IsEntryAt g blocks j p slot → NamesAt g blocks n p slot
      names p slot entry = record { directory = d; entry = entry }

      bad_slot : (p : ℕ) → slot_tests.IsBadAt g blocks j w.named p → IsBadSlot g blocks Before n p
      bad_slot p (slot_tests.no_name none) = no_name none
      bad_slot p (slot_tests.no_inode slot entry past) = no_inode slot (names p slot entry) past
      bad_slot p (slot_tests.name_before slot more q entry low other same) = name_before slot more q (names p slot entry) low (names q more other) same
      bad_slot p (slot_tests.named_before slot entry kind was) =
          ⊎_elim
          (λ one. names_root slot (names p slot entry) one kind)
          (λ x. named_by slot x.2 x.0 x.1 (names p slot entry) kind x.3 x.4 x.5)
          (h.named_by slot.inode was)
      bad_slot p (slot_tests.named_here slot more q entry kind low other same) = named_here slot more q (names p slot entry) kind low (names q more other) same

      small : j.size ≤ 268966912
      small = ⊎_elim (λ great. absurd (good (size_too_large (inl d) great))) (λ low. low) (cases_lt 268966912 j.size)

      early : (p : ℕ) → p < j.size / slot_size g.width → p < slots_a_block g.width * 262663
      early p low = slots_few (slot_size g.width) (slots_a_block g.width) (form_is g.width) j.size p 262663 small low

      slot_fault : (marks : List Bool) (fault : Fault) (p : ℕ) → Taken 263177 marks → slot_tests.StopsAt g blocks j w.named p → fault ≡ (BadSlot, slot_zone g blocks n p) →
          IsFirstHere g blocks Before n fault.0 fault.1
      slot_fault marks fault p t stop told =
          subst (λ (f : Fault). IsFirstHere g blocks Before n f.0 f.1) (sym told)
          (of_slot p good d
          (λ y some bad. no_bad_zone (inl d) 263177 marks t y (all_ranked g blocks (table_block g n) j (nine g blocks n) w.zones y some) some bad)
          (λ q low bad. let far = stop.below in no_bad_slot p stop.scan stop.scanned q low (omega arith) bad) stop.below (bad_slot p stop.bad))

      names_added : (s : SlotScan) → Scanned (slots_a_block g.width * 262663) s → AddsNames g blocks n w.named s.named (map (λ (e : List ℕ × ℕ). inode_of_birth e.1) s.names)
      names_added s t = record {
        size = t.size;
        kept = t.kept;
        read = λ p _ below. t.read p (early p below) below;
        within = λ p slot m. t.within p slot (early p m.entry.below) m.entry;
        some = λ p slot m. slot_used g blocks j p slot m.entry;
        once = λ p q slot more m k. t.once p q slot more (early p m.entry.below) (early q k.entry.below) m.entry k.entry;
        fresh = λ p slot m. t.fresh p slot (early p m.entry.below) m.entry;
        marks = λ p slot m. t.marks p slot (early p m.entry.below) m.entry;
        alone = λ p q slot more m k. t.alone p q slot more (early p m.entry.below) (early q k.entry.below) m.entry k.entry;
        by_mark = λ k m. ⊎_elim inl (λ x. inr (x.0, x.1, names x.0 x.1 x.3, x.4)) (t.by_mark k m);
        order = by_directory s.names d t.sorted (λ name birth. (found_name name birth, name_found name birth));
        to = λ p slot m.
            subst (λ k. In k (map (λ (e : List ℕ × ℕ). inode_of_birth e.1) s.names)) (inode_of_birth_of slot.inode (slot_used g blocks j p slot m.entry))
            (map-In (λ (e : List ℕ × ℕ). inode_of_birth e.1) s.names (slot.name, birth_of slot.inode)
            (at_name-In s.names slot.name (birth_of slot.inode) (t.has p slot (early p m.entry.below) m.entry)));
        from = λ k inside.
            let x = In-map (λ (e : List ℕ × ℕ). inode_of_birth e.1) s.names k inside in
            let y = t.from x.0.0 x.0.1 (t.told x.0 x.1) in
            (y.0, y.1, names y.0 y.1 y.3, sym (inode_of_birth_of y.1.inode (slot_used g blocks j y.0 y.1 y.3)) ∙ (ap inode_of_birth y.5 ∙ x.2));
      }
        where
          found_name : (name : List ℕ) (birth : ℕ) → at_name s.names name ≡ Some birth → HasName g blocks j name birth
          found_name name birth q =
              let x = t.from name birth q in
              record { place = x.0; slot = x.1; below = x.3.below; stands = x.3.stands; name_is = x.4; no_dot = subst (λ name. is_dot name ≡ false) x.4 x.3.no_dot; birth_is = x.5 }

          name_found : (name : List ℕ) (birth : ℕ) → HasName g blocks j name birth → at_name s.names name ≡ Some birth
          name_found name birth x =
              let entry : IsEntryAt g blocks j x.place x.slot = record { below = x.below; stands = x.stands; no_dot = subst (λ name. is_dot name ≡ false) (sym x.name_is) x.no_dot } in
              subst (λ name. at_name s.names name ≡ Some birth) x.name_is (t.has x.place x.slot (early x.place x.below) entry ∙ ap Some x.birth_is)

    no_names : (IsDirectory g blocks n → ⊥) → AddsNames g blocks n w.named w.named []
    no_names none = record {
      size = h.named_size;
      kept = λ k m. m;
      read = λ p d. absurd (none d);
      within = λ p slot m. absurd (none m.directory);
      some = λ p slot m. absurd (none m.directory);
      once = λ p q slot more m. absurd (none m.directory);
      fresh = λ p slot m. absurd (none m.directory);
      marks = λ p slot m. absurd (none m.directory);
      alone = λ p q slot more m. absurd (none m.directory);
      by_mark = λ k m. inl m;
      order = by_none none;
      to = λ p slot m. absurd (none m.directory);
      from = λ k inside. absurd inside;
    }

    -- ---- the kinds of inodes

    abbrev scan : Reads (Result ZoneScan Fault)
    scan = scan_zones g (table_block g n) j.zones w.zones

    abbrev on_slots : ZoneScan → SlotScan → Reads (Result Visit Fault)
    on_slots z s = Ret (visit_directory g w e j z s)

    abbrev slot_scan : ZoneScan → Reads (Result SlotScan Fault)
    slot_scan z = scan_slots g (j.size / slot_size g.width) z.mapped (record { named = w.named; names = [] })

    zones_tested : zone_tests.IsTested g (zone_at_place g blocks n) (pointer_block_of g blocks n) w.zones 263177 (answer disk scan)
    zones_tested = zones_scan g blocks (table_block g n) j (nine g blocks n) w.zones h.zones_size

    directory_by : IsDirectory g blocks n → (z : ZoneScan) → Taken 263177 z.met → (r : Result SlotScan Fault) → slot_tests.IsTested g blocks j w.named (slots_a_block g.width * 262663) r →
        IsTested (answer disk (go_on (on_slots z) r))
    directory_by d z t (Err fault) stopped = slot_fault d z.met fault stopped.0 t stopped.1 stopped.2
    directory_by d z t (Ok s) scanned = (
      subst (λ ks. IsSoFar g blocks (met ++ n ∷ []) (ks ++ ahead)
          (met_node w n z.met s.named (found.Directory (record { parent = e.parent; width = g.width; slots = j.size / slot_size g.width; names = s.names })))) (numbers_in (birth_of n) s.names)
          (further g blocks met ahead w n h new good z.met s.named (map (λ (e : List ℕ × ℕ). inode_of_birth e.1) s.names) _ (zones_added (inl d) z.met t) (names_added d s scanned)),
      refl,
    )

    slots_tested : (z : ZoneScan) → answer disk scan ≡ Ok z → slot_tests.IsTested g blocks j w.named (slots_a_block g.width * 262663) (answer disk (slot_scan z))
    slots_tested z is =
        let of_map = scan_zones-map disk g (table_block g n) j.zones w.zones z (nine g blocks n) is in
        slots_scan g blocks j w.named z.mapped 0 262663 (record { named = w.named; names = [] })
        (subst (λ (r : Result ZoneScan Fault). IfOk r (λ z. IsRising z.mapped)) is (scan_rises disk g (table_block g n) j.zones w.zones))
        (of_map 0).right (λ k _ some. (of_map (k + 1)).full k (omega arith) some)
        (subst (λ n. slot_tests.AreScanned g blocks j w.named n (record { named = w.named; names = [] })) (sym (let zero : slots_a_block g.width * 0 ≡ 0 = omega arith in zero)) (none_scanned g blocks j w.named h.named_size))

    abbrev on_directory : ZoneScan → Reads (Result Visit Fault)
    on_directory z = if_ok (slot_scan z) (on_slots z)

    directory_after : IsDirectory g blocks n → (r : Result ZoneScan Fault) → answer disk scan ≡ r →
        zone_tests.IsTested g (zone_at_place g blocks n) (pointer_block_of g blocks n) w.zones 263177 r → IsTested (answer disk (go_on on_directory r))
    directory_after d (Err fault) is stopped = zone_fault (inl d) fault stopped.0 stopped.1 stopped.2
    directory_after d (Ok z) is taken =
        subst IsTested (sym (answer-and_then disk (slot_scan z) (go_on (on_slots z)))) (directory_by d z taken (answer disk (slot_scan z)) (slots_tested z is))

    directory_tested : IsDirectory g blocks n → IsTested (answer disk (if_ok scan on_directory))
    directory_tested d = subst IsTested (sym (answer-and_then disk scan (go_on on_directory))) (directory_after d (answer disk scan) refl zones_tested)

    abbrev on_file : ZoneScan → Reads (Result Visit Fault)
    on_file z = Ret (visit_file w n j z)

    file_after : (IsDirectory g blocks n → ⊥) → IsFile g blocks n → (r : Result ZoneScan Fault) →
        zone_tests.IsTested g (zone_at_place g blocks n) (pointer_block_of g blocks n) w.zones 263177 r → IsTested (answer disk (go_on on_file r))
    file_after none f (Err fault) stopped = zone_fault (inr f) fault stopped.0 stopped.1 stopped.2
    file_after none f (Ok z) taken =
        (further g blocks met ahead w n h new good z.met w.named [] _ (zones_added (inr f) z.met taken) (no_names none), refl)

    file_tested : (IsDirectory g blocks n → ⊥) → IsFile g blocks n → IsTested (answer disk (if_ok scan on_file))
    file_tested none f = subst IsTested (sym (answer-and_then disk scan (go_on on_file))) (file_after none f (answer disk scan) zones_tested)

    other_tested : (IsDirectory g blocks n → ⊥) → (IsFile g blocks n → ⊥) → IsTested (visit_other w n j)
    other_tested none no_file =
        (further g blocks met ahead w n h new good w.zones w.named [] _ (no_zones (λ z. ⊎_elim none no_file z)) (no_names none), refl)

    kind_by : (directory file : Bool) → is_directory j.mode ≡ directory → is_file j.mode ≡ file →
        IsTested (answer disk (if directory then if_ok scan on_directory else if file then if_ok scan on_file else Ret (visit_other w n j)))
    kind_by true file d f = directory_tested d
    kind_by false true d f = file_tested (λ t. true≢false (sym t ∙ d)) f
    kind_by false false d f = other_tested (λ t. true≢false (sym t ∙ d)) (λ t. true≢false (sym t ∙ f))

  inode_by : (bad : Bool) → is_bad_inode g n j ≡ bad →
      IsTested (answer disk (if bad then Ret (Err (BadInode, table_block g n))
      else if is_directory j.mode then if_ok (scan_zones g (table_block g n) j.zones w.zones)
      (λ z. if_ok (scan_slots g (j.size / slot_size g.width) z.mapped (record { named = w.named; names = [] })) (λ s. Ret (visit_directory g w e j z s)))
      else if is_file j.mode then if_ok (scan_zones g (table_block g n) j.zones w.zones) (λ z. Ret (visit_file w n j z)) else Ret (visit_other w n j)))
  inode_by true bad = of_inode (bad_inode g blocks n bad)
  inode_by false bad = kind_by (good_inode g blocks n bad) (is_directory j.mode) (is_file j.mode) refl refl

  -- the visit goes on, with the inode met, or tells its first fault
  pub visit_tested : IsTested (answer disk (visit g w e))
  unfolding visit
  visit_tested = inode_by (is_bad_inode g n j) refl
