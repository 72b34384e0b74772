-- The walk reads metadata alone.
use Rattle.std.specs.Prelude.{◌≡◌, ◌≢◌, ℕ, zero, suc, ◌+◌, ◌-◌, ◌*◌, ◌/◌, ◌<◌, ◌≤◌, min, Bool, true, false, nat_lt, if◌then◌else◌, List, [], ◌∷◌, ◌++◌, length, take, slice_index, Option, Some, None, Result, Ok, Err, refl}
use Rattle.std.specs.List.{range_with_len}
use Rattle.std.proofs.Common.{sym, subst, ◌∙◌, inl, inr, ⊎_elim, arith}
use Rattle.std.proofs.lemmas.Bool.{true≢false, cases_eq, eq-eqb, ne_eqb, lt-ltb, or_parts, ltb-false}
use Rattle.std.proofs.lemmas.Grind.{div_ceil_times}
use Rattle.byte_fields.specs.Fields.{record_at}
use Rattle.blk_base.specs.Members.{In}
use Rattle.blk_base.specs.laws.Members.{In-append_cases}
use Rattle.minix_layout.specs.Widths.{slot_size, slots_a_block}
use Rattle.minix_layout.specs.declared.division.Geometry.{Geometry}
use Rattle.minix_layout.specs.declared.inode.Inode.{Inode}
use Rattle.minix_layout.specs.declared.slot.Slot.{Slot}
use Rattle.minix_layout.specs.declared.fault.LayoutFault.{LayoutFault}
use Rattle.minix_layout.specs.declared.fault.LayoutFault.TheVariants.{BadInode, BadSlot}
use Rattle.minix_layout.specs.Slots.{slot_of}
use Rattle.tree_model.specs.Paths.{is_dot}
use Rattle.volume_ops.specs.declared.found.Mapped.{Mapped}
use Rattle.volume_ops.specs.Reads.{Reads, Ret, Read, answer, blocks_read, if_ok, go_on}
use Rattle.volume_ops.specs.laws.ReadsLaws.{blocks_read-and_then, err-ok}
use Rattle.volume_ops.specs.Places.{zone_numbers, table_block, inode_in_block, is_directory, is_file}
use Rattle.volume_ops.specs.Marks.{is_marked}
use Rattle.volume_ops.specs.Volume.{disk_of, metadata}
use Rattle.volume_ops.specs.VolumeFields.{inode_at}
use Rattle.volume_ops.specs.Zones.{Fault, ZoneScan, take_zone, take_blocks, take_numbers, take_indirect, take_indirects, take_double, scan_zones}
use Rattle.volume_ops.proofs.ZonesLaws.{length-zone_numbers, zone_numbers_at, scan_zones-map}
use Rattle.volume_ops.specs.Slots.{SlotScan, is_bad_entry, note_name, scan_entry, scan_used, scan_slot, scan_places, scan_block, scan_slots}
use Rattle.volume_ops.specs.Walk.{WalkState, Walked, found_in, Pending, Visit, is_bad_inode, visit_file, visit_directory, visit_other, visit, walk_through, walk, at_start, root, walk_volume}
use Rattle.volume_ops.specs.ZonePlaces.{ZonePlace, indirect, double, inner, zone_in}
use Rattle.volume_ops.specs.Faultless.{IsDirectory, HasZones}
use Rattle.volume_ops.specs.Metadata.{HoldsNumbers, IsMetadata, of_volume, of_numbers, of_directory}
use Rattle.volume_ops.proofs.SoFar.{IsSoFar}
use Rattle.volume_ops.proofs.VisitTests as visit_tests
use Rattle.volume_ops.proofs.VisitTests.{numbers_of, visit_tested, nine}
use Rattle.volume_ops.proofs.WalkTests.{passed, starts, numbers_append}

-- each of these blocks is one of P
abbrev pub AllAre : (ℕ → Type 0) → List ℕ → Type 0
AllAre P bs = (b : ℕ) → In b bs → P b

module _ (disk : ℕ → List ℕ) (P : ℕ → Type 0) where
  reads_on : {A B E : Type 0} (next : A → Reads (Result B E)) (r : Result A E) → ((a : A) → r ≡ Ok a → AllAre P (blocks_read disk (next a))) → AllAre P (blocks_read disk (go_on next r))
  reads_on next (Ok a) h = h a refl
  reads_on next (Err e) h = λ b i. absurd i

  -- one part, and then another
  reads_both : {A B E : Type 0} (p : Reads (Result A E)) (next : A → Reads (Result B E)) → AllAre P (blocks_read disk p) →
      ((a : A) → answer disk p ≡ Ok a → AllAre P (blocks_read disk (next a))) → AllAre P (blocks_read disk (if_ok p next))
  reads_both p next first rest b i =
      ⊎_elim (first b) (reads_on next (answer disk p) rest b)
      (In-append_cases (blocks_read disk p) (blocks_read disk (go_on next (answer disk p))) b (subst (λ bs. In b bs) (blocks_read-and_then disk p (go_on next)) i))

  reads_either : {A : Type 0} (t : Bool) (p q : Reads A) → AllAre P (blocks_read disk p) → AllAre P (blocks_read disk q) → AllAre P (blocks_read disk (if t then p else q))
  reads_either true p q h k = h
  reads_either false p q h k = k

  -- ---- zones

  module _ (g : Geometry) where
    numbers_read_by : (z : ℕ) (s : ZoneScan) (next : List ℕ → ZoneScan → Reads (Result ZoneScan Fault)) (r : Result (List Bool) Fault) → P z →
        ((t : ZoneScan) → AllAre P (blocks_read disk (next (zone_numbers (disk z)) t))) →
        AllAre P (blocks_read disk (elim r as (λ _. Reads (Result ZoneScan Fault)) [
          | Err fault ↦ Ret (Err fault)
          | Ok met ↦ Read z (λ body. next (zone_numbers body) (record { met = met; mapped = s.mapped }))
        ]))
    numbers_read_by z s next (Err fault) h rest = λ b i. absurd i
    numbers_read_by z s next (Ok met) h rest = λ b i. ⊎_elim (λ e. subst P e h) (rest (record { met = met; mapped = s.mapped }) b) i

    numbers_read : (pointer_block z : ℕ) (s : ZoneScan) (next : List ℕ → ZoneScan → Reads (Result ZoneScan Fault)) → (z ≢ 0 → P z) →
        (z ≢ 0 → (t : ZoneScan) → AllAre P (blocks_read disk (next (zone_numbers (disk z)) t))) → AllAre P (blocks_read disk (take_numbers g pointer_block z s next))
    numbers_read pointer_block z s next h rest =
        ⊎_elim
        (λ none. rw (eq-eqb z 0 none) (λ b i. absurd i))
        (λ some. rw (ne_eqb z 0 some) (numbers_read_by z s next (take_zone g pointer_block z s.met) (h some) (rest some)))
        (cases_eq z 0)

    indirect_reads : (pointer_block index z : ℕ) (s : ZoneScan) → (z ≢ 0 → P z) → AllAre P (blocks_read disk (take_indirect g pointer_block index z s))
    indirect_reads pointer_block index z s h = numbers_read pointer_block z s (λ numbers after. Ret (take_blocks g z index numbers after)) h (λ some t b i. absurd i)

    indirects_read : (pointer_block index : ℕ) (zs : List ℕ) (s : ZoneScan) → ((k : ℕ) → k < length zs → slice_index zs k ≢ 0 → P (slice_index zs k)) →
        AllAre P (blocks_read disk (take_indirects g pointer_block index zs s))
    indirects_read pointer_block index [] s h = λ b i. absurd i
    indirects_read pointer_block index (z ∷ zs) s h =
        reads_both (take_indirect g pointer_block index z s) (take_indirects g pointer_block (index + 512) zs) (indirect_reads pointer_block index z s (h 0 (omega arith)))
        (λ t _. indirects_read pointer_block (index + 512) zs t (λ k low. h (suc k) (omega arith)))

    -- ---- slots

    module _ (tables : (k : ℕ) → k ≤ g.inodes → P (table_block g k)) where
      entry_reads : (zone : ℕ) (slot : Slot) (s : SlotScan) (bad : Bool) → is_bad_entry g slot s ≡ bad →
          AllAre P (blocks_read disk (if bad then Ret (Err (BadSlot, zone)) else Read (table_block g slot.inode) (λ body. Ret (note_name zone slot s (is_directory (inode_in_block slot.inode body).mode)))))
      entry_reads zone slot s true bad = λ b i. absurd i
      entry_reads zone slot s false bad =
          let good = or_parts (nat_lt g.inodes slot.inode) _ bad in
          λ b i. ⊎_elim (λ e. subst P e (tables slot.inode (ltb-false g.inodes slot.inode good.0))) (λ j. absurd j) i

      used_reads : (zone : ℕ) (s : SlotScan) (o : Option Slot) → AllAre P (blocks_read disk (scan_used g zone s o))
      used_reads zone s None = λ b i. absurd i
      used_reads zone s (Some slot) =
          reads_either (is_dot slot.name) (Ret (Ok s)) (scan_entry g zone slot s) (λ b i. absurd i) (entry_reads zone slot s (is_bad_entry g slot s) refl)

      slot_reads : (zone : ℕ) (s : SlotScan) (r : Result (Option Slot) LayoutFault) →
          AllAre P (blocks_read disk (elim r as (λ _. Reads (Result SlotScan Fault)) [ Err fault ↦ Ret (Err (fault, zone)) | Ok slot ↦ scan_used g zone s slot ]))
      slot_reads zone s (Ok o) = used_reads zone s o
      slot_reads zone s (Err fault) = λ b i. absurd i

      places_read : (zone : ℕ) (body ats : List ℕ) (s : SlotScan) → AllAre P (blocks_read disk (scan_places g zone body ats s))
      places_read zone body [] s = λ b i. absurd i
      places_read zone body (at ∷ ats) s =
          reads_both (scan_slot g zone (record_at (slot_size g.width) at body) s) (scan_places g zone body ats) (slot_reads zone s (slot_of g.width (record_at (slot_size g.width) at body))) (λ t _. places_read zone body ats t)

      slots_read : (slots : ℕ) (ms : List Mapped) (s : SlotScan) → ((m : Mapped) → In m ms → P m.zone) → AllAre P (blocks_read disk (scan_slots g slots ms s))
      slots_read slots [] s h = λ b i. absurd i
      slots_read slots (m ∷ ms) s h =
          reads_both (scan_block g slots m s) (scan_slots g slots ms)
          (reads_either (nat_lt (slots_a_block g.width * m.index) slots) _ (Ret (Ok s))
          (λ b i. ⊎_elim (λ e. subst P e (h m (inl refl))) (places_read m.zone (disk m.zone) (range_with_len 0 (min (slots_a_block g.width) (slots - slots_a_block g.width * m.index))) s b) i)
          (λ b i. absurd i))
          (λ t _. slots_read slots ms t (λ n i. h n (inr i)))

-- ---- the zones of numbers of an inode

module _ (g : Geometry) (blocks : List (List ℕ)) (P : ℕ → Type 0) (i : Inode) (h : (x : ZonePlace) → HoldsNumbers x → zone_in blocks i x ≢ 0 → P (zone_in blocks i x)) where
  inner_zone : (k : ℕ) → k < 512 → slice_index i.zones 8 ≢ 0 → zone_in blocks i (inner k) ≡ slice_index (zone_numbers (disk_of blocks (slice_index i.zones 8))) k
  inner_zone k few some = rw (lt-ltb k 512 few, ne_eqb (slice_index i.zones 8) 0 some) (sym (zone_numbers_at (disk_of blocks (slice_index i.zones 8)) k few))

  double_reads : (pointer_block : ℕ) (s : ZoneScan) → AllAre P (blocks_read (disk_of blocks) (take_double g pointer_block (slice_index i.zones 8) s))
  double_reads pointer_block s =
      numbers_read (disk_of blocks) P g pointer_block (slice_index i.zones 8) s (λ numbers after. take_indirects g (slice_index i.zones 8) 519 numbers after) (h double tt)
      (λ some t.
      indirects_read (disk_of blocks) P g (slice_index i.zones 8) 519 (zone_numbers (disk_of blocks (slice_index i.zones 8))) t
      (λ k low.
      let few : k < 512 = omega (arith, length-zone_numbers (disk_of blocks (slice_index i.zones 8))) in
      subst (λ z. z ≢ 0 → P z) (inner_zone k few some) (h (inner k) tt)))

  zones_read : (pointer_block : ℕ) (met : List Bool) → AllAre P (blocks_read (disk_of blocks) (scan_zones g pointer_block i.zones met))
  unfolding scan_zones
  zones_read pointer_block met =
      reads_both (disk_of blocks) P (Ret (take_blocks g pointer_block 0 (take 7 i.zones) (record { met = met; mapped = [] })))
      (λ s. if_ok (take_indirect g pointer_block 7 (slice_index i.zones 7) s) (take_double g pointer_block (slice_index i.zones 8)))
      (λ b i. absurd i)
      (λ s _.
      reads_both (disk_of blocks) P (take_indirect g pointer_block 7 (slice_index i.zones 7) s) (take_double g pointer_block (slice_index i.zones 8))
      (indirect_reads (disk_of blocks) P g pointer_block 7 (slice_index i.zones 7) s (h indirect tt)) (λ t _. double_reads pointer_block t))

-- ---- the walk

module _ (g : Geometry) (blocks : List (List ℕ)) (some_inode : 0 < g.inodes) where
  abbrev disk : ℕ → List ℕ
  disk = disk_of blocks

  abbrev Meta : ℕ → Type 0
  Meta = IsMetadata g blocks

  -- the table has a block for each inode
  pub table_is : (k : ℕ) → k ≤ g.inodes → Meta (table_block g k)
  table_is k low = of_volume (omega arith) (let ceil = div_ceil_times g.inodes 32 (omega arith) in omega (arith, ceil.0))

  module _ (met ahead : List ℕ) (w : WalkState) (e : Pending) (h : IsSoFar g blocks met (e.inode ∷ ahead) w) where
    abbrev i : Inode
    i = inode_at g blocks e.inode

    abbrev scan : Reads (Result ZoneScan Fault)
    scan = scan_zones g (table_block g e.inode) i.zones w.zones

    abbrev on_directory : ZoneScan → Reads (Result Visit Fault)
    on_directory z = if_ok (scan_slots g (i.size / slot_size g.width) z.mapped (record { named = w.named; names = [] })) (λ s. Ret (visit_directory g w e i z s))

    abbrev on_file : ZoneScan → Reads (Result Visit Fault)
    on_file z = Ret (visit_file w e.inode i z)

    scan_reads : HasZones g blocks e.inode → AllAre Meta (blocks_read disk scan)
    scan_reads kind = zones_read g blocks Meta i (λ x numbers some. of_numbers e.inode x (h.ahead_reached e.inode (inl refl)) kind numbers some refl) (table_block g e.inode) w.zones

    directory_reads : IsDirectory g blocks e.inode → AllAre Meta (blocks_read disk (if_ok scan on_directory))
    directory_reads d =
        reads_both disk Meta scan on_directory (scan_reads (inl d))
        (λ z is.
        let of_map = scan_zones-map disk g (table_block g e.inode) i.zones w.zones z (nine g blocks e.inode) is in
        reads_both disk Meta (scan_slots g (i.size / slot_size g.width) z.mapped (record { named = w.named; names = [] })) (λ s. Ret (visit_directory g w e i z s))
        (slots_read disk Meta g table_is (i.size / slot_size g.width) z.mapped (record { named = w.named; names = [] })
        (λ m inside. let at = (of_map 0).right m inside in of_directory e.inode m.index (h.ahead_reached e.inode (inl refl)) d at.1 at.0))
        (λ s _ b none. absurd none))

    kind_reads : (directory file : Bool) → is_directory i.mode ≡ directory → is_file i.mode ≡ file →
        AllAre Meta (blocks_read disk (if directory then if_ok scan on_directory else if file then if_ok scan on_file else Ret (visit_other w e.inode i)))
    kind_reads true file d f = directory_reads d
    kind_reads false true d f = reads_both disk Meta scan on_file (scan_reads (inr f)) (λ z _ b none. absurd none)
    kind_reads false false d f = λ b none. absurd none

    visit_reads : AllAre Meta (blocks_read disk (visit g w e))
    unfolding visit
    visit_reads b inside =
        ⊎_elim
        (λ first. subst Meta first (table_is e.inode (h.ahead_within e.inode (inl refl))))
        (λ rest.
        reads_either disk Meta (is_bad_inode g e.inode i) (Ret (Err (BadInode, table_block g e.inode))) _ (λ b none. absurd none)
        (kind_reads (is_directory i.mode) (is_file i.mode) refl refl) b rest)
        inside

  abbrev Next : Type 0
  Next = WalkState → List Pending → Reads (Result Walked Fault)

  ok_so_far : (met : List ℕ) (w : WalkState) (e : Pending) (rest : List Pending) (h : IsSoFar g blocks met (e.inode ∷ numbers_of rest) w) (new : In e.inode met → ⊥) (v : Visit) →
      (r : Result Visit Fault) → visit_tests.IsTested g blocks met (numbers_of rest) w e h new r → r ≡ Ok v → IsSoFar g blocks (met ++ e.inode ∷ []) (numbers_of (v.names ++ rest)) v.state
  ok_so_far met w e rest h new v (Ok u) good is =
      let same : u ≡ v = (let k = is in cc) in
      subst (λ (v : Visit). IsSoFar g blocks (met ++ e.inode ∷ []) (numbers_of (v.names ++ rest)) v.state) same
      (subst (λ ks. IsSoFar g blocks (met ++ e.inode ∷ []) ks u.state) (sym (numbers_append u.names rest)) good.0)
  ok_so_far met w e rest h new v (Err fault) good is = absurd (err-ok fault v is)

  module _ (next : Next) (goes : (met : List ℕ) (w : WalkState) (rest : List Pending) → IsSoFar g blocks met (numbers_of rest) w → AllAre Meta (blocks_read disk (next w rest))) where
    through_by : (met : List ℕ) (w : WalkState) (e : Pending) (rest : List Pending) (was : Bool) → is_marked w.inodes e.inode ≡ was → IsSoFar g blocks met (e.inode ∷ numbers_of rest) w →
        (IsSoFar g blocks met (numbers_of rest) w → AllAre Meta (blocks_read disk (walk_through g next w rest))) →
        AllAre Meta (blocks_read disk (if was then walk_through g next w rest else if_ok (visit g w e) (λ v. next v.state (v.names ++ rest))))
    through_by met w e rest true was h past = past (passed g blocks met (numbers_of rest) e.inode w h (h.by_mark e.inode was))
    through_by met w e rest false was h past =
        let new : In e.inode met → ⊥ = λ i. true≢false (sym (h.marks e.inode i) ∙ was) in
        reads_both disk Meta (visit g w e) (λ v. next v.state (v.names ++ rest)) (visit_reads met (numbers_of rest) w e h)
        (λ v is. goes (met ++ e.inode ∷ []) v.state (v.names ++ rest)
        (ok_so_far met w e rest h new v (answer disk (visit g w e)) (visit_tested g blocks met (numbers_of rest) w e h new) is))

    through : (met : List ℕ) (w : WalkState) (pending : List Pending) → IsSoFar g blocks met (numbers_of pending) w → AllAre Meta (blocks_read disk (walk_through g next w pending))
    through met w [] h = λ b none. absurd none
    through met w (e ∷ rest) h = through_by met w e rest (is_marked w.inodes e.inode) refl h (λ h. through met w rest h)

  walk_reads : (n : ℕ) (met : List ℕ) (w : WalkState) (pending : List Pending) → IsSoFar g blocks met (numbers_of pending) w → AllAre Meta (blocks_read disk (walk n g w pending))
  walk_reads zero = through (λ w rest. Ret (Ok (found_in w))) (λ met w rest h b none. absurd none)
  walk_reads (suc n) = through (walk n g) (walk_reads n)

  -- each block that the walk reads is one of the metadata
  pub walk_reads_metadata : AllAre Meta (metadata g blocks)
  unfolding walk_volume
  walk_reads_metadata = walk_reads g.inodes [] (at_start g) (root ∷ []) (starts g blocks some_inode)
