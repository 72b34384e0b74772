-- What the scan of the zones of an inode tests: each number that is not 0, in order, or all up to the first that is bad.
use Rattle.std.specs.Prelude.{◌≡◌, ◌≢◌, ℕ, suc, ◌+◌, ◌-◌, ◌*◌, ◌/◌, ◌%◌, ◌<◌, ◌≤◌, ◌⊎◌, Bool, true, false, nat_lt, nat_le, ◌||◌, if◌then◌else◌, List, [], ◌∷◌, ◌++◌, length, take, slice_index, Result, Ok, Err, refl}
use Rattle.std.proofs.Common.{sym, ap, subst, ◌∙◌, inl, inr, ⊎_elim, arith}
use Rattle.std.proofs.lemmas.Bool.{true≢false, false_from_ne_true, cases_Bool, cases_eq, cases_lt, eq-eqb, ne_eqb, or_parts, ltb-false, leb-false, lt-ltb, le-ltb}
use Rattle.std.proofs.lemmas.List.{get_or-take, length-take}
use Rattle.minix_layout.specs.declared.division.Geometry.{Geometry}
use Rattle.minix_layout.specs.declared.inode.Inode.{Inode}
use Rattle.minix_layout.specs.declared.fault.LayoutFault.TheVariants.{BadZone}
use Rattle.minix_tables.specs.inodes.laws.MapLaws.{zone_at-direct, zone_at-past, zone_at-indirect, zone_at-no_indirect, zone_at-double, zone_at-no_double, zone_at-no_inner}
use Rattle.volume_ops.specs.Reads.{Reads, Ret, answer, if_ok, go_on}
use Rattle.volume_ops.specs.laws.ReadsLaws.{answer-and_then}
use Rattle.volume_ops.specs.Places.{zone_number, zone_numbers}
use Rattle.volume_ops.specs.Volume.{disk_of}
use Rattle.volume_ops.specs.Marks.{is_marked, marked}
use Rattle.volume_ops.specs.laws.MarksLaws.{is_marked_same, is_marked_kept, is_marked_new, length-marked}
use Rattle.volume_ops.specs.Zones.{Fault, ZoneScan, is_bad_zone, take_zone, take_blocks, take_numbers, take_indirect, take_indirects, take_double, scan_zones}
use Rattle.volume_ops.proofs.ZonesLaws.{length-zone_numbers, zone_numbers_at}
use Rattle.volume_ops.specs.ZonePlaces.{ZonePlace, block, indirect, double, inner, entry_of, zone_in, pointer_block_in, rank}

-- ---- ranks

rank_low : (k : ℕ) → k < 7 → rank (block k) ≡ k
rank_low k low = rw (lt-ltb k 7 low)

rank_middle : (k : ℕ) → 7 ≤ k → k < 519 → rank (block k) ≡ k + 1
rank_middle k low high = rw (le-ltb k 7 low, lt-ltb k 519 high)

rank_high : (k : ℕ) → 519 ≤ k → rank (block k) ≡ 522 + 513 * ((k - 519) / 512) + (k - 519) % 512
rank_high k low = let seven : 7 ≤ k = omega arith in rw (le-ltb k 7 seven, le-ltb k 519 low)

-- where a block lies among the ranks
data IsRanked (k : ℕ) : Type 0 where
  in_inode : k < 7 → rank (block k) ≡ k → IsRanked k
  in_indirect : 7 ≤ k → k < 519 → rank (block k) ≡ k + 1 → IsRanked k
  in_inner : 519 ≤ k → rank (block k) ≡ 522 + 513 * ((k - 519) / 512) + (k - 519) % 512 → IsRanked k

ranked : (k : ℕ) → IsRanked k
ranked k =
    ⊎_elim
    (λ low. in_inode low (rank_low k low))
    (λ seven. ⊎_elim (λ low. in_indirect seven low (rank_middle k seven low)) (λ high. in_inner high (rank_high k high)) (cases_lt k 519))
    (cases_lt k 7)

same_block_by : (j k : ℕ) → IsRanked j → IsRanked k → rank (block j) ≡ rank (block k) → j ≡ k
same_block_by j k (in_inode a p) (in_inode b q) e = omega arith
same_block_by j k (in_inode a p) (in_indirect b c q) e = omega arith
same_block_by j k (in_inode a p) (in_inner b q) e = omega arith
same_block_by j k (in_indirect a b p) (in_inode c q) e = omega arith
same_block_by j k (in_indirect a b p) (in_indirect c d q) e = omega arith
same_block_by j k (in_indirect a b p) (in_inner c q) e = omega arith
same_block_by j k (in_inner a p) (in_inode b q) e = omega arith
same_block_by j k (in_inner a p) (in_indirect b c q) e = omega arith
same_block_by j k (in_inner a p) (in_inner b q) e = omega arith

not_indirect : (k : ℕ) → IsRanked k → rank (block k) ≡ 7 → ⊥
not_indirect k (in_inode a p) e = omega arith
not_indirect k (in_indirect a b p) e = omega arith
not_indirect k (in_inner a p) e = omega arith

not_double : (k : ℕ) → IsRanked k → rank (block k) ≡ 520 → ⊥
not_double k (in_inode a p) e = omega arith
not_double k (in_indirect a b p) e = omega arith
not_double k (in_inner a p) e = omega arith

not_inner : (k j : ℕ) → IsRanked k → rank (block k) ≡ 521 + 513 * j → ⊥
not_inner k j (in_inode a p) e = omega arith
not_inner k j (in_indirect a b p) e = omega arith
not_inner k j (in_inner a p) e = omega arith

-- no two places have one rank
pub same_rank : (x y : ZonePlace) → rank x ≡ rank y → x ≡ y
same_rank (block j) (block k) e = ap (λ k. block k) (same_block_by j k (ranked j) (ranked k) e)
same_rank (block j) indirect e = absurd (not_indirect j (ranked j) e)
same_rank (block j) double e = absurd (not_double j (ranked j) e)
same_rank (block j) (inner k) e = absurd (not_inner j k (ranked j) e)
same_rank indirect (block k) e = absurd (not_indirect k (ranked k) (sym e))
same_rank indirect indirect e = refl
same_rank indirect double e = absurd (omega arith)
same_rank indirect (inner k) e = absurd (omega arith)
same_rank double (block k) e = absurd (not_double k (ranked k) (sym e))
same_rank double indirect e = absurd (omega arith)
same_rank double double e = refl
same_rank double (inner k) e = absurd (omega arith)
same_rank (inner j) (block k) e = absurd (not_inner k j (ranked k) (sym e))
same_rank (inner j) indirect e = absurd (omega arith)
same_rank (inner j) double e = absurd (omega arith)
same_rank (inner j) (inner k) e = ap (λ k. inner k) (omega arith)

-- ---- what was taken so far

module _ (g : Geometry) (zone pointer_block : ZonePlace → ℕ) (before : List Bool) where
  -- The zones at the first n places were taken: each is one of the zones of data, was not met before, and is had at
  -- one place; just these and those before are met now.
  pub record AreTaken (n : ℕ) (met : List Bool) : Type 0 where
    pub size : length met ≡ g.zones
    pub kept : (z : ℕ) → is_marked before z ≡ true → is_marked met z ≡ true
    pub within : (x : ZonePlace) → rank x < n → zone x ≢ 0 → (g.first ≤ zone x) × (zone x < g.zones)
    pub fresh : (x : ZonePlace) → rank x < n → zone x ≢ 0 → is_marked before (zone x) ≡ false
    pub marks : (x : ZonePlace) → rank x < n → zone x ≢ 0 → is_marked met (zone x) ≡ true
    pub once : (x y : ZonePlace) → rank x < n → rank y < n → zone x ≢ 0 → zone x ≡ zone y → x ≡ y
    pub from : (z : ℕ) → is_marked met z ≡ true → (is_marked before z ≡ true) ⊎ ((x : ZonePlace) × (rank x < n) × (zone x ≢ 0) × (zone x ≡ z))

  -- the number at a place is the first that is bad
  pub record StopsAt (x : ZonePlace) : Type 0 where
    pub met : List Bool
    pub taken : AreTaken (rank x) met
    pub some : zone x ≢ 0
    pub bad : is_bad_zone g (zone x) met ≡ true

  -- n places were gone through, or there is a fault
  abbrev pub IsTested : ℕ → Result ZoneScan Fault → Type 0
  IsTested n (Ok s) = AreTaken n s.met
  IsTested n (Err fault) = (x : ZonePlace) × StopsAt x × (fault ≡ (BadZone, pointer_block x))

  -- holes
  taken_holes : (n m : ℕ) (met : List Bool) → AreTaken n met → n ≤ m → ((x : ZonePlace) → n ≤ rank x → rank x < m → zone x ≡ 0) → AreTaken m met
  taken_holes n m met t more holes =
      let early : (x : ZonePlace) → rank x < m → zone x ≢ 0 → rank x < n =
      λ x low some. ⊎_elim (λ l. l) (λ high. absurd (some (holes x high low))) (cases_lt (rank x) n) in
      record {
        size = t.size;
        kept = t.kept;
        within = λ x low some. t.within x (early x low some) some;
        fresh = λ x low some. t.fresh x (early x low some) some;
        marks = λ x low some. t.marks x (early x low some) some;
        once = λ x y low high some e. t.once x y (early x low some) (early y high (λ none. some (e ∙ none))) some e;
        from = λ z h. ⊎_elim inl (λ y. inr (y.0, (let low = y.1 in omega arith), y.2, y.3)) (t.from z h);
      }

  -- one zone that is not bad
  module _ (p : ZonePlace) (met : List Bool) (t : AreTaken (rank p) met) (some : zone p ≢ 0) (good : is_bad_zone g (zone p) met ≡ false) where
    parts : (nat_lt (zone p) g.first ≡ false) × ((nat_le g.zones (zone p) || is_marked met (zone p)) ≡ false)
    parts = or_parts (nat_lt (zone p) g.first) (nat_le g.zones (zone p) || is_marked met (zone p)) good

    more_parts : (nat_le g.zones (zone p) ≡ false) × (is_marked met (zone p) ≡ false)
    more_parts = or_parts (nat_le g.zones (zone p)) (is_marked met (zone p)) parts.1

    inside : zone p < g.zones
    inside = leb-false g.zones (zone p) more_parts.0

    -- each place up to this one
    place_cases : (P : ZonePlace → Type 0) → ((x : ZonePlace) → rank x < rank p → P x) → P p → (x : ZonePlace) → rank x < rank p + 1 → P x
    place_cases P old here x low =
        ⊎_elim (old x) (λ high. subst P (same_rank p x (omega arith)) here) (cases_lt (rank x) (rank p))

    apart : (x : ZonePlace) → rank x < rank p → zone x ≢ 0 → zone x ≡ zone p → ⊥
    apart x low there e = true≢false (sym (t.marks x low there) ∙ subst (λ z. is_marked met z ≡ false) (sym e) more_parts.1)

    taken_more : AreTaken (rank p + 1) (marked met (zone p))
    taken_more = record {
      size = length-marked met (zone p) ∙ t.size;
      kept = λ z h. is_marked_kept met (zone p) z (t.kept z h);
      within = place_cases (λ x. zone x ≢ 0 → (g.first ≤ zone x) × (zone x < g.zones)) t.within (λ _. (ltb-false (zone p) g.first parts.0, inside));
      fresh = place_cases (λ x. zone x ≢ 0 → is_marked before (zone x) ≡ false) t.fresh
          (λ _. false_from_ne_true (is_marked before (zone p)) (λ h. true≢false (sym (t.kept (zone p) h) ∙ more_parts.1)));
      marks = place_cases (λ x. zone x ≢ 0 → is_marked (marked met (zone p)) (zone x) ≡ true)
          (λ x low there. is_marked_kept met (zone p) (zone x) (t.marks x low there))
          (λ _. is_marked_same met (zone p) (subst (λ n. zone p < n) (sym t.size) inside));
      once = λ x y low high. once_more x low y high;
      from = λ z h.
          ⊎_elim
          (λ old. ⊎_elim inl (λ y. inr (y.0, (let low = y.1 in omega arith), y.2, y.3)) (t.from z old))
          (λ f. inr (p, omega arith, some, sym (is_marked_new met (zone p) z f h)))
          (cases_Bool (is_marked met z));
    }
      where
        once_more : (x : ZonePlace) → rank x < rank p + 1 → (y : ZonePlace) → rank y < rank p + 1 → zone x ≢ 0 → zone x ≡ zone y → x ≡ y
        once_more = place_cases (λ x. (y : ZonePlace) → rank y < rank p + 1 → zone x ≢ 0 → zone x ≡ zone y → x ≡ y)
            (λ x low. place_cases (λ y. zone x ≢ 0 → zone x ≡ zone y → x ≡ y) (λ y high there e. t.once x y low high there e)
            (λ there e. absurd (apart x low there e)))
            (place_cases (λ y. zone p ≢ 0 → zone p ≡ zone y → p ≡ y) (λ y high there e. absurd (apart y high (λ none. there (e ∙ none)) (sym e)))
            (λ there e. refl))

  -- ---- the scan, part by part

  refused : (h z : ℕ) (met : List Bool) → is_bad_zone g z met ≡ true → take_zone g h z met ≡ Err (BadZone, h)
  refused h z met bad = rw bad refl

  accepted : (h z : ℕ) (met : List Bool) → is_bad_zone g z met ≡ false → take_zone g h z met ≡ Ok (marked met z)
  accepted h z met good = rw good refl

  bad_here : (p : ZonePlace) (n h : ℕ) (met : List Bool) → rank p ≡ n → pointer_block p ≡ h → zone p ≢ 0 → AreTaken n met → is_bad_zone g (zone p) met ≡ true →
      (x : ZonePlace) × StopsAt x × (◌≡◌ {A = Fault} (BadZone, h) (BadZone, pointer_block x))
  bad_here p n h met r e some t bad =
      (p, record { met = met; taken = subst (λ n. AreTaken n met) (sym r) t; some = some; bad = bad }, ap (λ h. (BadZone, h)) (sym e))

  good_here : (p : ZonePlace) (n : ℕ) (met : List Bool) → rank p ≡ n → zone p ≢ 0 → AreTaken n met → is_bad_zone g (zone p) met ≡ false → AreTaken (n + 1) (marked met (zone p))
  good_here p n met r some t good =
      subst (λ n. AreTaken (n + 1) (marked met (zone p))) r (taken_more p met (subst (λ n. AreTaken n met) (sym r) t) some good)

  hole_here : (p : ZonePlace) (n : ℕ) (met : List Bool) → rank p ≡ n → zone p ≡ 0 → AreTaken n met → AreTaken (n + 1) met
  hole_here p n met r none t =
      taken_holes n (n + 1) met t (omega arith) (λ x low high. subst (λ x. zone x ≡ 0) (same_rank p x (omega arith)) none)

  -- the blocks from `index` on have these zones, whose numbers stand in block h
  abbrev AreBlocks : ℕ → ℕ → ℕ → List ℕ → Type 0
  AreBlocks h index n zs = (j : ℕ) → j < length zs → (zone (block (index + j)) ≡ slice_index zs j) × (rank (block (index + j)) ≡ n + j) × (pointer_block (block (index + j)) ≡ h)

  blocks_given : (h index n : ℕ) (zs : List ℕ) (s : ZoneScan) → AreBlocks h index n zs → AreTaken n s.met → IsTested (n + length zs) (take_blocks g h index zs s)
  blocks_given h index n [] s at t = let e : n ≡ n + 0 = omega arith in subst (λ n. AreTaken n s.met) e t
  blocks_given h index n (z ∷ zs) s at t =
      let none_on : index + 0 ≡ index = omega arith in
      let first : n + 0 ≡ n = omega arith in
      let first_is = at 0 (omega arith) in
      let here : zone (block index) ≡ z = rw none_on at first_is.0 in
      let rank_is : rank (block index) ≡ n = subst (λ k. rank (block k) ≡ n) none_on (first_is.1 ∙ first) in
      let held : pointer_block (block index) ≡ h = subst (λ k. pointer_block (block k) ≡ h) none_on first_is.2 in
      let rest : AreBlocks h (index + 1) (n + 1) zs =
      (λ j below.
      let e : index + suc j ≡ (index + 1) + j = omega arith in
      let more : n + suc j ≡ (n + 1) + j = omega arith in
      let y = at (suc j) (omega arith) in
      (subst (λ k. zone (block k) ≡ slice_index zs j) e y.0, subst (λ k. rank (block k) ≡ (n + 1) + j) e (y.1 ∙ more), subst (λ k. pointer_block (block k) ≡ h) e y.2)) in
      let end : (n + 1) + length zs ≡ n + suc (length zs) = omega arith in
      subst (λ m. IsTested m (take_blocks g h index (z ∷ zs) s)) end
      (⊎_elim
      (λ none. rw (eq-eqb z 0 none) (blocks_given h (index + 1) (n + 1) zs s rest (hole_here (block index) n s.met rank_is (here ∙ none) t)))
      (λ some.
      let there : zone (block index) ≢ 0 = λ none. some (sym here ∙ none) in
      ⊎_elim
      (λ bad. rw (ne_eqb z 0 some, refused h z s.met bad) (bad_here (block index) n h s.met rank_is held there t (subst (λ z. is_bad_zone g z s.met ≡ true) (sym here) bad)))
      (λ good.
      rw (ne_eqb z 0 some, accepted h z s.met good)
      (blocks_given h (index + 1) (n + 1) zs (record { met = marked s.met z; mapped = s.mapped ++ record { index = index; zone = z } ∷ [] }) rest
      (subst (λ z. AreTaken (n + 1) (marked s.met z)) here (good_here (block index) n s.met rank_is there t (subst (λ z. is_bad_zone g z s.met ≡ false) (sym here) good)))))
      (cases_Bool (is_bad_zone g z s.met)))
      (cases_eq z 0))

  -- a zone of numbers, and what is behind it
  numbers_given : (disk : ℕ → List ℕ) (p : ZonePlace) (h z n m : ℕ) (s : ZoneScan) (next : List ℕ → ZoneScan → Reads (Result ZoneScan Fault)) →
      zone p ≡ z → rank p ≡ n → pointer_block p ≡ h → AreTaken n s.met → n + 1 ≤ m →
      (z ≡ 0 → (x : ZonePlace) → n < rank x → rank x < m → zone x ≡ 0) →
      (z ≢ 0 → (t : ZoneScan) → AreTaken (n + 1) t.met → IsTested m (answer disk (next (zone_numbers (disk z)) t))) →
      IsTested m (answer disk (take_numbers g h z s next))
  numbers_given disk p h z n m s next here rank_is held t more holes behind =
      ⊎_elim
      (λ none. rw (eq-eqb z 0 none)
      (taken_holes (n + 1) m s.met (hole_here p n s.met rank_is (here ∙ none) t) more (λ x low high. holes none x (omega arith) high)))
      (λ some.
      let there : zone p ≢ 0 = λ none. some (sym here ∙ none) in
      ⊎_elim
      (λ bad. rw (ne_eqb z 0 some, refused h z s.met bad) (bad_here p n h s.met rank_is held there t (subst (λ z. is_bad_zone g z s.met ≡ true) (sym here) bad)))
      (λ good.
      rw (ne_eqb z 0 some, accepted h z s.met good)
      (behind some (record { met = marked s.met z; mapped = s.mapped })
      (subst (λ z. AreTaken (n + 1) (marked s.met z)) here (good_here p n s.met rank_is there t (subst (λ z. is_bad_zone g z s.met ≡ false) (sym here) good)))))
      (cases_Bool (is_bad_zone g z s.met)))
      (cases_eq z 0)

  -- one part, and then another
  going_on : (disk : ℕ → List ℕ) (r : Result ZoneScan Fault) (next : ZoneScan → Reads (Result ZoneScan Fault)) (n m : ℕ) → IsTested n r →
      ((s : ZoneScan) → AreTaken n s.met → IsTested m (answer disk (next s))) → IsTested m (answer disk (go_on next r))
  going_on disk (Ok s) next n m h more = more s h
  going_on disk (Err fault) next n m h more = h

  given_then : (disk : ℕ → List ℕ) (program : Reads (Result ZoneScan Fault)) (next : ZoneScan → Reads (Result ZoneScan Fault)) (n m : ℕ) → IsTested n (answer disk program) →
      ((s : ZoneScan) → AreTaken n s.met → IsTested m (answer disk (next s))) → IsTested m (answer disk (if_ok program next))
  given_then disk program next n m h more =
      subst (λ r. IsTested m r) (sym (answer-and_then disk program (go_on next))) (going_on disk (answer disk program) next n m h more)

-- ---- the zones of an inode

module _ (g : Geometry) (blocks : List (List ℕ)) (table : ℕ) (i : Inode) (nine : length i.zones ≡ 9) (before : List Bool) where
  abbrev disk : ℕ → List ℕ
  disk = disk_of blocks

  abbrev entries : ℕ → ℕ → ℕ
  entries = λ zone at. zone_number (disk_of blocks zone) at

  abbrev zone : ZonePlace → ℕ
  zone = zone_in blocks i

  abbrev pointer_block : ZonePlace → ℕ
  pointer_block = pointer_block_in blocks table i

  abbrev Taken : ℕ → List Bool → Type 0
  Taken = AreTaken g zone pointer_block before

  abbrev Scans : ℕ → Result ZoneScan Fault → Type 0
  Scans = IsTested g zone pointer_block before

  -- behind holes there are holes
  behind_indirect : slice_index i.zones 7 ≡ 0 → (x : ZonePlace) → 7 < rank x → rank x < 520 → zone x ≡ 0
  behind_indirect none (block k) low high = by (ranked k)
    where
      by : IsRanked k → zone (block k) ≡ 0
      by (in_inode a p) = absurd (omega arith)
      by (in_indirect a b p) = zone_at-no_indirect entries i.zones k none a (omega arith)
      by (in_inner a p) = absurd (omega arith)
  behind_indirect none indirect low high = absurd (omega arith)
  behind_indirect none double low high = absurd (omega arith)
  behind_indirect none (inner k) low high = absurd (omega arith)

  split_index : (k : ℕ) → 519 ≤ k → 519 + 512 * ((k - 519) / 512) + (k - 519) % 512 ≡ k
  split_index k low = omega arith

  behind_double : slice_index i.zones 8 ≡ 0 → (x : ZonePlace) → 520 < rank x → rank x < 263177 → zone x ≡ 0
  behind_double none (block k) low high = by (ranked k)
    where
      by : IsRanked k → zone (block k) ≡ 0
      by (in_inode a p) = absurd (omega arith)
      by (in_indirect a b p) = absurd (omega arith)
      by (in_inner a p) =
          subst (λ k. zone (block k) ≡ 0) (split_index k a)
          (zone_at-no_double entries i.zones ((k - 519) / 512) ((k - 519) % 512) none (omega arith) (omega arith))
  behind_double none indirect low high = absurd (omega arith)
  behind_double none double low high = absurd (omega arith)
  behind_double none (inner k) low high = by (nat_lt k 512)
    where
      by : (t : Bool) → (if t then entry_of blocks (slice_index i.zones 8) k else 0) ≡ 0
      by true = rw (eq-eqb (slice_index i.zones 8) 0 none)
      by false = refl

  behind_inner : (j : ℕ) → j < 512 → entries (slice_index i.zones 8) j ≡ 0 → (x : ZonePlace) → 521 + 513 * j < rank x → rank x < 521 + 513 * (j + 1) → zone x ≡ 0
  behind_inner j few none (block k) low high = by (ranked k)
    where
      by : IsRanked k → zone (block k) ≡ 0
      by (in_inode a p) = absurd (omega arith)
      by (in_indirect a b p) = absurd (omega arith)
      by (in_inner a p) =
          let same : (k - 519) / 512 ≡ j = omega arith in
          subst (λ k. zone (block k) ≡ 0) (split_index k a)
          (zone_at-no_inner entries i.zones ((k - 519) / 512) ((k - 519) % 512) (subst (λ j. entries (slice_index i.zones 8) j ≡ 0) (sym same) none) (omega arith) (omega arith))
  behind_inner j few none indirect low high = absurd (omega arith)
  behind_inner j few none double low high = absurd (omega arith)
  behind_inner j few none (inner k) low high = absurd (omega arith)

  -- the parts of the map
  direct_blocks : AreBlocks g zone pointer_block before table 0 0 (take 7 i.zones)
  direct_blocks j below =
      let low : j < 7 = omega (arith, length-take 7 i.zones) in
      let e : 0 + j ≡ j = omega arith in
      (rw e (zone_at-direct entries i.zones j low ∙ sym (get_or-take 7 i.zones j 0 low)), rw e (rank_low j low), rw (e, lt-ltb j 7 low) refl)

  indirect_blocks : slice_index i.zones 7 ≢ 0 → AreBlocks g zone pointer_block before (slice_index i.zones 7) 7 8 (zone_numbers (disk (slice_index i.zones 7)))
  indirect_blocks some j below =
      let low : j < 512 = omega (arith, length-zone_numbers (disk (slice_index i.zones 7))) in
      let seven : 7 ≤ 7 + j = omega arith in
      let few : 7 + j < 519 = omega arith in (
        zone_at-indirect entries i.zones j some low ∙ sym (zone_numbers_at (disk (slice_index i.zones 7)) j low),
        rank_middle (7 + j) seven few ∙ omega arith,
        rw (le-ltb (7 + j) 7 seven, lt-ltb (7 + j) 519 few) refl,
      )

  inner_blocks : (k : ℕ) → k < 512 → slice_index i.zones 8 ≢ 0 → (z : ℕ) → entries (slice_index i.zones 8) k ≡ z → z ≢ 0 →
      AreBlocks g zone pointer_block before z (519 + 512 * k) (522 + 513 * k) (zone_numbers (disk z))
  inner_blocks k few some z is there j below =
      let low : j < 512 = omega (arith, length-zone_numbers (disk z)) in
      let outer : ((519 + 512 * k + j) - 519) / 512 ≡ k = omega arith in
      let rest : ((519 + 512 * k + j) - 519) % 512 ≡ j = omega arith in
      let far : 519 ≤ 519 + 512 * k + j = omega arith in
      let seven : 7 ≤ 519 + 512 * k + j = omega arith in (
        zone_at-double entries i.zones k j some (λ none. there (sym is ∙ none)) few low ∙ ap (λ z. entries z j) is ∙ sym (zone_numbers_at (disk z) j low),
        rank_high (519 + 512 * k + j) far ∙ rw (outer, rest) refl,
        rw (le-ltb (519 + 512 * k + j) 7 seven, le-ltb (519 + 512 * k + j) 519 far, outer, ne_eqb (slice_index i.zones 8) 0 some) is,
      )

  -- ---- the parts of the scan

  indirect_scans : (s : ZoneScan) → Taken 7 s.met → Scans 520 (answer disk (take_indirect g table 7 (slice_index i.zones 7) s))
  indirect_scans s t =
      numbers_given g zone pointer_block before disk indirect table (slice_index i.zones 7) 7 520 s (λ numbers after. Ret (take_blocks g (slice_index i.zones 7) 7 numbers after))
      refl refl refl t (omega arith) behind_indirect
      (λ some u h.
      subst (λ n. Scans (8 + n) (take_blocks g (slice_index i.zones 7) 7 (zone_numbers (disk (slice_index i.zones 7))) u)) (length-zone_numbers (disk (slice_index i.zones 7)))
      (blocks_given g zone pointer_block before (slice_index i.zones 7) 7 8 (zone_numbers (disk (slice_index i.zones 7))) u (indirect_blocks some) h))

  inner_scans : (k : ℕ) → k < 512 → slice_index i.zones 8 ≢ 0 → (z : ℕ) → entries (slice_index i.zones 8) k ≡ z → (s : ZoneScan) → Taken (521 + 513 * k) s.met →
      Scans (521 + 513 * (k + 1)) (answer disk (take_indirect g (slice_index i.zones 8) (519 + 512 * k) z s))
  inner_scans k few some z is s t =
      let here : zone (inner k) ≡ z = rw (lt-ltb k 512 few, ne_eqb (slice_index i.zones 8) 0 some) is in
      let start : 521 + 513 * k + 1 ≡ 522 + 513 * k = omega arith in
      let end : 522 + 513 * k + 512 ≡ 521 + 513 * (k + 1) = omega arith in
      numbers_given g zone pointer_block before disk (inner k) (slice_index i.zones 8) z (521 + 513 * k) (521 + 513 * (k + 1)) s (λ numbers after. Ret (take_blocks g z (519 + 512 * k) numbers after))
      here refl refl t (omega arith) (λ none. behind_inner k few (is ∙ none))
      (λ there u h.
      subst (λ n. Scans n (take_blocks g z (519 + 512 * k) (zone_numbers (disk z)) u)) (ap (λ n. 522 + 513 * k + n) (length-zone_numbers (disk z)) ∙ end)
      (blocks_given g zone pointer_block before z (519 + 512 * k) (522 + 513 * k) (zone_numbers (disk z)) u (inner_blocks k few some z is there)
      (subst (λ n. Taken n u.met) start h)))

  inners_scan : (zs : List ℕ) (k : ℕ) → k + length zs ≤ 512 → slice_index i.zones 8 ≢ 0 →
      ((j : ℕ) → j < length zs → entries (slice_index i.zones 8) (k + j) ≡ slice_index zs j) → (s : ZoneScan) → Taken (521 + 513 * k) s.met →
      Scans (521 + 513 * (k + length zs)) (answer disk (take_indirects g (slice_index i.zones 8) (519 + 512 * k) zs s))
  inners_scan [] k few some at s t = let e : k ≡ k + 0 = omega arith in subst (λ k. Taken (521 + 513 * k) s.met) e t
  inners_scan (z ∷ zs) k few some at s t =
      let none_on : k + 0 ≡ k = omega arith in
      let next : 519 + 512 * k + 512 ≡ 519 + 512 * (k + 1) = omega arith in
      let end : (k + 1) + length zs ≡ k + suc (length zs) = omega arith in
      given_then g zone pointer_block before disk (take_indirect g (slice_index i.zones 8) (519 + 512 * k) z s) (take_indirects g (slice_index i.zones 8) (519 + 512 * k + 512) zs) (521 + 513 * (k + 1)) (521 + 513 * (k + suc (length zs)))
      (inner_scans k (omega arith) some z (subst (λ k. entries (slice_index i.zones 8) k ≡ z) none_on (at 0 (omega arith))) s t)
      (λ u h.
      subst (λ m. Scans (521 + 513 * (k + suc (length zs))) (answer disk (take_indirects g (slice_index i.zones 8) m zs u))) (sym next)
      (subst (λ m. Scans (521 + 513 * m) (answer disk (take_indirects g (slice_index i.zones 8) (519 + 512 * (k + 1)) zs u))) end
      (inners_scan zs (k + 1) (omega arith) some
      (λ j below. let e : k + suc j ≡ (k + 1) + j = omega arith in subst (λ k. entries (slice_index i.zones 8) k ≡ slice_index zs j) e (at (suc j) (omega arith)))
      u h)))

  double_scans : (s : ZoneScan) → Taken 520 s.met → Scans 263177 (answer disk (take_double g table (slice_index i.zones 8) s))
  double_scans s t =
      let size : 0 + length (zone_numbers (disk (slice_index i.zones 8))) ≡ 512 = omega (arith, length-zone_numbers (disk (slice_index i.zones 8))) in
      numbers_given g zone pointer_block before disk double table (slice_index i.zones 8) 520 263177 s (λ numbers after. take_indirects g (slice_index i.zones 8) 519 numbers after)
      refl refl refl t (omega arith) behind_double
      (λ some u h.
      subst (λ n. Scans (521 + 513 * n) (answer disk (take_indirects g (slice_index i.zones 8) 519 (zone_numbers (disk (slice_index i.zones 8))) u))) size
      (inners_scan (zone_numbers (disk (slice_index i.zones 8))) 0 (omega (arith, length-zone_numbers (disk (slice_index i.zones 8)))) some
      (λ j below. let low : j < 512 = omega (arith, length-zone_numbers (disk (slice_index i.zones 8))) in let e : 0 + j ≡ j = omega arith in rw e (sym (zone_numbers_at (disk (slice_index i.zones 8)) j low)))
      u h))

  none_taken : length before ≡ g.zones → Taken 0 before
  none_taken size = record {
    size = size;
    kept = λ z h. h;
    within = λ x low. absurd (omega arith);
    fresh = λ x low. absurd (omega arith);
    marks = λ x low. absurd (omega arith);
    once = λ x y low. absurd (omega arith);
    from = λ z h. inl h;
  }

  -- the scan of an inode's zones takes them all, or stops at the first that is bad
  pub zones_scan : length before ≡ g.zones → Scans 263177 (answer disk (scan_zones g table i.zones before))
  unfolding scan_zones
  zones_scan size =
      let seven : 0 + length (take 7 i.zones) ≡ 7 = omega (arith, length-take 7 i.zones) in
      given_then g zone pointer_block before disk (Ret (take_blocks g table 0 (take 7 i.zones) (record { met = before; mapped = [] })))
      (λ s. if_ok (take_indirect g table 7 (slice_index i.zones 7) s) (take_double g table (slice_index i.zones 8))) 7 263177
      (subst (λ n. Scans n (take_blocks g table 0 (take 7 i.zones) (record { met = before; mapped = [] }))) seven
      (blocks_given g zone pointer_block before table 0 0 (take 7 i.zones) (record { met = before; mapped = [] }) direct_blocks (none_taken size)))
      (λ s h.
      given_then g zone pointer_block before disk (take_indirect g table 7 (slice_index i.zones 7) s) (take_double g table (slice_index i.zones 8)) 520 263177
      (indirect_scans s h) (λ u k. double_scans u k))

  -- no place behind the last has a zone
  pub all_ranked : (x : ZonePlace) → zone x ≢ 0 → rank x < 263177
  all_ranked (block k) some = by (ranked k)
    where
      by : IsRanked k → rank (block k) < 263177
      by (in_inode a p) = omega arith
      by (in_indirect a b p) = omega arith
      by (in_inner a p) = ⊎_elim (λ low. omega arith) (λ high. absurd (some (zone_at-past entries i.zones k high))) (cases_lt k 262663)
  all_ranked indirect some = omega arith
  all_ranked double some = omega arith
  all_ranked (inner k) some = ⊎_elim (λ low. omega arith) (λ high. absurd (some (rw (le-ltb k 512 high) refl))) (cases_lt k 512)
