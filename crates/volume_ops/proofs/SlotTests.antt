-- What the scan of the slots of a directory tests: each slot below its size, in order, or all up to the first that is bad.
use Rattle.std.specs.Prelude.{◌≡◌, ◌≢◌, ℕ, zero, suc, ◌+◌, ◌-◌, ◌*◌, ◌/◌, ◌%◌, ◌<◌, ◌≤◌, ◌==◌, ◌⊎◌, min, Bool, true, false, nat_lt, is_some, if◌then◌else◌, List, [], ◌∷◌, length, Option, Some, None, Result, Ok, Err, refl}
use Rattle.std.specs.List.{range_with_len}
use Rattle.std.specs.List.Sorted.{IsStrictlySortedBy}
use Rattle.std.specs.Map.{keys_of}
use Rattle.std.proofs.Common.{sym, ap, subst, ◌∙◌, inl, inr, ⊎_elim, arith}
use Rattle.std.proofs.lemmas.Bool.{true≢false, false_from_ne_true, cases_Bool, cases_eq, cases_lt, ne_eqb, or_parts, or_cases, ltb-true, ltb-false}
use Rattle.std.proofs.lemmas.Option.{none-some, same_Some}
use Rattle.std.proofs.lemmas.Cmp.{nat_list_cmp_total}
use Rattle.byte_fields.specs.Fields.{record_at}
use Rattle.blk_base.specs.Members.{In}
use Rattle.std.proofs.Math.Nat.{mul-le-mul_left}
use Rattle.minix_layout.specs.laws.Places.{block_of, at_of, block_low, block_high, form_is}
use Rattle.minix_layout.specs.Widths.{slot_size, slots_a_block}
use Rattle.minix_layout.specs.declared.division.Geometry.{Geometry}
use Rattle.minix_layout.specs.declared.inode.Inode.{Inode}
use Rattle.minix_layout.specs.declared.slot.Slot.{Slot}
use Rattle.minix_layout.specs.declared.fault.LayoutFault.{LayoutFault}
use Rattle.minix_layout.specs.declared.fault.LayoutFault.TheVariants.{BadSlot}
use Rattle.minix_layout.specs.Slots.{slot_of, inode_in, is_bad_name, name_in}
use Rattle.tree_model.specs.Maps.{at_name, put_name, name_cmp}
use Rattle.tree_model.specs.laws.MapsLaws.{at_put_name, at_put_name_cases, at_put_name_kept, In-put_name}
use Rattle.tree_model.specs.Paths.{is_dot}
use Rattle.volume_ops.specs.declared.found.Mapped.{Mapped}
use Rattle.volume_ops.specs.Reads.{Reads, Ret, Read, answer, if_ok, go_on}
use Rattle.volume_ops.specs.laws.ReadsLaws.{answer-and_then, err-ok, same_Ok}
use Rattle.volume_ops.specs.Places.{table_block, inode_in_block, is_directory, birth_of}
use Rattle.volume_ops.specs.Marks.{is_marked, marked}
use Rattle.volume_ops.specs.laws.MarksLaws.{is_marked_same, is_marked_kept, is_marked_new, length-marked}
use Rattle.volume_ops.specs.Volume.{disk_of}
use Rattle.volume_ops.specs.VolumeFields.{inode_at, zone_behind, slot_behind}
use Rattle.volume_ops.specs.Zones.{Fault}
use Rattle.volume_ops.proofs.ZonesLaws.{block_at}
use Rattle.volume_ops.specs.Slots.{SlotScan, is_bad_entry, note_name, scan_entry, scan_used, scan_slot, scan_places, scan_block, scan_slots}
use Rattle.tree_model.specs.laws.MapOrder.{sorted_put}
use Rattle.volume_ops.specs.laws.Rising.{RiseWithin}
use Rattle.volume_ops.specs.Faultless.{IsDirectory, IsEntryAt}

-- a slot that can not be read has no name that can be
fault_by : (n : ℕ) (name : List ℕ) (free bad : Bool) (fault : LayoutFault) →
    ◌≡◌ {A = Result (Option Slot) LayoutFault} (if free then Ok None else if bad then Err BadSlot else Ok (Some (record { inode = n; name = name }))) (Err fault) → BadSlot ≡ fault
fault_by n name true bad fault h = absurd (err-ok fault None (sym h))
fault_by n name false true fault h = cc
fault_by n name false false fault h = absurd (err-ok fault (Some (record { inode = n; name = name })) (sym h))

slot_fault : (width : ℕ) (bytes : List ℕ) (fault : LayoutFault) → slot_of width bytes ≡ Err fault → BadSlot ≡ fault
unfolding slot_of
slot_fault width bytes fault h = fault_by (inode_in bytes) (name_in width bytes) (inode_in bytes == 0) (is_bad_name (name_in width bytes)) fault h

some_of : (o : Option ℕ) → is_some o ≡ true → (k : ℕ) × (o ≡ Some k)
some_of None h = absurd (true≢false (sym h))
some_of (Some k) h = (k, refl)

module _ (g : Geometry) (blocks : List (List ℕ)) (i : Inode) (before : List Bool) where
  abbrev disk : ℕ → List ℕ
  disk = disk_of blocks

  abbrev Entry : ℕ → Slot → Type 0
  Entry = IsEntryAt g blocks i

  -- a place has one slot
  same_slot : (p : ℕ) (slot more : Slot) → Entry p slot → Entry p more → slot ≡ more
  same_slot p slot more e f = same_Some slot more (same_Ok (Some slot) (Some more) (sym e.stands ∙ f.stands))

  -- The first n slots were scanned, those below the size: each could be read, names an inode of the table by a name
  -- that stands once, and a directory that was not named before. Just these names and directories were noted.
  pub record AreScanned (n : ℕ) (s : SlotScan) : Type 0 where
    pub size : length s.named ≡ g.inodes + 1
    pub kept : (k : ℕ) → is_marked before k ≡ true → is_marked s.named k ≡ true
    pub read : (p : ℕ) → p < n → p < i.size / slot_size g.width → (slot : Option Slot) × (slot_behind g blocks i p ≡ Ok slot)
    pub within : (p : ℕ) (slot : Slot) → p < n → Entry p slot → slot.inode ≤ g.inodes
    pub has : (p : ℕ) (slot : Slot) → p < n → Entry p slot → at_name s.names slot.name ≡ Some (birth_of slot.inode)
    pub from : (name : List ℕ) (birth : ℕ) → at_name s.names name ≡ Some birth → (p : ℕ) × (slot : Slot) × (p < n) × Entry p slot × (slot.name ≡ name) × (birth_of slot.inode ≡ birth)
    pub once : (p q : ℕ) (slot more : Slot) → p < n → q < n → Entry p slot → Entry q more → slot.name ≡ more.name → p ≡ q
    pub fresh : (p : ℕ) (slot : Slot) → p < n → Entry p slot → IsDirectory g blocks slot.inode → is_marked before slot.inode ≡ false
    pub marks : (p : ℕ) (slot : Slot) → p < n → Entry p slot → IsDirectory g blocks slot.inode → is_marked s.named slot.inode ≡ true
    pub alone : (p q : ℕ) (slot more : Slot) → p < n → q < n → Entry p slot → Entry q more → slot.inode ≡ more.inode → IsDirectory g blocks slot.inode → p ≡ q
    pub by_mark : (k : ℕ) → is_marked s.named k ≡ true → (is_marked before k ≡ true) ⊎ ((p : ℕ) × (slot : Slot) × (p < n) × Entry p slot × (slot.inode ≡ k) × IsDirectory g blocks k)
    pub told : (e : List ℕ × ℕ) → In e s.names → at_name s.names e.0 ≡ Some e.1
    pub sorted : IsStrictlySortedBy name_cmp (keys_of s.names)

  -- what is wrong with the slot at a place, after those before it
  pub data IsBadAt (p : ℕ) : Type 0 where
    no_name : slot_behind g blocks i p ≡ Err BadSlot → IsBadAt p
    no_inode : (slot : Slot) → Entry p slot → g.inodes < slot.inode → IsBadAt p
    name_before : (slot more : Slot) (q : ℕ) → Entry p slot → q < p → Entry q more → more.name ≡ slot.name → IsBadAt p
    named_before : (slot : Slot) → Entry p slot → IsDirectory g blocks slot.inode → is_marked before slot.inode ≡ true → IsBadAt p
    named_here : (slot more : Slot) (q : ℕ) → Entry p slot → IsDirectory g blocks slot.inode → q < p → Entry q more → more.inode ≡ slot.inode → IsBadAt p

  -- the slot at a place is the first that is bad
  pub record StopsAt (p : ℕ) : Type 0 where
    pub scan : SlotScan
    pub scanned : AreScanned p scan
    pub below : p < i.size / slot_size g.width
    pub bad : IsBadAt p

  -- n slots were gone through, or there is a fault
  abbrev pub IsTested : ℕ → Result SlotScan Fault → Type 0
  IsTested n (Ok s) = AreScanned n s
  IsTested n (Err fault) = (p : ℕ) × StopsAt p × (fault ≡ (BadSlot, zone_behind blocks i (p / slots_a_block g.width)))

  -- slots that name nothing
  passed_over : (n m : ℕ) (s : SlotScan) → AreScanned n s → n ≤ m →
      ((p : ℕ) → n ≤ p → p < m → p < i.size / slot_size g.width → (slot : Option Slot) × (slot_behind g blocks i p ≡ Ok slot)) →
      ((p : ℕ) (slot : Slot) → n ≤ p → p < m → Entry p slot → ⊥) → AreScanned m s
  passed_over n m s h more readable none =
      let early : (p : ℕ) (slot : Slot) → p < m → Entry p slot → p < n =
      λ p slot low e. ⊎_elim (λ l. l) (λ high. absurd (none p slot high low e)) (cases_lt p n) in
      record {
        size = h.size;
        kept = h.kept;
        read = λ p low below. ⊎_elim (λ l. h.read p l below) (λ high. readable p high low below) (cases_lt p n);
        within = λ p slot low e. h.within p slot (early p slot low e) e;
        has = λ p slot low e. h.has p slot (early p slot low e) e;
        from = λ name birth q. let x = h.from name birth q in (x.0, x.1, (let low = x.2 in omega arith), x.3, x.4, x.5);
        once = λ p q slot other low high e f. h.once p q slot other (early p slot low e) (early q other high f) e f;
        fresh = λ p slot low e. h.fresh p slot (early p slot low e) e;
        marks = λ p slot low e. h.marks p slot (early p slot low e) e;
        alone = λ p q slot other low high e f. h.alone p q slot other (early p slot low e) (early q other high f) e f;
        by_mark = λ k t. ⊎_elim inl (λ x. inr (x.0, x.1, (let low = x.2 in omega arith), x.3, x.4, x.5)) (h.by_mark k t);
        told = h.told;
        sorted = h.sorted;
      }

  -- what noting a name does
  record Notes (slot : Slot) (s after : SlotScan) : Type 0 where
    names : after.names ≡ put_name s.names slot.name (birth_of slot.inode)
    kept : (k : ℕ) → is_marked s.named k ≡ true → is_marked after.named k ≡ true
    marks : IsDirectory g blocks slot.inode → (is_marked s.named slot.inode ≡ false) × (is_marked after.named slot.inode ≡ true)
    new : (k : ℕ) → is_marked after.named k ≡ true → (is_marked s.named k ≡ true) ⊎ ((slot.inode ≡ k) × IsDirectory g blocks k)
    size : length after.named ≡ length s.named

  -- a slot that names
  module _ (p : ℕ) (slot : Slot) (s after : SlotScan) (h : AreScanned p s) (e : Entry p slot) (inside : slot.inode ≤ g.inodes)
      (free : is_some (at_name s.names slot.name) ≡ false) (n : Notes slot s after) where
    here : at_name after.names slot.name ≡ Some (birth_of slot.inode)
    here = subst (λ names. at_name names slot.name ≡ Some (birth_of slot.inode)) (sym n.names) (at_put_name s.names slot.name (birth_of slot.inode))

    old : (name : List ℕ) (birth : ℕ) → at_name s.names name ≡ Some birth → at_name after.names name ≡ Some birth
    old name birth q = subst (λ names. at_name names name ≡ Some birth) (sym n.names) (at_put_name_kept s.names slot.name (birth_of slot.inode) name birth free q)

    cases : (name : List ℕ) (birth : ℕ) → at_name after.names name ≡ Some birth → ((slot.name ≡ name) × (birth_of slot.inode ≡ birth)) ⊎ (at_name s.names name ≡ Some birth)
    cases name birth q = at_put_name_cases s.names slot.name (birth_of slot.inode) name birth (subst (λ names. at_name names name ≡ Some birth) n.names q)

    -- each slot up to this one
    entry_cases : (P : ℕ → Slot → Type 0) → ((q : ℕ) (t : Slot) → q < p → Entry q t → P q t) → P p slot → (q : ℕ) (t : Slot) → q < p + 1 → Entry q t → P q t
    entry_cases P before_it here q t low f =
        ⊎_elim
        (λ l. before_it q t l f)
        (λ high.
        let same : p ≡ q = omega arith in
        subst (λ q. Entry q t → P q t) same (λ f. subst (λ t. P p t) (same_slot p slot t e f) here) f)
        (cases_lt q p)

    no_name_yet : (name : List ℕ) (birth : ℕ) → at_name s.names name ≡ Some birth → name ≡ slot.name → ⊥
    no_name_yet name birth q same =
        let found : at_name s.names slot.name ≡ Some birth = subst (λ name. at_name s.names name ≡ Some birth) same q in
        true≢false (sym (ap is_some found) ∙ free)

    no_mark_yet : (q : ℕ) (t : Slot) → q < p → Entry q t → t.inode ≡ slot.inode → IsDirectory g blocks slot.inode → ⊥
    no_mark_yet q t low f same d =
        let marked_then : is_marked s.named t.inode ≡ true = h.marks q t low f (subst (λ k. IsDirectory g blocks k) (sym same) d) in
        true≢false (sym (subst (λ k. is_marked s.named k ≡ true) same marked_then) ∙ (n.marks d).0)

    scanned_more : AreScanned (p + 1) after
    scanned_more = record {
      size = n.size ∙ h.size;
      kept = λ k t. n.kept k (h.kept k t);
      read = λ q low below.
          ⊎_elim
          (λ l. h.read q l below)
          (λ high. let same : p ≡ q = omega arith in subst (λ q. (slot : Option Slot) × (slot_behind g blocks i q ≡ Ok slot)) same (Some slot, e.stands))
          (cases_lt q p);
      within = entry_cases (λ q t. t.inode ≤ g.inodes) (λ q t low f. h.within q t low f) inside;
      has = entry_cases (λ q t. at_name after.names t.name ≡ Some (birth_of t.inode)) (λ q t low f. old t.name (birth_of t.inode) (h.has q t low f)) here;
      from = λ name birth q.
          ⊎_elim
          (λ x. (p, slot, omega arith, e, x.0, x.1))
          (λ q. let x = h.from name birth q in (x.0, x.1, (let low = x.2 in omega arith), x.3, x.4, x.5))
          (cases name birth q);
      once = λ q r t u low high f k. once_more q t low f r u high k;
      fresh = entry_cases (λ q t. IsDirectory g blocks t.inode → is_marked before t.inode ≡ false) (λ q t low f. h.fresh q t low f)
          (λ d. false_from_ne_true (is_marked before slot.inode) (λ t. true≢false (sym (h.kept slot.inode t) ∙ (n.marks d).0)));
      marks = entry_cases (λ q t. IsDirectory g blocks t.inode → is_marked after.named t.inode ≡ true) (λ q t low f d. n.kept t.inode (h.marks q t low f d)) (λ d. (n.marks d).1);
      alone = λ q r t u low high f k. alone_more q t low f r u high k;
      by_mark = λ k t.
          ⊎_elim
          (λ t. ⊎_elim inl (λ x. inr (x.0, x.1, (let low = x.2 in omega arith), x.3, x.4, x.5)) (h.by_mark k t))
          (λ x. inr (p, slot, omega arith, e, x.0, x.1))
          (n.new k t);
      told = λ x j.
          ⊎_elim
          (λ same. subst (λ (x : List ℕ × ℕ). at_name after.names x.0 ≡ Some x.1) same here)
          (λ j. old x.0 x.1 (h.told x j))
          (In-put_name s.names slot.name (birth_of slot.inode) x (subst (λ names. In x names) n.names j));
      sorted = subst (λ (names : List (List ℕ × ℕ)). IsStrictlySortedBy name_cmp (keys_of names)) (sym n.names) (sorted_put nat_list_cmp_total s.names slot.name (birth_of slot.inode) h.sorted);
    }
      where
        once_more : (q : ℕ) (t : Slot) → q < p + 1 → Entry q t → (r : ℕ) (u : Slot) → r < p + 1 → Entry r u → t.name ≡ u.name → q ≡ r
        once_more = entry_cases (λ q t. (r : ℕ) (u : Slot) → r < p + 1 → Entry r u → t.name ≡ u.name → q ≡ r)
            (λ q t low f. entry_cases (λ r u. t.name ≡ u.name → q ≡ r) (λ r u high k same. h.once q r t u low high f k same)
            (λ same. absurd (no_name_yet t.name (birth_of t.inode) (h.has q t low f) same)))
            (entry_cases (λ r u. slot.name ≡ u.name → p ≡ r) (λ r u high k same. absurd (no_name_yet u.name (birth_of u.inode) (h.has r u high k) (sym same)))
            (λ same. refl))

        alone_more : (q : ℕ) (t : Slot) → q < p + 1 → Entry q t → (r : ℕ) (u : Slot) → r < p + 1 → Entry r u → t.inode ≡ u.inode → IsDirectory g blocks t.inode → q ≡ r
        alone_more = entry_cases (λ q t. (r : ℕ) (u : Slot) → r < p + 1 → Entry r u → t.inode ≡ u.inode → IsDirectory g blocks t.inode → q ≡ r)
            (λ q t low f. entry_cases (λ r u. t.inode ≡ u.inode → IsDirectory g blocks t.inode → q ≡ r) (λ r u high k same d. h.alone q r t u low high f k same d)
            (λ same d. absurd (no_mark_yet q t low f same (subst (λ k. IsDirectory g blocks k) same d))))
            (entry_cases (λ r u. slot.inode ≡ u.inode → IsDirectory g blocks slot.inode → p ≡ r) (λ r u high k same d. absurd (no_mark_yet r u high k (sym same) d))
            (λ same d. refl))

  -- ---- one slot

  stops : (p z : ℕ) (s : SlotScan) → AreScanned p s → p < i.size / slot_size g.width → zone_behind blocks i (p / slots_a_block g.width) ≡ z → IsBadAt p →
      (q : ℕ) × StopsAt q × (◌≡◌ {A = Fault} (BadSlot, z) (BadSlot, zone_behind blocks i (q / slots_a_block g.width)))
  stops p z s h below e bad = (p, record { scan = s; scanned = h; below = below; bad = bad }, ap (λ z. (BadSlot, z)) (sym e))

  module _ (p z : ℕ) (slot : Slot) (s : SlotScan) (h : AreScanned p s) (e : Entry p slot) (zone_is : zone_behind blocks i (p / slots_a_block g.width) ≡ z) where
    twice : is_marked s.named slot.inode ≡ true → IsDirectory g blocks slot.inode → IsBadAt p
    twice t d =
        ⊎_elim
        (λ old. named_before slot e d old)
        (λ x. named_here slot x.1 x.0 e d x.2 x.3 x.4)
        (h.by_mark slot.inode t)

    module _ (inside : slot.inode ≤ g.inodes) (free : is_some (at_name s.names slot.name) ≡ false) where
      directory_by : (was : Bool) → is_marked s.named slot.inode ≡ was → IsDirectory g blocks slot.inode →
          IsTested (p + 1) (if was then Err (BadSlot, z) else Ok (record { named = marked s.named slot.inode; names = put_name s.names slot.name (birth_of slot.inode) }))
      directory_by true was d = stops p z s h e.below zone_is (twice was d)
      directory_by false was d =
          scanned_more p slot s (record { named = marked s.named slot.inode; names = put_name s.names slot.name (birth_of slot.inode) }) h e inside free
          (record {
            names = refl;
            kept = λ k t. is_marked_kept s.named slot.inode k t;
            marks = λ d. (was, is_marked_same s.named slot.inode (omega (arith, h.size)));
            new = λ k t.
                ⊎_elim inl
                (λ f. let same : slot.inode ≡ k = sym (is_marked_new s.named slot.inode k f t) in inr (same, subst (λ k. IsDirectory g blocks k) same d))
                (cases_Bool (is_marked s.named k));
            size = length-marked s.named slot.inode;
          })

      note_by : (directory : Bool) → is_directory (inode_at g blocks slot.inode).mode ≡ directory → IsTested (p + 1) (note_name z slot s directory)
      note_by true d = directory_by (is_marked s.named slot.inode) refl d
      note_by false d =
          scanned_more p slot s (record { named = s.named; names = put_name s.names slot.name (birth_of slot.inode) }) h e inside free
          (record {
            names = refl;
            kept = λ k t. t;
            marks = λ yes. absurd (true≢false (sym yes ∙ d));
            new = λ k t. inl t;
            size = refl;
          })

    entry_by : (bad : Bool) → is_bad_entry g slot s ≡ bad →
        IsTested (p + 1) (answer disk (if bad then Ret (Err (BadSlot, z)) else Read (table_block g slot.inode) (λ body. Ret (note_name z slot s (is_directory (inode_in_block slot.inode body).mode)))))
    entry_by true bad =
        stops p z s h e.below zone_is
        (⊎_elim
        (λ past. no_inode slot e (ltb-true g.inodes slot.inode past))
        (λ stood.
        let b = some_of (at_name s.names slot.name) stood in
        let x = h.from slot.name b.0 b.1 in
        name_before slot x.1 x.0 e x.2 x.3 x.4)
        (or_cases (nat_lt g.inodes slot.inode) (is_some (at_name s.names slot.name)) bad))
    entry_by false bad =
        let good = or_parts (nat_lt g.inodes slot.inode) (is_some (at_name s.names slot.name)) bad in
        note_by (ltb-false g.inodes slot.inode good.0) good.1 (is_directory (inode_at g blocks slot.inode).mode) refl

  module _ (p z : ℕ) (s : SlotScan) (h : AreScanned p s) (below : p < i.size / slot_size g.width) (zone_is : zone_behind blocks i (p / slots_a_block g.width) ≡ z) (some : z ≢ 0) where
    slot_is : slot_behind g blocks i p ≡ slot_of g.width (record_at (slot_size g.width) (p % slots_a_block g.width) (disk z))
    slot_is = rw (zone_is, ne_eqb z 0 some) refl

    one_over : ((slot : Slot) → Entry p slot → ⊥) → (o : Option Slot) → slot_of g.width (record_at (slot_size g.width) (p % slots_a_block g.width) (disk z)) ≡ Ok o → AreScanned (p + 1) s
    one_over none o read =
        let same : (q : ℕ) → p ≤ q → q < p + 1 → p ≡ q = λ q low high. omega arith in
        passed_over p (p + 1) s h (omega arith)
        (λ q low high _. (o, subst (λ q. slot_behind g blocks i q ≡ Ok o) (same q low high) (slot_is ∙ read)))
        (λ q slot low high e. none slot (subst (λ q. Entry q slot) (sym (same q low high)) e))

    dot_by : (slot : Slot) (dot : Bool) → is_dot slot.name ≡ dot → slot_of g.width (record_at (slot_size g.width) (p % slots_a_block g.width) (disk z)) ≡ Ok (Some slot) →
        IsTested (p + 1) (answer disk (if dot then Ret (Ok s) else scan_entry g z slot s))
    dot_by slot true dot read =
        one_over
        (λ t e.
        let same : slot ≡ t = same_Some slot t (same_Ok (Some slot) (Some t) (sym read ∙ (sym slot_is ∙ e.stands))) in
        true≢false (sym dot ∙ (ap (λ (t : Slot). is_dot t.name) same ∙ e.no_dot)))
        (Some slot) read
    dot_by slot false dot read =
        entry_by p z slot s h (record { below = below; stands = slot_is ∙ read; no_dot = dot }) zone_is (is_bad_entry g slot s) refl

    used_by : (o : Option Slot) → slot_of g.width (record_at (slot_size g.width) (p % slots_a_block g.width) (disk z)) ≡ Ok o → IsTested (p + 1) (answer disk (scan_used g z s o))
    used_by None read =
        one_over (λ t e. none-some t (same_Ok None (Some t) (sym read ∙ (sym slot_is ∙ e.stands)))) None read
    used_by (Some slot) read = dot_by slot (is_dot slot.name) refl read

    slot_by : (r : Result (Option Slot) LayoutFault) → slot_of g.width (record_at (slot_size g.width) (p % slots_a_block g.width) (disk z)) ≡ r →
        IsTested (p + 1) (answer disk (elim r as (λ _. Reads (Result SlotScan Fault)) [ Err fault ↦ Ret (Err (fault, z)) | Ok slot ↦ scan_used g z s slot ]))
    slot_by (Ok o) read = used_by o read
    slot_by (Err fault) read =
        let bad : BadSlot ≡ fault = slot_fault g.width (record_at (slot_size g.width) (p % slots_a_block g.width) (disk z)) fault read in
        subst (λ fault. (q : ℕ) × StopsAt q × (◌≡◌ {A = Fault} (fault, z) (BadSlot, zone_behind blocks i (q / slots_a_block g.width)))) bad
        (stops p z s h below zone_is (no_name (slot_is ∙ (read ∙ ap Err (sym bad)))))

    slot_scan : IsTested (p + 1) (answer disk (scan_slot g z (record_at (slot_size g.width) (p % slots_a_block g.width) (disk z)) s))
    slot_scan = slot_by (slot_of g.width (record_at (slot_size g.width) (p % slots_a_block g.width) (disk z))) refl

  -- ---- the slots of a block, and of all blocks

  going_on : (r : Result SlotScan Fault) (next : SlotScan → Reads (Result SlotScan Fault)) (n m : ℕ) → IsTested n r →
      ((s : SlotScan) → AreScanned n s → IsTested m (answer disk (next s))) → IsTested m (answer disk (go_on next r))
  going_on (Ok s) next n m h more = more s h
  going_on (Err fault) next n m h more = h

  given_then : (program : Reads (Result SlotScan Fault)) (next : SlotScan → Reads (Result SlotScan Fault)) (n m : ℕ) → IsTested n (answer disk program) →
      ((s : SlotScan) → AreScanned n s → IsTested m (answer disk (next s))) → IsTested m (answer disk (if_ok program next))
  given_then program next n m h more = subst (λ r. IsTested m r) (sym (answer-and_then disk program (go_on next))) (going_on (answer disk program) next n m h more)

  places_scan : (index z a n : ℕ) (s : SlotScan) → a + n ≤ slots_a_block g.width → zone_behind blocks i index ≡ z → z ≢ 0 → slots_a_block g.width * index + (a + n) ≤ i.size / slot_size g.width →
      AreScanned (slots_a_block g.width * index + a) s → IsTested (slots_a_block g.width * index + (a + n)) (answer disk (scan_places g z (disk z) (range_with_len a n) s))
  places_scan index z a zero s few zone_is some below h = let e : slots_a_block g.width * index + a ≡ slots_a_block g.width * index + (a + 0) = omega arith in subst (λ n. AreScanned n s) e h
  places_scan index z a (suc n) s few zone_is some below h =
      let block : (slots_a_block g.width * index + a) / slots_a_block g.width ≡ index = block_of (slot_size g.width) (slots_a_block g.width) (form_is g.width) index a (omega arith) in
      let at : (slots_a_block g.width * index + a) % slots_a_block g.width ≡ a = at_of (slot_size g.width) (slots_a_block g.width) (form_is g.width) index a (omega arith) in
      let next : (slots_a_block g.width * index + a) + 1 ≡ slots_a_block g.width * index + (a + 1) = omega arith in
      let end : slots_a_block g.width * index + ((a + 1) + n) ≡ slots_a_block g.width * index + (a + suc n) = omega arith in
      given_then (scan_slot g z (record_at (slot_size g.width) a (disk z)) s) (scan_places g z (disk z) (range_with_len (a + 1) n)) (slots_a_block g.width * index + (a + 1)) (slots_a_block g.width * index + (a + suc n))
      (subst (λ m. IsTested m (answer disk (scan_slot g z (record_at (slot_size g.width) a (disk z)) s))) next
      (subst (λ k. IsTested (slots_a_block g.width * index + a + 1) (answer disk (scan_slot g z (record_at (slot_size g.width) k (disk z)) s))) at
      (slot_scan (slots_a_block g.width * index + a) z s h (omega arith) (ap (zone_behind blocks i) block ∙ zone_is) some)))
      (λ t k. subst (λ m. IsTested m (answer disk (scan_places g z (disk z) (range_with_len (a + 1) n) t))) end (places_scan index z (a + 1) n t (omega arith) zone_is some (omega arith) k))

  -- behind the size there is nothing
  past_size : (n m : ℕ) (s : SlotScan) → AreScanned n s → n ≤ m → ((p : ℕ) → n ≤ p → p < m → i.size / slot_size g.width ≤ p) → AreScanned m s
  past_size n m s h more past =
      passed_over n m s h more
      (λ p low high below. absurd (let far = past p low high in omega arith))
      (λ p slot low high e. let far = past p low high in let below = e.below in omega arith)

  -- a result that is good for more
  gives_more : (r : Result SlotScan Fault) (n m : ℕ) → IsTested n r → ((s : SlotScan) → AreScanned n s → AreScanned m s) → IsTested m r
  gives_more (Ok s) n m h on = on s h
  gives_more (Err fault) n m h on = h

  block_by : (index z : ℕ) (s : SlotScan) (some_slots : Bool) → nat_lt (slots_a_block g.width * index) (i.size / slot_size g.width) ≡ some_slots → zone_behind blocks i index ≡ z → z ≢ 0 →
      AreScanned (slots_a_block g.width * index) s →
      IsTested (slots_a_block g.width * (index + 1)) (answer disk (if some_slots
      then Read z (λ body. scan_places g z body (range_with_len 0 (min (slots_a_block g.width) (i.size / slot_size g.width - slots_a_block g.width * index))) s)
      else Ret (Ok s)))
  block_by index z s true lower zone_is some h =
      let low : slots_a_block g.width * index < i.size / slot_size g.width = ltb-true (slots_a_block g.width * index) (i.size / slot_size g.width) lower in
      let start : slots_a_block g.width * index ≡ slots_a_block g.width * index + 0 = omega arith in
      gives_more (answer disk (scan_places g z (disk z) (range_with_len 0 (min (slots_a_block g.width) (i.size / slot_size g.width - slots_a_block g.width * index))) s)) (slots_a_block g.width * index + (0 + min (slots_a_block g.width) (i.size / slot_size g.width - slots_a_block g.width * index))) (slots_a_block g.width * (index + 1))
      (places_scan index z 0 (min (slots_a_block g.width) (i.size / slot_size g.width - slots_a_block g.width * index)) s (omega arith) zone_is some (omega arith) (subst (λ n. AreScanned n s) start h))
      (λ t k. past_size (slots_a_block g.width * index + (0 + min (slots_a_block g.width) (i.size / slot_size g.width - slots_a_block g.width * index))) (slots_a_block g.width * (index + 1)) t k (omega arith) (λ p low high. omega arith))
  block_by index z s false lower zone_is some h =
      let high : i.size / slot_size g.width ≤ slots_a_block g.width * index = ltb-false (slots_a_block g.width * index) (i.size / slot_size g.width) lower in
      past_size (slots_a_block g.width * index) (slots_a_block g.width * (index + 1)) s h (omega arith) (λ p low _. omega arith)

  -- a hole of the directory is free slots
  holes_over : (low high : ℕ) (s : SlotScan) → AreScanned (slots_a_block g.width * low) s → low ≤ high → ((k : ℕ) → low ≤ k → k < high → zone_behind blocks i k ≡ 0) → AreScanned (slots_a_block g.width * high) s
  holes_over low high s h more holes =
      let hole : (p : ℕ) → slots_a_block g.width * low ≤ p → p < slots_a_block g.width * high → slot_behind g blocks i p ≡ Ok None =
      λ p from to. let none : zone_behind blocks i (p / slots_a_block g.width) ≡ 0 = holes (p / slots_a_block g.width) (block_low (slot_size g.width) (slots_a_block g.width) (form_is g.width) low p from) (block_high (slot_size g.width) (slots_a_block g.width) (form_is g.width) high p to) in rw none refl in
      passed_over (slots_a_block g.width * low) (slots_a_block g.width * high) s h (mul-le-mul_left (slots_a_block g.width) more)
      (λ p from to _. (None, hole p from to))
      (λ p slot from to e. none-some slot (same_Ok None (Some slot) (sym (hole p from to) ∙ e.stands)))

  in_rising : (low : ℕ) (ms : List Mapped) (high : ℕ) (m : Mapped) → RiseWithin low ms high → In m ms → low ≤ m.index
  in_rising low [] high m r h = absurd h
  in_rising low (x ∷ xs) high m r (inl e) = subst (λ (m : Mapped). low ≤ m.index) e r.0
  in_rising low (x ∷ xs) high m r (inr h) = let more = in_rising (x.index + 1) xs high m r.1 h in let first = r.0 in omega arith

  -- the scan of the blocks of a directory takes all slots below its size, or stops at the first that is bad
  pub slots_scan : (ms : List Mapped) (low high : ℕ) (s : SlotScan) → RiseWithin low ms high →
      ((m : Mapped) → In m ms → (zone_behind blocks i m.index ≡ m.zone) × (m.zone ≢ 0)) →
      ((k : ℕ) → low ≤ k → zone_behind blocks i k ≢ 0 → In (block_at k (zone_behind blocks i k)) ms) →
      AreScanned (slots_a_block g.width * low) s → IsTested (slots_a_block g.width * high) (answer disk (scan_slots g (i.size / slot_size g.width) ms s))
  slots_scan [] low high s rise right full h =
      holes_over low high s h rise (λ k from to. ⊎_elim (λ none. none) (λ some. absurd (full k from some)) (cases_eq (zone_behind blocks i k) 0))
  slots_scan (m ∷ ms) low high s rise right full h =
      let at = right m (inl refl) in
      let start : AreScanned (slots_a_block g.width * m.index) s =
      holes_over low m.index s h rise.0
      (λ k from to.
      ⊎_elim (λ none. none)
      (λ some.
      absurd
      (⊎_elim
      (λ same. let e : m.index ≡ k = ap (λ (m : Mapped). m.index) same in omega arith)
      (λ inside. let far = in_rising (m.index + 1) ms high (block_at k (zone_behind blocks i k)) rise.1 inside in omega arith)
      (full k from some)))
      (cases_eq (zone_behind blocks i k) 0)) in
      given_then (scan_block g (i.size / slot_size g.width) m s) (scan_slots g (i.size / slot_size g.width) ms) (slots_a_block g.width * (m.index + 1)) (slots_a_block g.width * high)
      (block_by m.index m.zone s (nat_lt (slots_a_block g.width * m.index) (i.size / slot_size g.width)) refl at.0 at.1 start)
      (λ t k.
      slots_scan ms (m.index + 1) high t rise.1 (λ n inside. right n (inr inside))
      (λ j from some.
      ⊎_elim
      (λ same. absurd (let e : m.index ≡ j = ap (λ (m : Mapped). m.index) same in omega arith))
      (λ inside. inside)
      (full j (let first = rise.0 in omega arith) some))
      k)

  pub none_scanned : length before ≡ g.inodes + 1 → AreScanned 0 (record { named = before; names = [] })
  unfolding IsStrictlySortedBy
  none_scanned size = record {
    size = size;
    kept = λ k t. t;
    read = λ p low. absurd (omega arith);
    within = λ p slot low. absurd (omega arith);
    has = λ p slot low. absurd (omega arith);
    from = λ name birth q. absurd (none-some birth q);
    once = λ p q slot other low. absurd (omega arith);
    fresh = λ p slot low. absurd (omega arith);
    marks = λ p slot low. absurd (omega arith);
    alone = λ p q slot other low. absurd (omega arith);
    by_mark = λ k t. inl t;
    told = λ x j. absurd j;
    sorted = tt;
  }
