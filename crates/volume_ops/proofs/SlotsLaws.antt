-- What the scan of the slots of a directory finds: its names.
use Rattle.std.specs.Prelude.{◌≡◌, ◌≢◌, ℕ, zero, suc, ◌+◌, ◌-◌, ◌*◌, ◌/◌, ◌%◌, ◌<◌, ◌≤◌, ◌==◌, min, Bool, true, false, nat_lt, is_some, if◌then◌else◌, List, [], ◌∷◌, length, Option, Some, None, Result, Ok, Err, refl, ◌⊎◌}
use Rattle.std.specs.List.{range_with_len}
use Rattle.std.proofs.Common.{sym, ap, subst, ◌∙◌, inl, inr, ⊎_elim, arith}
use Rattle.std.proofs.lemmas.Bool.{true≢false, false_from_ne_true, cases_eq, or_parts, eqb-false, ltb-false}
use Rattle.std.proofs.lemmas.Option.{none-some, same_Some}
use Rattle.byte_fields.specs.Fields.{record_at}
use Rattle.blk_base.specs.Members.{In}
use Rattle.minix_layout.specs.laws.Places.{block_of, at_of, place_low, place_whole, form_is}
use Rattle.minix_layout.specs.Widths.{slot_size, slots_a_block}
use Rattle.minix_layout.specs.declared.division.Geometry.{Geometry}
use Rattle.minix_layout.specs.declared.slot.Slot.{Slot}
use Rattle.minix_layout.specs.declared.fault.LayoutFault.{LayoutFault}
use Rattle.minix_layout.specs.declared.fault.LayoutFault.TheVariants.{BadSlot}
use Rattle.minix_layout.specs.Slots.{slot_of, inode_in, is_bad_name, name_in}
use Rattle.tree_model.specs.Maps.{at_name, put_name}
use Rattle.tree_model.specs.Paths.{is_dot}
use Rattle.volume_ops.specs.declared.found.Mapped.{Mapped}
use Rattle.volume_ops.specs.Reads.{Reads, Ret, Read, answer}
use Rattle.volume_ops.specs.laws.ReadsLaws.{if_ok-parts, unless-parts, err-ok, same_Ok}
use Rattle.volume_ops.specs.Places.{table_block, inode_in_block, is_directory, birth_of, inode_of_birth}
use Rattle.volume_ops.specs.Marks.{is_marked, marked}
use Rattle.volume_ops.specs.laws.MarksLaws.{is_marked_same, is_marked_kept, length-marked}
use Rattle.tree_model.specs.laws.MapsLaws.{at_put_name, at_put_name_cases, at_put_name_kept, In-put_name}
use Rattle.volume_ops.specs.Zones.{Fault}
use Rattle.volume_ops.specs.Slots.{SlotScan, is_bad_entry, note_name, note_other, scan_entry, scan_used, scan_slot, scan_places, scan_block, scan_slots}

-- ---- numbers of inodes

pub inode_of_birth_of : (inode : ℕ) → 0 < inode → inode_of_birth (birth_of inode) ≡ inode
inode_of_birth_of inode some = grind arith

slot_used_by : (n : ℕ) (name : List ℕ) (free bad : Bool) (slot : Slot) → (n == 0) ≡ free →
    ◌≡◌ {A = Result (Option Slot) LayoutFault} (if free then Ok None else if bad then Err BadSlot else Ok (Some (record { inode = n; name = name }))) (Ok (Some slot)) → 0 < slot.inode
slot_used_by n name true bad slot f h = absurd (none-some slot (same_Ok None (Some slot) h))
slot_used_by n name false true slot f h = absurd (err-ok BadSlot (Some slot) h)
slot_used_by n name false false slot f h =
    let e : n ≡ slot.inode = ap (λ s. s.inode) (same_Some _ slot (same_Ok _ (Some slot) h)) in
    let some : n ≢ 0 = eqb-false n 0 f in omega arith

-- a slot that is in use has the number of an inode
pub slot_of-used : (width : ℕ) (bytes : List ℕ) (slot : Slot) → slot_of width bytes ≡ Ok (Some slot) → 0 < slot.inode
unfolding slot_of
slot_of-used width bytes slot h = slot_used_by (inode_in bytes) (name_in width bytes) (inode_in bytes == 0) (is_bad_name (name_in width bytes)) slot refl h

-- numbers in a range
In-range : (a n k : ℕ) → In k (range_with_len a n) → (a ≤ k) × (k < a + n)
In-range a zero k i = absurd i
In-range a (suc n) k (inl e) = (omega arith, omega arith)
In-range a (suc n) k (inr i) = let h = In-range (a + 1) n k i in (omega arith, omega arith)

range-In : (a n k : ℕ) → a ≤ k → k < a + n → In k (range_with_len a n)
range-In a zero k low high = absurd (omega arith)
range-In a (suc n) k low high = ⊎_elim inl (λ apart. inr (range-In (a + 1) n k (omega arith) (omega arith))) (cases_eq a k)

-- an inode of the disk is a directory
abbrev pub IsDirectoryAt : (ℕ → List ℕ) → Geometry → ℕ → Type 0
IsDirectoryAt disk g inode = is_directory (inode_in_block inode (disk (table_block g inode))).mode ≡ true

module _ (disk : ℕ → List ℕ) (g : Geometry) where
  -- What holds of the names so far, `before` being the directories that were named before this directory's scan:
  -- each is that of an inode, and directories have one name, are marked, and were not named before.
  pub record IsNamed (before : List Bool) (s : SlotScan) : Type 0 where
    pub told : (e : List ℕ × ℕ) → In e s.names → at_name s.names e.0 ≡ Some e.1
    pub some : (name : List ℕ) (birth : ℕ) → at_name s.names name ≡ Some birth → 0 < inode_of_birth birth
    pub whose : (name : List ℕ) (birth : ℕ) → at_name s.names name ≡ Some birth → birth_of (inode_of_birth birth) ≡ birth
    pub within : (name : List ℕ) (birth : ℕ) → at_name s.names name ≡ Some birth → inode_of_birth birth ≤ g.inodes
    pub noted : (name : List ℕ) (birth : ℕ) → at_name s.names name ≡ Some birth → IsDirectoryAt disk g (inode_of_birth birth) → is_marked s.named (inode_of_birth birth) ≡ true
    pub fresh : (name : List ℕ) (birth : ℕ) → at_name s.names name ≡ Some birth → IsDirectoryAt disk g (inode_of_birth birth) → is_marked before (inode_of_birth birth) ≡ false
    pub once : (name other : List ℕ) (birth : ℕ) → at_name s.names name ≡ Some birth → at_name s.names other ≡ Some birth → IsDirectoryAt disk g (inode_of_birth birth) → name ≡ other
    pub kept : (k : ℕ) → is_marked before k ≡ true → is_marked s.named k ≡ true
    pub size : length s.named ≡ g.inodes + 1

  -- A part of the scan that goes over the slots Q: the names before are kept, each of these slots but . and .. has
  -- its name, and no other name is new.
  pub record Goes (Q : Slot → Type 0) (before : List Bool) (s after : SlotScan) : Type 0 where
    pub named : IsNamed before after
    pub kept : (name : List ℕ) (birth : ℕ) → at_name s.names name ≡ Some birth → at_name after.names name ≡ Some birth
    pub full : (slot : Slot) → Q slot → is_dot slot.name ≡ false → at_name after.names slot.name ≡ Some (birth_of slot.inode)
    pub right : (name : List ℕ) (birth : ℕ) → at_name after.names name ≡ Some birth →
        (at_name s.names name ≡ Some birth) ⊎ ((slot : Slot) × Q slot × (slot.name ≡ name) × (is_dot name ≡ false) × (birth_of slot.inode ≡ birth))

  -- no slots
  pub goes_none : (Q : Slot → Type 0) (before : List Bool) (s : SlotScan) → ((slot : Slot) → Q slot → is_dot slot.name ≡ false → ⊥) → IsNamed before s → Goes Q before s s
  goes_none Q before s none h = record {
    named = h;
    kept = λ name birth p. p;
    full = λ slot q dot. absurd (none slot q dot);
    right = λ name birth p. inl p;
  }

  -- one part, and then another
  pub goes_on : (P Q R : Slot → Type 0) (before : List Bool) (s t u : SlotScan) → Goes P before s t → Goes Q before t u →
      ((slot : Slot) → R slot → P slot ⊎ Q slot) → ((slot : Slot) → P slot → R slot) → ((slot : Slot) → Q slot → R slot) → Goes R before s u
  goes_on P Q R before s t u h k split left right = record {
    named = k.named;
    kept = λ name birth p. k.kept name birth (h.kept name birth p);
    full = λ slot r dot. ⊎_elim (λ p. k.kept slot.name (birth_of slot.inode) (h.full slot p dot)) (λ q. k.full slot q dot) (split slot r);
    right = λ name birth p.
        ⊎_elim
        (λ old. ⊎_elim inl (λ x. inr (x.0, left x.0 x.1, x.2, x.3, x.4)) (h.right name birth old))
        (λ x. inr (x.0, right x.0 x.1, x.2, x.3, x.4))
        (k.right name birth p);
  }

  pub goes_same : (P Q : Slot → Type 0) (before : List Bool) (s t : SlotScan) → Goes P before s t →
      ((slot : Slot) → P slot → Q slot) → ((slot : Slot) → Q slot → P slot) → Goes Q before s t
  goes_same P Q before s t h there back = record {
    named = h.named;
    kept = h.kept;
    full = λ slot q dot. h.full slot (back slot q) dot;
    right = λ name birth p. ⊎_elim inl (λ x. inr (x.0, there x.0 x.1, x.2, x.3, x.4)) (h.right name birth p);
  }

  -- ---- one name

  -- what noting a name does
  record Notes (slot : Slot) (s after : SlotScan) : Type 0 where
    names : after.names ≡ put_name s.names slot.name (birth_of slot.inode)
    kept : (k : ℕ) → is_marked s.named k ≡ true → is_marked after.named k ≡ true
    marks : IsDirectoryAt disk g slot.inode → (is_marked s.named slot.inode ≡ false) × (is_marked after.named slot.inode ≡ true)
    size : length after.named ≡ length s.named

  directory_notes : (zone : ℕ) (slot : Slot) (s after : SlotScan) (was : Bool) → slot.inode < length s.named → is_marked s.named slot.inode ≡ was →
      ◌≡◌ {A = Result SlotScan Fault} (if was then Err (BadSlot, zone) else Ok (record { named = marked s.named slot.inode; names = put_name s.names slot.name (birth_of slot.inode) })) (Ok after) →
      Notes slot s after
  directory_notes zone slot s after true within was r = absurd (err-ok (BadSlot, zone) after r)
  directory_notes zone slot s after false within was r =
      subst (λ after. Notes slot s after) (same_Ok _ after r) (record {
        names = refl;
        kept = λ k p. is_marked_kept s.named slot.inode k p;
        marks = λ d. (was, is_marked_same s.named slot.inode within);
        size = length-marked s.named slot.inode;
      })

  notes_by : (zone : ℕ) (slot : Slot) (s after : SlotScan) (directory : Bool) → slot.inode < length s.named →
      (IsDirectoryAt disk g slot.inode → directory ≡ true) → note_name zone slot s directory ≡ Ok after → Notes slot s after
  notes_by zone slot s after true within is r = directory_notes zone slot s after (is_marked s.named slot.inode) within refl r
  notes_by zone slot s after false within is r =
      subst (λ after. Notes slot s after) (same_Ok (note_other slot s) after r) (record {
        names = refl;
        kept = λ k p. p;
        marks = λ d. absurd (true≢false (sym (is d)));
        size = refl;
      })

  -- a name that was free, of an inode of the volume
  noted_goes : (before : List Bool) (slot : Slot) (s after : SlotScan) → IsNamed before s → 0 < slot.inode → slot.inode ≤ g.inodes →
      is_some (at_name s.names slot.name) ≡ false → is_dot slot.name ≡ false → Notes slot s after → Goes (λ t. slot ≡ t) before s after
  noted_goes before slot s after h some within free dot n =
      let birth : ℕ = birth_of slot.inode in
      let number : inode_of_birth birth ≡ slot.inode = inode_of_birth_of slot.inode some in
      let here : at_name after.names slot.name ≡ Some birth = subst (λ names. at_name names slot.name ≡ Some birth) (sym n.names) (at_put_name s.names slot.name birth) in
      let cases : (name : List ℕ) (b : ℕ) → at_name after.names name ≡ Some b → ((slot.name ≡ name) × (birth ≡ b)) ⊎ (at_name s.names name ≡ Some b) =
      (λ name b p. at_put_name_cases s.names slot.name birth name b (subst (λ names. at_name names name ≡ Some b) n.names p)) in
      let old : (name : List ℕ) (b : ℕ) → at_name s.names name ≡ Some b → at_name after.names name ≡ Some b =
      (λ name b p. subst (λ names. at_name names name ≡ Some b) (sym n.names) (at_put_name_kept s.names slot.name birth name b free p)) in
      let inode_is : (b : ℕ) → birth ≡ b → slot.inode ≡ inode_of_birth b = (λ b e. sym number ∙ ap inode_of_birth e) in
      let marks : (b : ℕ) → birth ≡ b → IsDirectoryAt disk g (inode_of_birth b) → (is_marked s.named (inode_of_birth b) ≡ false) × (is_marked after.named (inode_of_birth b) ≡ true) =
      (λ b e. subst (λ inode. IsDirectoryAt disk g inode → (is_marked s.named inode ≡ false) × (is_marked after.named inode ≡ true)) (inode_is b e) n.marks) in
      record {
        named = record {
          told = λ e i.
              ⊎_elim
              (λ q. subst (λ e. at_name after.names e.0 ≡ Some e.1) q here)
              (λ i. old e.0 e.1 (h.told e i))
              (In-put_name s.names slot.name birth e (subst (λ names. In e names) n.names i));
          some = λ name b p. ⊎_elim (λ x. subst (λ k. 0 < k) (inode_is b x.1) some) (h.some name b) (cases name b p);
          whose = λ name b p. ⊎_elim (λ x. ap birth_of (sym (inode_is b x.1)) ∙ x.1) (h.whose name b) (cases name b p);
          within = λ name b p. ⊎_elim (λ x. subst (λ k. k ≤ g.inodes) (inode_is b x.1) within) (h.within name b) (cases name b p);
          noted = λ name b p d. ⊎_elim (λ x. (marks b x.1 d).1) (λ p. n.kept (inode_of_birth b) (h.noted name b p d)) (cases name b p);
          fresh = λ name b p d.
              ⊎_elim
              (λ x. false_from_ne_true (is_marked before (inode_of_birth b)) (λ t. true≢false (sym (h.kept (inode_of_birth b) t) ∙ (marks b x.1 d).0)))
              (λ p. h.fresh name b p d)
              (cases name b p);
          once = λ name other b p q d.
              ⊎_elim
              (λ x.
              ⊎_elim
              (λ y. sym x.0 ∙ y.0)
              (λ q. absurd (true≢false (sym (h.noted other b q d) ∙ (marks b x.1 d).0)))
              (cases other b q))
              (λ p.
              ⊎_elim
              (λ y. absurd (true≢false (sym (h.noted name b p d) ∙ (marks b y.1 d).0)))
              (λ q. h.once name other b p q d)
              (cases other b q))
              (cases name b p);
          kept = λ k p. n.kept k (h.kept k p);
          size = n.size ∙ h.size;
        };
        kept = old;
        full = λ t e _. subst (λ t. at_name after.names t.name ≡ Some (birth_of t.inode)) e here;
        right = λ name b p.
            ⊎_elim
            (λ x. inr (slot, refl, x.0, subst (λ m. is_dot m ≡ false) x.0 dot, x.1))
            inl
            (cases name b p);
      }

  -- ---- one slot

  pub scan_entry-goes : (before : List Bool) (zone : ℕ) (slot : Slot) (s after : SlotScan) → IsNamed before s → 0 < slot.inode → is_dot slot.name ≡ false →
      answer disk (scan_entry g zone slot s) ≡ Ok after → Goes (λ t. slot ≡ t) before s after
  scan_entry-goes before zone slot s after h some dot r =
      let parts = unless-parts disk (is_bad_entry g slot s) (BadSlot, zone)
      (Read (table_block g slot.inode) (λ body. Ret (note_name zone slot s (is_directory (inode_in_block slot.inode body).mode)))) after r in
      let good = or_parts (nat_lt g.inodes slot.inode) (is_some (at_name s.names slot.name)) parts.0 in
      let within : slot.inode ≤ g.inodes = ltb-false g.inodes slot.inode good.0 in
      let low : slot.inode < length s.named = omega (arith, h.size) in
      noted_goes before slot s after h some within good.1 dot
      (notes_by zone slot s after (is_directory (inode_in_block slot.inode (disk (table_block g slot.inode))).mode) low (λ d. d) parts.1)

  used_goes_by : (before : List Bool) (zone : ℕ) (slot : Slot) (s after : SlotScan) (dot : Bool) → is_dot slot.name ≡ dot → IsNamed before s → 0 < slot.inode →
      answer disk (if dot then Ret (Ok s) else scan_entry g zone slot s) ≡ Ok after → Goes (λ t. slot ≡ t) before s after
  used_goes_by before zone slot s after true dot h some r =
      subst (λ after. Goes (λ t. slot ≡ t) before s after) (same_Ok s after r)
      (goes_none (λ t. slot ≡ t) before s (λ t e n. true≢false (sym dot ∙ (ap (λ t. is_dot t.name) e ∙ n))) h)
  used_goes_by before zone slot s after false dot h some r = scan_entry-goes before zone slot s after h some dot r

  used_goes : (before : List Bool) (zone : ℕ) (o : Option Slot) (s after : SlotScan) → IsNamed before s → ((slot : Slot) → o ≡ Some slot → 0 < slot.inode) →
      answer disk (scan_used g zone s o) ≡ Ok after → Goes (λ t. o ≡ Some t) before s after
  used_goes before zone None s after h some r =
      subst (λ after. Goes (λ t. None ≡ Some t) before s after) (same_Ok s after r)
      (goes_none (λ t. None ≡ Some t) before s (λ t e n. none-some t e) h)
  used_goes before zone (Some slot) s after h some r =
      goes_same (λ t. slot ≡ t) (λ t. Some slot ≡ Some t) before s after
      (used_goes_by before zone slot s after (is_dot slot.name) refl h (some slot refl) r)
      (λ t e. ap Some e) (λ t e. same_Some slot t e)

  slot_goes_by : (before : List Bool) (zone : ℕ) (read : Result (Option Slot) LayoutFault) (s after : SlotScan) → IsNamed before s →
      ((slot : Slot) → read ≡ Ok (Some slot) → 0 < slot.inode) →
      answer disk (elim read as (λ _. Reads (Result SlotScan Fault)) [ Err fault ↦ Ret (Err (fault, zone)) | Ok slot ↦ scan_used g zone s slot ]) ≡ Ok after →
      Goes (λ t. read ≡ Ok (Some t)) before s after
  slot_goes_by before zone (Ok o) s after h some r =
      goes_same (λ t. o ≡ Some t) (λ t. ◌≡◌ {A = Result (Option Slot) LayoutFault} (Ok o) (Ok (Some t))) before s after
      (used_goes before zone o s after h (λ slot e. some slot (ap Ok e)) r)
      (λ t e. ap Ok e) (λ t e. same_Ok o (Some t) e)
  slot_goes_by before zone (Err fault) s after h some r = absurd (err-ok (fault, zone) after r)

  pub scan_slot-goes : (before : List Bool) (zone : ℕ) (bytes : List ℕ) (s after : SlotScan) → IsNamed before s →
      answer disk (scan_slot g zone bytes s) ≡ Ok after → Goes (λ t. slot_of g.width bytes ≡ Ok (Some t)) before s after
  scan_slot-goes before zone bytes s after h r = slot_goes_by before zone (slot_of g.width bytes) s after h (slot_of-used g.width bytes) r

  -- ---- the slots of a block

  -- a slot at one of these places
  pub record IsPlaced (body ats : List ℕ) (slot : Slot) : Type 0 where
    pub at : ℕ
    pub within : In at ats
    pub stands : slot_of g.width (record_at (slot_size g.width) at body) ≡ Ok (Some slot)

  pub scan_places-goes : (before : List Bool) (zone : ℕ) (body ats : List ℕ) (s after : SlotScan) → IsNamed before s →
      answer disk (scan_places g zone body ats s) ≡ Ok after → Goes (IsPlaced body ats) before s after
  scan_places-goes before zone body [] s after h r =
      subst (λ after. Goes (IsPlaced body []) before s after) (same_Ok s after r)
      (goes_none (IsPlaced body []) before s (λ slot q dot. q.within) h)
  scan_places-goes before zone body (at ∷ ats) s after h r =
      let parts = if_ok-parts disk (scan_slot g zone (record_at (slot_size g.width) at body) s) (scan_places g zone body ats) after r in
      let first = scan_slot-goes before zone (record_at (slot_size g.width) at body) s parts.0 h parts.1 in
      goes_on (λ t. slot_of g.width (record_at (slot_size g.width) at body) ≡ Ok (Some t)) (IsPlaced body ats) (IsPlaced body (at ∷ ats)) before s parts.0 after
      first (scan_places-goes before zone body ats parts.0 after first.named parts.2)
      (λ slot q.
      ⊎_elim
      (λ e. inl (subst (λ at. slot_of g.width (record_at (slot_size g.width) at body) ≡ Ok (Some slot)) (sym e) q.stands))
      (λ i. inr (record { at = q.at; within = i; stands = q.stands }))
      q.within)
      (λ slot p. record { at = at; within = inl refl; stands = p })
      (λ slot q. record { at = q.at; within = inr q.within; stands = q.stands })

  -- ---- the blocks of a directory

  -- a slot of this block, below the size
  pub record IsInBlock (slots : ℕ) (m : Mapped) (slot : Slot) : Type 0 where
    pub place : ℕ
    pub below : place < slots
    pub block : place / slots_a_block g.width ≡ m.index
    pub stands : slot_of g.width (record_at (slot_size g.width) (place % slots_a_block g.width) (disk m.zone)) ≡ Ok (Some slot)

  -- the places of a block below the size
  abbrev pub places_below : ℕ → ℕ → List ℕ
  places_below slots index = range_with_len 0 (min (slots_a_block g.width) (slots - slots_a_block g.width * index))

  in_block : (slots : ℕ) (m : Mapped) (slot : Slot) → IsPlaced (disk m.zone) (places_below slots m.index) slot → IsInBlock slots m slot
  in_block slots m slot q =
      let bound = In-range 0 (min (slots_a_block g.width) (slots - slots_a_block g.width * m.index)) q.at q.within in
      let low = bound.1 in
      let here : (slots_a_block g.width * m.index + q.at) % slots_a_block g.width ≡ q.at = at_of (slot_size g.width) (slots_a_block g.width) (form_is g.width) m.index q.at (omega arith) in
      record {
        place = slots_a_block g.width * m.index + q.at;
        below = omega arith;
        block = block_of (slot_size g.width) (slots_a_block g.width) (form_is g.width) m.index q.at (omega arith);
        stands = subst (λ at. slot_of g.width (record_at (slot_size g.width) at (disk m.zone)) ≡ Ok (Some slot)) (sym here) q.stands;
      }

  placed : (slots : ℕ) (m : Mapped) (slot : Slot) → IsInBlock slots m slot → IsPlaced (disk m.zone) (places_below slots m.index) slot
  placed slots m slot q =
      let place : ℕ = q.place in
      let below : place < slots = q.below in
      let block : place / slots_a_block g.width ≡ m.index = q.block in
      let low = place_low (slot_size g.width) (slots_a_block g.width) (form_is g.width) place in
      let whole : slots_a_block g.width * m.index + place % slots_a_block g.width ≡ place = ap (λ b. slots_a_block g.width * b + place % slots_a_block g.width) (sym block) ∙ place_whole (slot_size g.width) (slots_a_block g.width) (form_is g.width) place in
      record {
        at = q.place % slots_a_block g.width;
        within = range-In 0 (min (slots_a_block g.width) (slots - slots_a_block g.width * m.index)) (place % slots_a_block g.width) (omega arith) (omega arith);
        stands = q.stands;
      }

  block_goes_by : (before : List Bool) (slots : ℕ) (m : Mapped) (s after : SlotScan) (some : Bool) → nat_lt (slots_a_block g.width * m.index) slots ≡ some → IsNamed before s →
      answer disk (if some then Read m.zone (λ body. scan_places g m.zone body (places_below slots m.index) s) else Ret (Ok s)) ≡ Ok after →
      Goes (IsInBlock slots m) before s after
  block_goes_by before slots m s after true some h r =
      goes_same (IsPlaced (disk m.zone) (places_below slots m.index)) (IsInBlock slots m) before s after
      (scan_places-goes before m.zone (disk m.zone) (places_below slots m.index) s after h r)
      (in_block slots m) (placed slots m)
  block_goes_by before slots m s after false some h r =
      let high : slots ≤ slots_a_block g.width * m.index = ltb-false (slots_a_block g.width * m.index) slots some in
      subst (λ after. Goes (IsInBlock slots m) before s after) (same_Ok s after r)
      (goes_none (IsInBlock slots m) before s
      (λ slot q dot.
      let below : q.place < slots = q.below in
      let whole : slots_a_block g.width * m.index + q.place % slots_a_block g.width ≡ q.place = ap (λ b. slots_a_block g.width * b + q.place % slots_a_block g.width) (sym q.block) ∙ place_whole (slot_size g.width) (slots_a_block g.width) (form_is g.width) q.place in
      omega arith) h)

  pub scan_block-goes : (before : List Bool) (slots : ℕ) (m : Mapped) (s after : SlotScan) → IsNamed before s →
      answer disk (scan_block g slots m s) ≡ Ok after → Goes (IsInBlock slots m) before s after
  scan_block-goes before slots m s after h r = block_goes_by before slots m s after (nat_lt (slots_a_block g.width * m.index) slots) refl h r

  -- a slot of one of these blocks
  pub record IsInBlocks (slots : ℕ) (blocks : List Mapped) (slot : Slot) : Type 0 where
    pub block : Mapped
    pub within : In block blocks
    pub stands : IsInBlock slots block slot

  pub scan_slots-goes : (before : List Bool) (slots : ℕ) (blocks : List Mapped) (s after : SlotScan) → IsNamed before s →
      answer disk (scan_slots g slots blocks s) ≡ Ok after → Goes (IsInBlocks slots blocks) before s after
  scan_slots-goes before slots [] s after h r =
      subst (λ after. Goes (IsInBlocks slots []) before s after) (same_Ok s after r)
      (goes_none (IsInBlocks slots []) before s (λ slot q dot. q.within) h)
  scan_slots-goes before slots (m ∷ ms) s after h r =
      let parts = if_ok-parts disk (scan_block g slots m s) (scan_slots g slots ms) after r in
      let first = scan_block-goes before slots m s parts.0 h parts.1 in
      goes_on (IsInBlock slots m) (IsInBlocks slots ms) (IsInBlocks slots (m ∷ ms)) before s parts.0 after
      first (scan_slots-goes before slots ms parts.0 after first.named parts.2)
      (λ slot q.
      ⊎_elim
      (λ e. inl (subst (λ m. IsInBlock slots m slot) (sym e) q.stands))
      (λ i. inr (record { block = q.block; within = i; stands = q.stands }))
      q.within)
      (λ slot p. record { block = m; within = inl refl; stands = p })
      (λ slot q. record { block = q.block; within = inr q.within; stands = q.stands })

  -- where the scan of a directory begins
  pub no_names : (before : List Bool) → length before ≡ g.inodes + 1 → IsNamed before (record { named = before; names = [] })
  no_names before size = record {
    told = λ e i. absurd i;
    some = λ name birth p. absurd (none-some birth p);
    whose = λ name birth p. absurd (none-some birth p);
    within = λ name birth p. absurd (none-some birth p);
    noted = λ name birth p. absurd (none-some birth p);
    fresh = λ name birth p. absurd (none-some birth p);
    once = λ name other birth p. absurd (none-some birth p);
    kept = λ k p. p;
    size = size;
  }
