-- The bits of both maps after writes: which of them change.
use Rattle.std.specs.Prelude.{◌≡◌, ◌≢◌, ◌+◌, ◌-◌, ◌/◌, ◌%◌, ◌<◌, ◌≤◌, ◌↔◌, ℕ, Bool, true, false, List, [], ◌∷◌, length, map, Option, Some, None, refl, ◌⊎◌}
use Rattle.std.specs.List.Sorted.{IsStrictlySortedBy}
use Rattle.std.specs.Map.{keys_of, remove_entry}
use Rattle.std.specs.BTreeMap.{is_at}
use Rattle.std.specs.Ordering.{nat_cmp}
use Rattle.std.proofs.Common.{sym, ap, subst, inl, inr, ⊎_elim, ◌∙◌, arith}
use Rattle.std.proofs.lemmas.Bool.{cases_eq, false≢true}
use Rattle.std.proofs.lemmas.Option.{same_Some, none-some}
use Rattle.blk_base.specs.Members.{In}
use Rattle.minix_layout.specs.declared.division.Geometry.{Geometry}
use Rattle.minix_layout.specs.declared.bits.BitPlace.{BitPlace}
use Rattle.minix_layout.specs.Geometry.{IsSound}
use Rattle.minix_layout.specs.Bits.{bit_of, put_bit, has_bit, inode_bit as inode_place, zone_bit as zone_place}
use Rattle.minix_layout.specs.laws.BitLaws.{bit_read_back, other_bit}
use Rattle.tree_model.specs.Maps.{at_number, put_number}
use Rattle.tree_model.specs.laws.MapsLaws.{at_put_number, at_put_number_apart}
use Rattle.tree_model.specs.laws.MapOrder.{at_without_here, at_without_apart}
use Rattle.minix_tables.specs.declared.zones.zone_state.ZoneState.{ZoneState}
use Rattle.minix_tables.specs.declared.zones.zone_state.ZoneState.TheVariants as states
use Rattle.minix_tables.specs.zones.Zones.{Zones, state_of}
use Rattle.volume_ops.specs.Volume.{disk_of}
use Rattle.volume_model.specs.declared.placed.Placed.{Placed}
use Rattle.volume_model.specs.Edits.{set_bit, edited, edited_all}
use Rattle.volume_model.specs.laws.Changes.{changes_bit}
use Rattle.volume_model.specs.laws.Edits.{edited_here, edited_elsewhere}
use Rattle.volume_model.specs.Touched.{Contents}
use Rattle.volume_model.specs.Volume.{IsWhole}
use Rattle.volume_steps.specs.Zones.{inode_bit, zone_bit}
use Rattle.volume_steps.specs.laws.Steady.{Marks, KeepsMarks}
use Rattle.volume_steps.specs.UsedInodes.{IsInodeUsed}
use Rattle.volume_steps.proofs.Bits.{AreZones}
use Rattle.volume_steps.proofs.Taking.{AreTaken, AreGiven, free_used, in_zones}

-- ---- one bit

module _ (g : Geometry) (blocks : List (List ℕ)) (whole : IsWhole blocks) (first number : ℕ) (value : Bool) (inside : first + number / 8192 < length blocks) where
  abbrev written : List (List ℕ)
  written = edited g blocks (set_bit first number value)

  bit_here : (p : BitPlace) → p.block ≡ first + number / 8192 → p.at ≡ number % 8192 → has_bit written p ≡ value
  bit_here p block at =
      ap (λ b. bit_of (disk_of written b) p.at) block
      ∙ (ap (λ body. bit_of body p.at) (edited_here g blocks (set_bit first number value) inside)
      ∙ (ap (bit_of (put_bit (disk_of blocks (first + number / 8192)) (number % 8192) value)) at
      ∙ bit_read_back (disk_of blocks (first + number / 8192)) (number % 8192) value (whole (first + number / 8192)) (omega arith)))

  bit_away : (p : BitPlace) → (p.block ≡ first + number / 8192 → p.at ≡ number % 8192 → ⊥) → has_bit written p ≡ has_bit blocks p
  bit_away p apart = elim (cases_eq p.block (first + number / 8192)) [
    | inr far ↦ ap (λ body. bit_of body p.at) (edited_elsewhere g blocks (set_bit first number value) p.block far)
    | inl block ↦
        ap (λ b. bit_of (disk_of written b) p.at) block
        ∙ (ap (λ body. bit_of body p.at) (edited_here g blocks (set_bit first number value) inside)
        ∙ (other_bit (disk_of blocks (first + number / 8192)) (number % 8192) p.at value (whole (first + number / 8192)) (omega arith) (λ e. apart block (sym e))
        ∙ ap (λ b. bit_of (disk_of blocks b) p.at) (sym block)))
  ]

pub place_same : (p q : BitPlace) → p.block ≡ q.block → p.at ≡ q.at → p ≡ q
place_same p q block at = λ i. record { block = block i; at = at i }

-- two numbers with the same block and place are the same
same_place : (a b : ℕ) → a / 8192 ≡ b / 8192 → a % 8192 ≡ b % 8192 → a ≡ b
same_place a b e f = omega arith

-- ---- bits of zones

module _ (g : Geometry) (sound : IsSound g) (value : Bool) where
  zone_inside : (z : ℕ) → g.first ≤ z → z < g.zones → 2 + g.imap + (z - g.first + 1) / 8192 < 2 + g.imap + g.zmap
  zone_inside z low high = let bits = sound.zone_bits in omega arith

  next_whole : (blocks : List (List ℕ)) → IsWhole blocks → length blocks ≡ g.zones → (z : ℕ) → g.first ≤ z → z < g.zones → IsWhole (edited g blocks (zone_bit g value z)) × (length (edited g blocks (zone_bit g value z)) ≡ g.zones)
  next_whole blocks whole size z low high =
      let one = changes_bit g blocks (2 + g.imap) (z - g.first + 1) value sound whole size (zone_inside z low high) in
      (one.whole, one.size ∙ size)

  block_inside : (blocks : List (List ℕ)) → length blocks ≡ g.zones → (z : ℕ) → g.first ≤ z → z < g.zones → 2 + g.imap + (z - g.first + 1) / 8192 < length blocks
  block_inside blocks size z low high = let inside = zone_inside z low high in let tables = sound.tables_below in omega arith

  -- other bits stay
  zones_away : (zs : List ℕ) (blocks : List (List ℕ)) → IsWhole blocks → length blocks ≡ g.zones → AreZones g zs → (p : BitPlace) → ((z : ℕ) → In z zs → p.block ≡ (zone_place g z).block → p.at ≡ (zone_place g z).at → ⊥) →
      has_bit (edited_all g blocks (map (zone_bit g value) zs)) p ≡ has_bit blocks p
  zones_away [] blocks whole size within p apart = refl
  zones_away (z ∷ zs) blocks whole size within p apart =
      let range = within z (inl refl) in
      let next = next_whole blocks whole size z range.0 range.1 in
      zones_away zs (edited g blocks (zone_bit g value z)) next.0 next.1 (λ y i. within y (inr i)) p (λ y i. apart y (inr i))
      ∙ bit_away g blocks whole (2 + g.imap) (z - g.first + 1) value (block_inside blocks size z range.0 range.1) p (apart z (inl refl))

  zones_differ : (y z : ℕ) → g.first ≤ y → g.first ≤ z → (zone_place g y).block ≡ (zone_place g z).block → (zone_place g y).at ≡ (zone_place g z).at → y ≡ z
  zones_differ y z low also block at = let same = same_place (y - g.first + 1) (z - g.first + 1) (omega arith) at in omega arith

  -- those of the zones have the value
  zones_here : (zs : List ℕ) (blocks : List (List ℕ)) → IsWhole blocks → length blocks ≡ g.zones → AreZones g zs → (y : ℕ) → In y zs → has_bit (edited_all g blocks (map (zone_bit g value) zs)) (zone_place g y) ≡ value
  zones_here [] blocks whole size within y i = absurd i
  zones_here (z ∷ zs) blocks whole size within y i =
      let range = within z (inl refl) in
      let next = next_whole blocks whole size z range.0 range.1 in
      elim (in_zones y zs) [
        | inl later ↦ zones_here zs (edited g blocks (zone_bit g value z)) next.0 next.1 (λ x j. within x (inr j)) y later
        | inr out ↦
            let here : z ≡ y = ⊎_elim (λ e. e) (λ j. absurd (out j)) i in
            zones_away zs (edited g blocks (zone_bit g value z)) next.0 next.1 (λ x j. within x (inr j)) (zone_place g y)
            (λ x j block at. out (subst (λ x. In x zs) (sym (zones_differ y x (within y i).0 (within x (inr j)).0 block at)) j))
            ∙ bit_here g blocks whole (2 + g.imap) (z - g.first + 1) value (block_inside blocks size z range.0 range.1) (zone_place g y) (ap (λ y. (zone_place g y).block) (sym here)) (ap (λ y. (zone_place g y).at) (sym here))
      ]

-- ---- nodes and their numbers

abbrev pub SameNumbers : List (ℕ × Placed) → List (ℕ × Placed) → Type 0
SameNumbers nodes after = (number : ℕ) → IsInodeUsed after number ↔ IsInodeUsed nodes number

pub numbers_same : (nodes after : List (ℕ × Placed)) → after ≡ nodes → SameNumbers nodes after
numbers_same nodes after same number = ((λ has. subst (λ nodes. IsInodeUsed nodes number) same has), (λ has. subst (λ nodes. IsInodeUsed nodes number) (sym same) has))

pub numbers_put : (nodes after : List (ℕ × Placed)) (n : ℕ) (p q : Placed) → after ≡ put_number nodes n q → at_number nodes n ≡ Some p → q.number ≡ p.number → SameNumbers nodes after
numbers_put nodes after n p q is at same number = ((λ has. back (subst (λ nodes. IsInodeUsed nodes number) is has)), (λ has. subst (λ nodes. IsInodeUsed nodes number) (sym is) (there has)))
  where
    back : IsInodeUsed (put_number nodes n q) number → IsInodeUsed nodes number
    back has = elim (cases_eq has.birth n) [
      | inr far ↦ record { birth = has.birth; placed = has.placed; stands = sym (at_put_number_apart nodes n q has.birth far) ∙ has.stands; is = has.is }
      | inl e ↦
          let one : q ≡ has.placed = same_Some q has.placed (sym (at_put_number nodes n q) ∙ (ap (at_number (put_number nodes n q)) (sym e) ∙ has.stands)) in
          record { birth = n; placed = p; stands = at; is = sym same ∙ (ap (λ (q : Placed). q.number) one ∙ has.is) }
    ]

    there : IsInodeUsed nodes number → IsInodeUsed (put_number nodes n q) number
    there has = elim (cases_eq has.birth n) [
      | inr far ↦ record { birth = has.birth; placed = has.placed; stands = at_put_number_apart nodes n q has.birth far ∙ has.stands; is = has.is }
      | inl e ↦
          let one : p ≡ has.placed = same_Some p has.placed (sym at ∙ (ap (at_number nodes) (sym e) ∙ has.stands)) in
          record { birth = n; placed = q; stands = at_put_number nodes n q; is = same ∙ (ap (λ (p : Placed). p.number) one ∙ has.is) }
    ]

pub numbers_both : (nodes between after : List (ℕ × Placed)) → SameNumbers nodes between → SameNumbers between after → SameNumbers nodes after
numbers_both nodes between after h k number = ((λ has. (h number).0 ((k number).0 has)), (λ has. (k number).1 ((h number).1 has)))

-- ---- marks

-- the blocks of both maps, which are read alike
abbrev pub SameMaps : Geometry → List (List ℕ) → List (List ℕ) → Type 0
SameMaps g blocks after = (b : ℕ) → 2 ≤ b → b < 2 + g.imap + g.zmap → disk_of after b ≡ disk_of blocks b

inode_inside : (g : Geometry) → IsSound g → (number : ℕ) → number ≤ g.inodes → 2 + number / 8192 < 2 + g.imap
inode_inside g sound number high = let bits = sound.inode_bits in omega arith

same_bit : (blocks after : List (List ℕ)) (p : BitPlace) → disk_of after p.block ≡ disk_of blocks p.block → has_bit after p ≡ has_bit blocks p
same_bit blocks after p same = ap (λ body. bit_of body p.at) same

-- Zones come into use, or go; their bits are written, and nothing else of the maps.
pub marks_zones : (g : Geometry) → IsSound g → (v w : Contents) (m n : Zones) (value : Bool) (zs : List ℕ) → IsWhole v.blocks → length v.blocks ≡ g.zones → AreZones g zs →
    SameMaps g (edited_all g v.blocks (map (zone_bit g value) zs)) w.blocks → SameNumbers v.nodes w.nodes →
    ((z : ℕ) → In z zs → (value ≡ true) ↔ (state_of n z ≡ Some states.Used)) → ((z : ℕ) → In z zs → ((state_of n z ≡ Some states.Used) ↔ (state_of m z ≡ Some states.Used)) → ⊥) →
    ((z : ℕ) → (In z zs → ⊥) → (state_of n z ≡ Some states.Used) ↔ (state_of m z ≡ Some states.Used)) → KeepsMarks g v w m n
marks_zones g sound v w m n value zs whole size within same numbers now differ others = record {
  inodes = λ number some high.
      let inside = inode_inside g sound number high in
      inl (
        same_bit (edited_all g v.blocks (map (zone_bit g value) zs)) w.blocks (inode_place g number) (same (2 + number / 8192) (omega arith) (omega arith))
            ∙ zones_away g sound value zs v.blocks whole size within (inode_place g number) (λ z i block at. (omega arith)),
        numbers number,
      );
  zones = λ zone low high.
      let inside = zone_inside g sound value zone low high in
      let read = same_bit (edited_all g v.blocks (map (zone_bit g value) zs)) w.blocks (zone_place g zone) (same (2 + g.imap + (zone - g.first + 1) / 8192) (omega arith) (omega arith)) in
      elim (in_zones zone zs) [
        | inl i ↦
            let here = read ∙ zones_here g sound value zs v.blocks whole size within zone i in
            inr (((λ t. (now zone i).0 (sym here ∙ t)), (λ used. here ∙ (now zone i).1 used)), differ zone i)
        | inr out ↦
            inl (
              read ∙ zones_away g sound value zs v.blocks whole size within (zone_place g zone)
                  (λ z i block at. out (subst (λ z. In z zs) (sym (zones_differ g sound value zone z low (within z i).0 block at)) i)),
              others zone out,
            )
      ];
  others = λ p low high at inode zone.
      same_bit (edited_all g v.blocks (map (zone_bit g value) zs)) w.blocks p (same p.block low high)
      ∙ zones_away g sound value zs v.blocks whole size within p (λ z i block at. zone z (within z i).0 (within z i).1 (place_same p (zone_place g z) block at));
}

-- nothing of the maps changes
pub marks_same : (g : Geometry) → IsSound g → (v w : Contents) (m : Zones) → IsWhole v.blocks → length v.blocks ≡ g.zones → SameMaps g v.blocks w.blocks → SameNumbers v.nodes w.nodes → KeepsMarks g v w m m
marks_same g sound v w m whole size same numbers = marks_zones g sound v w m m true [] whole size (λ z i. absurd i) same numbers (λ z i. absurd i) (λ z i. absurd i) (λ z out. ((λ u. u), (λ u. u)))

-- An inode comes into use, or goes.
pub marks_inode : (g : Geometry) → IsSound g → (v w : Contents) (m : Zones) (number : ℕ) (value : Bool) → IsWhole v.blocks → length v.blocks ≡ g.zones → 0 < number → number ≤ g.inodes →
    SameMaps g (edited g v.blocks (inode_bit number value)) w.blocks → ((value ≡ true) ↔ IsInodeUsed w.nodes number) → ((IsInodeUsed w.nodes number ↔ IsInodeUsed v.nodes number) → ⊥) → ((other : ℕ) → other ≢ number → IsInodeUsed w.nodes other ↔ IsInodeUsed v.nodes other) → KeepsMarks g v w m m
marks_inode g sound v w m number value whole size some high same now differ numbers = record {
  inodes = λ other low most.
      let inside = inode_inside g sound other most in
      let read = same_bit (edited g v.blocks (inode_bit number value)) w.blocks (inode_place g other) (same (2 + other / 8192) (omega arith) (omega arith)) in
      elim (cases_eq other number) [
        | inl e ↦
            let here : has_bit w.blocks (inode_place g other) ≡ value = read ∙ bit_here g v.blocks whole 2 number value in_blocks (inode_place g other) (ap (λ k. 2 + k / 8192) e) (ap (λ k. k % 8192) e) in
            inr (((λ t. subst (IsInodeUsed w.nodes) (sym e) (now.0 (sym here ∙ t))), (λ has. here ∙ now.1 (subst (IsInodeUsed w.nodes) e has))), (λ alike. differ (subst (λ number. IsInodeUsed w.nodes number ↔ IsInodeUsed v.nodes number) e alike)))
        | inr far ↦ inl (read ∙ bit_away g v.blocks whole 2 number value in_blocks (inode_place g other) (λ block at. far (same_place other number (omega arith) at)), numbers other far)
      ];
  zones = λ zone low most.
      let inside = zone_inside g sound value zone low most in
      let first = inode_inside g sound number high in
      inl (
        same_bit (edited g v.blocks (inode_bit number value)) w.blocks (zone_place g zone) (same (2 + g.imap + (zone - g.first + 1) / 8192) (omega arith) (omega arith))
            ∙ bit_away g v.blocks whole 2 number value in_blocks (zone_place g zone) (λ block at. (omega arith)),
        ((λ u. u), (λ u. u)),
      );
  others = λ p low most at inode zone.
      same_bit (edited g v.blocks (inode_bit number value)) w.blocks p (same p.block low most)
      ∙ bit_away g v.blocks whole 2 number value in_blocks p (λ block at. inode number some high (place_same p (inode_place g number) block at));
}
  where
    in_blocks : 2 + number / 8192 < length v.blocks
    in_blocks = let inside = inode_inside g sound number high in let tables = sound.tables_below in let zones = sound.some_zone in omega arith

-- ---- one after the other

marks_both : (bit between after : Bool) (Used Then Now : Type 0) → (((Then ↔ Used) → ⊥) → ((Now ↔ Then) → ⊥) → ⊥) → Marks bit Used between Then → Marks between Then after Now → Marks bit Used after Now
marks_both bit between after Used Then Now once (inl before) (inl same) = inl (same.0 ∙ before.0, ((λ now. before.1.0 (same.1.0 now)), (λ used. same.1.1 (before.1.1 used))))
marks_both bit between after Used Then Now once (inr says) (inl same) =
    inr (((λ t. same.1.1 (says.0.0 (sym same.0 ∙ t))), (λ now. same.0 ∙ says.0.1 (same.1.0 now))), (λ alike. says.1 ((λ then. alike.0 (same.1.1 then)), (λ used. same.1.0 (alike.1 used)))))
marks_both bit between after Used Then Now once (inl before) (inr says) = inr (says.0, (λ alike. says.1 ((λ now. before.1.1 (alike.0 now)), (λ then. alike.1 (before.1.0 then)))))
marks_both bit between after Used Then Now once (inr first) (inr second) = absurd (once first.1 second.1)

-- no zone comes into use and goes, or goes and comes again; nor does an inode
pub marks_then : (g : Geometry) (v w z : Contents) (m n o : Zones) → KeepsMarks g v w m n → KeepsMarks g w z n o → SameNumbers v.nodes w.nodes ⊎ SameNumbers w.nodes z.nodes →
    ((zone : ℕ) → g.first ≤ zone → zone < g.zones → (((state_of n zone ≡ Some states.Used) ↔ (state_of m zone ≡ Some states.Used)) → ⊥) → (((state_of o zone ≡ Some states.Used) ↔ (state_of n zone ≡ Some states.Used)) → ⊥) → ⊥) →
    KeepsMarks g v z m o
marks_then g v w z m n o h k numbers once = record {
  inodes = λ number some high. marks_both _ _ _ _ _ _ (λ first second. ⊎_elim (λ (same : SameNumbers v.nodes w.nodes). first (same number)) (λ (same : SameNumbers w.nodes z.nodes). second (same number)) numbers)
      (h.inodes number some high) (k.inodes number some high);
  zones = λ zone low high. marks_both _ _ _ _ _ _ (once zone low high) (h.zones zone low high) (k.zones zone low high);
  others = λ p low high at inode zone. k.others p low high at inode zone ∙ h.others p low high at inode zone;
}

-- ---- nodes that come and go

pub numbers_come : (nodes : List (ℕ × Placed)) (n : ℕ) (q : Placed) → at_number nodes n ≡ None → (number : ℕ) → number ≢ q.number → IsInodeUsed (put_number nodes n q) number ↔ IsInodeUsed nodes number
numbers_come nodes n q none number other = (
  (λ has. elim (cases_eq has.birth n) [
    | inr far ↦ record { birth = has.birth; placed = has.placed; stands = sym (at_put_number_apart nodes n q has.birth far) ∙ has.stands; is = has.is }
    | inl e ↦
        let one : q ≡ has.placed = same_Some q has.placed (sym (at_put_number nodes n q) ∙ (ap (at_number (put_number nodes n q)) (sym e) ∙ has.stands)) in
        absurd (other (sym (ap (λ (q : Placed). q.number) one ∙ has.is)))
  ]),
  (λ has.
      let far : has.birth ≢ n = λ e. none-some has.placed (sym none ∙ (ap (at_number nodes) (sym e) ∙ has.stands)) in
      record { birth = has.birth; placed = has.placed; stands = at_put_number_apart nodes n q has.birth far ∙ has.stands; is = has.is }),
)

pub number_comes : (nodes : List (ℕ × Placed)) (n : ℕ) (q : Placed) → IsInodeUsed (put_number nodes n q) q.number
number_comes nodes n q = record { birth = n; placed = q; stands = at_put_number nodes n q; is = refl }

module _ (nodes : List (ℕ × Placed)) (n : ℕ) (p : Placed) (sorted : IsStrictlySortedBy nat_cmp (keys_of nodes)) (at : at_number nodes n ≡ Some p)
    (once : (a b : ℕ) (p q : Placed) → at_number nodes a ≡ Some p → at_number nodes b ≡ Some q → p.number ≡ q.number → a ≡ b) where
  abbrev rest : List (ℕ × Placed)
  rest = remove_entry (is_at (nat_cmp n)) nodes

  was : (number : ℕ) (has : IsInodeUsed rest number) → (has.birth ≢ n) × (at_number nodes has.birth ≡ Some has.placed)
  was number has = elim (cases_eq has.birth n) [
    | inl e ↦ absurd (none-some has.placed (sym (at_without_here nodes n sorted) ∙ (ap (at_number rest) (sym e) ∙ has.stands)))
    | inr far ↦ (far, sym (at_without_apart nodes n has.birth sorted far) ∙ has.stands)
  ]

  pub number_goes : IsInodeUsed rest p.number → ⊥
  number_goes has = let old = was p.number has in old.0 (once has.birth n has.placed p old.1 at has.is)

  pub numbers_stay : (number : ℕ) → number ≢ p.number → IsInodeUsed rest number ↔ IsInodeUsed nodes number
  numbers_stay number other = (
    (λ has. let old = was number has in record { birth = has.birth; placed = has.placed; stands = old.1; is = has.is }),
    (λ has.
        let far : has.birth ≢ n = λ e. other (sym has.is ∙ ap (λ (p : Placed). p.number) (same_Some has.placed p (sym has.stands ∙ (ap (at_number nodes) e ∙ at)))) in
        record { birth = has.birth; placed = has.placed; stands = at_without_apart nodes n has.birth sorted far ∙ has.stands; is = has.is }),
  )

-- ---- zones that are taken and given

pub marks_taken : (g : Geometry) → IsSound g → (v w : Contents) (m n : Zones) (zs : List ℕ) → IsWhole v.blocks → length v.blocks ≡ g.zones → AreZones g zs → AreTaken m n zs →
    SameMaps g (edited_all g v.blocks (map (zone_bit g true) zs)) w.blocks → SameNumbers v.nodes w.nodes → KeepsMarks g v w m n
marks_taken g sound v w m n zs whole size within h same numbers = marks_zones g sound v w m n true zs whole size within same numbers
    (λ z i. ((λ t. h.now z i), (λ used. refl)))
    (λ z i alike. free_used (sym (h.was z i) ∙ alike.0 (h.now z i)))
    (λ z out. ((λ used. sym (h.others z out) ∙ used), (λ used. h.others z out ∙ used)))

pub marks_given : (tx : ℕ) (g : Geometry) → IsSound g → (v w : Contents) (m n : Zones) (zs : List ℕ) → IsWhole v.blocks → length v.blocks ≡ g.zones → AreZones g zs → AreGiven tx m n zs → ((z : ℕ) → In z zs → state_of m z ≡ Some states.Used) →
    SameMaps g (edited_all g v.blocks (map (zone_bit g false) zs)) w.blocks → SameNumbers v.nodes w.nodes → KeepsMarks g v w m n
marks_given tx g sound v w m n zs whole size within h was same numbers = marks_zones g sound v w m n false zs whole size within same numbers
    (λ z i. ((λ t. absurd (false≢true t)), (λ used. absurd (waits_used (sym (h.now z i) ∙ used)))))
    (λ z i alike. waits_used (sym (h.now z i) ∙ alike.1 (was z i)))
    (λ z out. ((λ used. sym (h.others z out) ∙ used), (λ used. h.others z out ∙ used)))
  where
    waits_used : ◌≡◌ {A = Option ZoneState} (Some (states.Quarantined tx)) (Some states.Used) → ⊥
    waits_used e = cc
