-- What is left after a cut.
use Rattle.std.specs.Prelude.{◌≡◌, ◌≢◌, ℕ, suc, ◌+◌, ◌-◌, ◌*◌, ◌/◌, ◌%◌, ◌^◌, ◌<◌, ◌≤◌, nat_lt, nat_le, nat_eq, Bool, true, false, not, ◌&&◌, ◌||◌, if◌then◌else◌, List, [], ◌∷◌, ◌++◌, length, drop, take, replicate, slice_index, refl, ◌⊎◌}
use Rattle.std.proofs.Common.{sym, ap, subst, ◌∙◌, inl, inr, arith}
use Rattle.std.proofs.lemmas.Bool.{cases_Bool, cases_eq, eqb-true, eqb-false, eq-eqb, ne_eqb, lt-ltb, le-ltb, ltb-true, ltb-false, le-leb, lt-leb, leb-true, leb-false, true≢false}
use Rattle.std.proofs.lemmas.List.{drop_all, drop-replicate, length-take-le, length-replicate, append-nil, get_or_past}
use Rattle.std.proofs.Math.Seq.{drop-append-add}
use Rattle.std.proofs.lemmas.List.FromFn.{get_or-map-range_with_len, length-map-range_with_len}
use Rattle.byteorder.specs.Endian.{little_number}
use Rattle.byte_fields.specs.Fields.{zeros, number_at, number_of, put_bytes}
use Rattle.byte_fields.specs.Fields.Order.{little}
use Rattle.byte_fields.specs.laws.ReadLaws.{length-zeros, length-put_bytes, number_at-put_bytes}
use Rattle.minix_layout.specs.declared.division.Geometry.{Geometry}
use Rattle.minix_layout.specs.declared.inode.Inode.{Inode}
use Rattle.minix_layout.specs.Geometry.{IsSound}
use Rattle.minix_layout.specs.Inodes.{FitInode}
use Rattle.volume_ops.specs.Places.{zone_number}
use Rattle.volume_ops.specs.Volume.{disk_of}
use Rattle.volume_model.specs.Edits.{clear_from, edited, edited_all}
use Rattle.volume_model.specs.Volume.{IsWhole, Place, block, indirect, double, inner, zone_in, IsOfNumbers, at_indirect, at_double, at_inner}
use Rattle.volume_model.specs.laws.Edits.{edited_here, edited_elsewhere}
use Rattle.volume_model.specs.Changes.{Changes}
use Rattle.volume_model.specs.laws.Changes.{changes_then, changes_none}
use Rattle.volume_model.specs.Ways.{Home, slot, entry, nowhere, home, entry_of, OnWay, IsJust}
use Rattle.volume_model.specs.laws.Ways.{home_back, direct, single, twice, past, range, home-direct, home-single, home-twice, home-past, home-inner, Rezoned, rezoned, own_slot, own_none, own_entry}
use Rattle.volume_model.specs.Ways.{place_at}
use Rattle.volume_model.specs.laws.Gets.{cases_place, is_place, same_place, is_itself}
use Rattle.volume_model.specs.MapBlock.{OpenInode, own_of, with_zones}
use Rattle.volume_model.specs.laws.MapBlock.{zones_fit, IsFit, changes_zone, changes_wider, slot_low, entry_low, little_zero, is_slot, home-inner_past}
use Rattle.volume_model.specs.laws.OnWay.{way_up, way_mapped}
use Rattle.volume_model.specs.Cut.{IsKeep, cut_edits, cut_to, cut_zones, cuts}

-- ---- definitions

-- ---- a zone of numbers that is cleared from an entry on

number_cleared : (body : List ℕ) (k n : ℕ) → length body ≡ 1024 → k ≤ n → n < 512 → zone_number (put_bytes (2 * k) (zeros (1024 - 2 * k)) body) n ≡ 0
unfolding put_bytes number_at number_of zeros
number_cleared body k n size from low =
    let zs : List ℕ = replicate (1024 - 2 * k) 0 in
    let count : length zs ≡ 1024 - 2 * k = length-replicate (1024 - 2 * k) 0 in
    let at : length (take (2 * k) body) ≡ 2 * k = length-take-le (2 * k) body (omega arith) in
    ap (λ rest. little_number 2 (drop (2 * n) (take (2 * k) body ++ (zs ++ rest)))) (drop_all (2 * k + length zs) body (omega arith))
    ∙ (ap (λ rest. little_number 2 (drop (2 * n) (take (2 * k) body ++ rest))) (append-nil zs)
    ∙ (ap (λ m. little_number 2 (drop m (take (2 * k) body ++ zs))) (let e : 2 * n ≡ length (take (2 * k) body) + (2 * n - 2 * k) = omega arith in e)
    ∙ (ap (little_number 2) (drop-append-add (take (2 * k) body) zs (2 * n - 2 * k))
    ∙ (ap (little_number 2) (drop-replicate (2 * n - 2 * k) (1024 - 2 * k) 0)
    ∙ little_zero (1024 - 2 * k - (2 * n - 2 * k))))))

number_before : (body : List ℕ) (k n : ℕ) → length body ≡ 1024 → k ≤ 512 → n < k → zone_number (put_bytes (2 * k) (zeros (1024 - 2 * k)) body) n ≡ zone_number body n
number_before body k n size top low =
    let count = length-zeros (1024 - 2 * k) in
    number_at-put_bytes little 2 (2 * n) (2 * k) (zeros (1024 - 2 * k)) body (omega arith) (omega arith) (inl (omega arith))

-- ---- all writes of a cut

abbrev pub is_cut : List (Place × ℕ) → Place → ℕ → Bool
is_cut [] h n = false
is_cut (c ∷ cs) h n = (is_place c.0 h && nat_le c.1 n) || is_cut cs h n

-- an inode's zones as they were, and blocks in which numbers of them go
pub record Keeps (g : Geometry) (own : Place → ℕ) (blocks : List (List ℕ)) : Type 0 where
  pub whole : IsWhole blocks
  pub size : length blocks ≡ g.zones
  pub within : (x : Place) → own x ≢ 0 → (g.first ≤ own x) × (own x < g.zones)
  pub apart : (x y : Place) → own x ≡ own y → own x ≢ 0 → x ≡ y

abbrev pub AreLow : List (Place × ℕ) → Type 0
AreLow [] = Unit {0}
AreLow (c ∷ cs) = (c.1 ≤ 512) × AreLow cs

abbrev pub AreThere : (Place → ℕ) → (Place → Bool) → List (Place × ℕ) → Type 0
AreThere own keeps [] = Unit {0}
AreThere own keeps (c ∷ cs) = IsOfNumbers c.0 × (keeps c.0 ≡ true → own c.0 ≢ 0) × AreThere own keeps cs

module _ (g : Geometry) (sound : IsSound g) (own : Place → ℕ) (keeps : Place → Bool) where
  cleared_changes : (blocks : List (List ℕ)) (h : Place) (k : ℕ) → Keeps g own blocks → own h ≢ 0 → k ≤ 512 →
      Changes g (λ _. ⊥) (λ b. b ≡ own h) blocks (edited g blocks (clear_from (own h) k))
  cleared_changes blocks h k q some low =
      let r = q.within h some in
      let whole = q.whole (own h) in
      let count = length-zeros (1024 - 2 * k) in
      changes_zone g blocks (clear_from (own h) k) sound q.whole q.size r.0 r.1 (length-put_bytes (2 * k) _ _ (omega arith) ∙ whole)

  keeps_next : (blocks after : List (List ℕ)) (Z : ℕ → Type 0) → Keeps g own blocks → Changes g (λ _. ⊥) Z blocks after → Keeps g own after
  keeps_next blocks after Z q c = record { whole = c.whole; size = c.size ∙ q.size; within = q.within; apart = q.apart }

  pub cut_changes : (cs : List (Place × ℕ)) (blocks : List (List ℕ)) → Keeps g own blocks → AreLow cs → AreThere own keeps cs →
      Changes g (λ _. ⊥) (λ b. (h : Place) × IsOfNumbers h × (own h ≢ 0) × (own h ≡ b)) blocks (edited_all g blocks (cut_edits own keeps cs))
  cut_changes [] blocks q low there = changes_wider g (λ j i. i) (λ b n. absurd n) (changes_none g blocks q.whole)
  cut_changes (c ∷ cs) blocks q low there =
      elim (cases_Bool (keeps c.0)) [
        | inr f ↦ rw f (cut_changes cs blocks q low.1 there.2)
        | inl t ↦
            let some = there.1 t in
            let first = cleared_changes blocks c.0 c.1 q some low.0 in
            rw t (changes_wider g (λ j i. elim i [ inl n ↦ n | inr n ↦ n ]) (λ b i. elim i [ inl e ↦ (c.0, there.0, some, sym e) | inr m ↦ m ])
            (changes_then g first (cut_changes cs _ (keeps_next blocks _ _ q first) low.1 there.2)))
      ]

  cut_entries : (cs : List (Place × ℕ)) (blocks : List (List ℕ)) → Keeps g own blocks → AreLow cs → AreThere own keeps cs →
      (h : Place) (n : ℕ) → own h ≢ 0 → keeps h ≡ true → n < 512 →
      entry_of (edited_all g blocks (cut_edits own keeps cs)) (own h) n ≡ (if is_cut cs h n then 0 else entry_of blocks (own h) n)
  cut_entries [] blocks q low there h n some keep below = refl
  cut_entries (c ∷ cs) blocks q low there h n some keep below =
      elim (cases_Bool (keeps c.0)) [
        | inr f ↦
            let differ : is_place c.0 h ≡ false = elim (cases_Bool (is_place c.0 h)) [ inl t ↦ absurd (true≢false (sym keep ∙ (ap keeps (sym (same_place c.0 h t)) ∙ f))) | inr a ↦ a ] in
            rw (f, differ) (cut_entries cs blocks q low.1 there.2 h n some keep below)
        | inl t ↦
            let there_is = there.1 t in
            let first = cleared_changes blocks c.0 c.1 q there_is low.0 in
            let blocks1 = edited g blocks (clear_from (own c.0) c.1) in
            let rest = cut_entries cs blocks1 (keeps_next blocks blocks1 _ q first) low.1 there.2 h n some keep below in
            let inside : own c.0 < length blocks = (let r = q.within c.0 there_is in let size = q.size in let high = r.1 in omega arith) in
            rw t (rest ∙ one (is_cut cs h n) (cases_place c.0 h) (cases_Bool (nat_le c.1 n)) inside)
      ]
    where
      blocks1 : List (List ℕ)
      blocks1 = edited g blocks (clear_from (own c.0) c.1)

      here : own c.0 < length blocks → disk_of blocks1 (own c.0) ≡ put_bytes (2 * c.1) (zeros (1024 - 2 * c.1)) (disk_of blocks (own c.0))
      here inside = edited_here g blocks (clear_from (own c.0) c.1) inside

      one : (later : Bool) → (c.0 ≡ h) ⊎ (c.0 ≢ h) → (nat_le c.1 n ≡ true) ⊎ (nat_le c.1 n ≡ false) → own c.0 < length blocks →
          (if later then 0 else entry_of blocks1 (own h) n) ≡ (if (is_place c.0 h && nat_le c.1 n) || later then 0 else entry_of blocks (own h) n)
      one later (inl e) (inl t) inside =
          let same : is_place c.0 h ≡ true = ap (is_place c.0) (sym e) ∙ is_itself c.0 in
          let gone : entry_of blocks1 (own h) n ≡ 0 = ap (λ h. entry_of blocks1 (own h) n) (sym e) ∙ (ap (λ body. zone_number body n) (here inside) ∙ number_cleared (disk_of blocks (own c.0)) c.1 n (q.whole _) (leb-true _ _ t) below) in
          rw (same, t, gone) (by later)
        where
          by : (later : Bool) → ◌≡◌ {A = ℕ} (if later then 0 else 0) 0
          by true = refl
          by false = refl
      one later (inl e) (inr f) inside =
          let same : is_place c.0 h ≡ true = ap (is_place c.0) (sym e) ∙ is_itself c.0 in
          let stays : entry_of blocks1 (own h) n ≡ entry_of blocks (own h) n =
          ap (λ h. entry_of blocks1 (own h) n) (sym e) ∙ (ap (λ body. zone_number body n) (here inside) ∙ (number_before (disk_of blocks (own c.0)) c.1 n (q.whole _) low.0 (leb-false _ _ f) ∙ ap (λ h. entry_of blocks (own h) n) e)) in
          rw (same, f, stays) refl
      one later (inr a) s inside =
          let differ : is_place c.0 h ≡ false = elim (cases_Bool (is_place c.0 h)) [ inl t ↦ absurd (a (same_place c.0 h t)) | inr f ↦ f ] in
          let stays : entry_of blocks1 (own h) n ≡ entry_of blocks (own h) n =
          ap (λ body. zone_number body n) (edited_elsewhere g blocks (clear_from (own c.0) c.1) (own h) (λ e. a (sym (q.apart h c.0 e some)))) in
          rw (differ, stays) refl

-- ---- which entries go

not_lt : (a b from index : ℕ) → (a ≤ b → from ≤ index) → (from ≤ index → a ≤ b) → nat_le a b ≡ not (nat_lt index from)
not_lt a b from index one two =
    elim (cases_Bool (nat_lt index from)) [
      | inl t ↦ rw t (elim (cases_Bool (nat_le a b)) [
        | inr f ↦ f
        | inl u ↦ absurd (let up = one (leb-true _ _ u) in let low = ltb-true _ _ t in omega arith)
      ])
      | inr f ↦ rw f (le-leb a b (two (ltb-false _ _ f)))
    ]

module _ (own : Place → ℕ) (keeps : Place → Bool) (from : ℕ) (k : IsKeep own from keeps) (just : IsJust own) where
  -- the entry of x goes exactly where x does
  abbrev CutIs : Place → Home → Type 0
  CutIs x (entry h n) = keeps h ≡ true → is_cut (cuts keeps from) h n ≡ not (keeps x)
  CutIs x (slot n) = Unit {0}
  CutIs x nowhere = Unit {0}

  stays : (x : Place) → own x ≢ 0 → ((index : ℕ) → own (block index) ≢ 0 → OnWay x index → index < from) → keeps x ≡ true
  stays x some low = let w = just x some in k.held x w.0 (low w.0 w.1 w.2) w.1 w.2

  cuts-direct : from < 7 → cuts keeps from ≡ []
  cuts-direct low = rw (lt-ltb from 7 low) refl

  cuts-single : 7 ≤ from → from < 519 → cuts keeps from ≡ (indirect, from - 7) ∷ []
  cuts-single low high = rw (le-ltb from 7 low, lt-ltb from 519 high) refl

  abbrev group : ℕ
  group = (from - 519) / 512

  cuts-twice : 519 ≤ from → from < 262663 → cuts keeps from ≡ (inner group, (from - 519) % 512) ∷ (double, if keeps (inner group) then suc group else group) ∷ []
  cuts-twice low high = rw (le-ltb from 7 (omega arith), le-ltb from 519 low, lt-ltb from 262663 high) refl

  cuts-past : 262663 ≤ from → cuts keeps from ≡ []
  cuts-past low = rw (le-ltb from 7 (omega arith), le-ltb from 519 (omega arith), le-ltb from 262663 low) refl

  -- nothing is cut in a zone of numbers whose blocks all stay
  none_cut : (x h : Place) (n : ℕ) → is_cut (cuts keeps from) h n ≡ false → keeps x ≡ true → is_cut (cuts keeps from) h n ≡ not (keeps x)
  none_cut x h n out keep = out ∙ ap not (sym keep)

  block_keeps : (index : ℕ) → index < from → keeps (block index) ≡ true
  block_keeps index low = k.blocks index ∙ lt-ltb index from low

  cut_single : (index : ℕ) → 7 ≤ index → index < 519 → keeps indirect ≡ true → is_cut (cuts keeps from) indirect (index - 7) ≡ not (keeps (block index))
  cut_single index low high keep =
      let w = k.kept indirect at_indirect keep in
      let near = w.1 in
      let on = w.3 in
      let on_low = on.0 in
      elim (range from) [
        | direct f ↦ absurd (omega arith)
        | single f t ↦
            ap (λ cs. is_cut cs indirect (index - 7)) (cuts-single f t)
            ∙ (or_false (nat_le (from - 7) (index - 7)) ∙ (not_lt (from - 7) (index - 7) from index (λ e. omega arith) (λ e. omega arith) ∙ ap not (sym (k.blocks index))))
        | twice f t ↦ none_cut (block index) indirect (index - 7) (ap (λ cs. is_cut cs indirect (index - 7)) (cuts-twice f t)) (block_keeps index (omega arith))
        | past f ↦ none_cut (block index) indirect (index - 7) (ap (λ cs. is_cut cs indirect (index - 7)) (cuts-past f)) (block_keeps index (omega arith))
      ]
    where
      or_false : (b : Bool) → ((true && b) || false) ≡ b
      or_false true = refl
      or_false false = refl

  cut_twice : (index : ℕ) → 519 ≤ index → index < 262663 → keeps (inner ((index - 519) / 512)) ≡ true → is_cut (cuts keeps from) (inner ((index - 519) / 512)) ((index - 519) % 512) ≡ not (keeps (block index))
  cut_twice index low high keep =
      let w = k.kept (inner ((index - 519) / 512)) at_inner keep in
      let near = w.1 in
      let on = w.3 in
      let on_low = on.0 in
      let on_group = on.2 in
      let h = inner ((index - 519) / 512) in
      let n = (index - 519) % 512 in
      elim (range from) [
        | direct f ↦ absurd (omega arith)
        | single f t ↦ absurd (omega arith)
        | twice f t ↦ ap (λ cs. is_cut cs h n) (cuts-twice f t) ∙ elim (cases_eq group ((index - 519) / 512)) [
          | inl e ↦
              ap (λ b. (b && nat_le ((from - 519) % 512) n) || false) (eq-eqb group ((index - 519) / 512) e)
              ∙ (or_false (nat_le ((from - 519) % 512) n) ∙ (not_lt ((from - 519) % 512) n from index (λ u. omega arith) (λ u. omega arith) ∙ ap not (sym (k.blocks index))))
          | inr a ↦
              ap (λ b. (b && nat_le ((from - 519) % 512) n) || false) (ne_eqb group ((index - 519) / 512) a)
              ∙ ap not (sym (block_keeps index (omega arith)))
        ]
        | past f ↦ none_cut (block index) h n (ap (λ cs. is_cut cs h n) (cuts-past f)) (block_keeps index (omega arith))
      ]
    where
      or_false : (b : Bool) → ((true && b) || false) ≡ b
      or_false true = refl
      or_false false = refl

  cut_inner : (j : ℕ) → own (inner j) ≢ 0 → keeps double ≡ true → is_cut (cuts keeps from) double j ≡ not (keeps (inner j))
  cut_inner j some keep =
      let w = k.kept double at_double keep in
      let near = w.1 in
      let on = w.3 in
      let on_low = on.0 in
      elim (range from) [
        | direct f ↦ absurd (omega arith)
        | single f t ↦ absurd (omega arith)
        | twice f t ↦ ap (λ cs. is_cut cs double j) (cuts-twice f t) ∙ (or_false _ ∙ at_group f t (cases_Bool (keeps (inner group))) (cases_Bool (keeps (inner j))))
        | past f ↦ none_cut (inner j) double j (ap (λ cs. is_cut cs double j) (cuts-past f)) (stays (inner j) some (λ index _ on. (let high = on.1 in omega arith)))
      ]
    where
      or_false : (b : Bool) → ((true && b) || false) ≡ b
      or_false true = refl
      or_false false = refl

      at_group : 519 ≤ from → from < 262663 → (keeps (inner group) ≡ true) ⊎ (keeps (inner group) ≡ false) → (keeps (inner j) ≡ true) ⊎ (keeps (inner j) ≡ false) →
          nat_le (if keeps (inner group) then suc group else group) j ≡ not (keeps (inner j))
      at_group f t (inl s) (inl u) =
          let w = k.kept (inner j) at_inner u in
          let near = w.1 in
          let on = w.3 in
          let on_low = on.0 in
          let on_group = on.2 in
          rw (s, u) (lt-leb (suc group) j (omega arith))
      at_group f t (inl s) (inr u) =
          rw (s, u) (le-leb (suc group) j (beyond (cases_eq j group) (cases_Bool (nat_lt j group))))
        where
          beyond : (j ≡ group) ⊎ (j ≢ group) → (nat_lt j group ≡ true) ⊎ (nat_lt j group ≡ false) → suc group ≤ j
          beyond (inl e) v = absurd (true≢false (sym (ap (λ j. keeps (inner j)) e ∙ s) ∙ u))
          beyond (inr a) (inr v) = let low = ltb-false _ _ v in omega arith
          beyond (inr a) (inl v) = absurd (true≢false (sym (stays (inner j) some (λ index _ on. (let on_low = on.0 in let on_group = on.2 in let low = ltb-true _ _ v in omega arith))) ∙ u))
      at_group f t (inr s) (inl u) =
          let w = k.kept (inner j) at_inner u in
          let near = w.1 in
          let on = w.3 in
          let on_low = on.0 in
          let on_group = on.2 in
          rw (s, u) (lt-leb group j (before (cases_eq j group)))
        where
          before : (j ≡ group) ⊎ (j ≢ group) → j < group
          before (inl e) = absurd (true≢false (sym u ∙ (ap (λ j. keeps (inner j)) e ∙ s)))
          before (inr a) = let w = k.kept (inner j) at_inner u in let near = w.1 in let on = w.3 in let on_low = on.0 in let on_group = on.2 in omega arith
      at_group f t (inr s) (inr u) =
          rw (s, u) (le-leb group j (beyond (cases_Bool (nat_lt j group))))
        where
          beyond : (nat_lt j group ≡ true) ⊎ (nat_lt j group ≡ false) → group ≤ j
          beyond (inr v) = ltb-false _ _ v
          beyond (inl v) = absurd (true≢false (sym (stays (inner j) some (λ index _ on. (let on_low = on.0 in let on_group = on.2 in let low = ltb-true _ _ v in omega arith))) ∙ u))

  cut_is : (x : Place) → own x ≢ 0 → CutIs x (home x)
  cut_is (block index) some =
      elim (range index) [
        | direct low ↦ subst (CutIs (block index)) (sym (home-direct index low)) tt
        | single low high ↦ subst (CutIs (block index)) (sym (home-single index low high)) (cut_single index low high)
        | twice low high ↦ subst (CutIs (block index)) (sym (home-twice index low high)) (cut_twice index low high)
        | past low ↦ subst (CutIs (block index)) (sym (home-past index low)) tt
      ]
  cut_is indirect some = tt
  cut_is double some = tt
  cut_is (inner j) some =
      elim (cases_Bool (nat_lt j 512)) [
        | inl t ↦ subst (CutIs (inner j)) (sym (home-inner j (ltb-true _ _ t))) (cut_inner j some)
        | inr f ↦ subst (CutIs (inner j)) (sym (home-inner_past j (ltb-false _ _ f))) tt
      ]

  pub cut_tells : (x h : Place) (n : ℕ) → home x ≡ entry h n → own x ≢ 0 → keeps h ≡ true → is_cut (cuts keeps from) h n ≡ not (keeps x)
  cut_tells x h n at some = subst (CutIs x) at (cut_is x some)

-- ---- cut_to as a whole

pub record CutOutcome (g : Geometry) (keeps : Place → Bool) (s u : OpenInode) : Type 0 where
  pub fit : IsFit g u
  pub cut : (x : Place) → own_of u x ≡ (if keeps x then own_of s x else 0)
  pub just : IsJust (own_of u)
  pub changes : Changes g (λ _. ⊥) (λ b. (h : Place) × IsOfNumbers h × (own_of s h ≢ 0) × (own_of s h ≡ b)) s.blocks u.blocks

module _ (g : Geometry) (sound : IsSound g) (s : OpenInode) (from : ℕ) (keeps : Place → Bool) (k : IsKeep (own_of s) from keeps) (fit : IsFit g s) (just : IsJust (own_of s)) where
  abbrev own : Place → ℕ
  own = own_of s

  abbrev want : Place → ℕ
  want x = if keeps x then own x else 0

  -- why a place stays
  reason : (x : Place) → own x ≢ 0 → keeps x ≡ true → (index : ℕ) × (index < from) × (own (block index) ≢ 0) × OnWay x index
  reason (block i) some keep = let w = just (block i) some in (i, ltb-true i from (sym (k.blocks i) ∙ keep), some, (refl, (let on = w.2 in let e = on.0 in let high = on.1 in omega arith)))
  reason indirect some keep = k.kept indirect at_indirect keep
  reason double some keep = k.kept double at_double keep
  reason (inner j) some keep = k.kept (inner j) at_inner keep

  of_numbers : (x : Place) → IsOfNumbers x → keeps x ≡ true → own x ≢ 0
  of_numbers x n keep = let w = k.kept x n keep in way_mapped s.blocks s.inode fit.whole x w.0 w.3 w.2

  keeping : Keeps g own s.blocks
  keeping = record { whole = fit.whole; size = fit.size; within = fit.within; apart = fit.apart }

  low_cuts : AreLow (cuts keeps from)
  low_cuts =
      elim (range from) [
        | direct low ↦ subst AreLow (sym (cuts-direct own keeps from k just low)) tt
        | single low high ↦ subst AreLow (sym (cuts-single own keeps from k just low high)) ((let e : from - 7 ≤ 512 = omega arith in e), tt)
        | twice low high ↦ subst AreLow (sym (cuts-twice own keeps from k just low high)) ((let e : (from - 519) % 512 ≤ 512 = omega arith in e), (by (keeps (inner ((from - 519) / 512))) low high, tt))
        | past low ↦ subst AreLow (sym (cuts-past own keeps from k just low)) tt
      ]
    where
      by : (b : Bool) → 519 ≤ from → from < 262663 → (if b then suc ((from - 519) / 512) else (from - 519) / 512) ≤ 512
      by true low high = omega arith
      by false low high = omega arith

  pub there_cuts : AreThere own keeps (cuts keeps from)
  there_cuts =
      elim (range from) [
        | direct low ↦ subst (AreThere own keeps) (sym (cuts-direct own keeps from k just low)) tt
        | single low high ↦ subst (AreThere own keeps) (sym (cuts-single own keeps from k just low high)) (at_indirect, of_numbers indirect at_indirect, tt)
        | twice low high ↦ subst (AreThere own keeps) (sym (cuts-twice own keeps from k just low high)) (at_inner, of_numbers (inner ((from - 519) / 512)) at_inner, (at_double, of_numbers double at_double, tt))
        | past low ↦ subst (AreThere own keeps) (sym (cuts-past own keeps from k just low)) tt
      ]

  abbrev blocks_cut : List (List ℕ)
  blocks_cut = edited_all g s.blocks (cut_edits own keeps (cuts keeps from))

  abbrev inode_cut : Inode
  inode_cut = with_zones s.inode (cut_zones keeps s.inode.zones)

  changes_cut : Changes g (λ _. ⊥) (λ b. (h : Place) × IsOfNumbers h × (own h ≢ 0) × (own h ≡ b)) s.blocks blocks_cut
  changes_cut = cut_changes g sound own keeps (cuts keeps from) s.blocks keeping low_cuts there_cuts

  want_some : (x : Place) → want x ≢ 0 → (keeps x ≡ true) × (want x ≡ own x)
  want_some x some = elim (cases_Bool (keeps x)) [ inl t ↦ (t, rw t refl) | inr f ↦ absurd (some (rw f refl)) ]

  cut_rezoned : Rezoned want blocks_cut inode_cut
  cut_rezoned = record {
    slots = λ x n at.
        let back : place_at (slot n) ≡ x = ap place_at (sym at) ∙ home_back x (λ none. true≢false (ap is_slot (sym at ∙ none))) in
        get_or-map-range_with_len (λ k. if keeps (place_at (slot k)) then slice_index s.inode.zones k else 0) 0 9 n n _ (slot_low x n at) (omega arith)
        ∙ (ap (λ p. if keeps p then slice_index s.inode.zones n else 0) back
        ∙ ap (λ z. if keeps x then z else 0) (own_slot s.blocks s.inode fit.whole x n at));
    entries = λ x h n at some.
        let w = want_some h some in
        let there : own h ≢ 0 = λ none. some (w.1 ∙ none) in
        let old = own_entry s.blocks s.inode fit.whole x h n at there in
        ap (λ z. entry_of blocks_cut z n) w.1
        ∙ (cut_entries g sound own keeps (cuts keeps from) s.blocks keeping low_cuts there_cuts h n there w.0 (entry_low x h n at)
        ∙ (ap (λ z. if is_cut (cuts keeps from) h n then 0 else z) old
        ∙ elim (cases_Bool (nat_eq (own x) 0)) [
          | inl z ↦ ap (λ z. if is_cut (cuts keeps from) h n then 0 else z) (eqb-true _ _ z) ∙ (both (is_cut (cuts keeps from) h n) ∙ (sym (both' (keeps x)) ∙ ap (λ z. if keeps x then z else 0) (sym (eqb-true _ _ z))))
          | inr m ↦ ap (λ b. if b then 0 else own x) (cut_tells own keeps from k just x h n at (eqb-false _ _ m) w.0) ∙ turned (keeps x) (own x)
        ]));
    behind = λ x h n at none. elim (cases_Bool (keeps x)) [
      | inr f ↦ rw f refl
      | inl t ↦ elim (cases_Bool (nat_eq (own x) 0)) [
        | inl z ↦ rw t (eqb-true _ _ z)
        | inr m ↦
            let w = reason x (eqb-false _ _ m) t in
            let up = way_up x h n w.0 at w.3 in
            let keep : keeps h ≡ true = k.held h w.0 w.1 w.2 up in
            absurd (way_mapped s.blocks s.inode fit.whole h w.0 up w.2 (rw keep at none))
      ]
    ];
    none = λ x at. ap (λ z. if keeps x then z else 0) (own_none s.blocks s.inode fit.whole x at) ∙ both' (keeps x);
  }
    where
      both : (b : Bool) → ◌≡◌ {A = ℕ} (if b then 0 else 0) 0
      both true = refl
      both false = refl

      both' : (b : Bool) → ◌≡◌ {A = ℕ} (if b then 0 else 0) 0
      both' true = refl
      both' false = refl

      turned : (b : Bool) (v : ℕ) → (if not b then 0 else v) ≡ (if b then v else 0)
      turned true v = refl
      turned false v = refl

  cut_as : (x : Place) → zone_in blocks_cut inode_cut x ≡ want x
  cut_as = rezoned want blocks_cut inode_cut changes_cut.whole cut_rezoned

  fits_cut : FitInode inode_cut
  fits_cut =
      zones_fit s.inode (cut_zones keeps s.inode.zones) fit.fits (length-map-range_with_len (λ k. if keeps (place_at (slot k)) then slice_index s.inode.zones k else 0) 0 9)
      (λ n. elim (cases_Bool (nat_lt n 9)) [
        | inl t ↦ subst (λ v. v < 2 ^ 16) (sym (get_or-map-range_with_len (λ k. if keeps (place_at (slot k)) then slice_index s.inode.zones k else 0) 0 9 n n _ (ltb-true _ _ t) (omega arith))) (less (keeps (place_at (slot n))) (slice_index s.inode.zones n) (fit.fits.zones n))
        | inr t ↦ subst (λ v. v < 2 ^ 16) (sym (past_end n (ltb-false _ _ t))) (omega arith)
      ])
    where
      less : (b : Bool) (v : ℕ) → v < 2 ^ 16 → (if b then v else 0) < 2 ^ 16
      less true v low = low
      less false v low = omega arith

      past_end : (n : ℕ) → 9 ≤ n → slice_index (cut_zones keeps s.inode.zones) n ≡ 0
      past_end n far = get_or_past (cut_zones keeps s.inode.zones) n 0 (let nine = length-map-range_with_len (λ k. if keeps (place_at (slot k)) then slice_index s.inode.zones k else 0) 0 9 in omega arith)

  -- What a cut leaves: each place that stays keeps its zone, all others have none.
  pub cut_block : CutOutcome g keeps s (cut_to g keeps s from)
  unfolding cut_to
  cut_block = record {
    fit = record {
      whole = changes_cut.whole;
      size = changes_cut.size ∙ fit.size;
      fits = fits_cut;
      within = λ x some.
          let w = want_some x (λ none. some (cut_as x ∙ none)) in
          let same : zone_in blocks_cut inode_cut x ≡ own x = cut_as x ∙ w.1 in
          subst (λ v. (g.first ≤ v) × (v < g.zones)) (sym same) (fit.within x (λ none. some (same ∙ none)));
      apart = λ x y same some.
          let w = want_some x (λ none. some (cut_as x ∙ none)) in
          let v = want_some y (λ none. some (same ∙ (cut_as y ∙ none))) in
          let one : zone_in blocks_cut inode_cut x ≡ own x = cut_as x ∙ w.1 in
          fit.apart x y (sym one ∙ (same ∙ (cut_as y ∙ v.1))) (λ none. some (one ∙ none));
    };
    cut = cut_as;
    just = λ x some.
        let w = want_some x (λ none. some (cut_as x ∙ none)) in
        let there : own x ≢ 0 = λ none. some (cut_as x ∙ (w.1 ∙ none)) in
        let r = reason x there w.0 in
        let keep : keeps (block r.0) ≡ true = k.blocks r.0 ∙ lt-ltb r.0 from r.1 in
        let same : want (block r.0) ≡ own (block r.0) = rw keep refl in
        (r.0, (λ none. r.2 (sym same ∙ (sym (cut_as (block r.0)) ∙ none))), r.3);
    changes = changes_cut;
  }
