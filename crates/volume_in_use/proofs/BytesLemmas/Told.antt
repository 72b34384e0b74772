-- The zones of numbers that are written where a block of a file is mapped, one by one.
use Rattle.std.specs.Prelude.{◌≡◌, ◌≢◌, ℕ, ◌-◌, ◌/◌, ◌%◌, ◌<◌, ◌≤◌, nat_eq, ◌==◌, Bool, true, false, not, if◌then◌else◌, List, [], ◌∷◌, ◌++◌, length, map, filter, Some, refl}
use Rattle.std.proofs.Common.{sym, ap, subst, ◌∙◌, inl, inr, ⊎_elim, arith}
use Rattle.std.proofs.lemmas.Bool.{cases_Bool, eqb-true, eqb-false, eq-eqb, ne_eqb, lt-ltb, le-ltb}
use Rattle.blk_base.specs.Members.{In}
use Rattle.minix_layout.specs.declared.division.Geometry.{Geometry}
use Rattle.minix_layout.specs.Geometry.{IsSound}
use Rattle.tree_model.specs.Maps.{at_number}
use Rattle.volume_ops.specs.declared.found.Mapped.{Mapped}
use Rattle.volume_model.specs.declared.placed.Placed.{Placed}
use Rattle.volume_model.specs.declared.placed.Part.TheVariants as parts
use Rattle.volume_model.specs.Edits.{Edit, touched_by, touched_by_all}
use Rattle.volume_model.specs.MapBlock.{OpenInode, TakenZones, own_of, taken_at, get_step, step_edits, all_edits, entry_edits}
use Rattle.volume_model.specs.Moves.{IsVolume, AreFree}
use Rattle.volume_model.specs.Touched.{Contents}
use Rattle.volume_model.specs.Volume.{Place, block, indirect, double, inner, zone_in}
use Rattle.volume_model.specs.Ways.{slot, entry, home, way}
use Rattle.volume_model.specs.laws.MapBlock.{Got, IsFit, IsFresh, IsReached, one_step, fresh_rest, there_now, next_reached}
use Rattle.volume_model.specs.laws.MapTells.{fresh}
use Rattle.volume_model.specs.laws.OnWay.{way-direct, way-single, way-twice}
use Rattle.volume_model.specs.laws.Ways.{direct, single, twice, past, range, home-direct, home-single, home-twice, home-inner}
use Rattle.volume_model.specs.laws.ZoneMoves.{fit_before}
use Rattle.volume_steps.specs.Now.{VolumeNow, written}
use Rattle.volume_steps.specs.Plain.{IsInUse}
use Rattle.volume_steps.specs.Zones.{TakenFor, take_zones, zone_bit}
use Rattle.volume_steps.proofs.Bits.{ChangesNone}
use Rattle.volume_steps.proofs.TakeZones.{marks_change_none, volume_marked, own_marked, free_marked}
use Rattle.volume_steps.proofs.Taking.{frees}
use Rattle.volume_in_use.specs.bytes.code.Work.{held, single_told, outer_told, second_told, numbers_told}

-- ---- lists

touched_append : (g : Geometry) (es fs : List Edit) → touched_by_all g (es ++ fs) ≡ touched_by_all g es ++ touched_by_all g fs
touched_append g [] fs = refl
touched_append g (e ∷ es) fs = ap (λ (bs : List ℕ). touched_by g e ∷ bs) (touched_append g es fs)

touched_last : (g : Geometry) (es : List Edit) → touched_by_all g (es ++ []) ≡ touched_by_all g es
touched_last g [] = refl
touched_last g (e ∷ es) = ap (λ (bs : List ℕ). touched_by g e ∷ bs) (touched_last g es)

-- those that are not left out stay in front
filter_front : (d : ℕ) (xs ys : List ℕ) → ((x : ℕ) → In x xs → x ≢ d) → filter (λ b. not (b == d)) (xs ++ ys) ≡ xs ++ filter (λ b. not (b == d)) ys
filter_front d [] ys apart = refl
filter_front d (x ∷ xs) ys apart = rw (ne_eqb x d (apart x (inl refl))) (ap (λ (zs : List ℕ). x ∷ zs) (filter_front d xs ys (λ y i. apart y (inr i))))

filter_last : (d z : ℕ) → z ≢ d → filter (λ b. not (b == d)) (d ∷ z ∷ []) ≡ z ∷ []
filter_last d z apart = rw (eq-eqb d d refl, ne_eqb z d apart) refl

-- ---- one place

module _ (g : Geometry) (t : TakenZones) (content : List ℕ) where
  touched_slot : (s : OpenInode) (x : Place) (k : ℕ) → home x ≡ slot k → touched_by_all g (step_edits t content s x) ≡ (if nat_eq (own_of s x) 0 then taken_at t x ∷ [] else [])
  touched_slot s x k at = elim (cases_Bool (nat_eq (own_of s x) 0)) [
    | inl y ↦ rw y (ap (λ h. taken_at t x ∷ touched_by_all g (entry_edits s h (taken_at t x))) at)
    | inr n ↦ rw n refl
  ]

  touched_entry : (s : OpenInode) (x h : Place) (k : ℕ) → home x ≡ entry h k → touched_by_all g (step_edits t content s x) ≡ (if nat_eq (own_of s x) 0 then taken_at t x ∷ own_of s h ∷ [] else [])
  touched_entry s x h k at = elim (cases_Bool (nat_eq (own_of s x) 0)) [
    | inl y ↦ rw y (ap (λ h. taken_at t x ∷ touched_by_all g (entry_edits s h (taken_at t x))) at)
    | inr n ↦ rw n refl
  ]

  -- the block itself, which has no zone
  touched_block : (u : OpenInode) (index k z : ℕ) (h : Place) → home (block index) ≡ entry h k → own_of u (block index) ≡ 0 → own_of u h ≡ z → touched_by_all g (step_edits t content u (block index)) ≡ t.data_zone ∷ z ∷ []
  touched_block u index k z h at gap is =
      touched_entry u (block index) h k at
      ∙ (ap (λ (b : Bool). if b then t.data_zone ∷ own_of u h ∷ [] else []) (eq-eqb (own_of u (block index)) 0 gap)
      ∙ ap (λ (z : ℕ). t.data_zone ∷ z ∷ []) is)

held_now : (own next : Place → ℕ) (t : TakenZones) (x : Place) → Got own next t (x ∷ []) → next x ≡ held own t x
held_now own next t x got = elim (cases_Bool (nat_eq (own x) 0)) [
  | inl y ↦ rw y (got.taken x (inl refl) (eqb-true _ _ y))
  | inr n ↦ rw n (got.kept x (eqb-false _ _ n))
]

single_as : (own : Place → ℕ) (t : TakenZones) → (if nat_eq (own indirect) 0 then t.outer ∷ [] else []) ++ held own t indirect ∷ [] ≡ single_told own t
unfolding single_told
single_as own t = elim (cases_Bool (nat_eq (own indirect) 0)) [ inl y ↦ rw y refl | inr n ↦ rw n refl ]

second_as : (own : Place → ℕ) (t : TakenZones) (j : ℕ) → (if nat_eq (own (inner j)) 0 then t.second ∷ held own t double ∷ [] else []) ++ held own t (inner j) ∷ [] ≡ second_told own t j
unfolding second_told
second_as own t j = elim (cases_Bool (nat_eq (own (inner j)) 0)) [ inl y ↦ rw y refl | inr n ↦ rw n refl ]

-- ---- the way to a block

module _ (g : Geometry) (sound : IsSound g) (t : TakenZones) (content : List ℕ) (size : length content ≡ 1024) (s : OpenInode) (fit : IsFit g s) (index : ℕ) (gap : own_of s (block index) ≡ 0) where
  abbrev own : Place → ℕ
  own x = own_of s x

  abbrev rest : List ℕ → List ℕ
  rest bs = filter (λ b. not (b == t.data_zone)) bs

  -- no other place has the zone of the block
  taken_apart : (xs : List Place) → IsFresh g own t xs → In (block index) xs → (x : Place) → In x xs → x ≢ block index → own x ≡ 0 → taken_at t x ≢ t.data_zone
  taken_apart xs f mine x i other none same = other (f.differ x (block index) i mine none gap same)

  held_apart : (xs : List Place) → IsFresh g own t xs → In (block index) xs → (x : Place) → In x xs → x ≢ block index → held own t x ≢ t.data_zone
  held_apart xs f mine x i other = elim (cases_Bool (nat_eq (own x) 0)) [
    | inl y ↦ rw y (taken_apart xs f mine x i other (eqb-true _ _ y))
    | inr n ↦ rw n (f.fresh (block index) x mine gap)
  ]

  if_apart : (b : Bool) (xs : List ℕ) → ((x : ℕ) → In x xs → b ≡ true → x ≢ t.data_zone) → (x : ℕ) → In x (if b then xs else []) → x ≢ t.data_zone
  if_apart true xs h x i = h x i refl
  if_apart false xs h x i = absurd i

  top : (x : Place) (k : ℕ) → home x ≡ slot k → IsReached own x
  top x k at = record { placed = λ none. cc (sym at ∙ none); there = λ h j is none. cc (sym at ∙ is) }

  told_direct : (k : ℕ) → home (block index) ≡ slot k → rest (touched_by_all g (all_edits g t content s (block index ∷ []))) ≡ []
  told_direct k at =
      let list : touched_by_all g (all_edits g t content s (block index ∷ [])) ≡ t.data_zone ∷ [] =
      touched_last g (step_edits t content s (block index)) ∙ (touched_slot g t content s (block index) k at ∙ ap (λ (b : Bool). if b then t.data_zone ∷ [] else []) (eq-eqb (own (block index)) 0 gap)) in
      ap rest list ∙ none_left
    where
      none_left : rest (t.data_zone ∷ []) ≡ []
      none_left = rw (eq-eqb t.data_zone t.data_zone refl) refl

  told_single : (k : ℕ) → home (block index) ≡ entry indirect k → IsFresh g own t (indirect ∷ block index ∷ []) → rest (touched_by_all g (all_edits g t content s (indirect ∷ block index ∷ []))) ≡ single_told own t
  told_single k at f =
      let xs : List Place = indirect ∷ block index ∷ [] in
      let u = get_step g t content s indirect in
      let one = one_step g sound t content size s indirect (block index ∷ []) fit f (top indirect 7 refl) in
      let hole : own_of u (block index) ≡ 0 = one.got.others (block index) (λ i. ⊎_elim (λ e. cc e) (λ z. z) i) ∙ gap in
      let z = held own t indirect in
      let first : List ℕ = if nat_eq (own indirect) 0 then t.outer ∷ [] else [] in
      let list : touched_by_all g (all_edits g t content s xs) ≡ first ++ t.data_zone ∷ z ∷ [] =
      touched_append g (step_edits t content s indirect) (step_edits t content u (block index) ++ [])
      ∙ (ap (λ (bs : List ℕ). bs ++ touched_by_all g (step_edits t content u (block index) ++ [])) (touched_slot g t content s indirect 7 refl)
      ∙ ap (λ (bs : List ℕ). first ++ bs) (touched_last g (step_edits t content u (block index)) ∙ touched_block g t content u index k z indirect at hole (held_now own (own_of u) t indirect one.got))) in
      let apart = held_apart xs f (inr (inl refl)) indirect (inl refl) (λ e. cc e) in
      ap rest list
      ∙ (filter_front t.data_zone first (t.data_zone ∷ z ∷ [])
      (if_apart (nat_eq (own indirect) 0) (t.outer ∷ []) (λ x i y. ⊎_elim (λ e. subst (λ x. x ≢ t.data_zone) e (taken_apart xs f (inr (inl refl)) indirect (inl refl) (λ e. cc e) (eqb-true _ _ y))) (λ z. absurd z) i))
      ∙ (ap (λ (bs : List ℕ). first ++ bs) (filter_last t.data_zone z apart) ∙ single_as own t))

  told_twice : (j k : ℕ) → home (inner j) ≡ entry double j → home (block index) ≡ entry (inner j) k → IsFresh g own t (double ∷ inner j ∷ block index ∷ []) →
      rest (touched_by_all g (all_edits g t content s (double ∷ inner j ∷ block index ∷ []))) ≡ outer_told own t ++ second_told own t j
  unfolding outer_told
  told_twice j k below at f =
      let xs : List Place = double ∷ inner j ∷ block index ∷ [] in
      let u = get_step g t content s double in
      let one = one_step g sound t content size s double (inner j ∷ block index ∷ []) fit f (top double 8 refl) in
      let now = there_now g sound t content size s u double (inner j ∷ block index ∷ []) f one.got in
      let w = get_step g t content u (inner j) in
      let two = one_step g sound t content size u (inner j) (block index ∷ []) one.fit (fresh_rest g sound t content size s u double (inner j ∷ block index ∷ []) f one.got) (next_reached g sound t content size u double (inner j) j below now) in
      let same : own_of u (inner j) ≡ own (inner j) = one.got.others (inner j) (λ i. ⊎_elim (λ e. cc e) (λ z. z) i) in
      let hole : own_of w (block index) ≡ 0 = two.got.others (block index) (λ i. ⊎_elim (λ e. cc e) (λ z. z) i) ∙ (one.got.others (block index) (λ i. ⊎_elim (λ e. cc e) (λ z. z) i) ∙ gap) in
      let y = held own t double in
      let z = held own t (inner j) in
      let at_double : own_of u double ≡ y = held_now own (own_of u) t double one.got in
      let at_inner : own_of w (inner j) ≡ z = held_now (own_of u) (own_of w) t (inner j) two.got ∙ ap (λ (k : ℕ). if nat_eq k 0 then t.second else k) same in
      let first : List ℕ = if nat_eq (own double) 0 then t.outer ∷ [] else [] in
      let second : List ℕ = if nat_eq (own (inner j)) 0 then t.second ∷ y ∷ [] else [] in
      let middle : touched_by_all g (step_edits t content u (inner j)) ≡ second =
      touched_entry g t content u (inner j) double j below
      ∙ (ap (λ (k : ℕ). if nat_eq k 0 then t.second ∷ own_of u double ∷ [] else []) same ∙ ap (λ (k : ℕ). if nat_eq (own (inner j)) 0 then t.second ∷ k ∷ [] else []) at_double) in
      let list : touched_by_all g (all_edits g t content s xs) ≡ first ++ (second ++ t.data_zone ∷ z ∷ []) =
      touched_append g (step_edits t content s double) (step_edits t content u (inner j) ++ (step_edits t content w (block index) ++ []))
      ∙ (ap (λ (bs : List ℕ). bs ++ touched_by_all g (step_edits t content u (inner j) ++ (step_edits t content w (block index) ++ []))) (touched_slot g t content s double 8 refl)
      ∙ ap (λ (bs : List ℕ). first ++ bs) (touched_append g (step_edits t content u (inner j)) (step_edits t content w (block index) ++ [])
      ∙ (ap (λ (bs : List ℕ). bs ++ touched_by_all g (step_edits t content w (block index) ++ [])) middle
      ∙ ap (λ (bs : List ℕ). second ++ bs) (touched_last g (step_edits t content w (block index)) ∙ touched_block g t content w index k z (inner j) at hole at_inner)))) in
      let mine : In (block index) xs = inr (inr (inl refl)) in
      let outer_apart = λ (none : own double ≡ 0). taken_apart xs f mine double (inl refl) (λ e. cc e) none in
      let double_apart = held_apart xs f mine double (inl refl) (λ e. cc e) in
      let inner_apart = held_apart xs f mine (inner j) (inr (inl refl)) (λ e. cc e) in
      let second_apart = λ (none : own (inner j) ≡ 0). taken_apart xs f mine (inner j) (inr (inl refl)) (λ e. cc e) none in
      ap rest list
      ∙ (filter_front t.data_zone first (second ++ t.data_zone ∷ z ∷ [])
      (if_apart (nat_eq (own double) 0) (t.outer ∷ []) (λ x i b. ⊎_elim (λ e. subst (λ x. x ≢ t.data_zone) e (outer_apart (eqb-true _ _ b))) (λ z. absurd z) i))
      ∙ ap (λ (bs : List ℕ). first ++ bs) (filter_front t.data_zone second (t.data_zone ∷ z ∷ [])
      (if_apart (nat_eq (own (inner j)) 0) (t.second ∷ y ∷ []) (λ x i b. ⊎_elim (λ e. subst (λ x. x ≢ t.data_zone) e (second_apart (eqb-true _ _ b)))
      (λ i. ⊎_elim (λ e. subst (λ x. x ≢ t.data_zone) e double_apart) (λ z. absurd z) i) i))
      ∙ (ap (λ (bs : List ℕ). second ++ bs) (filter_last t.data_zone z inner_apart) ∙ second_as own t j)))

  told_way : index < 262663 → IsFresh g own t (way index) → rest (touched_by_all g (all_edits g t content s (way index))) ≡ numbers_told own t index
  told_way high f = elim (range index) [
    | direct low ↦
        let none : numbers_told own t index ≡ [] = rw (lt-ltb index 7 low) refl in
        ap (λ xs. rest (touched_by_all g (all_edits g t content s xs))) (way-direct index low) ∙ (told_direct index (home-direct index low) ∙ sym none)
    | single low up ↦
        let by : numbers_told own t index ≡ single_told own t = rw (le-ltb index 7 low, lt-ltb index 519 up) refl in
        ap (λ xs. rest (touched_by_all g (all_edits g t content s xs))) (way-single index low up)
        ∙ (told_single (index - 7) (home-single index low up) (subst (IsFresh g own t) (way-single index low up) f) ∙ sym by)
    | twice low up ↦
        let by : numbers_told own t index ≡ outer_told own t ++ second_told own t ((index - 519) / 512) = rw (le-ltb index 7 (omega arith), le-ltb index 519 low) refl in
        ap (λ xs. rest (touched_by_all g (all_edits g t content s xs))) (way-twice index low up)
        ∙ (told_twice ((index - 519) / 512) ((index - 519) % 512) (home-inner _ (omega arith)) (home-twice index low up) (subst (IsFresh g own t) (way-twice index low up) f) ∙ sym by)
    | past low ↦ absurd (omega arith)
  ]

-- ---- in a volume that is in use

module _ (v : VolumeNow) (h : IsInUse v) (n : ℕ) (p : Placed) (zones : List Mapped) (at : at_number v.contents.nodes n ≡ Some p) (is : p.part ≡ parts.File zones)
    (content : List ℕ) (size : length content ≡ 1024) (index : ℕ) (high : index < 262663) (hole : zone_in v.contents.blocks p.inode (block index) ≡ 0)
    (enough : length (take_zones (λ x. zone_in v.contents.blocks p.inode x) index v.zones).numbers ≤ frees v.zones) where
  abbrev g : Geometry
  g = v.geometry

  abbrev before : Place → ℕ
  before x = zone_in v.contents.blocks p.inode x

  abbrev taken : TakenFor
  taken = take_zones before index v.zones

  abbrev c : Contents
  c = written g v.contents (map (zone_bit g true) taken.numbers)

  none : ChangesNone g v.contents.blocks c.blocks
  none = marks_change_none v h n p at index enough

  volume : IsVolume g c
  volume = volume_marked v h n p at index enough

  kept : (x : Place) → zone_in c.blocks p.inode x ≡ before x
  kept = own_marked v h n p at index enough

  free : AreFree g c.blocks c.nodes p.inode taken.taken (way index)
  free = free_marked v h n p at index enough

  abbrev s : OpenInode
  s = record { blocks = c.blocks; inode = p.inode }

  pub numbers_are_told :
      filter (λ b. not (b == taken.taken.data_zone)) (touched_by_all g (all_edits g taken.taken content s (way index))) ≡ numbers_told (λ x. own_of s x) taken.taken index
  numbers_are_told =
      let gap : own_of s (block index) ≡ 0 = kept (block index) ∙ hole in
      told_way g h.sound taken.taken content size s (fit_before g h.sound c.blocks c.nodes n p volume.0 at) index gap high
      (fresh g h.sound c.blocks c.nodes n p volume.0 at taken.taken content size index high free zones is gap)
