-- What is told of a block of a file that is mapped.
use Rattle.std.specs.Prelude.{◌≡◌, ◌≢◌, ℕ, ◌-◌, ◌/◌, ◌%◌, ◌<◌, ◌≤◌, nat_eq, ◌==◌, Bool, true, false, not, if◌then◌else◌, List, [], ◌∷◌, ◌++◌, length, filter, Some, refl, ◌⊎◌}
use Rattle.std.proofs.Common.{sym, ap, subst, ◌∙◌, inl, inr, ⊎_elim, arith}
use Rattle.std.proofs.lemmas.Bool.{cases_Bool, cases_eq, eqb-true, eqb-false, eq-eqb, ne_eqb, true≢false}
use Rattle.std.proofs.lemmas.Option.{same_Some}
use Rattle.blk_base.specs.Members.{In}
use Rattle.blk_base.specs.laws.Members.{In-filter, filter-In, In-append_left, In-append_right, In-append_cases}
use Rattle.minix_layout.specs.declared.division.Geometry.{Geometry}
use Rattle.minix_layout.specs.Geometry.{IsSound}
use Rattle.tree_model.specs.Maps.{at_number, put_number}
use Rattle.tree_model.specs.laws.MapsLaws.{at_put_number, at_put_number_apart}
use Rattle.volume_ops.specs.declared.found.Mapped.{Mapped}
use Rattle.volume_ops.specs.Places.{table_block}
use Rattle.volume_ops.specs.Volume.{disk_of}
use Rattle.volume_model.specs.declared.placed.Placed.{Placed}
use Rattle.volume_model.specs.declared.placed.Part.TheVariants as parts
use Rattle.volume_model.specs.Edits.{Edit, edited, edited_all, touched_by_all}
use Rattle.volume_model.specs.laws.Edits.{edited_elsewhere, untouched}
use Rattle.volume_model.specs.laws.Back.{back_elsewhere, told_table}
use Rattle.volume_model.specs.laws.Changes.{table_below}
use Rattle.volume_model.specs.Volume.{Place, block, indirect, double, inner, zone_in, IsPart, IsVolumeOf, IsOfNumbers, at_indirect, at_double, at_inner}
use Rattle.volume_model.specs.Touched.{Page, Touched, Contents, IsMeta, of_tables, of_numbers, of_directory, HasPage, Tells}
use Rattle.volume_model.specs.Ways.{Home, slot, entry, nowhere, home, way, OnWay}
use Rattle.volume_model.specs.laws.Ways.{direct, single, twice, past, range, home-direct, home-single, home-twice, home-inner}
use Rattle.volume_model.specs.laws.Gets.{cases_place}
use Rattle.volume_model.specs.MapBlock.{step_edits, all_edits, OpenInode, own_of, TakenZones, taken_at, first_body, gets_edits, entry_edits, get_step, get_steps, map_block}
use Rattle.volume_model.specs.laws.MapBlock.{Got, IsFit, IsFresh, IsReached, IsChain, Outcome, one_step, fresh_rest, there_now, next_reached, all_steps, above}
use Rattle.volume_model.specs.laws.OnWay.{way_on, on_way, in_list, way-direct, way-single, way-twice}
use Rattle.volume_model.specs.laws.NodeMoves.{Which, changed, other, which, same_zone as node_same_zone}
use Rattle.volume_model.specs.Moves.{MayChange, inode_back, back_told}
use Rattle.volume_model.specs.laws.ZoneMoves.{fit_before, grown, MapWrites, map_outcome, may_map, map_file, may_change, MayMove, no_numbers, same_zone as moved_same_zone}
use Rattle.volume_model.specs.Moves.{AreFree, with_mapped}

-- ---- the writes as a list

edited_append : (g : Geometry) (blocks : List (List ℕ)) (es fs : List Edit) → edited_all g blocks (es ++ fs) ≡ edited_all g (edited_all g blocks es) fs
edited_append g blocks [] fs = refl
edited_append g blocks (e ∷ es) fs = edited_append g (edited g blocks e) es fs

touched_cases : (g : Geometry) (b : ℕ) (es fs : List Edit) → In b (touched_by_all g (es ++ fs)) → In b (touched_by_all g es) ⊎ In b (touched_by_all g fs)
touched_cases g b [] fs i = inr i
touched_cases g b (e ∷ es) fs (inl q) = inl (inl q)
touched_cases g b (e ∷ es) fs (inr i) = elim (touched_cases g b es fs i) [ inl j ↦ inl (inr j) | inr j ↦ inr j ]

touched_left : (g : Geometry) (b : ℕ) (es fs : List Edit) → In b (touched_by_all g es) → In b (touched_by_all g (es ++ fs))
touched_left g b (e ∷ es) fs (inl q) = inl q
touched_left g b (e ∷ es) fs (inr i) = inr (touched_left g b es fs i)
touched_left g b [] fs i = absurd i

touched_right : (g : Geometry) (b : ℕ) (es fs : List Edit) → In b (touched_by_all g fs) → In b (touched_by_all g (es ++ fs))
touched_right g b [] fs i = i
touched_right g b (e ∷ es) fs i = inr (touched_right g b es fs i)

module _ (g : Geometry) (t : TakenZones) (content : List ℕ) where
  step_by : (s : OpenInode) (x : Place) → (get_step g t content s x).blocks ≡ edited_all g s.blocks (step_edits t content s x)
  step_by s x = elim (cases_Bool (nat_eq (own_of s x) 0)) [ inl e ↦ rw e refl | inr n ↦ rw n refl ]

  pub blocks_by : (s : OpenInode) (xs : List Place) → (get_steps g t content s xs).blocks ≡ edited_all g s.blocks (all_edits g t content s xs)
  blocks_by s [] = refl
  blocks_by s (x ∷ xs) =
      blocks_by (get_step g t content s x) xs
      ∙ (ap (λ b. edited_all g b (all_edits g t content (get_step g t content s x) xs)) (step_by s x)
      ∙ sym (edited_append g s.blocks (step_edits t content s x) (all_edits g t content (get_step g t content s x) xs)))

  -- what is touched is a zone of a place afterwards: of numbers, or on the way
  abbrev Lies : (Place → ℕ) → List Place → ℕ → Type 0
  Lies next xs b = (y : Place) × (next y ≢ 0) × (next y ≡ b) × (IsOfNumbers y ⊎ In y xs)

  module _ (sound : IsSound g) (size : length content ≡ 1024) where
    step_touched : (s u : OpenInode) (x : Place) (xs : List Place) (b : ℕ) → IsFresh g (own_of s) t (x ∷ xs) → IsReached (own_of s) x → Got (own_of s) (own_of u) t (x ∷ xs) →
        In b (touched_by_all g (step_edits t content s x)) → Lies (own_of u) (x ∷ xs) b
    step_touched s u x xs b f r got i =
        elim (cases_Bool (nat_eq (own_of s x) 0)) [
          | inr n ↦ absurd (rw n at i)
          | inl e ↦ by (eqb-true _ _ e) (home x) refl (rw e at i)
        ]
      where
        by : own_of s x ≡ 0 → (h : Home) → home x ≡ h → (taken_at t x ≡ b) ⊎ In b (touched_by_all g (entry_edits s h (taken_at t x))) → Lies (own_of u) (x ∷ xs) b
        by none h at (inl q) =
            let here : own_of u x ≡ taken_at t x = got.taken x (inl refl) none in
            (x, (λ no_zone. f.some x (inl refl) none (sym here ∙ no_zone)), here ∙ q, inr (inl refl))
        by none (entry h k) at (inr (inl q)) =
            let some = r.there h k at in
            let stays = got.kept h some in
            (h, (λ no_zone. some (sym stays ∙ no_zone)), stays ∙ q, inl (above x h k at))
        by none (entry h k) at (inr (inr i)) = absurd i
        by none (slot k) at (inr i) = absurd i
        by none nowhere at (inr i) = absurd i

    further : (next : Place → ℕ) (x : Place) (xs : List Place) (b : ℕ) → Lies next xs b → Lies next (x ∷ xs) b
    further next x xs b w = (w.0, w.1, w.2, elim w.3 [ inl n ↦ inl n | inr i ↦ inr (inr i) ])

    all_touched : (s : OpenInode) (x : Place) (xs : List Place) (b : ℕ) → IsFit g s → IsFresh g (own_of s) t (x ∷ xs) → IsReached (own_of s) x → IsChain x xs →
        In b (touched_by_all g (all_edits g t content s (x ∷ xs))) → Lies (own_of (get_steps g t content s (x ∷ xs))) (x ∷ xs) b
    all_touched s x [] b fit f r chain i =
        elim (touched_cases g b (step_edits t content s x) [] i) [
          | inl j ↦ step_touched s (get_steps g t content s (x ∷ [])) x [] b f r (all_steps g sound t content size s x [] fit f r chain).got j
          | inr j ↦ absurd j
        ]
    all_touched s x (y ∷ xs) b fit f r chain i =
        let u = get_step g t content s x in
        let one = one_step g sound t content size s x (y ∷ xs) fit f r in
        let now = there_now g sound t content size s u x (y ∷ xs) f one.got in
        elim (touched_cases g b (step_edits t content s x) (all_edits g t content u (y ∷ xs)) i) [
          | inl j ↦ step_touched s (get_steps g t content s (x ∷ y ∷ xs)) x (y ∷ xs) b f r (all_steps g sound t content size s x (y ∷ xs) fit f r chain).got j
          | inr j ↦ further (own_of (get_steps g t content s (x ∷ y ∷ xs))) x (y ∷ xs) b
              (all_touched u y xs b one.fit (fresh_rest g sound t content size s u x (y ∷ xs) f one.got) (next_reached g sound t content size u x y chain.0.0 chain.0.1 now) chain.1 j)
        ]

    first_touched : (s : OpenInode) (x z : Place) → x ≡ z → own_of s z ≡ 0 → In (taken_at t z) (touched_by_all g (step_edits t content s x))
    first_touched s x z e none = first (nat_eq (own_of s x) 0) (eq-eqb (own_of s x) 0 (ap (own_of s) e ∙ none))
      where
        first : (c : Bool) → c ≡ true → In (taken_at t z) (touched_by_all g (if c then gets_edits s x (taken_at t x) (first_body content x) else []))
        first true q = inl (ap (taken_at t) e)
        first false q = absurd (true≢false (sym q))

    -- the zone of each hole is touched
    hole_touched : (s : OpenInode) (x : Place) (xs : List Place) (z : Place) → IsFit g s → IsFresh g (own_of s) t (x ∷ xs) → IsReached (own_of s) x → IsChain x xs → In z (x ∷ xs) → own_of s z ≡ 0 →
        In (taken_at t z) (touched_by_all g (all_edits g t content s (x ∷ xs)))
    hole_touched s x xs z fit f r chain (inl e) none =
        touched_left g (taken_at t z) (step_edits t content s x) (all_edits g t content (get_step g t content s x) xs) (first_touched s x z e none)
    hole_touched s x [] z fit f r chain (inr i) none = absurd i
    hole_touched s x (y ∷ xs) z fit f r chain (inr i) none =
        let u = get_step g t content s x in
        let one = one_step g sound t content size s x (y ∷ xs) fit f r in
        let now = there_now g sound t content size s u x (y ∷ xs) f one.got in
        elim (cases_place x z) [
          | inl e ↦ touched_left g (taken_at t z) (step_edits t content s x) (all_edits g t content u (y ∷ xs)) (first_touched s x z e none)
          | inr a ↦ touched_right g (taken_at t z) (step_edits t content s x) (all_edits g t content u (y ∷ xs))
              (hole_touched u y xs z one.fit (fresh_rest g sound t content size s u x (y ∷ xs) f one.got) (next_reached g sound t content size u x y chain.0.0 chain.0.1 now) chain.1 i
              (one.got.others z (λ j. elim j [ inl e ↦ a e | inr n ↦ n ]) ∙ none))
        ]

-- the way to a block, from the inode down
record WayIs (index : ℕ) : Type 0 where
  head : Place
  tail : List Place
  is : way index ≡ head ∷ tail
  top : (k : ℕ) × (home head ≡ slot k)
  chain : IsChain head tail

way_is : (index : ℕ) → index < 262663 → WayIs index
way_is index high =
    elim (range index) [
      | direct low ↦ record { head = block index; tail = []; is = way-direct index low; top = (index, home-direct index low); chain = tt }
      | single low up ↦ record { head = indirect; tail = block index ∷ []; is = way-single index low up; top = (7, refl); chain = ((index - 7, home-single index low up), tt) }
      | twice low up ↦ record { head = double; tail = inner ((index - 519) / 512) ∷ block index ∷ []; is = way-twice index low up; top = (8, refl); chain = (((index - 519) / 512, home-inner _ (omega arith)), (((index - 519) % 512, home-twice index low up), tt)) }
      | past low ↦ absurd (omega arith)
    ]

top_reached : (own : Place → ℕ) (x : Place) (k : ℕ) → home x ≡ slot k → IsReached own x
top_reached own x k at = record { placed = λ none. cc (sym at ∙ none); there = λ h j is none. cc (sym at ∙ is) }

-- What is written on the way to a block, of a file or of a directory.
module _ (g : Geometry) (sound : IsSound g) (blocks : List (List ℕ)) (nodes : List (ℕ × Placed)) (n : ℕ) (p : Placed) (h : IsVolumeOf g blocks nodes) (stands : at_number nodes n ≡ Some p)
    (t : TakenZones) (content : List ℕ) (size : length content ≡ 1024) (index : ℕ) (high : index < 262663) (free : AreFree g blocks nodes p.inode t (way index)) where
  abbrev start : OpenInode
  start = record { blocks = blocks; inode = p.inode }

  start_fresh : IsFresh g (own_of start) t (way index)
  start_fresh = record { some = free.some; low = free.low; high = free.high; fits = free.fits; fresh = λ x y i none. free.free n p x y stands i none; differ = free.differ }

  -- the writes on the way to the block
  abbrev pub way_edits : List Edit
  way_edits = all_edits g t content start (way index)

  -- what is touched is a zone of a place afterwards: of numbers, or on the way
  pub way_touched : (b : ℕ) → In b (touched_by_all g way_edits) →
      (y : Place) × (own_of (map_block g t content start index) y ≢ 0) × (own_of (map_block g t content start index) y ≡ b) × (IsOfNumbers y ⊎ In y (way index))
  unfolding map_block
  way_touched b i =
      let w = way_is index high in
      subst (λ xs. In b (touched_by_all g (all_edits g t content start xs)) → (y : Place) × (own_of (get_steps g t content start xs) y ≢ 0) × (own_of (get_steps g t content start xs) y ≡ b) × (IsOfNumbers y ⊎ In y xs)) (sym w.is)
      (λ j. all_touched g t content sound size start w.head w.tail b (fit_before g sound blocks nodes n p h stands) (subst (IsFresh g (own_of start) t) w.is start_fresh) (top_reached (own_of start) w.head w.top.0 w.top.1) w.chain j) i

  -- the zone of each hole on the way is touched
  pub way_holes : (z : Place) → In z (way index) → own_of start z ≡ 0 → In (taken_at t z) (touched_by_all g way_edits)
  way_holes z i none =
      let w = way_is index high in
      subst (λ xs. In z xs → In (taken_at t z) (touched_by_all g (all_edits g t content start xs))) (sym w.is)
      (λ j. hole_touched g t content sound size start w.head w.tail z (fit_before g sound blocks nodes n p h stands) (subst (IsFresh g (own_of start) t) w.is start_fresh) (top_reached (own_of start) w.head w.top.0 w.top.1) w.chain j none) i

module _ (g : Geometry) (sound : IsSound g) (blocks : List (List ℕ)) (nodes : List (ℕ × Placed)) (n : ℕ) (p : Placed) (h : IsVolumeOf g blocks nodes) (stands : at_number nodes n ≡ Some p)
    (t : TakenZones) (content : List ℕ) (size : length content ≡ 1024) (index : ℕ) (high : index < 262663) (free : AreFree g blocks nodes p.inode t (way index))
    (zones : List Mapped) (is : p.part ≡ parts.File zones) (hole : zone_in blocks p.inode (block index) ≡ 0) where
  abbrev pub s : OpenInode
  s = record { blocks = blocks; inode = p.inode }

  abbrev pub own : Place → ℕ
  own x = zone_in blocks p.inode x

  abbrev pub u : OpenInode
  u = grown g sound blocks nodes n p h stands t content size index high free

  pub outcome : Outcome g t s u (way index)
  outcome = map_outcome g sound blocks nodes n p h stands t content size index high free

  fit : IsFit g s
  fit = fit_before g sound blocks nodes n p h stands

  pub fresh : IsFresh g own t (way index)
  fresh = record { some = free.some; low = free.low; high = free.high; fits = free.fits; fresh = λ x y i none. free.free n p x y stands i none; differ = free.differ }

  abbrev edits : List Edit
  edits = all_edits g t content s (way index)

  -- the block itself is a page, all else that is written is metadata
  abbrev pub map_touched : Touched
  map_touched = record {
    blocks = filter (λ b. not (b == t.data_zone)) (touched_by_all g edits) ++ back_told g p u.inode;
    freed = [];
    revoked = [];
    pages = record { birth = n; index = index; zone = t.data_zone } ∷ [];
    dropped = [];
    nodes = n ∷ [];
  }

  abbrev pub listed : List Mapped
  listed = with_mapped zones index t.data_zone

  abbrev pub q : Placed
  q = record { number = p.number; inode = u.inode; part = parts.File listed }

  abbrev pub later : List (List ℕ)
  later = inode_back g u.blocks p u.inode

  abbrev v : Contents
  v = record { blocks = blocks; nodes = nodes }

  abbrev pub map_both : Contents
  map_both = record { blocks = later; nodes = put_number nodes n q }

  abbrev Z : ℕ → Type 0
  Z = MapWrites g sound blocks nodes n p h stands t content size index high free

  may : MayMove g sound blocks nodes n p h stands u (parts.File listed) Z
  may = may_map g sound blocks nodes n p h stands t content size index high free (parts.File listed)
      (map_file g sound blocks nodes n p h stands t content size index high free zones hole (subst (IsPart g blocks p.inode) is (h.each n p stands).part))
      (λ e same. absurd (cc same))

  change : MayChange g blocks later nodes n p q (λ z. Z z ⊎ ⊥)
  change = may_change g sound blocks nodes n p h stands u (parts.File listed) Z may

  cases : (b : ℕ) (r : Placed) → at_number (put_number nodes n q) b ≡ Some r → Which g blocks later nodes n p q (λ z. Z z ⊎ ⊥) h change b r
  cases b r at = which g blocks later nodes n p q (λ z. Z z ⊎ ⊥) h change b r at

  pub theirs : (b : ℕ) (r : Placed) → at_number nodes b ≡ Some r → b ≢ n → (x : Place) → zone_in later r.inode x ≡ zone_in blocks r.inode x
  theirs b r at apart = node_same_zone g blocks later nodes n p q (λ z. Z z ⊎ ⊥) h change b r at apart

  pub mine : (x : Place) → zone_in later u.inode x ≡ own_of u x
  mine = moved_same_zone g sound blocks nodes n p h stands u (parts.File listed) Z may

  stays_as : (x : Place) → own x ≢ 0 → zone_in later u.inode x ≡ own x
  stays_as x some = mine x ∙ outcome.got.kept x some

  on : In (block index) (way index)
  on = on_way (block index) index (refl, high)

  page_zone : zone_in later u.inode (block index) ≡ t.data_zone
  page_zone = mine (block index) ∙ outcome.got.taken (block index) on hole

  page_some : t.data_zone ≢ 0
  page_some = free.some (block index) on hole

  here : at_number (put_number nodes n q) n ≡ Some q
  here = at_put_number nodes n q

  there : (b : ℕ) (r : Placed) → at_number nodes b ≡ Some r → b ≢ n → at_number (put_number nodes n q) b ≡ Some r
  there b r at apart = at_put_number_apart nodes n q b apart ∙ at

  one : (r : Placed) (b : ℕ) → b ≡ n → at_number nodes b ≡ Some r → p ≡ r
  one r b e at = same_Some p r (sym stands ∙ subst (λ b. at_number nodes b ≡ Some r) e at)

  touched_zone : (b : ℕ) → In b (touched_by_all g edits) → (y : Place) × (own_of u y ≢ 0) × (own_of u y ≡ b) × (IsOfNumbers y ⊎ In y (way index))
  touched_zone b i = way_touched g sound blocks nodes n p h stands t content size index high free b i

  hole_is_touched : (z : Place) → In z (way index) → own z ≡ 0 → In (taken_at t z) (touched_by_all g edits)
  hole_is_touched z i none = way_holes g sound blocks nodes n p h stands t content size index high free z i none

  not_meta : (b : ℕ) → IsMeta g v b → b ≢ t.data_zone
  not_meta b (of_tables low) e = (let from = free.low (block index) on hole in omega arith)
  not_meta b (of_numbers a r x at m z some) e = free.free a r (block index) x at on hole (z ∙ e)
  not_meta b (of_directory a r d i at part z some) e = free.free a r (block index) (block i) at on hole (z ∙ e)

  in_filter : (b : ℕ) → b ≢ t.data_zone → In b (touched_by_all g edits) → In b (filter (λ b. not (b == t.data_zone)) (touched_by_all g edits))
  in_filter b apart i = filter-In (λ b. not (b == t.data_zone)) (touched_by_all g edits) b i (ap not (ne_eqb b t.data_zone apart))

  meta_back : (b : ℕ) → IsMeta g map_both b → IsMeta g v b ⊎ In b map_touched.blocks
  meta_back b (of_tables low) = inl (of_tables low)
  meta_back b (of_numbers a r x at m e some) = elim (cases a r at) [
    | other apart was ↦ inl (of_numbers a r x was m (sym (theirs a r was apart x) ∙ e) some)
    | changed i same ↦
        let z : own_of u x ≡ b = sym (mine x) ∙ (ap (λ (r : Placed). zone_in later r.inode x) same ∙ e) in
        elim (cases_Bool (nat_eq (own x) 0)) [
          | inr f ↦ inl (of_numbers n p x stands m (sym (outcome.got.kept x (eqb-false _ _ f)) ∙ z) some)
          | inl y ↦
              let none = eqb-true _ _ y in
              elim (in_list x (way index)) [
                | inr out ↦ absurd (some (sym z ∙ (outcome.got.others x out ∙ none)))
                | inl j ↦
                    let taken : taken_at t x ≡ b = sym (outcome.got.taken x j none) ∙ z in
                    inr (In-append_left _ (back_told g p u.inode) b (in_filter b (λ same_zone. no_numbers x index (free.differ x (block index) j on none hole (taken ∙ same_zone)) m)
                    (subst (λ b. In b (touched_by_all g edits)) taken (hole_is_touched x j none))))
              ]
        ]
  ]
  meta_back b (of_directory a r d i at part e some) = elim (cases a r at) [
    | changed j same ↦ absurd (cc (ap (λ (r : Placed). r.part) same ∙ part))
    | other apart was ↦ inl (of_directory a r d i was part (sym (theirs a r was apart (block i)) ∙ e) some)
  ]

  meta_kept : (b : ℕ) → IsMeta g v b → IsMeta g map_both b
  meta_kept b (of_tables low) = of_tables low
  meta_kept b (of_numbers a r x at m e some) = elim (cases_eq a n) [
    | inr apart ↦ of_numbers a r x (there a r at apart) m (theirs a r at apart x ∙ e) some
    | inl i ↦ (let z : own x ≡ b = ap (λ (r : Placed). zone_in blocks r.inode x) (one r a i at) ∙ e in of_numbers n q x here m (stays_as x (λ none. some (sym z ∙ none)) ∙ z) some)
  ]
  meta_kept b (of_directory a r d i at part e some) = elim (cases_eq a n) [
    | inr apart ↦ of_directory a r d i (there a r at apart) part (theirs a r at apart (block i) ∙ e) some
    | inl j ↦ absurd (cc (sym is ∙ (ap (λ (r : Placed). r.part) (one r a j at) ∙ part)))
  ]

  in_table : (2 ≤ table_block g p.number) × (table_block g p.number < g.first)
  in_table = (let told = h.each n p stands in let t = table_below g p.number sound told.some told.within in let low = t.0 in ((omega arith), t.1))

  -- a zone of numbers that is written
  touched_numbers : (b : ℕ) → In b (filter (λ b. not (b == t.data_zone)) (touched_by_all g edits)) → (y : Place) × IsOfNumbers y × (own_of u y ≢ 0) × (own_of u y ≡ b)
  touched_numbers b i =
      let f = In-filter (λ b. not (b == t.data_zone)) (touched_by_all g edits) b i in
      let w = touched_zone b f.0 in
      elim w.3 [
        | inl m ↦ (w.0, m, w.1, w.2)
        | inr j ↦ by w.0 w.1 w.2 (way_on w.0 index j) f.1
      ]
    where
      by : (y : Place) → own_of u y ≢ 0 → own_of u y ≡ b → OnWay y index → not (b == t.data_zone) ≡ true → (y : Place) × IsOfNumbers y × (own_of u y ≢ 0) × (own_of u y ≡ b)
      by indirect some e w no_page = (indirect, at_indirect, some, e)
      by double some e w no_page = (double, at_double, some, e)
      by (inner k) some e w no_page = (inner k, at_inner, some, e)
      by (block i) some e w no_page =
          let page : b ≡ t.data_zone = sym e ∙ (ap (λ i. own_of u (block i)) w.0 ∙ outcome.got.taken (block index) on hole) in
          absurd (true≢false (sym no_page ∙ ap not (eq-eqb b t.data_zone page)))

  touched_meta : (b : ℕ) → In b map_touched.blocks → IsMeta g map_both b × (2 ≤ b) × (b < g.zones)
  touched_meta b i = ⊎_elim (λ j. by_numbers j) (λ j. by_table (told_table g p u.inode b j)) (In-append_cases _ (back_told g p u.inode) b i)
    where
      by_table : b ≡ table_block g p.number → IsMeta g map_both b × (2 ≤ b) × (b < g.zones)
      by_table e =
          let r = in_table in
          let low = r.0 in
          let up = r.1 in
          let some = sound.some_zone in
          (of_tables (omega arith), (omega arith), (omega arith))

      by_numbers : In b (filter (λ b. not (b == t.data_zone)) (touched_by_all g edits)) → IsMeta g map_both b × (2 ≤ b) × (b < g.zones)
      by_numbers i =
          let w = touched_numbers b i in
          let r = outcome.fit.within w.0 w.2 in
          let low = r.0 in
          let up = r.1 in
          let t_range = in_table in
          let t_low = t_range.0 in
          let t_high = t_range.1 in
          let e = w.3 in
          (of_numbers n q w.0 here w.1 (mine w.0 ∙ w.3) (λ none. w.2 (w.3 ∙ none)), (omega arith), (omega arith))

  pub kept_bytes : (b : ℕ) → b ≢ t.data_zone → (In b map_touched.blocks → ⊥) → disk_of later b ≡ disk_of blocks b
  unfolding map_block
  kept_bytes b apart none =
      back_elsewhere g u.blocks p u.inode b (λ j. none (In-append_right _ (back_told g p u.inode) b j))
      ∙ (ap (λ a. disk_of a b) (blocks_by g t content s (way index)) ∙ untouched g edits blocks b (λ i. none (In-append_left _ (back_told g p u.inode) b (in_filter b apart i))))

  page_back : (x : Page) → HasPage map_both x → HasPage v x ⊎ In x map_touched.pages
  page_back x page = elim (cases x.birth page.placed page.stands) [
    | other apart was ↦ inl (record { placed = page.placed; zones = page.zones; stands = was; is_file = page.is_file; zone = sym (theirs x.birth page.placed was apart (block x.index)) ∙ page.zone; some = page.some })
    | changed e same ↦
        let z : zone_in later u.inode (block x.index) ≡ x.zone = ap (λ (r : Placed). zone_in later r.inode (block x.index)) same ∙ page.zone in
        elim (cases_eq x.index index) [
          | inl i ↦ inr (inl (let zone : x.zone ≡ t.data_zone = sym z ∙ (ap (λ i. zone_in later u.inode (block i)) i ∙ page_zone) in λ k. record { birth = sym e k; index = sym i k; zone = sym zone k }))
          | inr a ↦ inl (record { placed = p; zones = zones; stands = ap (at_number nodes) e ∙ stands; is_file = is; zone = sym (outcome.got.others (block x.index) (λ l. (let w = way_on (block x.index) index l in a w.0))) ∙ (sym (mine (block x.index)) ∙ z); some = page.some })
        ]
  ]

  page_kept : (x : Page) → HasPage v x → HasPage map_both x
  page_kept x page = elim (cases_eq x.birth n) [
    | inr apart ↦ record { placed = page.placed; zones = page.zones; stands = there x.birth page.placed page.stands apart; is_file = page.is_file; zone = theirs x.birth page.placed page.stands apart (block x.index) ∙ page.zone; some = page.some }
    | inl e ↦
        let z : own (block x.index) ≡ x.zone = ap (λ (r : Placed). zone_in blocks r.inode (block x.index)) (one page.placed x.birth e page.stands) ∙ page.zone in
        record { placed = q; zones = listed; stands = ap (at_number (put_number nodes n q)) e ∙ here; is_file = refl; zone = stays_as (block x.index) (λ none. page.some (sym z ∙ none)) ∙ z; some = page.some }
  ]

  page_new : HasPage map_both (record { birth = n; index = index; zone = t.data_zone })
  page_new = record { placed = q; zones = listed; stands = here; is_file = refl; zone = page_zone; some = page_some }

  pub page_bytes : (x : Page) → HasPage v x → disk_of later x.zone ≡ disk_of blocks x.zone
  page_bytes x page = kept_bytes x.zone (λ e. free.free x.birth page.placed (block index) (block x.index) page.stands on hole (page.zone ∙ e)) (λ i. elim (In-append_cases _ (back_told g p u.inode) x.zone i) [
    | inr j ↦ (let e = told_table g p u.inode x.zone j in let r = in_table in let up = r.1 in let range = (h.each x.birth page.placed page.stands).zones (block x.index) (λ none. page.some (sym page.zone ∙ none)) in let low = range.0 in let z = page.zone in omega arith)
    | inl j ↦
        let w = touched_numbers x.zone j in
        elim (cases_eq x.birth n) [
          | inr apart ↦ may.none_of_theirs x.birth page.placed w.0 (block x.index) page.stands apart (w.3 ∙ sym page.zone) w.2
          | inl e ↦
              let z : own (block x.index) ≡ x.zone = ap (λ (r : Placed). zone_in blocks r.inode (block x.index)) (one page.placed x.birth e page.stands) ∙ page.zone in
              let stays : own_of u (block x.index) ≡ own (block x.index) = outcome.got.kept (block x.index) (λ none. page.some (sym z ∙ none)) in
              no_numbers w.0 x.index (outcome.fit.apart w.0 (block x.index) (w.3 ∙ (sym z ∙ sym stays)) w.2) w.1
        ]
  ])

  -- What the mapping of a block tells.
  pub map_tells : Tells g v map_both map_touched (λ birth at. (birth ≡ n) × (at ≡ index))
  map_tells = record {
    fresh_are_touched = meta_back;
    stays_or_revoked = λ b old. inl (meta_kept b old);
    revoked_are_left = λ b i. absurd i;
    kept = λ b none old new. kept_bytes b (not_meta b old) none;
    touched_are_meta = λ b i. inr (touched_meta b i);
    pages_are_written = λ x i. elim i [
      | inl e ↦ (subst (HasPage map_both) e page_new, (sym (ap (λ (x : Page). x.birth) e), sym (ap (λ (x : Page). x.index) e)))
      | inr w ↦ absurd w
    ];
    was_or_written = page_back;
    written_are_pages = λ birth at w. (t.data_zone, inl (λ k. record { birth = sym w.0 k; index = sym w.1 k; zone = t.data_zone }));
    dropped_were_mapped = λ x i. absurd i;
    stays_or_dropped = λ x page. inl (page_kept x page);
    data_kept = λ x new old none. page_bytes x old;
  }
