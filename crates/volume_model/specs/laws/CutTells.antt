-- What is told of a cut: which blocks it touched, which zones went, and which of these were metadata.
use Rattle.std.specs.Prelude.{◌≡◌, ◌≢◌, ℕ, zero, suc, ◌+◌, ◌-◌, ◌*◌, ◌<◌, ◌≤◌, nat_lt, length, take, drop, slice_set, nat_eq, Bool, true, false, not, ◌&&◌, if◌then◌else◌, List, [], ◌∷◌, ◌++◌, filter, map, Some, refl, ◌⊎◌}
use Rattle.std.specs.List.{list_any, range_with_len}
use Rattle.std.proofs.Common.{sym, ap, subst, ◌∙◌, inl, inr, ⊎_elim, arith}
use Rattle.std.proofs.lemmas.Bool.{cases_Bool, cases_eq, eqb-false, eq-eqb, ne_eqb, ltb-true, ltb-false, and_from, and_parts, true≢false}
use Rattle.std.proofs.lemmas.List.{set-get_or, length-drop, drop_all, take-append-drop}
use Rattle.std.proofs.lemmas.Option.{same_Some}
use Rattle.byte_fields.specs.Fields.{zeros, put_bytes}
use Rattle.byte_fields.specs.laws.ReadLaws.{length-zeros}
use Rattle.blk_base.specs.Members.{In}
use Rattle.blk_base.specs.laws.Members.{In-filter, filter-In, In-map, map-In, In-append_left, In-append_right, In-append_cases}
use Rattle.minix_layout.specs.declared.division.Geometry.{Geometry}
use Rattle.minix_layout.specs.Geometry.{IsSound}
use Rattle.tree_model.specs.Maps.{at_number, put_number}
use Rattle.tree_model.specs.laws.MapsLaws.{at_put_number, at_put_number_apart}
use Rattle.volume_ops.specs.declared.found.Mapped.{Mapped}
use Rattle.volume_ops.specs.Places.{table_block}
use Rattle.volume_ops.specs.Volume.{disk_of}
use Rattle.volume_model.specs.declared.placed.Placed.{Placed}
use Rattle.volume_model.specs.declared.placed.Part.TheVariants as parts
use Rattle.volume_model.specs.declared.placed.DirectoryPart.{DirectoryPart}
use Rattle.volume_model.specs.Edits.{Edit, clear_from, edited, edited_all, body_after, touched_by, touched_by_all}
use Rattle.volume_model.specs.laws.Edits.{edited_elsewhere}
use Rattle.volume_model.specs.laws.Back.{back_elsewhere, told_table}
use Rattle.volume_model.specs.laws.Changes.{table_below}
use Rattle.volume_model.specs.Volume.{Place, block, indirect, double, inner, zone_in, IsFilePart, IsPart, IsVolumeOf, IsOfNumbers, IsWhole}
use Rattle.volume_model.specs.Touched.{Page, Touched, Contents, IsMeta, of_tables, of_numbers, of_directory, HasPage, Tells}
use Rattle.volume_model.specs.Ways.{nowhere, home, IsJust}
use Rattle.volume_model.specs.laws.Ways.{own_none}
use Rattle.volume_model.specs.MapBlock.{OpenInode, own_of}
use Rattle.volume_model.specs.laws.MapBlock.{home-inner_past}
use Rattle.volume_model.specs.Cut.{IsKeep, cuts, cut_edits, cut_told, has_numbers, cut_to}
use Rattle.volume_model.specs.laws.Cut.{AreThere, there_cuts}
use Rattle.volume_model.specs.Counts.{number_places}
use Rattle.volume_model.specs.laws.NodeMoves.{Which, changed, other, which, same_zone as node_same_zone}
use Rattle.volume_model.specs.Moves.{MayChange, inode_back, back_told}
use Rattle.volume_model.specs.laws.ZoneMoves.{fit_before, theirs_apart, less, cut_kept, cut_outcome, may_cut, may_change, MayMove, no_numbers, same_zone as moved_same_zone}

-- the zones that a cut writes are those of places that stay
touched_stay : (g : Geometry) (own : Place → ℕ) (keeps : Place → Bool) (cs : List (Place × ℕ)) (b : ℕ) → AreThere own keeps cs → In b (touched_by_all g (cut_edits own keeps cs)) →
    (h : Place) × IsOfNumbers h × (keeps h ≡ true) × (own h ≢ 0) × (own h ≡ b)
touched_stay g own keeps [] b there i = absurd i
touched_stay g own keeps (c ∷ cs) b there i =
    elim (cases_Bool (keeps c.0)) [
      | inr f ↦ touched_stay g own keeps cs b there.2 (rw f at i)
      | inl t ↦ by (λ j. touched_stay g own keeps cs b there.2 j) t (rw t at i)
    ]
  where
    by : (In b (touched_by_all g (cut_edits own keeps cs)) → (h : Place) × IsOfNumbers h × (keeps h ≡ true) × (own h ≢ 0) × (own h ≡ b)) → keeps c.0 ≡ true → (own c.0 ≡ b) ⊎ In b (touched_by_all g (cut_edits own keeps cs)) → (h : Place) × IsOfNumbers h × (keeps h ≡ true) × (own h ≢ 0) × (own h ≡ b)
    by rest t (inl e) = (c.0, there.0, t, there.1 t, e)
    by rest t (inr j) = rest j

-- what is told of a cut is written
pub told_cut : (g : Geometry) (blocks : List (List ℕ)) (own : Place → ℕ) (keeps : Place → Bool) (cs : List (Place × ℕ)) (b : ℕ) → In b (cut_told blocks own keeps cs) → In b (touched_by_all g (cut_edits own keeps cs))
told_cut g blocks own keeps [] b i = absurd i
told_cut g blocks own keeps (c ∷ cs) b i = by (keeps c.0) (has_numbers blocks (own c.0) c.1) (λ j. told_cut g blocks own keeps cs b j) i
  where
    by : (k t : Bool) → (In b (cut_told blocks own keeps cs) → In b (touched_by_all g (cut_edits own keeps cs))) →
        In b (if k && t then own c.0 ∷ cut_told blocks own keeps cs else cut_told blocks own keeps cs) →
        In b (touched_by_all g (if k then clear_from (own c.0) c.1 ∷ cut_edits own keeps cs else cut_edits own keeps cs))
    by true true rest (inl e) = inl e
    by true true rest (inr j) = inr (rest j)
    by true false rest j = inr (rest j)
    by false t rest j = rest j

append_none : (xs : List ℕ) → xs ++ [] ≡ xs
append_none [] = refl
append_none (x ∷ xs) = ap (λ ys. x ∷ ys) (append_none xs)

-- a block that is written with the bytes that it has
edited_same : (g : Geometry) (blocks : List (List ℕ)) (e : Edit) (b : ℕ) → body_after g e (disk_of blocks (touched_by g e)) ≡ disk_of blocks (touched_by g e) → disk_of (edited g blocks e) b ≡ disk_of blocks b
unfolding edited
edited_same g blocks e b same = ap (λ body. disk_of (slice_set blocks (touched_by g e) body) b) same ∙ ap (λ all. disk_of all b) (set-get_or blocks (touched_by g e) _)

-- bytes that are all 0
all_zero : (ys : List ℕ) → list_any (λ x. not (nat_eq x 0)) ys ≡ false → ys ≡ zeros (length ys)
unfolding zeros
all_zero [] e = refl
all_zero (y ∷ ys) e = elim (cases_eq y 0) [
  | inl z ↦ (let rest : list_any (λ x. not (nat_eq x 0)) ys ≡ false = rw (eq-eqb y 0 z) at e in λ k. z k ∷ all_zero ys rest k)
  | inr some ↦ absurd (true≢false (rw (ne_eqb y 0 some) at e))
]

-- zeros over zeros
pub cleared : (at : ℕ) (body : List ℕ) → length body ≡ 1024 → list_any (λ x. not (nat_eq x 0)) (drop (2 * at) body) ≡ false → put_bytes (2 * at) (zeros (1024 - 2 * at)) body ≡ body
unfolding put_bytes
cleared at body size none =
    let long = length-zeros (1024 - 2 * at) in
    let left : length (drop (2 * at) body) ≡ 1024 - 2 * at = length-drop (2 * at) body ∙ ap (λ n. n - 2 * at) size in
    ap (λ rest. take (2 * at) body ++ (zeros (1024 - 2 * at) ++ rest)) (drop_all (2 * at + length (zeros (1024 - 2 * at))) body (omega arith))
    ∙ (ap (λ rest. take (2 * at) body ++ rest) (append_none (zeros (1024 - 2 * at)) ∙ (ap zeros (sym left) ∙ sym (all_zero (drop (2 * at) body) none)))
    ∙ take-append-drop (2 * at) body)

-- a zone of which nothing is told keeps its bytes
pub uncut : (g : Geometry) (blocks : List (List ℕ)) (own : Place → ℕ) (keeps : Place → Bool) → IsWhole blocks → (cs : List (Place × ℕ)) (now : List (List ℕ)) (b : ℕ) → disk_of now b ≡ disk_of blocks b →
    (In b (cut_told blocks own keeps cs) → ⊥) → disk_of (edited_all g now (cut_edits own keeps cs)) b ≡ disk_of blocks b
unfolding has_numbers
uncut g blocks own keeps whole [] now b same out = same
uncut g blocks own keeps whole (c ∷ cs) now b same out = by (keeps c.0) (has_numbers blocks (own c.0) c.1) refl out (λ next e out. uncut g blocks own keeps whole cs next b e out)
  where
    here : has_numbers blocks (own c.0) c.1 ≡ false → disk_of (edited g now (clear_from (own c.0) c.1)) b ≡ disk_of blocks b
    here none = elim (cases_eq b (own c.0)) [
      | inr apart ↦ edited_elsewhere g now (clear_from (own c.0) c.1) b apart ∙ same
      | inl e ↦ edited_same g now (clear_from (own c.0) c.1) b
          (let body : disk_of now (own c.0) ≡ disk_of blocks (own c.0) = subst (λ b. disk_of now b ≡ disk_of blocks b) e same in
          ap (λ body. put_bytes (2 * c.1) (zeros (1024 - 2 * c.1)) body) body ∙ (cleared c.1 (disk_of blocks (own c.0)) (whole (own c.0)) none ∙ sym body)) ∙ same
    ]

    by : (k t : Bool) → has_numbers blocks (own c.0) c.1 ≡ t → (In b (if k && t then own c.0 ∷ cut_told blocks own keeps cs else cut_told blocks own keeps cs) → ⊥) → ((next : List (List ℕ)) → disk_of next b ≡ disk_of blocks b → (In b (cut_told blocks own keeps cs) → ⊥) → disk_of (edited_all g next (cut_edits own keeps cs)) b ≡ disk_of blocks b) →
        disk_of (edited_all g now (if k then clear_from (own c.0) c.1 ∷ cut_edits own keeps cs else cut_edits own keeps cs)) b ≡ disk_of blocks b
    by true true e out rest = rest (edited g now (clear_from (own c.0) c.1)) (edited_elsewhere g now (clear_from (own c.0) c.1) b (λ f. out (inl (sym f))) ∙ same) (λ i. out (inr i))
    by true false e out rest = rest (edited g now (clear_from (own c.0) c.1)) (here e) out
    by false t e out rest = rest now same out

pub range-In : (a n k : ℕ) → a ≤ k → k < a + n → In k (range_with_len a n)
range-In a zero k low high = absurd (omega arith)
range-In a (suc n) k low high = elim (cases_eq a k) [ inl e ↦ inl e | inr apart ↦ inr (range-In (a + 1) n k (omega arith) (omega arith)) ]

-- each place of a zone of numbers is among the places
listed_place : (x : Place) → IsOfNumbers x → home x ≢ nowhere → In x number_places
listed_place indirect n some = inl refl
listed_place double n some = inr (inl refl)
listed_place (inner k) n some = elim (cases_Bool (nat_lt k 512)) [
  | inl t ↦ inr (inr (map-In inner (range_with_len 0 512) k (range-In 0 512 k (omega arith) (ltb-true _ _ t))))
  | inr f ↦ absurd (some (home-inner_past k (ltb-false _ _ f)))
]
listed_place (block i) n some = elim n [ ]

module _ (g : Geometry) (sound : IsSound g) (blocks : List (List ℕ)) (nodes : List (ℕ × Placed)) (n : ℕ) (p : Placed) (h : IsVolumeOf g blocks nodes) (stands : at_number nodes n ≡ Some p)
    (from : ℕ) (keeps : Place → Bool) (k : IsKeep (λ x. zone_in blocks p.inode x) from keeps) (just : IsJust (λ x. zone_in blocks p.inode x)) (zones : List Mapped) (is : p.part ≡ parts.File zones) where
  abbrev pub own : Place → ℕ
  own x = zone_in blocks p.inode x

  abbrev page : Mapped → Page
  page m = record { birth = n; index = m.index; zone = m.zone }

  abbrev pub goes : Place → Bool
  goes x = not (nat_eq (own x) 0) && not (keeps x)

  abbrev pub gone : List Mapped
  gone = filter (λ m. not (nat_lt m.index from)) zones

  abbrev pub numbers_gone : List ℕ
  numbers_gone = map own (filter goes number_places)

  abbrev pub after : OpenInode
  after = less g sound blocks nodes n p h stands from keeps k just

  abbrev pub cut_touched : Touched
  cut_touched = record {
    blocks = cut_told blocks own keeps (cuts keeps from) ++ back_told g p after.inode;
    freed = map (λ (m : Mapped). m.zone) gone ++ numbers_gone;
    revoked = numbers_gone;
    pages = [];
    dropped = map page gone;
    nodes = n ∷ [];
  }

  abbrev pub q : Placed
  q = record { number = p.number; inode = after.inode; part = parts.File (filter (λ m. nat_lt m.index from) zones) }

  abbrev v : Contents
  v = record { blocks = blocks; nodes = nodes }

  abbrev pub cut_both : Contents
  cut_both = record { blocks = inode_back g after.blocks p after.inode; nodes = put_number nodes n q }

  -- ---- how the two hang together

  abbrev pub later : List (List ℕ)
  later = inode_back g after.blocks p after.inode

  abbrev Z : ℕ → Type 0
  Z b = (x : Place) × IsOfNumbers x × (own x ≢ 0) × (own x ≡ b)

  may : MayMove g sound blocks nodes n p h stands after (parts.File (filter (λ m. nat_lt m.index from) zones)) Z
  may = may_cut g sound blocks nodes n p h stands from keeps k just zones is

  change : MayChange g blocks later nodes n p q (λ z. Z z ⊎ ⊥)
  change = may_change g sound blocks nodes n p h stands after (parts.File (filter (λ m. nat_lt m.index from) zones)) Z may

  abbrev IsWhich : ℕ → Placed → Type 0
  IsWhich b r = Which g blocks later nodes n p q (λ z. Z z ⊎ ⊥) h change b r

  cases : (b : ℕ) (r : Placed) → at_number (put_number nodes n q) b ≡ Some r → IsWhich b r
  cases b r at = which g blocks later nodes n p q (λ z. Z z ⊎ ⊥) h change b r at

  pub theirs : (b : ℕ) (r : Placed) → at_number nodes b ≡ Some r → b ≢ n → (x : Place) → zone_in later r.inode x ≡ zone_in blocks r.inode x
  theirs b r at apart = node_same_zone g blocks later nodes n p q (λ z. Z z ⊎ ⊥) h change b r at apart

  mine : (x : Place) → zone_in later after.inode x ≡ own_of after x
  mine = moved_same_zone g sound blocks nodes n p h stands after (parts.File (filter (λ m. nat_lt m.index from) zones)) Z may

  pub stays_as : (x : Place) → keeps x ≡ true → zone_in later after.inode x ≡ own x
  stays_as x t = mine x ∙ ((cut_outcome g sound blocks nodes n p h stands from keeps k just).cut x ∙ (let e : (if keeps x then own x else 0) ≡ own x = rw t refl in e))

  pub left : (x : Place) → zone_in later after.inode x ≢ 0 → (keeps x ≡ true) × (zone_in later after.inode x ≡ own x)
  left x some = let w = cut_kept g sound blocks nodes n p h stands from keeps k just x (λ none. some (mine x ∙ none)) in (w.0, mine x ∙ w.1)

  here : at_number (put_number nodes n q) n ≡ Some q
  here = at_put_number nodes n q

  there : (b : ℕ) (r : Placed) → at_number nodes b ≡ Some r → b ≢ n → at_number (put_number nodes n q) b ≡ Some r
  there b r at apart = at_put_number_apart nodes n q b apart ∙ at

  one : (r : Placed) (b : ℕ) → b ≡ n → at_number nodes b ≡ Some r → p ≡ r
  one r b e at = same_Some p r (sym stands ∙ subst (λ b. at_number nodes b ≡ Some r) e at)

  no_directory : (d : DirectoryPart) → p.part ≡ parts.Directory d → ⊥
  no_directory d e = cc (sym is ∙ e)

  -- ---- metadata

  meta_back : (b : ℕ) → IsMeta g cut_both b → IsMeta g v b
  meta_back b (of_tables low) = of_tables low
  meta_back b (of_numbers a r x at m e some) = elim (cases a r at) [
    | changed i same ↦
        let z : zone_in later after.inode x ≡ b = ap (λ (r : Placed). zone_in later r.inode x) same ∙ e in
        of_numbers n p x stands m (sym (left x (λ none. some (sym z ∙ none))).1 ∙ z) some
    | other apart was ↦ of_numbers a r x was m (sym (theirs a r was apart x) ∙ e) some
  ]
  meta_back b (of_directory a r d i at part e some) = elim (cases a r at) [
    | changed j same ↦ absurd (cc (ap (λ (r : Placed). r.part) same ∙ part))
    | other apart was ↦ of_directory a r d i was part (sym (theirs a r was apart (block i)) ∙ e) some
  ]

  pub in_gone : (x : Place) → IsOfNumbers x → own x ≢ 0 → keeps x ≡ false → In (own x) numbers_gone
  in_gone x m some f =
      map-In own (filter goes number_places) x
      (filter-In goes number_places x (listed_place x m (λ none. some (own_none blocks p.inode h.whole x none)))
      (and_from _ _ (ap not (ne_eqb (own x) 0 some)) (ap not f)))

  pub gone_is : (b : ℕ) → In b numbers_gone → (x : Place) × (own x ≡ b) × (own x ≢ 0) × (keeps x ≡ false)
  gone_is b i =
      let w = In-map own (filter goes number_places) b i in
      let f = In-filter goes number_places w.0 w.1 in
      let t = and_parts _ _ f.1 in
      (w.0, w.2, some w.0 (nat_eq (own w.0) 0) refl t.0, turned (keeps w.0) t.1)
    where
      some : (x : Place) (b : Bool) → nat_eq (own x) 0 ≡ b → not b ≡ true → own x ≢ 0
      some x true e t = absurd (true≢false (sym t))
      some x false e t = eqb-false _ _ e

      turned : (b : Bool) → not b ≡ true → b ≡ false
      turned true t = sym t
      turned false t = refl

  meta_kept : (b : ℕ) → IsMeta g v b → IsMeta g cut_both b ⊎ In b numbers_gone
  meta_kept b (of_tables low) = inl (of_tables low)
  meta_kept b (of_numbers a r x at m e some) = elim (cases_eq a n) [
    | inr apart ↦ inl (of_numbers a r x (there a r at apart) m (theirs a r at apart x ∙ e) some)
    | inl i ↦
        let z : own x ≡ b = ap (λ (r : Placed). zone_in blocks r.inode x) (one r a i at) ∙ e in
        elim (cases_Bool (keeps x)) [
          | inl t ↦ inl (of_numbers n q x here m (stays_as x t ∙ z) some)
          | inr f ↦ inr (subst (λ b. In b numbers_gone) z (in_gone x m (λ none. some (sym z ∙ none)) f))
        ]
  ]
  meta_kept b (of_directory a r d i at part e some) = elim (cases_eq a n) [
    | inr apart ↦ inl (of_directory a r d i (there a r at apart) part (theirs a r at apart (block i) ∙ e) some)
    | inl j ↦ absurd (no_directory d (ap (λ (r : Placed). r.part) (one r a j at) ∙ part))
  ]

  gone_no_meta : (b : ℕ) → In b numbers_gone → IsMeta g cut_both b → ⊥
  gone_no_meta b i meta =
      let w = gone_is b i in
      let range = (h.each n p stands).zones w.0 w.2 in
      elim meta [
        | of_tables low ↦ (let up = range.0 in let e = w.1 in omega arith)
        | of_numbers a r x at m e some ↦ elim (cases a r at) [
          | changed j same ↦
              let z : zone_in later after.inode x ≡ b = ap (λ (r : Placed). zone_in later r.inode x) same ∙ e in
              let l = left x (λ none. some (sym z ∙ none)) in
              let both : w.0 ≡ x = (h.zones n n p p w.0 x stands stands (w.1 ∙ (sym z ∙ l.1)) w.2).1 in
              true≢false (sym l.0 ∙ (ap keeps (sym both) ∙ w.3))
          | other apart was ↦ theirs_apart g sound blocks nodes n p h stands a r w.0 x was apart (w.1 ∙ (sym e ∙ theirs a r was apart x)) w.2
        ]
        | of_directory a r d i at part e some ↦ elim (cases a r at) [
          | changed j same ↦ absurd (cc (ap (λ (r : Placed). r.part) same ∙ part))
          | other apart was ↦ theirs_apart g sound blocks nodes n p h stands a r w.0 (block i) was apart (w.1 ∙ (sym e ∙ theirs a r was apart (block i))) w.2
        ]
      ]

  in_table : (2 ≤ table_block g p.number) × (table_block g p.number < g.first)
  in_table = (let told = h.each n p stands in let t = table_below g p.number sound told.some told.within in let low = t.0 in ((omega arith), t.1))

  touched_meta : (b : ℕ) → In b cut_touched.blocks → IsMeta g cut_both b × (2 ≤ b) × (b < g.zones)
  touched_meta b j = ⊎_elim (λ i. by_numbers (told_cut g blocks own keeps (cuts keeps from) b i)) (λ i. by_table (told_table g p after.inode b i)) (In-append_cases _ (back_told g p after.inode) b j)
    where
      by_table : b ≡ table_block g p.number → IsMeta g cut_both b × (2 ≤ b) × (b < g.zones)
      by_table e =
          let t = in_table in
          let low = t.0 in
          let high = t.1 in
          let some = sound.some_zone in
          (of_tables (omega arith), (omega arith), (omega arith))

      by_numbers : In b (touched_by_all g (cut_edits own keeps (cuts keeps from))) → IsMeta g cut_both b × (2 ≤ b) × (b < g.zones)
      by_numbers i =
          let w = touched_stay g own keeps (cuts keeps from) b (there_cuts g sound (record { blocks = blocks; inode = p.inode }) from keeps k (fit_before g sound blocks nodes n p h stands) just) i in
          let range = (h.each n p stands).zones w.0 w.3 in
          let low = range.0 in
          let high = range.1 in
          let t = in_table in
          let t_low = t.0 in
          let t_high = t.1 in
          let e = w.4 in
          (of_numbers n q w.0 here w.1 (stays_as w.0 w.2 ∙ w.4) (λ none. w.3 (w.4 ∙ none)), (omega arith), (omega arith))

  kept_bytes : (b : ℕ) → (In b cut_touched.blocks → ⊥) → disk_of later b ≡ disk_of blocks b
  unfolding cut_to
  kept_bytes b none =
      back_elsewhere g after.blocks p after.inode b (λ j. none (In-append_right _ (back_told g p after.inode) b j))
      ∙ uncut g blocks own keeps h.whole (cuts keeps from) blocks b refl (λ i. none (In-append_left _ (back_told g p after.inode) b i))

  -- ---- pages

  page_back : (x : Page) → HasPage cut_both x → HasPage v x
  page_back x page = elim (cases x.birth page.placed page.stands) [
    | other apart was ↦ record { placed = page.placed; zones = page.zones; stands = was; is_file = page.is_file; zone = sym (theirs x.birth page.placed was apart (block x.index)) ∙ page.zone; some = page.some }
    | changed e same ↦
        let z : zone_in later after.inode (block x.index) ≡ x.zone = ap (λ (r : Placed). zone_in later r.inode (block x.index)) same ∙ page.zone in
        let l = left (block x.index) (λ none. page.some (sym z ∙ none)) in
        record { placed = p; zones = zones; stands = ap (at_number nodes) e ∙ stands; is_file = is; zone = sym l.1 ∙ z; some = page.some }
  ]

  file_part : IsFilePart blocks p.inode zones
  file_part = subst (IsPart g blocks p.inode) is (h.each n p stands).part

  page_kept : (x : Page) → HasPage v x → HasPage cut_both x ⊎ In x cut_touched.dropped
  page_kept x page = elim (cases_eq x.birth n) [
    | inr apart ↦ inl (record { placed = page.placed; zones = page.zones; stands = there x.birth page.placed page.stands apart; is_file = page.is_file; zone = theirs x.birth page.placed page.stands apart (block x.index) ∙ page.zone; some = page.some })
    | inl e ↦
        let z : own (block x.index) ≡ x.zone = ap (λ (r : Placed). zone_in blocks r.inode (block x.index)) (one page.placed x.birth e page.stands) ∙ page.zone in
        elim (cases_Bool (nat_lt x.index from)) [
          | inl t ↦ inl (record { placed = q; zones = filter (λ m. nat_lt m.index from) zones; stands = ap (at_number (put_number nodes n q)) e ∙ here; is_file = refl; zone = stays_as (block x.index) (k.blocks x.index ∙ t) ∙ z; some = page.some })
          | inr f ↦
              let listed = file_part.full x.index (λ none. page.some (sym z ∙ none)) in
              let i = map-In page_of gone _ (filter-In (λ (m : Mapped). not (nat_lt m.index from)) zones _ listed (ap not f)) in
              inr (subst (λ y. In y cut_touched.dropped) (let same : record { birth = n; index = x.index; zone = own (block x.index) } ≡ x = (λ j. record { birth = sym e j; index = x.index; zone = z j }) in same) i)
        ]
  ]
    where
      page_of : Mapped → Page
      page_of m = record { birth = n; index = m.index; zone = m.zone }

  dropped_page : (x : Page) → In x cut_touched.dropped → HasPage v x × In x.zone cut_touched.freed × ((zone : ℕ) → HasPage cut_both (record { birth = x.birth; index = x.index; zone = zone }) → ⊥)
  dropped_page x i =
      let w = In-map page gone x i in
      let f = In-filter (λ (m : Mapped). not (nat_lt m.index from)) zones w.0 w.1 in
      let told = file_part.listed w.0 f.0 in
      subst (λ (x : Page). HasPage v x × In x.zone cut_touched.freed × ((zone : ℕ) → HasPage cut_both (record { birth = x.birth; index = x.index; zone = zone }) → ⊥)) w.2 (
        record { placed = p; zones = zones; stands = stands; is_file = is; zone = told.0; some = told.1 },
        In-append_left (map (λ (m : Mapped). m.zone) gone) numbers_gone w.0.zone (map-In (λ (m : Mapped). m.zone) gone w.0 w.1),
        (λ zone left_page. elim (cases n left_page.placed left_page.stands) [
          | other apart was ↦ apart refl
          | changed e same ↦
              let z : zone_in later after.inode (block w.0.index) ≡ zone = ap (λ (r : Placed). zone_in later r.inode (block w.0.index)) same ∙ left_page.zone in
              let l = left (block w.0.index) (λ none. left_page.some (sym z ∙ none)) in
              true≢false (sym f.1 ∙ ap not (sym (k.blocks w.0.index) ∙ l.0))
        ]),
      )

  pub page_bytes : (x : Page) → HasPage v x → disk_of later x.zone ≡ disk_of blocks x.zone
  page_bytes x page = kept_bytes x.zone (λ i. elim (In-append_cases _ (back_told g p after.inode) x.zone i) [
    | inr j ↦ (let e = told_table g p after.inode x.zone j in let t = in_table in let high = t.1 in let range = (h.each x.birth page.placed page.stands).zones (block x.index) (λ none. page.some (sym page.zone ∙ none)) in let low = range.0 in let z = page.zone in omega arith)
    | inl j ↦
        let w = touched_stay g own keeps (cuts keeps from) x.zone (there_cuts g sound (record { blocks = blocks; inode = p.inode }) from keeps k (fit_before g sound blocks nodes n p h stands) just) (told_cut g blocks own keeps (cuts keeps from) x.zone j) in
        no_numbers w.0 x.index (h.zones n x.birth p page.placed w.0 (block x.index) stands page.stands (w.4 ∙ sym page.zone) w.3).1 w.1
  ])

  -- What a cut tells.
  pub cut_tells_all : Tells g v cut_both cut_touched (λ birth index. ⊥)
  cut_tells_all = record {
    fresh_are_touched = λ b new. inl (meta_back b new);
    stays_or_revoked = λ b old. meta_kept b old;
    revoked_are_left = λ b i. (let w = gone_is b i in (In-append_right (map (λ (m : Mapped). m.zone) gone) numbers_gone b i, gone_no_meta b i, subst (λ b. g.first ≤ b) w.1 ((h.each n p stands).zones w.0 w.2).0));
    kept = λ b none old new. kept_bytes b none;
    touched_are_meta = λ b i. inr (touched_meta b i);
    pages_are_written = λ x i. absurd i;
    was_or_written = λ x page. inl (page_back x page);
    written_are_pages = λ birth index none. absurd none;
    dropped_were_mapped = dropped_page;
    stays_or_dropped = page_kept;
    data_kept = λ x new old none. page_bytes x old;
  }
