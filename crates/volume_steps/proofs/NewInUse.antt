-- A new volume is plain in use.
use Rattle.std.proofs.Common.{◌≡◌, ◌≢◌, ◌<◌, ℕ, zero, suc, ◌+◌, ◌-◌, nat_lt, Bool, true, false, cond, ◌||◌, if◌then◌else◌, List, [], ◌∷◌, map, Some, None, refl, sym, ap, subst, ◌∙◌, arith, inl, inr, count_by, slice_get}
use Rattle.std.specs.List.{range_with_len}
use Rattle.std.specs.Ordering.{nat_cmp}
use Rattle.std.proofs.Common.{is_eq}
use Rattle.std.proofs.lemmas.Bool.{cases_eq, ne_eqb, eq-eqb, cases_Bool}
use Rattle.std.proofs.lemmas.List.FromFn.{length-map-range_with_len}
use Rattle.std.proofs.lemmas.List.Sums.{sum_by-cons}
use Rattle.minix_layout.specs.declared.division.Geometry.{Geometry}
use Rattle.minix_layout.specs.Geometry.{IsSound}
use Rattle.minix_tables.specs.inodes.Map.{zone_at}
use Rattle.minix_layout.specs.Widths.{slot_size, slots_a_block}
use Rattle.minix_layout.specs.laws.Places.{form_is}
use Rattle.tree_model.specs.declared.node.Node.{Node}
use Rattle.tree_model.specs.declared.node.Node.TheVariants as nodes
use Rattle.tree_model.specs.Maps.{at_number, at_name}
use Rattle.tree_model.specs.Rooted.{HasEntry}
use Rattle.tree_model.specs.laws.MapsLaws.{number_same}
use Rattle.tree_model.specs.Calls.{used_zones}
use Rattle.minix_tables.specs.declared.zones.zone_state.ZoneState.TheVariants as states
use Rattle.minix_tables.specs.zones.Zones.{mark, state_of, is_used}
use Rattle.volume_model.specs.declared.placed.Placed.{Placed}
use Rattle.volume_model.specs.NewVolume.{new_volume, new_blocks, root_placed, root_inode}
use Rattle.volume_model.specs.Plain.{IsPlainContents, HasZone}
use Rattle.volume_model.specs.Trees.{node_now, tree_now}
use Rattle.volume_model.specs.Volume.{Place, block, indirect, double, inner, zone_in}
use Rattle.volume_model.specs.Ways.{OnWay}
use Rattle.volume_steps.specs.Now.{VolumeNow, tree_of_now}
use Rattle.volume_steps.specs.Plain.{IsPlainNow, IsInUse}
use Rattle.volume_steps.proofs.NewDirectories.{first_block}
use Rattle.volume_steps.proofs.TreeSteps.{new_zones, tree_back}
use Rattle.volume_steps.specs.NewNow.{new_now}

-- ---- the states of zones

get_map_range : {X : Type 0} (f : ℕ → X) (n a k : ℕ) (y : X) → slice_get (map f (range_with_len a n)) k ≡ Some y → y ≡ f (a + k)
get_map_range f zero a k y e = absurd (cc)
get_map_range f (suc n) a zero y e = (let same : a ≡ a + 0 = omega arith in let here : y ≡ f a = cc in here ∙ ap f same)
get_map_range f (suc n) a (suc k) y e = (let same : (a + 1) + k ≡ a + suc k = omega arith in get_map_range f n (a + 1) k y e ∙ ap f same)

marked : (first z : ℕ) → mark (first ∷ []) z ≡ states.Used → z ≡ first
marked first z e = elim (cases_eq first z) [
  | inl same ↦ sym same
  | inr apart ↦ absurd (let no = ne_eqb first z apart in let free : mark (first ∷ []) z ≡ states.Free = ap (λ (b : Bool). if (b || false) then states.Used else states.Free) no in cc)
]

mark_first : (first : ℕ) → mark (first ∷ []) first ≡ states.Used
mark_first first = ap (λ (b : Bool). if (b || false) then states.Used else states.Free) (eq-eqb first first refl)

unused : (first z : ℕ) → first < z → is_used (mark (first ∷ []) z) ≡ false
unused first z less = ap (λ (b : Bool). is_used (if (b || false) then states.Used else states.Free)) (ne_eqb first z (λ e. omega arith))

abbrev bit : Bool → ℕ
bit used = cond used 1 0

both_none : (a b : ℕ) → a ≡ 0 → b ≡ 0 → a + b ≡ 0
both_none a b e f = omega arith

one_alone : (a b : ℕ) → a ≡ 1 → b ≡ 0 → a + b ≡ 1
one_alone a b e f = omega arith

none_used : (first n a : ℕ) → first < a → count_by is_used (map (mark (first ∷ [])) (range_with_len a n)) ≡ 0
none_used first zero a less = refl
none_used first (suc n) a less =
    sum_by-cons (λ x. bit (is_used x)) (mark (first ∷ []) a) (map (mark (first ∷ [])) (range_with_len (a + 1) n))
    ∙ both_none (bit (is_used (mark (first ∷ []) a))) (count_by is_used (map (mark (first ∷ [])) (range_with_len (a + 1) n))) (ap bit (unused first a less)) (none_used first n (a + 1) (omega arith))

one_used : (first n : ℕ) → count_by is_used (map (mark (first ∷ [])) (range_with_len first (suc n))) ≡ 1
one_used first n =
    sum_by-cons (λ x. bit (is_used x)) (mark (first ∷ []) first) (map (mark (first ∷ [])) (range_with_len (first + 1) n))
    ∙ one_alone (bit (is_used (mark (first ∷ []) first))) (count_by is_used (map (mark (first ∷ [])) (range_with_len (first + 1) n))) (ap (λ state. bit (is_used state)) (mark_first first))
    (none_used first n (first + 1) (omega arith))

-- ---- the root

only : (b : ℕ) (q p : Placed) → at_number ((0, q) ∷ []) b ≡ Some p → q ≡ p
only b q p e = elim (cases_eq b 0) [
  | inl same ↦ (let here : at_number ((0, q) ∷ []) b ≡ Some q = ap (at_number ((0, q) ∷ [])) same in cc)
  | inr apart ↦ absurd (let no : is_eq (nat_cmp b 0) ≡ false = apart_number b 0 apart in let none : at_number ((0, q) ∷ []) b ≡ None = (rw no refl) in cc)
]
  where
    apart_number : (k j : ℕ) → k ≢ j → is_eq (nat_cmp k j) ≡ false
    apart_number k j apart = by (is_eq (nat_cmp k j)) refl
      where
        by : (b : Bool) → is_eq (nat_cmp k j) ≡ b → b ≡ false
        by true e = absurd (apart (number_same k j e))
        by false e = refl

module _ (g : Geometry) (sound : IsSound g) (plain : IsPlainContents g (new_volume g)) where
  abbrev own : Place → ℕ
  own x = zone_in (new_blocks g) (root_inode g) x

  first_is : own (block 0) ≡ g.first
  unfolding zone_at
  first_is = refl

  mapped : (index : ℕ) → own (block index) ≢ 0 → index ≡ 0
  mapped index some = first_block (slot_size g.width) (slots_a_block g.width) (form_is g.width) index ((plain.slot_zones 0 (root_placed g) _ refl refl).no_more index some)

  zone_is : (x : Place) → own x ≢ 0 → own x ≡ g.first
  zone_is x some = (let j = plain.volume.1 0 (root_placed g) refl x some in by x (mapped j.0 j.1) j.2)
    where
      by : (x : Place) → {index : ℕ} → index ≡ 0 → OnWay x index → own x ≡ g.first
      by (block i) zero_is on = (let e : i ≡ 0 = on.0 ∙ zero_is in ap (λ k. own (block k)) e ∙ first_is)
      by indirect zero_is on = absurd (let low = on.0 in omega arith)
      by double zero_is on = absurd (let low = on.0 in omega arith)
      by (inner k) zero_is on = absurd (let low = on.0 in omega arith)

  abbrev v : VolumeNow
  v = new_now g

  from_zone : (zone : ℕ) → HasZone (new_volume g) zone → zone ≡ g.first
  from_zone zone h =
      let root = only h.birth (root_placed g) h.placed h.stands in
      let there : own h.place ≡ zone = ap (λ (p : Placed). zone_in (new_blocks g) p.inode h.place) root ∙ h.zone_is in
      sym there ∙ zone_is h.place (λ none. h.some (sym there ∙ none))

  has_first : HasZone (new_volume g) g.first
  has_first = record {
    birth = 0;
    placed = root_placed g;
    place = block 0;
    stands = refl;
    zone_is = first_is;
    some = λ none. (plain.slot_zones 0 (root_placed g) _ refl refl).no_hole 0 (omega arith) (first_is ∙ none);
  }

  state_is : (zone : ℕ) → state_of v.zones zone ≡ Some states.Used → zone ≡ g.first
  state_is zone e = elim (cases_Bool (nat_lt zone g.first)) [
    | inl t ↦ absurd (let none : state_of v.zones zone ≡ None = (rw t refl) in cc)
    | inr f ↦
        let at : slice_get v.zones.states (zone - g.first) ≡ Some states.Used = sym (rw f refl) ∙ e in
        let here = get_map_range (mark (g.first ∷ [])) (g.zones - g.first) g.first (zone - g.first) states.Used at in
        let back : g.first + (zone - g.first) ≡ zone = grind arith in
        marked g.first zone (sym (here ∙ ap (mark (g.first ∷ [])) back))
  ]

  first_used : state_of v.zones g.first ≡ Some states.Used
  first_used = by (g.zones - g.first) (let more = sound.some_zone in omega arith)
    where
      by : (n : ℕ) → 0 < n → (if nat_lt g.first g.first then None else slice_get (map (mark (g.first ∷ [])) (range_with_len g.first n)) (g.first - g.first)) ≡ Some states.Used
      by zero some = absurd (omega arith)
      by (suc n) some =
          let not_less : nat_lt g.first g.first ≡ false = grind arith in
          let none : g.first - g.first ≡ 0 = omega arith in
          rw (not_less, none) (ap Some (mark_first g.first))

  one_counted : count_by is_used v.zones.states ≡ 1
  one_counted = by (g.zones - g.first) (let more = sound.some_zone in omega arith)
    where
      by : (n : ℕ) → 0 < n → count_by is_used (map (mark (g.first ∷ [])) (range_with_len g.first n)) ≡ 1
      by zero some = absurd (omega arith)
      by (suc n) some = one_used g.first n

  one_tree : used_zones (tree_of_now v) ≡ 1
  unfolding used_zones tree_now
  one_tree = ap (λ n. 0 + n) (new_zones g.width 0)

  no_name : (parent : ℕ) (name : List ℕ) (birth : ℕ) → HasEntry (tree_of_now v) parent name birth → ⊥
  no_name parent name birth gives =
      let back = tree_back v.contents.blocks v.contents.nodes parent (nodes.Directory gives.directory) gives.stands in
      let root = only parent (root_placed g) back.0 back.1 in
      let node : node_now v.contents.blocks (root_placed g) ≡ nodes.Directory gives.directory = ap (node_now v.contents.blocks) root ∙ back.2 in
      let named : at_name (names_in_it (node_now v.contents.blocks (root_placed g))) name ≡ Some birth = ap (λ node. at_name (names_in_it node) name) node ∙ gives.named in
      absurd (cc)
    where
      names_in_it : Node → List (List ℕ × ℕ)
      names_in_it (nodes.Directory d) = d.names
      names_in_it other = []

  in_use : IsInUse v
  in_use = record {
    sound = sound;
    volume = plain.volume;
    first = refl;
    size = length-map-range_with_len (mark (g.first ∷ [])) g.first (g.zones - g.first);
    used = λ zone. (
      λ used. subst (HasZone (new_volume g)) (sym (state_is zone used)) has_first,
      λ has. subst (λ z. state_of v.zones z ≡ Some states.Used) (sym (from_zone zone has)) first_used,
    );
    counted = one_counted ∙ sym one_tree;
  }

  pub new_in_use : IsPlainNow (new_now g)
  new_in_use = record {
    in_use = in_use;
    plain = plain;
    path_names = λ parent name birth gives. absurd (no_name parent name birth gives);
  }
