-- The zones that a block without one takes: free zones of data, each for one hole on the way to the block.
use Rattle.std.specs.Prelude.{◌≡◌, ℕ, ◌+◌, ◌-◌, ◌/◌, ◌<◌, ◌≤◌, nat_eq, nat_lt, Bool, true, false, if◌then◌else◌, List, [], ◌∷◌, ◌++◌, length, map, filter, Option, Some, refl}
use Rattle.std.proofs.Common.{sym, ap, subst, ◌∙◌, inl, inr, ⊎_elim, arith}
use Rattle.std.proofs.lemmas.Bool.{cases_Bool, eq-eqb, eqb-true, lt-ltb, le-ltb, ltb-false, true≢false}
use Rattle.blk_base.specs.Members.{In}
use Rattle.blk_base.specs.laws.Members.{In-append_left, In-append_right, In-append_cases, slice_get-length}
use Rattle.minix_layout.specs.declared.inode.Inode.{Inode}
use Rattle.tree_model.specs.Maps.{at_number}
use Rattle.minix_tables.specs.declared.zones.zone_state.ZoneState.{ZoneState}
use Rattle.minix_tables.specs.declared.zones.zone_state.ZoneState.TheVariants as states
use Rattle.minix_tables.specs.zones.Zones.{Zones, state_of, taken}
use Rattle.minix_tables.specs.zones.laws.States.{above_first, inside}
use Rattle.volume_model.specs.declared.placed.Placed.{Placed}
use Rattle.volume_model.specs.Volume.{Place, block, indirect, double, inner, zone_in}
use Rattle.volume_model.specs.Ways.{way}
use Rattle.volume_model.specs.MapBlock.{taken_at}
use Rattle.volume_model.specs.Moves.{IsVolume, AreFree}
use Rattle.volume_model.specs.Touched.{Contents}
use Rattle.volume_model.specs.Plain.{HasZone}
use Rattle.volume_model.specs.laws.OnWay.{way-direct, way-single, way-twice, way-past, on_way}
use Rattle.volume_model.specs.laws.Ways.{direct, single, twice, past, range}
use Rattle.volume_steps.specs.Now.{VolumeNow, written}
use Rattle.volume_steps.specs.Plain.{IsInUse}
use Rattle.volume_steps.specs.Zones.{TakenFor, next_zone, take_zones, zone_bit, lacks_outer, lacks_second, take_if, zone_if, numbers_if}
use Rattle.volume_steps.proofs.Bits.{ChangesNone, bits_none, kept_zone, kept_volume}
use Rattle.volume_steps.proofs.Taking.{frees, AreTaken, none_taken, one_taken, taken_then, AreApart, apart_parts}

-- ---- zones that are taken where they are wanted

if_taken : (wanted : Bool) (m : Zones) → length (numbers_if wanted (zone_if wanted m)) ≤ frees m → AreTaken m (take_if wanted m) (numbers_if wanted (zone_if wanted m))
if_taken true m some = one_taken m (omega arith)
if_taken false m some = none_taken m

in_if : (wanted : Bool) (zone : ℕ) → wanted ≡ true → In zone (numbers_if wanted zone)
in_if wanted zone t = rw t (inl refl)

if_in : (wanted : Bool) (zone z : ℕ) → In z (numbers_if wanted zone) → (wanted ≡ true) × (zone ≡ z)
if_in true zone z (inl e) = (refl, e)
if_in true zone z (inr n) = absurd n
if_in false zone z n = absurd n

module _ (own : Place → ℕ) (index : ℕ) (m : Zones) where
  abbrev pub t : TakenFor
  t = take_zones own index m

  abbrev outer : Bool
  outer = lacks_outer own index

  abbrev second : Bool
  second = lacks_second own index

  abbrev rest : List ℕ
  rest = numbers_if outer t.taken.outer ++ numbers_if second t.taken.second

  pub zones_taken : length t.numbers ≤ frees m → AreTaken m t.zones t.numbers
  zones_taken enough =
      let one = one_taken m (omega arith) in
      let a = one.fewer in
      let l = length_both (numbers_if outer t.taken.outer) (numbers_if second t.taken.second) in
      let two = if_taken outer (taken m) (omega arith) in
      let b = two.fewer in
      let three = if_taken second (take_if outer (taken m)) (omega arith) in
      taken_then m (taken m) t.zones (next_zone m ∷ []) rest one (taken_then (taken m) (take_if outer (taken m)) t.zones _ _ two three)
    where
      length_both : (xs ys : List ℕ) → length (xs ++ ys) ≡ length xs + length ys
      length_both [] ys = omega arith
      length_both (x ∷ xs) ys = let more = length_both xs ys in omega arith

  -- ---- which hole gets which zone

  abbrev outer_place : Place
  outer_place = if nat_lt index 519 then indirect else double

  pub data Turn (x : Place) : Type 0 where
    for_itself : x ≡ block index → Turn x
    for_outer : outer ≡ true → x ≡ outer_place → Turn x
    for_second : second ≡ true → x ≡ inner ((index - 519) / 512) → Turn x

  outer-single : 7 ≤ index → index < 519 → outer ≡ nat_eq (own indirect) 0
  outer-single low high = rw (le-ltb index 7 low, lt-ltb index 519 high) refl

  outer-twice : 519 ≤ index → outer ≡ nat_eq (own double) 0
  outer-twice low = rw (le-ltb index 7 (omega arith), le-ltb index 519 low) refl

  second-twice : 519 ≤ index → second ≡ nat_eq (own (inner ((index - 519) / 512))) 0
  second-twice low = rw (le-ltb index 519 low) refl

  place-single : index < 519 → outer_place ≡ indirect
  place-single high = rw (lt-ltb index 519 high) refl

  place-twice : 519 ≤ index → outer_place ≡ double
  place-twice low = rw (le-ltb index 519 low) refl

  pub turn : (x : Place) → In x (way index) → own x ≡ 0 → Turn x
  turn x i none = elim (range index) [
    | direct low ↦ elim (subst (In x) (way-direct index low) i) [ inl e ↦ for_itself (sym e) | inr n ↦ absurd n ]
    | single low high ↦ elim (subst (In x) (way-single index low high) i) [
      | inl e ↦ for_outer (outer-single low high ∙ eq-eqb _ _ (ap own e ∙ none)) (sym e ∙ sym (place-single high))
      | inr j ↦ elim j [ inl e ↦ for_itself (sym e) | inr n ↦ absurd n ]
    ]
    | twice low high ↦ elim (subst (In x) (way-twice index low high) i) [
      | inl e ↦ for_outer (outer-twice low ∙ eq-eqb _ _ (ap own e ∙ none)) (sym e ∙ sym (place-twice low))
      | inr j ↦ elim j [
        | inl e ↦ for_second (second-twice low ∙ eq-eqb _ _ (ap own e ∙ none)) (sym e)
        | inr k ↦ elim k [ inl e ↦ for_itself (sym e) | inr n ↦ absurd n ]
      ]
    ]
    | past low ↦ absurd (past_way low)
  ]
    where
      past_way : 262663 ≤ index → ⊥
      past_way low = subst (In x) (way-past index low) i

  -- a hole on the way for each zone of numbers that is taken
  pub outer_hole : index < 262663 → outer ≡ true → In outer_place (way index) × (own outer_place ≡ 0)
  outer_hole high is = elim (range index) [
    | direct low ↦ absurd (true≢false (sym is ∙ (let none : outer ≡ false = rw (lt-ltb index 7 low) refl in none)))
    | single low up ↦ subst (λ x. In x (way index) × (own x ≡ 0)) (sym (place-single up)) (on_way indirect index (low, up), eqb-true _ _ (sym (outer-single low up) ∙ is))
    | twice low up ↦ subst (λ x. In x (way index) × (own x ≡ 0)) (sym (place-twice low)) (on_way double index (low, up), eqb-true _ _ (sym (outer-twice low) ∙ is))
    | past low ↦ absurd (omega arith)
  ]

  pub second_hole : index < 262663 → second ≡ true → In (inner ((index - 519) / 512)) (way index) × (own (inner ((index - 519) / 512)) ≡ 0)
  second_hole high is = elim (cases_Bool (nat_lt index 519)) [
    | inl y ↦ absurd (true≢false (sym is ∙ (let none : second ≡ false = rw y refl in none)))
    | inr n ↦ (let low = ltb-false _ _ n in (on_way (inner ((index - 519) / 512)) index (low, high, refl), eqb-true _ _ (sym (second-twice low) ∙ is)))
  ]

  taken_outer : taken_at t.taken outer_place ≡ t.taken.outer
  taken_outer = elim (cases_Bool (nat_lt index 519)) [ inl y ↦ rw y refl | inr n ↦ rw n refl ]

  pub turn_in : (x : Place) → Turn x → In (taken_at t.taken x) t.numbers
  turn_in x (for_itself e) = inl (ap (taken_at t.taken) (sym e))
  turn_in x (for_outer is e) = inr (In-append_left (numbers_if outer t.taken.outer) (numbers_if second t.taken.second) _
      (subst (λ z. In z (numbers_if outer t.taken.outer)) (sym (ap (taken_at t.taken) e ∙ taken_outer)) (in_if outer t.taken.outer is)))
  turn_in x (for_second is e) = inr (In-append_right (numbers_if outer t.taken.outer) (numbers_if second t.taken.second) _
      (subst (λ z. In z (numbers_if second t.taken.second)) (sym (ap (taken_at t.taken) e)) (in_if second t.taken.second is)))

  -- each zone that is taken is that of a hole on the way
  pub number_place : index < 262663 → own (block index) ≡ 0 → (z : ℕ) → In z t.numbers → (x : Place) × In x (way index) × (own x ≡ 0) × (taken_at t.taken x ≡ z)
  number_place high hole z (inl e) = (block index, on_way (block index) index (refl, high), hole, e)
  number_place high hole z (inr i) = ⊎_elim
      (λ j. (let w = if_in outer t.taken.outer z j in let o = outer_hole high w.0 in (outer_place, o.0, o.1, taken_outer ∙ w.1)))
      (λ j. (let w = if_in second t.taken.second z j in let o = second_hole high w.0 in (inner ((index - 519) / 512), o.0, o.1, w.1)))
      (In-append_cases (numbers_if outer t.taken.outer) (numbers_if second t.taken.second) z i)

  -- two holes get two zones
  at_itself : (x : Place) → x ≡ block index → taken_at t.taken x ≡ t.taken.data_zone
  at_itself x e = ap (taken_at t.taken) e

  at_outer : (x : Place) → x ≡ outer_place → taken_at t.taken x ≡ t.taken.outer
  at_outer x e = ap (taken_at t.taken) e ∙ taken_outer

  at_second : (x : Place) → x ≡ inner ((index - 519) / 512) → taken_at t.taken x ≡ t.taken.second
  at_second x e = ap (taken_at t.taken) e

  no_outer : AreApart t.numbers → outer ≡ true → t.taken.data_zone ≡ t.taken.outer → ⊥
  no_outer apart is same = apart.0 (In-append_left (numbers_if outer t.taken.outer) (numbers_if second t.taken.second) _ (subst (λ z. In z (numbers_if outer t.taken.outer)) (sym same) (in_if outer t.taken.outer is)))

  no_second : AreApart t.numbers → second ≡ true → t.taken.data_zone ≡ t.taken.second → ⊥
  no_second apart is same = apart.0 (In-append_right (numbers_if outer t.taken.outer) (numbers_if second t.taken.second) _ (subst (λ z. In z (numbers_if second t.taken.second)) (sym same) (in_if second t.taken.second is)))

  no_both : AreApart t.numbers → outer ≡ true → second ≡ true → t.taken.outer ≡ t.taken.second → ⊥
  no_both apart is it same = apart_parts (numbers_if outer t.taken.outer) (numbers_if second t.taken.second) apart.1 t.taken.outer (in_if outer t.taken.outer is)
      (subst (λ z. In z (numbers_if second t.taken.second)) (sym same) (in_if second t.taken.second it))

  turns_differ : AreApart t.numbers → (x y : Place) → Turn x → Turn y → taken_at t.taken x ≡ taken_at t.taken y → x ≡ y
  turns_differ apart x y (for_itself e) (for_itself f) same = e ∙ sym f
  turns_differ apart x y (for_itself e) (for_outer is f) same = absurd (no_outer apart is (sym (at_itself x e) ∙ (same ∙ at_outer y f)))
  turns_differ apart x y (for_itself e) (for_second is f) same = absurd (no_second apart is (sym (at_itself x e) ∙ (same ∙ at_second y f)))
  turns_differ apart x y (for_outer is e) (for_itself f) same = absurd (no_outer apart is (sym (at_itself y f) ∙ (sym same ∙ at_outer x e)))
  turns_differ apart x y (for_outer is e) (for_outer it f) same = e ∙ sym f
  turns_differ apart x y (for_outer is e) (for_second it f) same = absurd (no_both apart is it (sym (at_outer x e) ∙ (same ∙ at_second y f)))
  turns_differ apart x y (for_second is e) (for_itself f) same = absurd (no_second apart is (sym (at_itself y f) ∙ (sym same ∙ at_second x e)))
  turns_differ apart x y (for_second is e) (for_outer it f) same = absurd (no_both apart it is (sym (at_outer y f) ∙ (sym same ∙ at_second x e)))
  turns_differ apart x y (for_second is e) (for_second it f) same = e ∙ sym f

  -- ---- how many they are

  abbrev hole : Place → Bool
  hole x = nat_eq (own x) 0

  abbrev bit : Bool → ℕ
  bit b = if b then 1 else 0

  numbers_length : length t.numbers ≡ 1 + bit outer + bit second
  numbers_length = by outer second t.taken.outer t.taken.second
    where
      by : (a b : Bool) (y z : ℕ) → length (t.taken.data_zone ∷ (numbers_if a y ++ numbers_if b z)) ≡ 1 + bit a + bit b
      by true true y z = refl
      by true false y z = refl
      by false true y z = refl
      by false false y z = refl

  -- As many zones are taken as there are holes on the way.
  pub holes_counted : index < 262663 → own (block index) ≡ 0 → length (filter hole (way index)) ≡ length t.numbers
  holes_counted high none =
      let mine : hole (block index) ≡ true = eq-eqb (own (block index)) 0 none in
      elim (range index) [
        | direct low ↦
            let a : outer ≡ false = rw (lt-ltb index 7 low) refl in
            let b : second ≡ false = rw (lt-ltb index 519 (omega arith)) refl in
            ap (λ xs. length (filter hole xs)) (way-direct index low) ∙ (zero_way (hole (block index)) mine ∙ sym (numbers_length ∙ counted outer second false false a b))
        | single low up ↦
            let b : second ≡ false = rw (lt-ltb index 519 up) refl in
            ap (λ xs. length (filter hole xs)) (way-single index low up) ∙ (one_way (hole indirect) (hole (block index)) mine ∙ sym (numbers_length ∙ counted outer second (hole indirect) false (outer-single low up) b))
        | twice low up ↦
            ap (λ xs. length (filter hole xs)) (way-twice index low up)
            ∙ (two_way (hole double) (hole (inner ((index - 519) / 512))) (hole (block index)) mine ∙ sym (numbers_length ∙ counted outer second (hole double) (hole (inner ((index - 519) / 512))) (outer-twice low) (second-twice low)))
        | past low ↦ absurd (omega arith)
      ]
    where
      counted : (a b c d : Bool) → a ≡ c → b ≡ d → 1 + bit a + bit b ≡ 1 + bit c + bit d
      counted a b c d e f = ap (λ a. 1 + bit a + bit b) e ∙ ap (λ b. 1 + bit c + bit b) f

      zero_way : (z : Bool) → z ≡ true → length (if z then block index ∷ [] else []) ≡ 1 + bit false + bit false
      zero_way true e = refl
      zero_way false e = absurd (true≢false (sym e))

      one_way : (x z : Bool) → z ≡ true → length (if x then indirect ∷ (if z then block index ∷ [] else []) else (if z then block index ∷ [] else [])) ≡ 1 + bit x + bit false
      one_way true true e = refl
      one_way false true e = refl
      one_way x false e = absurd (true≢false (sym e))

      two_way : (x y z : Bool) → z ≡ true →
          length (if x then double ∷ (if y then inner ((index - 519) / 512) ∷ (if z then block index ∷ [] else []) else (if z then block index ∷ [] else []))
          else (if y then inner ((index - 519) / 512) ∷ (if z then block index ∷ [] else []) else (if z then block index ∷ [] else []))) ≡ 1 + bit x + bit y
      two_way true true true e = refl
      two_way true false true e = refl
      two_way false true true e = refl
      two_way false false true e = refl
      two_way x y false e = absurd (true≢false (sym e))

-- ---- in a volume that is in use

-- a zone of data that is something lies in the volume
pub zone_range : (v : VolumeNow) → IsInUse v → (zone : ℕ) (s : ZoneState) → state_of v.zones zone ≡ Some s → (v.geometry.first ≤ zone) × (zone < v.geometry.zones)
zone_range v h zone s is =
    let low = above_first v.zones zone s is in
    let high = slice_get-length v.zones.states (zone - v.zones.first) s (inside v.zones zone s is) in
    let first = h.first in
    let size = h.size in
    let some = h.sound.some_zone in
    (omega arith, omega arith)

free_used : ◌≡◌ {A = Option ZoneState} (Some states.Free) (Some states.Used) → ⊥
free_used e = cc

-- a free zone is not that of a node
pub free_is_none : (v : VolumeNow) → IsInUse v → (zone : ℕ) → state_of v.zones zone ≡ Some states.Free → HasZone v.contents zone → ⊥
free_is_none v h zone free has = free_used (sym free ∙ (h.used zone).1 has)

module _ (v : VolumeNow) (h : IsInUse v) (i : Inode) (index : ℕ) (enough : length (take_zones (λ x. zone_in v.contents.blocks i x) index v.zones).numbers ≤ frees v.zones) where
  abbrev own : Place → ℕ
  own x = zone_in v.contents.blocks i x

  abbrev pub taken_for : TakenFor
  taken_for = take_zones own index v.zones

  pub are_taken : AreTaken v.zones taken_for.zones taken_for.numbers
  are_taken = zones_taken own index v.zones enough

  pub numbers_are_zones : (z : ℕ) → In z taken_for.numbers → (v.geometry.first ≤ z) × (z < v.geometry.zones)
  numbers_are_zones z j = zone_range v h z states.Free (are_taken.was z j)

  -- The zones that are taken are free: no node has them, and they differ.
  pub are_free : AreFree v.geometry v.contents.blocks v.contents.nodes i taken_for.taken (way index)
  are_free = record {
    some = λ x j none e. (let r = range_of x j none in let low = r.0 in let before = h.sound.tables_below in omega arith);
    low = λ x j none. (range_of x j none).0;
    high = λ x j none. (range_of x j none).1;
    fits = λ x j none. (let r = range_of x j none in let high = r.1 in let fit = h.sound.fits.zones in omega arith);
    free = λ a r x y at j none same.
        let zone = number_of x j none in
        let range = range_of x j none in
        let low = range.0 in
        let before = h.sound.tables_below in
        free_is_none v h (taken_at taken_for.taken x) (are_taken.was _ zone) (record { birth = a; placed = r; place = y; stands = at; zone_is = same; some = (λ e. (omega arith)) });
    differ = λ x y j k none none_too same. turns_differ own index v.zones are_taken.apart x y (turn own index v.zones x j none) (turn own index v.zones y k none_too) same;
  }
    where
      number_of : (x : Place) → In x (way index) → own x ≡ 0 → In (taken_at taken_for.taken x) taken_for.numbers
      number_of x j none = turn_in own index v.zones x (turn own index v.zones x j none)

      range_of : (x : Place) → In x (way index) → own x ≡ 0 → (v.geometry.first ≤ taken_at taken_for.taken x) × (taken_at taken_for.taken x < v.geometry.zones)
      range_of x j none = numbers_are_zones (taken_at taken_for.taken x) (number_of x j none)

-- The bits of the zones that are taken are written: the volume stays as it is, and the zones are free in it.
module _ (v : VolumeNow) (h : IsInUse v) (n : ℕ) (p : Placed) (at : at_number v.contents.nodes n ≡ Some p) (index : ℕ)
    (enough : length (take_zones (λ x. zone_in v.contents.blocks p.inode x) index v.zones).numbers ≤ frees v.zones) where
  abbrev marked : Contents
  marked = written v.geometry v.contents (map (zone_bit v.geometry true) (taken_for v h p.inode index enough).numbers)

  pub marks_change_none : ChangesNone v.geometry v.contents.blocks marked.blocks
  marks_change_none = bits_none v.geometry h.sound v.contents h.volume true (taken_for v h p.inode index enough).numbers (numbers_are_zones v h p.inode index enough)

  pub volume_marked : IsVolume v.geometry marked
  volume_marked = kept_volume v.geometry v.contents h.volume marked.blocks marks_change_none

  pub own_marked : (x : Place) → zone_in marked.blocks p.inode x ≡ zone_in v.contents.blocks p.inode x
  own_marked = kept_zone v.geometry v.contents h.volume marked.blocks marks_change_none n p at

  pub free_marked : AreFree v.geometry marked.blocks marked.nodes p.inode (taken_for v h p.inode index enough).taken (way index)
  free_marked =
      let f = are_free v h p.inode index enough in
      record {
        some = λ x i gap. f.some x i (sym (own_marked x) ∙ gap);
        low = λ x i gap. f.low x i (sym (own_marked x) ∙ gap);
        high = λ x i gap. f.high x i (sym (own_marked x) ∙ gap);
        fits = λ x i gap. f.fits x i (sym (own_marked x) ∙ gap);
        free = λ a r x y found i gap same. f.free a r x y found i (sym (own_marked x) ∙ gap) (sym (kept_zone v.geometry v.contents h.volume marked.blocks marks_change_none a r found y) ∙ same);
        differ = λ x y i j gap also same. f.differ x y i j (sym (own_marked x) ∙ gap) (sym (own_marked y) ∙ also) same;
      }
