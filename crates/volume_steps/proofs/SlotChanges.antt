-- Steps by which a slot that is in use is written again: `..` of a directory that moves, and a name that leads to another node.
use Rattle.std.specs.Prelude.{◌≡◌, ◌≢◌, ◌<◌, ◌+◌, ◌*◌, ◌/◌, ◌^◌, ℕ, suc, zero, false, List, [], ◌∷◌, codes, length, slice_set, Option, Some, None, option_map, unwrap_or, ◌⊎◌, refl}
use Rattle.std.specs.List.{slice_get, sum_by}
use Rattle.std.specs.List.Sorted.{IsStrictlySortedBy}
use Rattle.std.specs.Map.{keys_of, values_of}
use Rattle.std.specs.Ordering.{is_eq}
use Rattle.std.proofs.lemmas.Cmp.{nat_list_cmp_total}
use Rattle.std.proofs.lemmas.List.Sums.{sum_by-cons}
use Rattle.std.proofs.lemmas.Map.Entries.{sum_by-insert_entry}
use Rattle.std.proofs.Common.{sym, ap, subst, inl, inr, ⊎_elim, ◌∙◌, arith}
use Rattle.std.proofs.lemmas.Bool.{cases_eq, true≢false, false_from_ne_true}
use Rattle.std.proofs.lemmas.List.{length-set}
use Rattle.std.proofs.lemmas.Option.{same_Some}
use Rattle.blk_base.specs.laws.Members.{slice_get-set_same, slice_get-set_other, slice_get-length}
use Rattle.minix_layout.specs.Widths.{IsWidth, of_14, of_30, slot_size, slots_a_block}
use Rattle.minix_layout.specs.declared.slot.Slot.{Slot}
use Rattle.minix_layout.specs.Slots.{IsEntry}
use Rattle.tree_model.specs.declared.node.Node.TheVariants as nodes
use Rattle.tree_model.specs.Maps.{at_number, at_name, put_number, put_name, name_cmp}
use Rattle.tree_model.specs.Paths.{is_dot}
use Rattle.tree_model.specs.Calls.{node_zones, directory_zones, slots_with, with_name}
use Rattle.tree_model.specs.laws.MapsLaws.{at_put_name, at_put_name_cases, put_apart, name_here, name_same}
use Rattle.tree_model.proofs.Edits.{same_name}
use Rattle.minix_tables.specs.directories.Slots.{used_count}
use Rattle.volume_model.specs.declared.placed.Placed.{Placed}
use Rattle.volume_model.specs.declared.placed.Part.TheVariants as parts
use Rattle.volume_model.specs.declared.placed.DirectoryPart.{DirectoryPart}
use Rattle.volume_model.specs.Volume.{block, zone_in, HasNumber, HasNames, IsNamedIn, IsPart, IsDirectoryPart}
use Rattle.volume_model.specs.MapBlock.{OpenInode}
use Rattle.volume_model.specs.Moves.{slot_put}
use Rattle.volume_model.specs.Plain.{HasDots, HasSlotZones}
use Rattle.volume_model.specs.Trees.{directory_from, node_from}
use Rattle.volume_model.specs.laws.SlotMoves.{MayPut, may_move, put_stands, put_open}
use Rattle.volume_steps.specs.Now.{VolumeNow, Change, tree_of_now, with_contents}
use Rattle.volume_steps.specs.Steps.{at_node, place_of, tells_node, with_parent, set_parent, with_child, lead_name, slot_told}
use Rattle.volume_steps.specs.Plain.{IsInUse}
use Rattle.volume_steps.specs.laws.Steady.{IsSteady}
use Rattle.volume_steps.proofs.NodeSteps.{IsSettled, AreSlotted}
use Rattle.volume_steps.proofs.Listed.{put_told}
use Rattle.volume_steps.proofs.QuietSteps.{at_node_is, at_directory_is, quiet_steady}
use Rattle.volume_steps.proofs.Marked.{SameNumbers}
use Rattle.volume_steps.proofs.NameSteps.{slot_blocks, slot_grow, slot_settled, slot_slotted, slot_tree, slot_numbers, NameStands, place_found}
use Rattle.volume_steps.proofs.StepsTo.{StepsTo, links_at, links_put}

-- ---- a slot in use is written again

-- as many are in use as before
pub set_count : (slots : List (Option Slot)) (k : ℕ) (s t : Slot) → slice_get slots k ≡ Some (Some s) → used_count (slice_set slots k (Some t)) ≡ used_count slots
set_count [] k s t h = absurd (cc)
set_count (o ∷ slots) zero s t h = by o (same_Some o (Some s) h)
  where
    by : (o : Option Slot) → o ≡ Some s → used_count (Some t ∷ slots) ≡ used_count (o ∷ slots)
    by None e = absurd (cc)
    by (Some u) e = refl
set_count (None ∷ slots) (suc k) s t h = set_count slots k s t h
set_count (Some u ∷ slots) (suc k) s t h = ap suc (set_count slots k s t h)

same_slot : (a b : Slot) → ◌≡◌ {A = Option (Option Slot)} (Some (Some a)) (Some (Some b)) → a ≡ b
same_slot a b e = cc

-- what stands after a slot was written
set_cases : (slots : List (Option Slot)) (k : ℕ) (s : Slot) (j : ℕ) (t : Slot) → slice_get slots k ≡ Some (Some s) → (new : Slot) → slice_get (slice_set slots k (Some new)) j ≡ Some (Some t) →
    ((j ≡ k) × (new ≡ t)) ⊎ ((j ≢ k) × (slice_get slots j ≡ Some (Some t)))
set_cases slots k s j t at new found = elim (cases_eq j k) [
  | inl e ↦ inl (e, same_slot new t (sym (slice_get-set_same slots k (Some new) (slice_get-length slots k (Some s) at)) ∙ subst (λ i. slice_get (slice_set slots k (Some new)) i ≡ Some (Some t)) e found))
  | inr a ↦ inr (a, sym (slice_get-set_other slots k j (Some new) a) ∙ found)
]

-- ---- a name is put again

sum_ones : (xs : List ℕ) → sum_by (λ (x : ℕ). 1) xs ≡ length xs
sum_ones [] = refl
sum_ones (x ∷ xs) = let one = sum_by-cons (λ (x : ℕ). 1) x xs in let rest = sum_ones xs in omega arith

as_many_values : (names : List (List ℕ × ℕ)) → length (values_of names) ≡ length names
as_many_values [] = refl
as_many_values (e ∷ es) = let rest = as_many_values es in omega arith

length_put_old : (names : List (List ℕ × ℕ)) (name : List ℕ) (old birth : ℕ) → IsStrictlySortedBy name_cmp (keys_of names) → at_name names name ≡ Some old → length (put_name names name birth) ≡ length names
length_put_old names name old birth sorted found =
    let sums = subst (λ o. sum_by (λ (x : ℕ). 1) (values_of (put_name names name birth)) + unwrap_or (option_map (λ (x : ℕ). 1) o) 0 ≡ sum_by (λ (x : ℕ). 1) (values_of names) + 1) found
    (sum_by-insert_entry (λ (x : ℕ). 1) nat_list_cmp_total names name birth sorted) in
    let one = sum_ones (values_of (put_name names name birth)) in
    let two = sum_ones (values_of names) in
    let three = as_many_values (put_name names name birth) in
    let four = as_many_values names in
    omega arith

-- what stands at another name
put_name_other : (names : List (List ℕ × ℕ)) (name : List ℕ) (birth : ℕ) (other : List ℕ) → other ≢ name → at_name (put_name names name birth) other ≡ at_name names other
put_name_other names name birth other apart = put_apart name_cmp name_here name_same names name birth other (false_from_ne_true (is_eq (name_cmp other name)) (λ t. apart (name_same other name t)))

-- ---- a directory gets another parent

dots_fit : (width number : ℕ) → IsWidth width → 0 < number → number < 2 ^ 16 → IsEntry width (record { inode = number; name = codes ".." })
dots_fit width number of_14 some fits = record { used = some; fits = fits; name = refl; short = omega arith; no_slash = refl }
dots_fit width number of_30 some fits = record { used = some; fits = fits; name = refl; short = omega arith; no_slash = refl }

module _ (tx : ℕ) (v : VolumeNow) (in_use : IsInUse v) (old : IsSettled v.contents) (full : AreSlotted v.geometry (λ a. ⊥) v.contents)
    (n : ℕ) (p : Placed) (at : at_number v.contents.nodes n ≡ Some p) (d : DirectoryPart) (is : p.part ≡ parts.Directory d)
    (parent : ℕ) (q : Placed) (above : at_number v.contents.nodes parent ≡ Some q) where
  abbrev s : Slot
  s = record { inode = q.number; name = codes ".." }

  abbrev next : DirectoryPart
  next = with_parent d parent s

  dots : (r : Placed) × (at_number v.contents.nodes d.parent ≡ Some r) × HasDots d.slots p.number r.number
  dots = old.dots n p d at is

  abbrev was : Slot
  was = record { inode = dots.0.number; name = codes ".." }

  there : slice_get d.slots 1 ≡ Some (Some was)
  there = dots.2.above

  names : HasNames v.contents.nodes d
  names = in_use.volume.0.names n p d at is

  names_after : HasNames v.contents.nodes next
  names_after = record {
    named = λ name b found.
        let m = names.named name b found in
        record {
          place = m.place;
          slot = m.slot;
          stands = slice_get-set_other d.slots 1 m.place (Some s) (λ e. true≢false (ap (λ (t : Slot). is_dot t.name) (same_slot was m.slot (sym there ∙ (ap (slice_get d.slots) (sym e) ∙ m.stands))) ∙ (ap is_dot m.name_is ∙ m.no_dot))) ∙ m.stands;
          name_is = m.name_is;
          no_dot = m.no_dot;
          number = m.number;
        };
    full = λ k t found no_dot. ⊎_elim
        (λ w. absurd (true≢false (ap (λ (t : Slot). is_dot t.name) w.1 ∙ no_dot)))
        (λ w. names.full k t w.1 no_dot)
        (set_cases d.slots 1 was k t there s found);
    count = set_count d.slots 1 was s there ∙ names.count;
    once = λ j k t u first second same. ⊎_elim
        (λ w. ⊎_elim
        (λ x. w.0 ∙ sym x.0)
        (λ x. absurd (x.0 (names.once k 1 u was x.1 there (sym same ∙ sym (ap (λ (t : Slot). t.name) w.1)))))
        (set_cases d.slots 1 was k u there s second))
        (λ w. ⊎_elim
        (λ x. absurd (w.0 (names.once j 1 t was w.1 there (same ∙ sym (ap (λ (t : Slot). t.name) x.1)))))
        (λ x. names.once j k t u w.1 x.1 same)
        (set_cases d.slots 1 was k u there s second))
        (set_cases d.slots 1 was j t there s first);
  }

  long : length next.slots ≡ length d.slots
  long = length-set d.slots 1 (Some s)

  put : MayPut v.geometry v.contents p d 1 (Some s) next
  put =
      let told = in_use.volume.0.each n p at in
      let higher = in_use.volume.0.each parent q above in
      let part : IsDirectoryPart v.geometry v.contents.blocks p.inode d = subst (IsPart v.geometry v.contents.blocks p.inode) is told.part in
      record {
        mapped = (part.slots 1 (Some was) there).mapped;
        entry = dots_fit v.geometry.width q.number in_use.sound.width higher.some (let within = higher.within in let fit = in_use.sound.fits.inodes in omega arith);
        here = slice_get-set_same d.slots 1 (Some s) (slice_get-length d.slots 1 (Some was) there);
        others = λ j x apart found. sym (slice_get-set_other d.slots 1 j (Some s) apart) ∙ found;
        width = part.width;
        size = subst (λ k. slot_size v.geometry.width * k < 2 ^ 32) (sym long) (subst (λ size. size < 2 ^ 32) part.size told.fits.size);
        names = names_after;
      }

  dots_after : HasDots next.slots p.number q.number
  dots_after = record {
    here = slice_get-set_other d.slots 1 0 (Some s) (λ e. (omega arith)) ∙ dots.2.here;
    above = put.here;
    no_later = λ k t late found. dots.2.no_later k t late (sym (slice_get-set_other d.slots 1 k (Some s) (λ e. (omega arith))) ∙ found);
  }

  abbrev pub parent_set : Change
  parent_set = record {
    volume = with_contents v (slot_put v.geometry v.contents n p 1 (Some s) next);
    touched = tells_node n (slot_told v p 1 next);
  }

  abbrev open_now : OpenInode
  open_now = put_open v.geometry in_use.sound v.contents n p in_use.volume at d is 1 (Some s) next put

  steady : IsSteady tx v parent_set (λ birth index. ⊥)
  steady = quiet_steady tx v in_use n p at open_now (parts.Directory next) (λ b. b ≡ zone_in v.contents.blocks p.inode (block (1 / slots_a_block v.geometry.width)))
      (may_move v.geometry in_use.sound v.contents n p in_use.volume at d is 1 (Some s) next put) (slot_blocks v.geometry in_use.sound v.contents n p in_use.volume at d is 1 (Some s) next put) (n ∷ [])
      (slot_grow v.geometry in_use.sound v.contents n p in_use.volume at d is 1 (Some s) next put) (put_stands v.geometry in_use.sound v.contents n p in_use.volume at d is 1 (Some s) next put)
      (ap (directory_zones d.width) long ∙ sym (ap (λ part. node_zones (node_from v.contents.blocks p.inode part)) is))
      (put_told v.geometry v.contents parent_set.volume.contents parent_set.touched n _ refl (inl refl) (λ b i. elim i [ inl e ↦ sym e | inr z ↦ absurd z ]) (λ zones is. absurd (cc is)))

  pub parent_is_set : StepsTo tx v parent_set (put_number (tree_of_now v) n (nodes.Directory (record { parent = parent; width = d.width; slots = length d.slots; names = d.names }))) (links_at v.contents.nodes)
  parent_is_set = record {
    steady = steady;
    tree_is = slot_tree v.geometry in_use.sound v.contents n p in_use.volume at d is 1 (Some s) next put
        ∙ ap (λ k. put_number (tree_of_now v) n (nodes.Directory (record { parent = parent; width = d.width; slots = k; names = d.names }))) long;
    settled = slot_settled v.geometry in_use.sound v.contents n p in_use.volume at d is 1 (Some s) next put old (q, above, dots_after);
    slotted = slot_slotted v.geometry in_use.sound v.contents n p in_use.volume at d is 1 (Some s) next put (λ a r e found is apart. full a r e found is (λ z. z))
        (subst (HasSlotZones v.geometry v.contents.blocks p.inode) (sym long) (full n p d at is (λ z. z)));
    links_are = λ a. links_put v.contents.nodes n _ a (links_at v.contents.nodes) (λ e. ap (links_at v.contents.nodes) e ∙ ap (option_map (λ (p : Placed). p.inode.links)) at) (λ far. refl);
    waiting = omega arith;
  }

  pub parent_numbers : SameNumbers v.contents.nodes parent_set.volume.contents.nodes
  parent_numbers = slot_numbers v.geometry in_use.sound v.contents n p in_use.volume at d is 1 (Some s) next put

  pub set_parent_is : set_parent v n parent ≡ parent_set
  set_parent_is =
      at_directory_is v n p d (λ p d. at_node v parent (λ above. by p d above)) at is
      ∙ at_node_is v parent q (λ above. by p d above) above
    where
      by : Placed → DirectoryPart → Placed → Change
      by p d above = record {
        volume = with_contents v (slot_put v.geometry v.contents n p 1 (Some (record { inode = above.number; name = codes ".." })) (with_parent d parent (record { inode = above.number; name = codes ".." })));
        touched = tells_node n (slot_told v p 1 (with_parent d parent (record { inode = above.number; name = codes ".." })));
      }

-- ---- a name leads to another node

module _ (tx : ℕ) (v : VolumeNow) (in_use : IsInUse v) (old : IsSettled v.contents) (full : AreSlotted v.geometry (λ a. ⊥) v.contents)
    (n : ℕ) (p : Placed) (at : at_number v.contents.nodes n ≡ Some p) (d : DirectoryPart) (is : p.part ≡ parts.Directory d)
    (name : List ℕ) (met : ℕ) (found : at_name d.names name ≡ Some met) (sorted : IsStrictlySortedBy name_cmp (keys_of d.names)) (birth : ℕ) (child : Placed) (at_child : at_number v.contents.nodes birth ≡ Some child)
    (entry : IsEntry v.geometry.width (record { inode = child.number; name = name })) where
  abbrev t : Slot
  t = record { inode = child.number; name = name }

  names_before : HasNames v.contents.nodes d
  names_before = in_use.volume.0.names n p d at is

  abbrev k : ℕ
  k = place_of name d.slots

  w : NameStands d.slots name
  w = (let m = names_before.named name met found in place_found d.slots name m.place m.slot m.stands m.name_is)

  no_dot : is_dot name ≡ false
  no_dot = (names_before.named name met found).no_dot

  slot_no_dot : is_dot w.slot.name ≡ false
  slot_no_dot = ap is_dot w.name_is ∙ no_dot

  abbrev led : DirectoryPart
  led = with_child d k t birth

  number : HasNumber v.contents.nodes birth child.number
  number = (child, at_child, refl)

  here_now : slice_get led.slots k ≡ Some (Some t)
  here_now = slice_get-set_same d.slots k (Some t) (slice_get-length d.slots k (Some w.slot) w.stands)

  -- another name keeps its slot
  other_named : (other : List ℕ) (b : ℕ) → name ≢ other → at_name (put_name d.names name birth) other ≡ Some b → IsNamedIn v.contents.nodes led.slots other b
  other_named other b apart here = ⊎_elim
      (λ x. absurd (apart x.0))
      (λ was.
      let m = names_before.named other b was in
      record {
        place = m.place;
        slot = m.slot;
        stands = slice_get-set_other d.slots k m.place (Some t)
            (λ e. apart (sym w.name_is ∙ (ap (λ (t : Slot). t.name) (same_slot w.slot m.slot (sym w.stands ∙ (ap (slice_get d.slots) (sym e) ∙ m.stands))) ∙ m.name_is))) ∙ m.stands;
        name_is = m.name_is;
        no_dot = m.no_dot;
        number = m.number;
      })
      (at_put_name_cases d.names name birth other b here)

  long_names : length (put_name d.names name birth) ≡ length d.names
  long_names = length_put_old d.names name met birth sorted found

  names_led : HasNames v.contents.nodes led
  names_led = record {
    named = λ other b here. elim (same_name name other) [
      | inl e ↦ record {
        place = k;
        slot = t;
        stands = here_now;
        name_is = e;
        no_dot = ap is_dot (sym e) ∙ no_dot;
        number = subst (λ b. HasNumber v.contents.nodes b child.number)
            (same_Some birth b (sym (at_put_name d.names name birth) ∙ (ap (at_name (put_name d.names name birth)) e ∙ here))) number;
      }
      | inr apart ↦ other_named other b apart here
    ];
    full = λ j u stands free. ⊎_elim
        (λ x. (birth, ap (λ (u : Slot). at_name (put_name d.names name birth) u.name) (sym x.1) ∙ at_put_name d.names name birth, subst (λ (u : Slot). HasNumber v.contents.nodes birth u.inode) x.1 number))
        (λ x.
        let f = names_before.full j u x.1 free in
        (f.0, put_name_other d.names name birth u.name (λ e. x.0 (names_before.once j k u w.slot x.1 w.stands (e ∙ sym w.name_is))) ∙ f.1, f.2))
        (set_cases d.slots k w.slot j u w.stands t stands);
    count = set_count d.slots k w.slot t w.stands ∙ (names_before.count ∙ ap (λ m. 2 + m) (sym long_names));
    once = λ i j u x first second same. ⊎_elim
        (λ a. ⊎_elim
        (λ b. a.0 ∙ sym b.0)
        (λ b. absurd (b.0 (names_before.once j k x w.slot b.1 w.stands (sym same ∙ (sym (ap (λ (t : Slot). t.name) a.1) ∙ sym w.name_is)))))
        (set_cases d.slots k w.slot j x w.stands t second))
        (λ a. ⊎_elim
        (λ b. absurd (a.0 (names_before.once i k u w.slot a.1 w.stands (same ∙ (sym (ap (λ (t : Slot). t.name) b.1) ∙ sym w.name_is)))))
        (λ b. names_before.once i j u x a.1 b.1 same)
        (set_cases d.slots k w.slot j x w.stands t second))
        (set_cases d.slots k w.slot i u w.stands t first);
  }

  long_led : length led.slots ≡ length d.slots
  long_led = length-set d.slots k (Some t)

  put_led : MayPut v.geometry v.contents p d k (Some t) led
  put_led =
      let told = in_use.volume.0.each n p at in
      let part : IsDirectoryPart v.geometry v.contents.blocks p.inode d = subst (IsPart v.geometry v.contents.blocks p.inode) is told.part in
      record {
        mapped = (part.slots k (Some w.slot) w.stands).mapped;
        entry = entry;
        here = here_now;
        others = λ j x apart found. sym (slice_get-set_other d.slots k j (Some t) apart) ∙ found;
        width = part.width;
        size = subst (λ k. slot_size v.geometry.width * k < 2 ^ 32) (sym long_led) (subst (λ size. size < 2 ^ 32) part.size told.fits.size);
        names = names_led;
      }

  -- the dots stay
  dots_led : (own parent : ℕ) → HasDots d.slots own parent → HasDots led.slots own parent
  dots_led own parent h = record {
    here = slice_get-set_other d.slots k 0 (Some t) (λ e. not_first (sym e)) ∙ h.here;
    above = slice_get-set_other d.slots k 1 (Some t) (λ e. not_second (sym e)) ∙ h.above;
    no_later = λ j u late stands. ⊎_elim
        (λ x. ap (λ (u : Slot). is_dot u.name) (sym x.1) ∙ no_dot)
        (λ x. h.no_later j u late x.1)
        (set_cases d.slots k w.slot j u w.stands t stands);
  }
    where
      not_first : k ≡ 0 → ⊥
      not_first e = true≢false (ap (λ (t : Slot). is_dot t.name) (same_slot _ w.slot (sym h.here ∙ (ap (slice_get d.slots) (sym e) ∙ w.stands))) ∙ slot_no_dot)

      not_second : k ≡ 1 → ⊥
      not_second e = true≢false (ap (λ (t : Slot). is_dot t.name) (same_slot _ w.slot (sym h.above ∙ (ap (slice_get d.slots) (sym e) ∙ w.stands))) ∙ slot_no_dot)

  abbrev pub name_led : Change
  name_led = record {
    volume = with_contents v (slot_put v.geometry v.contents n p k (Some t) led);
    touched = tells_node n (slot_told v p k led);
  }

  abbrev open_led : OpenInode
  open_led = put_open v.geometry in_use.sound v.contents n p in_use.volume at d is k (Some t) led put_led

  steady_led : IsSteady tx v name_led (λ birth index. ⊥)
  steady_led = quiet_steady tx v in_use n p at open_led (parts.Directory led) (λ b. b ≡ zone_in v.contents.blocks p.inode (block (k / slots_a_block v.geometry.width)))
      (may_move v.geometry in_use.sound v.contents n p in_use.volume at d is k (Some t) led put_led) (slot_blocks v.geometry in_use.sound v.contents n p in_use.volume at d is k (Some t) led put_led) (n ∷ [])
      (slot_grow v.geometry in_use.sound v.contents n p in_use.volume at d is k (Some t) led put_led) (put_stands v.geometry in_use.sound v.contents n p in_use.volume at d is k (Some t) led put_led)
      (ap (directory_zones d.width) long_led ∙ sym (ap (λ part. node_zones (node_from v.contents.blocks p.inode part)) is))
      (put_told v.geometry v.contents name_led.volume.contents name_led.touched n _ refl (inl refl) (λ b i. elim i [ inl e ↦ sym e | inr z ↦ absurd z ]) (λ zones is. absurd (cc is)))

  -- it keeps its slots
  led_directory : directory_from led ≡ with_name (directory_from d) name birth
  led_directory = (let kept : length led.slots ≡ slots_with (directory_from d) name = long_led ∙ (rw found refl) in λ i. record { parent = d.parent; width = d.width; slots = kept i; names = put_name d.names name birth })

  pub name_is_led : StepsTo tx v name_led (put_number (tree_of_now v) n (nodes.Directory (with_name (directory_from d) name birth))) (links_at v.contents.nodes)
  name_is_led = record {
    steady = steady_led;
    tree_is = slot_tree v.geometry in_use.sound v.contents n p in_use.volume at d is k (Some t) led put_led
        ∙ ap (λ directory. put_number (tree_of_now v) n (nodes.Directory directory)) led_directory;
    settled = (let dots = old.dots n p d at is in slot_settled v.geometry in_use.sound v.contents n p in_use.volume at d is k (Some t) led put_led old (dots.0, dots.1, dots_led p.number dots.0.number dots.2));
    slotted = slot_slotted v.geometry in_use.sound v.contents n p in_use.volume at d is k (Some t) led put_led (λ a r e found is apart. full a r e found is (λ z. z))
        (subst (HasSlotZones v.geometry v.contents.blocks p.inode) (sym long_led) (full n p d at is (λ z. z)));
    links_are = λ a. links_put v.contents.nodes n _ a (links_at v.contents.nodes) (λ e. ap (links_at v.contents.nodes) e ∙ ap (option_map (λ (p : Placed). p.inode.links)) at) (λ far. refl);
    waiting = omega arith;
  }

  pub led_numbers : SameNumbers v.contents.nodes name_led.volume.contents.nodes
  led_numbers = slot_numbers v.geometry in_use.sound v.contents n p in_use.volume at d is k (Some t) led put_led

  pub lead_name_is : lead_name v n name birth ≡ name_led
  lead_name_is =
      at_directory_is v n p d (λ p d. at_node v birth (λ child. by p d child)) at is
      ∙ at_node_is v birth child (λ child. by p d child) at_child
    where
      by : Placed → DirectoryPart → Placed → Change
      by p d child = record {
        volume = with_contents v (slot_put v.geometry v.contents n p (place_of name d.slots) (Some (record { inode = child.number; name = name })) (with_child d (place_of name d.slots) (record { inode = child.number; name = name }) birth));
        touched = tells_node n (slot_told v p (place_of name d.slots) (with_child d (place_of name d.slots) (record { inode = child.number; name = name }) birth));
      }
