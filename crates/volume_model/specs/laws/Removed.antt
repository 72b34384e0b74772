-- A move by itself: a node without a name goes, and its inode becomes zeros. Volumes stand before and after it.
use Rattle.std.specs.Prelude.{◌≡◌, ◌≢◌, ℕ, ◌^◌, ◌<◌, Bool, true, false, cond, List, [], ◌∷◌, length, Some, None, refl}
use Rattle.std.specs.List.{AllByRecursion}
use Rattle.std.specs.List.Sorted.{IsStrictlySortedBy}
use Rattle.std.specs.Map.{keys_of, remove_entry}
use Rattle.std.specs.BTreeMap.{is_at}
use Rattle.std.specs.Ordering.{nat_cmp}
use Rattle.std.specs.declared.cmp.Ordering.TheVariants.{Less}
use Rattle.std.proofs.Common.{sym, ap, subst, ◌∙◌, inl, inr, arith}
use Rattle.std.proofs.lemmas.Bool.{cases_Bool, cases_lt, true≢false}
use Rattle.std.proofs.lemmas.Option.{none-some}
use Rattle.std.proofs.lemmas.Map.{lookup-remove_entry}
use Rattle.std.proofs.lemmas.Map.Keys.{IsDistinct-from_sorted}
use Rattle.std.proofs.lemmas.Cmp.{eq_by_cmp_equiv, nat_cmp_total}
use Rattle.std.proofs.lemmas.List.{get_or-replicate, get_or_past}
use Rattle.minix_layout.specs.declared.division.Geometry.{Geometry}
use Rattle.minix_layout.specs.Geometry.{IsSound}
use Rattle.minix_layout.specs.Inodes.{FitInode, zero_inode}
use Rattle.tree_model.specs.Maps.{at_number, at_name}
use Rattle.tree_model.specs.laws.MapsLaws.{number_here, number_same}
use Rattle.volume_ops.specs.Volume.{disk_of}
use Rattle.volume_model.specs.declared.placed.Placed.{Placed}
use Rattle.volume_model.specs.declared.placed.Part.TheVariants as parts
use Rattle.volume_model.specs.declared.placed.DirectoryPart.{DirectoryPart}
use Rattle.volume_model.specs.Edits.{put_inode, edited}
use Rattle.volume_model.specs.Changes.{Changes}
use Rattle.volume_model.specs.Volume.{Place, zone_in, HasNumber, HasNames}
use Rattle.volume_model.specs.Touched.{Contents}
use Rattle.volume_model.specs.Moves.{IsVolume, node_removed}
use Rattle.volume_model.specs.laws.Changes.{changes_inode}
use Rattle.volume_model.specs.laws.Zones.{zones_kept}
use Rattle.volume_model.specs.laws.Written.{stored_kept}
use Rattle.volume_model.specs.laws.OnWay.{just_same}

-- what all keys have, those that are left have
all_left : {X : Type 0} (P : ℕ → Type 0) (test : ℕ → Bool) (es : List (ℕ × X)) → AllByRecursion P (keys_of es) → AllByRecursion P (keys_of (remove_entry test es))
all_left P test [] h = h
all_left P test (e ∷ es) h = by (test e.0) (all_left P test es h.1)
  where
    by : (t : Bool) → AllByRecursion P (keys_of (remove_entry test es)) → AllByRecursion P (keys_of (cond t es (e ∷ remove_entry test es)))
    by true rest = h.1
    by false rest = (h.0, rest)

sorted_left : {X : Type 0} (test : ℕ → Bool) (es : List (ℕ × X)) → IsStrictlySortedBy nat_cmp (keys_of es) → IsStrictlySortedBy nat_cmp (keys_of (remove_entry test es))
unfolding IsStrictlySortedBy
sorted_left test [] h = h
sorted_left test (e ∷ es) h = by (test e.0) (all_left (λ k. nat_cmp e.0 k ≡ Less) test es h.0) (sorted_left test es h.1)
  where
    by : (t : Bool) → AllByRecursion (λ k. nat_cmp e.0 k ≡ Less) (keys_of (remove_entry test es)) → IsStrictlySortedBy nat_cmp (keys_of (remove_entry test es))
        → IsStrictlySortedBy nat_cmp (keys_of (cond t es (e ∷ remove_entry test es)))
    by true all rest = h.1
    by false all rest = (all, rest)

pub zero_fits : FitInode zero_inode
zero_fits = record {
  mode = omega arith;
  uid = omega arith;
  size = omega arith;
  time = omega arith;
  gid = omega arith;
  links = omega arith;
  nine = refl;
  zones = λ k. elim (cases_lt k 9) [
    | inl low ↦ subst (λ z. z < 2 ^ 16) (sym (get_or-replicate 9 k 0 0 low)) (omega arith)
    | inr high ↦ subst (λ z. z < 2 ^ 16) (sym (get_or_past zero_inode.zones k 0 (let nine : length zero_inode.zones ≡ 9 = refl in omega arith))) (omega arith)
  ];
}

module _ (g : Geometry) (sound : IsSound g) (v : Contents) (n : ℕ) (p : Placed) (h : IsVolume g v) (stands : at_number v.nodes n ≡ Some p)
    (unnamed : (a : ℕ) (q : Placed) (d : DirectoryPart) (name : List ℕ) → at_number v.nodes a ≡ Some q → q.part ≡ parts.Directory d → at_name d.names name ≢ Some n) where
  abbrev after : List (List ℕ)
  after = edited g v.blocks (put_inode p.number zero_inode)

  abbrev left : List (ℕ × Placed)
  left = remove_entry (is_at (nat_cmp n)) v.nodes

  changes : Changes g (λ j. j ≡ p.number) (λ _. ⊥) v.blocks after
  changes = (let told = h.0.each n p stands in changes_inode g v.blocks p.number zero_inode sound h.0.whole h.0.size told.some told.within zero_fits)

  -- what stands in the nodes that are left
  at_left : (b : ℕ) → at_number left b ≡ cond (is_at (nat_cmp n) b) None (at_number v.nodes b)
  at_left b =
      let laws = eq_by_cmp_equiv nat_cmp_total in
      lookup-remove_entry laws (is_at (nat_cmp n)) (λ x y t. laws.congr n x y t) b v.nodes (IsDistinct-from_sorted nat_cmp (keys_of v.nodes) h.0.in_order)

  was : (b : ℕ) (r : Placed) → at_number left b ≡ Some r → (b ≢ n) × (at_number v.nodes b ≡ Some r)
  was b r at =
      let told = sym (at_left b) ∙ at in
      elim (cases_Bool (is_at (nat_cmp n) b)) [
        | inl t ↦ absurd (none-some r (rw t at told))
        | inr f ↦ (λ e. true≢false (sym (number_here n) ∙ (ap (is_at (nat_cmp n)) (sym e) ∙ f)), (rw f at told))
      ]

  stays : (b : ℕ) (r : Placed) → b ≢ n → at_number v.nodes b ≡ Some r → at_number left b ≡ Some r
  stays b r apart at =
      at_left b
      ∙ elim (cases_Bool (is_at (nat_cmp n) b)) [
        | inl t ↦ absurd (apart (sym (number_same n b t)))
        | inr f ↦ rw f at
      ]

  has_number : (b number : ℕ) → b ≢ n → HasNumber v.nodes b number → HasNumber left b number
  has_number b number apart x = (x.0, stays b x.0 apart x.1, x.2)

  names_kept : (a : ℕ) (q : Placed) (d : DirectoryPart) → at_number v.nodes a ≡ Some q → q.part ≡ parts.Directory d → HasNames left d
  names_kept a q d at is =
      let old = h.0.names a q d at is in
      record {
        named = λ name b found.
            let m = old.named name b found in
            record { place = m.place; slot = m.slot; stands = m.stands; name_is = m.name_is; no_dot = m.no_dot; number = has_number b m.slot.inode (λ e. unnamed a q d name at is (found ∙ ap Some e)) m.number };
        full = λ k s slot dot.
            let f = old.full k s slot dot in
            (f.0, f.1, has_number f.0 s.inode (λ e. unnamed a q d s.name at is (f.1 ∙ ap Some e)) f.2);
        count = old.count;
        once = old.once;
      }

  same_disk : (b : ℕ) (r : Placed) → at_number v.nodes b ≡ Some r → (x : Place) → zone_in v.blocks r.inode x ≢ 0 → disk_of after (zone_in v.blocks r.inode x) ≡ disk_of v.blocks (zone_in v.blocks r.inode x)
  same_disk b r at x some = changes.zones _ ((h.0.each b r at).zones x some).0 (λ z. z)

  same_zone : (b : ℕ) (r : Placed) → at_number v.nodes b ≡ Some r → (x : Place) → zone_in after r.inode x ≡ zone_in v.blocks r.inode x
  same_zone b r at = zones_kept v.blocks after r.inode (λ x numbers some. same_disk b r at x some)

  pub removed_stands : IsVolume g (node_removed g v n p)
  removed_stands = (
    record {
      whole = changes.whole;
      size = changes.size ∙ h.0.size;
      in_order = sorted_left (is_at (nat_cmp n)) v.nodes h.0.in_order;
      each = λ b r at.
          let old = was b r at in
          let told = h.0.each b r old.1 in
          stored_kept g v.blocks after r told (changes.inodes r.number told.some told.within (λ e. old.0 (h.0.numbers b n r p old.1 stands e))) (same_disk b r old.1);
      names = λ b r d at is. names_kept b r d (was b r at).1 is;
      numbers = λ a b q r at bt same. h.0.numbers a b q r (was a q at).1 (was b r bt).1 same;
      zones = λ a b q r x y at bt same some.
          let one = (was a q at).1 in
          let two = (was b r bt).1 in
          h.0.zones a b q r x y one two (sym (same_zone a q one x) ∙ (same ∙ same_zone b r two y)) (λ none. some (same_zone a q one x ∙ none));
    },
    λ b r at. (let old = (was b r at).1 in just_same (λ x. zone_in v.blocks r.inode x) (λ x. zone_in after r.inode x) (same_zone b r old) (h.1 b r old)),
  )
