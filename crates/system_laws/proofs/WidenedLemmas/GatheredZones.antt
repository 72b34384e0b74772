-- Each zone of a directory stands in the lists in which they are gathered.
use Rattle.std.specs.Prelude.{◌≡◌, ◌≢◌, ℕ, ◌+◌, ◌-◌, ◌*◌, ◌/◌, ◌%◌, ◌<◌, ◌≤◌, ◌⊎◌, ◌==◌, Bool, true, false, not, if◌then◌else◌, List, [], ◌∷◌, ◌++◌, map, filter, length, take, slice_index, refl}
use Rattle.std.specs.List.{concat}
use Rattle.std.proofs.Common.{sym, ap, subst, ◌∙◌, inl, inr, ⊎_elim, arith}
use Rattle.std.proofs.lemmas.Bool.{cases_eq, cases_lt, cases_Bool, eq-eqb, ne_eqb, le-ltb, lt-ltb}
use Rattle.std.proofs.lemmas.List.FromFn.{get_or-map-range_with_len}
use Rattle.blk_base.specs.Members.{In}
use Rattle.blk_base.specs.laws.Members.{In-append_left, In-append_right}
use Rattle.minix_layout.specs.declared.inode.Inode.{Inode}
use Rattle.minix_tables.specs.inodes.laws.MapLaws.{zone_at-direct, zone_at-indirect, zone_at-no_indirect, zone_at-double, zone_at-no_double, zone_at-no_inner, zone_at-past}
use Rattle.volume_ops.specs.Places.{zone_number, zone_numbers}
use Rattle.volume_ops.specs.Volume.{disk_of}
use Rattle.volume_ops.specs.ZonePlaces.{ZonePlace, block, indirect, double, inner, zone_in}
use Rattle.widening.specs.Directories.{no_holes, zones_behind, data_zones, number_zones}
use Rattle.widening.proofs.OwnZones.{IsOwn}
use Rattle.widening.proofs.ZoneLists.{index_in, index_past, index_take}

In-kept : (p : ℕ → Bool) (xs : List ℕ) (z : ℕ) → In z xs → p z ≡ true → In z (filter p xs)
In-kept p [] z i t = absurd i
In-kept p (x ∷ xs) z (inl same) t = rw (ap p same ∙ t) (inl same)
In-kept p (x ∷ xs) z (inr i) t =
    elim (cases_Bool (p x)) [
      | inl here ↦ rw here (inr (In-kept p xs z i t))
      | inr none ↦ rw none (In-kept p xs z i t)
    ]

In-gathered : (f : ℕ → List ℕ) (xs : List ℕ) (x z : ℕ) → In x xs → In z (f x) → In z (concat (map f xs))
In-gathered f [] x z i y = absurd i
In-gathered f (w ∷ xs) x z (inl same) y = In-append_left (f w) (concat (map f xs)) z (subst (λ v. In z (f v)) (sym same) y)
In-gathered f (w ∷ xs) x z (inr i) y = In-append_right (f w) (concat (map f xs)) z (In-gathered f xs x z i y)

no_hole : (xs : List ℕ) (z : ℕ) → In z xs → z ≢ 0 → In z (no_holes xs)
no_hole xs z i some = In-kept (λ z. not (z == 0)) xs z i (ap not (ne_eqb z 0 some))

-- what stands at a place of a list, and is no hole
at_place : (xs : List ℕ) (k : ℕ) → slice_index xs k ≢ 0 → In (slice_index xs k) (no_holes xs)
at_place xs k some =
    ⊎_elim (λ low. no_hole xs (slice_index xs k) (index_in xs k low) some) (λ past. absurd (some (index_past xs k past))) (cases_lt k (length xs))

module _ (blocks : List (List ℕ)) (i : Inode) where
  number_there : (body : List ℕ) (k : ℕ) → k < 512 → slice_index (zone_numbers body) k ≡ zone_number body k
  unfolding zone_numbers
  number_there body k low = let e : 0 + k ≡ k = omega arith in get_or-map-range_with_len (zone_number body) 0 512 k k 0 low e

  -- an entry of a zone of numbers
  behind : (zone k : ℕ) → zone ≢ 0 → k < 512 → zone_number (disk_of blocks zone) k ≢ 0 → In (zone_number (disk_of blocks zone) k) (zones_behind blocks zone)
  behind zone k there low some =
      let e = number_there (disk_of blocks zone) k low in
      rw (ne_eqb zone 0 there) (subst (λ z. In z (no_holes (zone_numbers (disk_of blocks zone)))) e (at_place (zone_numbers (disk_of blocks zone)) k (λ none. some (sym e ∙ none))))

  abbrev seventh : ℕ
  seventh = slice_index i.zones 7

  abbrev eighth : ℕ
  eighth = slice_index i.zones 8

  abbrev entries : ℕ → ℕ → ℕ
  entries = λ zone at. zone_number (disk_of blocks zone) at

  abbrev inners : List ℕ
  inners = zones_behind blocks eighth

  abbrev doubles : List ℕ
  doubles = concat (map (zones_behind blocks) inners)

  abbrev Gathered : ℕ → Type 0
  Gathered z = In z (data_zones blocks i)

  direct_in : (k : ℕ) → k < 7 → zone_in blocks i (block k) ≢ 0 → Gathered (zone_in blocks i (block k))
  direct_in k low some =
      let e : slice_index (take 7 i.zones) k ≡ zone_in blocks i (block k) = index_take 7 i.zones k low ∙ sym (zone_at-direct entries i.zones k low) in
      In-append_left (no_holes (take 7 i.zones)) (zones_behind blocks seventh ++ doubles) (zone_in blocks i (block k))
      (subst (λ z. In z (no_holes (take 7 i.zones))) e (at_place (take 7 i.zones) k (λ none. some (sym e ∙ none))))

  indirect_in : (k : ℕ) → k < 512 → zone_in blocks i (block (7 + k)) ≢ 0 → Gathered (zone_in blocks i (block (7 + k)))
  indirect_in k low some =
      ⊎_elim
      (λ none. absurd (some (zone_at-no_indirect entries i.zones (7 + k) none (omega arith) (omega (arith, low)))))
      (λ there.
      let e = zone_at-indirect entries i.zones k there low in
      In-append_right (no_holes (take 7 i.zones)) (zones_behind blocks seventh ++ doubles) (zone_in blocks i (block (7 + k)))
      (In-append_left (zones_behind blocks seventh) doubles (zone_in blocks i (block (7 + k)))
      (subst (λ z. In z (zones_behind blocks seventh)) (sym e) (behind seventh k there low (λ none. some (e ∙ none))))))
      (cases_eq seventh 0)

  double_in : (j k : ℕ) → j < 512 → k < 512 → zone_in blocks i (block (519 + 512 * j + k)) ≢ 0 → Gathered (zone_in blocks i (block (519 + 512 * j + k)))
  double_in j k low few some =
      ⊎_elim
      (λ none. absurd (some (zone_at-no_double entries i.zones j k none low few)))
      (λ there.
      ⊎_elim
      (λ none. absurd (some (zone_at-no_inner entries i.zones j k none low few)))
      (λ more.
      let e = zone_at-double entries i.zones j k there more low few in
      In-append_right (no_holes (take 7 i.zones)) (zones_behind blocks seventh ++ doubles) (zone_in blocks i (block (519 + 512 * j + k)))
      (In-append_right (zones_behind blocks seventh) doubles (zone_in blocks i (block (519 + 512 * j + k)))
      (subst (λ z. In z doubles) (sym e)
      (In-gathered (zones_behind blocks) inners (entries eighth j) (entries (entries eighth j) k) (behind eighth j there low more) (behind (entries eighth j) k more few (λ none. some (e ∙ none)))))))
      (cases_eq (entries eighth j) 0))
      (cases_eq eighth 0)

  block_in : (k : ℕ) → zone_in blocks i (block k) ≢ 0 → Gathered (zone_in blocks i (block k))
  block_in k some = by (cases_lt k 7) (cases_lt k 519) (cases_lt k 262663)
    where
      by : (k < 7) ⊎ (7 ≤ k) → (k < 519) ⊎ (519 ≤ k) → (k < 262663) ⊎ (262663 ≤ k) → Gathered (zone_in blocks i (block k))
      by (inl low) b c = direct_in k low some
      by (inr high) (inl low) c =
          (let e : 7 + (k - 7) ≡ k = omega (arith, high) in
          subst (λ k. zone_in blocks i (block k) ≢ 0 → Gathered (zone_in blocks i (block k))) e (indirect_in (k - 7) (omega (arith, low, high))) some)
      by (inr a) (inr high) (inl low) =
          (let e : 519 + 512 * ((k - 519) / 512) + (k - 519) % 512 ≡ k = omega (arith, high) in
          subst (λ k. zone_in blocks i (block k) ≢ 0 → Gathered (zone_in blocks i (block k))) e (double_in ((k - 519) / 512) ((k - 519) % 512) (omega (arith, low, high)) (omega arith)) some)
      by (inr a) (inr high) (inr past) = absurd (some (zone_at-past entries i.zones k past))

  abbrev tops : Bool → List ℕ
  tops kept = (if kept then 0 else seventh) ∷ eighth ∷ []

  -- all but the indirect zone, where it is kept as what it is
  pub own_in : (kept : Bool) (z : ℕ) → IsOwn blocks i z → In z (data_zones blocks i ++ number_zones blocks i kept) ⊎ ((slice_index i.zones 7 ≡ z) × (kept ≡ true))
  own_in kept z o = by o.place o.zone
    where
      among : (z : ℕ) → In z (number_zones blocks i kept) → In z (data_zones blocks i ++ number_zones blocks i kept)
      among z y = In-append_right (data_zones blocks i) (number_zones blocks i kept) z y

      seven : (kept : Bool) → seventh ≡ z → In z (no_holes (tops kept) ++ inners) ⊎ ((seventh ≡ z) × (kept ≡ true))
      seven true e = inr (e, refl)
      seven false e = inl (In-append_left (no_holes (tops false)) inners z (no_hole (tops false) z (inl e) o.some))

      in_inners : (k : ℕ) → zone_in blocks i (inner k) ≡ z → (k < 512) ⊎ (512 ≤ k) → In z inners
      in_inners k e (inr past) = absurd (o.some (sym e ∙ rw (le-ltb k 512 past) refl))
      in_inners k e (inl low) =
          ⊎_elim
          (λ none. absurd (o.some (sym e ∙ rw (lt-ltb k 512 low, eq-eqb eighth 0 none) refl)))
          (λ there.
          let is : zone_in blocks i (inner k) ≡ entries eighth k = rw (lt-ltb k 512 low, ne_eqb eighth 0 there) refl in
          subst (λ y. In y inners) (sym is ∙ e) (behind eighth k there low (λ none. o.some (sym e ∙ (is ∙ none)))))
          (cases_eq eighth 0)

      by : (x : ZonePlace) → zone_in blocks i x ≡ z → In z (data_zones blocks i ++ number_zones blocks i kept) ⊎ ((seventh ≡ z) × (kept ≡ true))
      by (block k) e = inl (In-append_left (data_zones blocks i) (number_zones blocks i kept) z (subst (λ z. Gathered z) e (block_in k (λ none. o.some (sym e ∙ none)))))
      by indirect e = ⊎_elim (λ y. inl (among z y)) (λ k. inr k) (seven kept e)
      by double e = inl (among z (In-append_left (no_holes (tops kept)) inners z (no_hole (tops kept) z (inr (inl e)) o.some)))
      by (inner k) e = inl (among z (In-append_right (no_holes (tops kept)) inners z (in_inners k e (cases_lt k 512))))
