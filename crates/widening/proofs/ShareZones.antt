-- The zones that one directory has once it is widened: no two are one, and each was its own or free.
use Rattle.std.specs.Prelude.{◌≡◌, ◌≢◌, ℕ, ◌+◌, ◌-◌, ◌<◌, ◌≤◌, ◌⊎◌, ◌==◌, nat_lt, true, if◌then◌else◌, List, ◌++◌, length, drop, slice_index, refl}
use Rattle.std.proofs.Common.{sym, ap, subst, ◌∙◌, inl, inr, ⊎_elim, arith}
use Rattle.std.proofs.lemmas.Bool.{cases_eq, eq-eqb, ne_eqb, lt-ltb, le-ltb}
use Rattle.std.proofs.lemmas.List.{length-append, length-take, length-drop}
use Rattle.blk_base.specs.Members.{In}
use Rattle.blk_base.specs.laws.Members.{In-append_cases, In-take}
use Rattle.minix_layout.specs.declared.inode.Inode.{Inode}
use Rattle.volume_ops.specs.ZonePlaces.{ZonePlace, indirect, zone_in}
use Rattle.widening.specs.Directories.{data_zones, number_zones, all_needed, numbers_needed, kept_by, own_zones, zones_taken, zones_had, slot_zones, indirect_zone}
use Rattle.widening.proofs.ZoneLists.{AreApart, apart_append, apart_take, taken_or_left, index_in, index_drop}
use Rattle.widening.proofs.OwnZones.{IsOwn, own_is, own_apart, kept_apart}

module _ (blocks : List (List ℕ)) (i : Inode) (needed : ℕ) (left : List ℕ) where
  abbrev pub own : List ℕ
  own = own_zones blocks i needed

  abbrev pub kept : ℕ
  kept = kept_by i needed

  abbrev pub taken : List ℕ
  taken = zones_taken needed kept own left

  abbrev pub had : List ℕ
  had = zones_had needed kept own left

  abbrev pub slots : List ℕ
  slots = slot_zones needed kept own left

  abbrev pub top : ℕ
  top = indirect_zone needed kept own left

  -- it was its own, or it took it
  abbrev pub IsHad : ℕ → Type 0
  IsHad z = IsOwn blocks i z ⊎ In z taken

  module _ (once : (x y : ZonePlace) → zone_in blocks i x ≢ 0 → zone_in blocks i x ≡ zone_in blocks i y → x ≡ y) (apart : AreApart left)
      (unused : (z : ℕ) → In z left → IsOwn blocks i z → ⊥) (some : (z : ℕ) → In z left → z ≢ 0) (room : all_needed needed kept - length own ≤ length left) where
    pub is_had : (z : ℕ) → In z had → IsHad z
    is_had z y = ⊎_elim (λ a. inl (own_is blocks i (nat_lt 7 needed) z a)) (λ b. inr b) (In-append_cases own taken z y)

    had_some : (z : ℕ) → IsHad z → z ≢ 0
    had_some z (inl o) = o.some
    had_some z (inr t) = some z (In-take _ left z t)

    had_apart : AreApart had
    had_apart =
        apart_append own taken (own_apart blocks i once (nat_lt 7 needed)) (apart_take _ left apart)
        (λ z a b. unused z (In-take _ left z b) (own_is blocks i (nat_lt 7 needed) z a))

    had_long : all_needed needed kept ≤ length had
    had_long =
        let both = length-append own taken in
        let part = length-take (all_needed needed kept - length own) left in
        omega (arith, both, part, room)

    pub length-slots : length slots ≡ needed
    length-slots =
        let part = length-take needed had in
        let long = had_long in
        omega (arith, part, long)

    pub slots_apart : AreApart slots
    slots_apart = apart_take needed had had_apart

    pub slot_had : (z : ℕ) → In z slots → IsHad z
    slot_had z y = is_had z (In-take needed had z y)

    pub slot_some : (z : ℕ) → In z slots → z ≢ 0
    slot_some z y = had_some z (slot_had z y)

    -- ---- the indirect zone

    pub no_top : needed ≤ 7 → top ≡ 0
    no_top few = rw (le-ltb 7 needed few) refl

    top_kept : 7 < needed → kept ≢ 0 → top ≡ slice_index i.zones 7
    top_kept many there = rw (lt-ltb 7 needed many, ne_eqb (slice_index i.zones 7) 0 (λ none. there (rw (lt-ltb 7 needed many) none))) refl

    top_next : 7 < needed → kept ≡ 0 → top ≡ slice_index had needed
    top_next many none = ap (λ b. if b then (if kept == 0 then slice_index had needed else kept) else 0) (lt-ltb 7 needed many) ∙ ap (λ b. if b then slice_index had needed else kept) (eq-eqb kept 0 none)

    one_more : 7 < needed → kept ≡ 0 → needed < length had
    one_more many none =
        let all : all_needed needed kept ≡ needed + 1 = ap (λ b. needed + (if b then numbers_needed needed else 0)) (eq-eqb kept 0 none) ∙ ap (λ b. needed + (if b then 1 else 0)) (lt-ltb 7 needed many) in
        let long = had_long in
        omega (arith, all, long)

    own_flag : 7 < needed → own ≡ data_zones blocks i ++ number_zones blocks i true
    own_flag many = ap (λ b. data_zones blocks i ++ number_zones blocks i b) (lt-ltb 7 needed many)

    -- it has one, which is none of those with its slots
    pub record HasTop : Type 0 where
      pub had_is : IsHad top
      pub there : top ≢ 0
      pub apart_from : In top slots → ⊥

    kept_top : 7 < needed → kept ≢ 0 → HasTop
    kept_top many there =
        let e = top_kept many there in
        let seven : kept ≡ slice_index i.zones 7 = rw (lt-ltb 7 needed many) refl in
        let o : IsOwn blocks i (slice_index i.zones 7) = record { place = indirect; zone = refl; some = λ none. there (seven ∙ none) } in
        record {
          had_is = inl (subst (λ z. IsOwn blocks i z) (sym e) o);
          there = λ none. there (seven ∙ (sym e ∙ none));
          apart_from = λ y.
              ⊎_elim
              (λ a. kept_apart blocks i once (subst (λ zs. In (slice_index i.zones 7) zs) (own_flag many) a))
              (λ b. unused (slice_index i.zones 7) (In-take _ left (slice_index i.zones 7) b) o)
              (In-append_cases own taken (slice_index i.zones 7) (In-take needed had (slice_index i.zones 7) (subst (λ z. In z slots) e y)));
        }

    next_top : 7 < needed → kept ≡ 0 → HasTop
    next_top many none =
        let e = top_next many none in
        let low = one_more many none in
        let h = is_had (slice_index had needed) (index_in had needed low) in
        let rest = length-drop needed had in
        let zero_at : 0 < length (drop needed had) = omega (arith, rest, low) in
        let place : slice_index (drop needed had) 0 ≡ slice_index had needed = index_drop needed had 0 ∙ (let n : needed + 0 ≡ needed = omega arith in ap (slice_index had) n) in
        record {
          had_is = subst IsHad (sym e) h;
          there = λ zero. had_some (slice_index had needed) h (sym e ∙ zero);
          apart_from = λ y.
              taken_or_left needed had (slice_index had needed) had_apart (subst (λ z. In z slots) e y)
              (subst (λ z. In z (drop needed had)) place (index_in (drop needed had) 0 zero_at));
        }

    pub has_top : 7 < needed → HasTop
    has_top many = ⊎_elim (λ none. next_top many none) (λ there. kept_top many there) (cases_eq kept 0)
