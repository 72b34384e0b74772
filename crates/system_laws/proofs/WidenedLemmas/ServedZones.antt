-- The zones of one directory: each that it had or takes serves it afterwards, or is given up, and not both.
use Rattle.std.specs.Prelude.{◌≡◌, ◌≢◌, ℕ, suc, ◌+◌, ◌-◌, ◌<◌, ◌≤◌, ◌⊎◌, ◌==◌, nat_lt, true, if◌then◌else◌, List, ◌++◌, length, take, drop, slice_index, refl}
use Rattle.std.proofs.Common.{sym, ap, subst, ◌∙◌, inl, inr, ⊎_elim, arith}
use Rattle.std.proofs.lemmas.Bool.{cases_eq, cases_lt, eq-eqb, ne_eqb, lt-ltb, le-ltb, ltb-true}
use Rattle.std.proofs.lemmas.List.{length-append, length-take}
use Rattle.blk_base.specs.Members.{In}
use Rattle.blk_base.specs.laws.Members.{In-append_cases, In-append_left, In-append_right, In-take}
use Rattle.minix_layout.specs.declared.inode.Inode.{Inode}
use Rattle.volume_ops.specs.ZonePlaces.{ZonePlace, indirect, zone_in}
use Rattle.widening.specs.Directories.{data_zones, number_zones, all_needed, numbers_needed, kept_by, own_zones, zones_taken, zones_had, slot_zones, indirect_zone, zones_given}
use Rattle.widening.proofs.ZoneLists.{AreApart, In-drop, apart_append, apart_take, taken_or_left}
use Rattle.widening.proofs.OwnZones.{IsOwn, own_is, own_apart, kept_apart}
use Rattle.widening.proofs.ShareZones.{IsHad}
use Rattle.system_laws.proofs.WidenedLemmas.TakenParts.{part_of, next_of, taken_some, dropped_long, dropped_more, index_not_left}
use Rattle.system_laws.proofs.WidenedLemmas.GatheredZones.{own_in}

module _ (blocks : List (List ℕ)) (i : Inode) (needed : ℕ) (left : List ℕ) where
  abbrev own : List ℕ
  own = own_zones blocks i needed

  abbrev kept : ℕ
  kept = kept_by i needed

  abbrev taken : List ℕ
  taken = zones_taken needed kept own left

  abbrev had : List ℕ
  had = zones_had needed kept own left

  abbrev slots : List ℕ
  slots = slot_zones needed kept own left

  abbrev top : ℕ
  top = indirect_zone needed kept own left

  abbrev given : List ℕ
  given = zones_given needed kept own left

  -- its slots are in it, or the numbers of their zones
  abbrev pub Serves : ℕ → Type 0
  Serves z = In z slots ⊎ ((z ≡ top) × (7 < needed))

  -- ---- how many

  few_needed : needed ≤ 7 → all_needed needed kept ≡ needed
  few_needed few =
      ⊎_elim
      (λ none. ap (λ b. needed + (if b then numbers_needed needed else 0)) (eq-eqb kept 0 none) ∙ (ap (λ b. needed + (if b then 1 else 0)) (le-ltb 7 needed few) ∙ (let e : needed + 0 ≡ needed = omega arith in e)))
      (λ there. ap (λ b. needed + (if b then numbers_needed needed else 0)) (ne_eqb kept 0 there) ∙ (let e : needed + 0 ≡ needed = omega arith in e))
      (cases_eq kept 0)

  kept_needed : kept ≢ 0 → all_needed needed kept ≡ needed
  kept_needed there = ap (λ b. needed + (if b then numbers_needed needed else 0)) (ne_eqb kept 0 there) ∙ (let e : needed + 0 ≡ needed = omega arith in e)

  more_needed : 7 < needed → kept ≡ 0 → all_needed needed kept ≡ needed + 1
  more_needed many none = ap (λ b. needed + (if b then numbers_needed needed else 0)) (eq-eqb kept 0 none) ∙ ap (λ b. needed + (if b then 1 else 0)) (lt-ltb 7 needed many)

  -- ---- the indirect zone

  kept_is : 7 < needed → kept ≡ slice_index i.zones 7
  kept_is many = rw (lt-ltb 7 needed many) refl

  top_kept : 7 < needed → kept ≢ 0 → top ≡ slice_index i.zones 7
  top_kept many there = rw (lt-ltb 7 needed many, ne_eqb (slice_index i.zones 7) 0 (λ none. there (kept_is many ∙ none))) refl

  top_next : 7 < needed → kept ≡ 0 → top ≡ slice_index had needed
  top_next many none = ap (λ b. if b then (if kept == 0 then slice_index had needed else kept) else 0) (lt-ltb 7 needed many) ∙ ap (λ b. if b then slice_index had needed else kept) (eq-eqb kept 0 none)

  -- ---- what it had serves it, or is given up

  taken_first : (z : ℕ) → In z (take (all_needed needed kept) had) → Serves z
  taken_first z y =
      ⊎_elim
      (λ many.
      ⊎_elim
      (λ none.
      let e : all_needed needed kept ≡ suc needed = more_needed many none ∙ (let s : needed + 1 ≡ suc needed = omega arith in s) in
      ⊎_elim (λ a. inl a) (λ b. inr (sym b ∙ sym (top_next many none), many)) (next_of needed had z (subst (λ n. In z (take n had)) e y)))
      (λ there. inl (subst (λ n. In z (take n had)) (kept_needed there) y))
      (cases_eq kept 0))
      (λ few. inl (subst (λ n. In z (take n had)) (few_needed few) y))
      (cases_lt 7 needed)

  had_first : (z : ℕ) → In z had → Serves z ⊎ In z given
  had_first z y = ⊎_elim (λ a. inl (taken_first z a)) (λ b. inr b) (part_of (all_needed needed kept) had z y)

  kept_serves : (z : ℕ) → z ≢ 0 → slice_index i.zones 7 ≡ z → 7 < needed → Serves z
  kept_serves z some e many = inr (sym e ∙ sym (top_kept many (λ none. some (sym e ∙ (sym (kept_is many) ∙ none)))), many)

  pub had_serves : (z : ℕ) → IsHad blocks i needed left z → Serves z ⊎ In z given
  had_serves z (inl o) =
      ⊎_elim
      (λ y. had_first z (In-append_left own taken z y))
      (λ k. inl (kept_serves z o.some k.0 (ltb-true 7 needed k.1)))
      (own_in blocks i (nat_lt 7 needed) z o)
  had_serves z (inr t) = had_first z (In-append_right own taken z t)

  -- ---- and not both

  -- it takes zones where its own are too few, and gives up where they are too many
  pub taken_not_given : (z : ℕ) → In z taken → In z given → ⊥
  taken_not_given z a b =
      let some = taken_some (all_needed needed kept - length own) left z a in
      let long = dropped_long (all_needed needed kept) had z b in
      let both = length-append own taken in
      let part = length-take (all_needed needed kept - length own) left in
      omega (arith, some, long, both, part)

  module _ (once : (x y : ZonePlace) → zone_in blocks i x ≢ 0 → zone_in blocks i x ≡ zone_in blocks i y → x ≡ y) (apart : AreApart left)
      (unused : (z : ℕ) → In z left → IsOwn blocks i z → ⊥) where
    had_apart : AreApart had
    had_apart =
        apart_append own taken (own_apart blocks i once (nat_lt 7 needed)) (apart_take _ left apart)
        (λ z a b. unused z (In-take _ left z b) (own_is blocks i (nat_lt 7 needed) z a))

    slots_stay : (z : ℕ) → In z slots → In z given → ⊥
    slots_stay z a b = taken_or_left needed had z had_apart a (dropped_more needed (if kept == 0 then numbers_needed needed else 0) had z b)

    next_stays : 7 < needed → kept ≡ 0 → In (slice_index had needed) given → ⊥
    next_stays many none b =
        let more = subst (λ n. In (slice_index had needed) (drop n had)) (more_needed many none) b in
        index_not_left needed had had_apart (let long = dropped_long (needed + 1) had (slice_index had needed) more in omega (arith, long)) more

    own_flag : 7 < needed → own ≡ data_zones blocks i ++ number_zones blocks i true
    own_flag many = ap (λ b. data_zones blocks i ++ number_zones blocks i b) (lt-ltb 7 needed many)

    kept_stays : 7 < needed → kept ≢ 0 → In (slice_index i.zones 7) given → ⊥
    kept_stays many there b =
        let o : IsOwn blocks i (slice_index i.zones 7) = record { place = indirect; zone = refl; some = λ none. there (kept_is many ∙ none) } in
        ⊎_elim
        (λ a. kept_apart blocks i once (subst (λ zs. In (slice_index i.zones 7) zs) (own_flag many) a))
        (λ t. unused (slice_index i.zones 7) (In-take _ left (slice_index i.zones 7) t) o)
        (In-append_cases own taken (slice_index i.zones 7) (In-drop (all_needed needed kept) had (slice_index i.zones 7) b))

    top_stays : 7 < needed → In top given → ⊥
    top_stays many b =
        ⊎_elim
        (λ none. next_stays many none (subst (λ z. In z given) (top_next many none) b))
        (λ there. kept_stays many there (subst (λ z. In z given) (top_kept many there) b))
        (cases_eq kept 0)

    pub serves_stays : (z : ℕ) → Serves z → In z given → ⊥
    serves_stays z (inl a) b = slots_stay z a b
    serves_stays z (inr t) b = top_stays t.1 (subst (λ z. In z given) t.0 b)
