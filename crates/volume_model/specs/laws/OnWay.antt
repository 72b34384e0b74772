-- Which places lie on the way to a block, and that those in use are those on the way to a mapped block.
use Rattle.std.specs.Prelude.{◌≡◌, ◌≢◌, ℕ, ◌-◌, ◌/◌, ◌%◌, ◌<◌, ◌≤◌, nat_lt, nat_eq, List, [], ◌∷◌, length, refl, ◌⊎◌}
use Rattle.std.proofs.Common.{sym, ap, subst, ◌∙◌, inl, inr, arith}
use Rattle.std.proofs.lemmas.Bool.{cases_Bool, eqb-true, eqb-false, lt-ltb, le-ltb, ltb-true, ltb-false}
use Rattle.blk_base.specs.Members.{In}
use Rattle.minix_layout.specs.declared.division.Geometry.{Geometry}
use Rattle.minix_layout.specs.declared.inode.Inode.{Inode}
use Rattle.minix_layout.specs.Geometry.{IsSound}
use Rattle.volume_ops.specs.Volume.{disk_of}
use Rattle.volume_model.specs.Volume.{Place, block, indirect, double, inner, zone_in}
use Rattle.volume_model.specs.Ways.{entry, nowhere, home, way, IsJust, OnWay}
use Rattle.volume_model.specs.laws.Ways.{direct, single, twice, past, range, home-direct, home-single, home-twice, home-inner, own_behind}
use Rattle.volume_model.specs.laws.Gets.{cases_place}
use Rattle.volume_model.specs.MapBlock.{OpenInode, own_of, TakenZones, taken_at, map_block}
use Rattle.volume_model.specs.laws.MapBlock.{Got, IsFit, IsFresh, Outcome, all_steps, pointer_block_at, home-inner_past}

pub way-direct : (index : ℕ) → index < 7 → way index ≡ block index ∷ []
way-direct index low = rw (lt-ltb index 7 low) refl

pub way-single : (index : ℕ) → 7 ≤ index → index < 519 → way index ≡ indirect ∷ block index ∷ []
way-single index low high = rw (le-ltb index 7 low, lt-ltb index 519 high) refl

pub way-twice : (index : ℕ) → 519 ≤ index → index < 262663 → way index ≡ double ∷ inner ((index - 519) / 512) ∷ block index ∷ []
way-twice index low high = rw (le-ltb index 7 (omega arith), le-ltb index 519 low, lt-ltb index 262663 high) refl

pub way-past : (index : ℕ) → 262663 ≤ index → way index ≡ []
way-past index low = rw (le-ltb index 7 (omega arith), le-ltb index 519 (omega arith), le-ltb index 262663 low) refl

pub way_on : (x : Place) (index : ℕ) → In x (way index) → OnWay x index
way_on x index i =
    elim (range index) [
      | direct low ↦ elim (subst (In x) (way-direct index low) i) [
        | inl e ↦ subst (λ x. OnWay x index) e (refl, omega arith)
        | inr n ↦ absurd n
      ]
      | single low high ↦ elim (subst (In x) (way-single index low high) i) [
        | inl e ↦ subst (λ x. OnWay x index) e (low, high)
        | inr j ↦ elim j [ inl e ↦ subst (λ x. OnWay x index) e (refl, omega arith) | inr n ↦ absurd n ]
      ]
      | twice low high ↦ elim (subst (In x) (way-twice index low high) i) [
        | inl e ↦ subst (λ x. OnWay x index) e (low, high)
        | inr j ↦ elim j [
          | inl e ↦ subst (λ x. OnWay x index) e (low, high, refl)
          | inr k ↦ elim k [ inl e ↦ subst (λ x. OnWay x index) e (refl, high) | inr n ↦ absurd n ]
        ]
      ]
      | past low ↦ absurd (subst (In x) (way-past index low) i)
    ]

pub on_way : (x : Place) (index : ℕ) → OnWay x index → In x (way index)
on_way (block i) index on =
    elim (range index) [
      | direct low ↦ subst (In (block i)) (sym (way-direct index low)) (inl (ap block (sym on.0)))
      | single low high ↦ subst (In (block i)) (sym (way-single index low high)) (inr (inl (ap block (sym on.0))))
      | twice low high ↦ subst (In (block i)) (sym (way-twice index low high)) (inr (inr (inl (ap block (sym on.0)))))
      | past low ↦ absurd (let high = on.1 in omega arith)
    ]
on_way indirect index on = subst (In indirect) (sym (way-single index on.0 on.1)) (inl refl)
on_way double index on = subst (In double) (sym (way-twice index on.0 on.1)) (inl refl)
on_way (inner j) index on = subst (In (inner j)) (sym (way-twice index on.0 on.1)) (inr (inl (ap inner on.2)))

-- what stands above a place on the way is on it too
pub way_up : (x h : Place) (k index : ℕ) → home x ≡ entry h k → OnWay x index → OnWay h index
way_up (block i) h k index at on =
    let e = on.0 in
    let high = on.1 in
    elim (range index) [
      | direct low ↦ absurd (cc (sym (home-direct index low) ∙ (ap (λ i. home (block i)) (sym e) ∙ at)))
      | single low up ↦ subst (λ h. OnWay h index) (ap pointer_block_at (sym (home-single index low up) ∙ (ap (λ i. home (block i)) (sym e) ∙ at))) (low, up)
      | twice low up ↦ subst (λ h. OnWay h index) (ap pointer_block_at (sym (home-twice index low up) ∙ (ap (λ i. home (block i)) (sym e) ∙ at))) (low, up, refl)
      | past low ↦ absurd (omega arith)
    ]
way_up indirect h k index at on = absurd (cc at)
way_up double h k index at on = absurd (cc at)
way_up (inner j) h k index at on =
    elim (cases_Bool (nat_lt j 512)) [
      | inl t ↦ subst (λ h. OnWay h index) (ap pointer_block_at (sym (home-inner j (ltb-true _ _ t)) ∙ at)) (on.0, on.1)
      | inr f ↦ absurd (cc (sym (home-inner_past j (ltb-false _ _ f)) ∙ at))
    ]

pub way_placed : (x : Place) (index : ℕ) → OnWay x index → home x ≢ nowhere
way_placed (block i) index on none =
    let e = on.0 in
    let high = on.1 in
    elim (range index) [
      | direct low ↦ cc (sym (home-direct index low) ∙ (ap (λ i. home (block i)) (sym e) ∙ none))
      | single low up ↦ cc (sym (home-single index low up) ∙ (ap (λ i. home (block i)) (sym e) ∙ none))
      | twice low up ↦ cc (sym (home-twice index low up) ∙ (ap (λ i. home (block i)) (sym e) ∙ none))
      | past low ↦ omega arith
    ]
way_placed indirect index on none = cc none
way_placed double index on none = cc none
way_placed (inner j) index on none =
    let e = on.2 in
    let high = on.1 in
    cc (sym (home-inner j (omega arith)) ∙ none)

-- ---- map_block as a whole

pub mapped_block : (g : Geometry) → IsSound g → (t : TakenZones) (content : List ℕ) → length content ≡ 1024 → (s : OpenInode) (index : ℕ) → index < 262663 →
    IsFit g s → IsFresh g (own_of s) t (way index) → Outcome g t s (map_block g t content s index) (way index)
unfolding map_block
mapped_block g sound t content size s index high fit fresh =
    elim (range index) [
      | direct low ↦ rw (way-direct index low) (all_steps g sound t content size s (block index) [] fit (subst (IsFresh g (own_of s) t) (way-direct index low) fresh)
          (record { placed = way_placed (block index) index (refl, high); there = λ h k at. absurd (cc (sym (home-direct index low) ∙ at)) }) tt)
      | single low up ↦ rw (way-single index low up) (all_steps g sound t content size s indirect (block index ∷ []) fit (subst (IsFresh g (own_of s) t) (way-single index low up) fresh)
          (record { placed = way_placed indirect index (low, up); there = λ h k at. absurd (cc at) }) ((index - 7, home-single index low up), tt))
      | twice low up ↦ rw (way-twice index low up) (all_steps g sound t content size s double (inner ((index - 519) / 512) ∷ block index ∷ []) fit (subst (IsFresh g (own_of s) t) (way-twice index low up) fresh)
          (record { placed = way_placed double index (low, up); there = λ h k at. absurd (cc at) })
          (((index - 519) / 512, home-inner _ (omega arith)), (((index - 519) % 512, home-twice index low up), tt)))
      | past low ↦ absurd (omega arith)
    ]

-- ---- zones of numbers are those on the way to a mapped block

pub just_same : (own next : Place → ℕ) → ((x : Place) → next x ≡ own x) → IsJust own → IsJust next
just_same own next same h x some = let w = h x (λ none. some (same x ∙ none)) in (w.0, (λ none. w.1 (sym (same (block w.0)) ∙ none)), w.2)

pub way_mapped : (blocks : List (List ℕ)) (i : Inode) → ((b : ℕ) → length (disk_of blocks b) ≡ 1024) → (x : Place) (index : ℕ) → OnWay x index → zone_in blocks i (block index) ≢ 0 → zone_in blocks i x ≢ 0
way_mapped blocks i whole (block k) index on some none = some (ap (λ k. zone_in blocks i (block k)) (sym on.0) ∙ none)
way_mapped blocks i whole indirect index on some none = some (own_behind blocks i whole (block index) indirect (index - 7) (home-single index on.0 on.1) none)
way_mapped blocks i whole double index on some none =
    some (own_behind blocks i whole (block index) (inner ((index - 519) / 512)) ((index - 519) % 512) (home-twice index on.0 on.1)
    (own_behind blocks i whole (inner ((index - 519) / 512)) double ((index - 519) / 512) (let low = on.0 in let high = on.1 in home-inner _ (omega arith)) none))
way_mapped blocks i whole (inner j) index on some none =
    some (own_behind blocks i whole (block index) (inner ((index - 519) / 512)) ((index - 519) % 512) (home-twice index on.0 on.1)
    (ap (λ j. zone_in blocks i (inner j)) on.2 ∙ none))

pub in_list : (y : Place) (xs : List Place) → In y xs ⊎ (In y xs → ⊥)
in_list y [] = inr (λ n. n)
in_list y (x ∷ xs) = elim (cases_place x y) [
  | inl e ↦ inl (inl e)
  | inr a ↦ elim (in_list y xs) [ inl i ↦ inl (inr i) | inr n ↦ inr (λ i. elim i [ inl e ↦ a e | inr j ↦ n j ]) ]
]

-- After a block is mapped, the zones of numbers are again those on the way to a mapped block.
pub just_mapped : (own next : Place → ℕ) (t : TakenZones) (index : ℕ) → index < 262663 → Got own next t (way index) → ((x : Place) → In x (way index) → own x ≡ 0 → taken_at t x ≢ 0) → IsJust own → IsJust next
just_mapped own next t index high got some h x now =
    elim (cases_Bool (nat_eq (own x) 0)) [
      | inr n ↦
          let old = h x (eqb-false _ _ n) in
          (old.0, (λ none. old.1 (sym (got.kept (block old.0) old.1) ∙ none)), old.2)
      | inl z ↦ elim (in_list x (way index)) [
        | inr out ↦ absurd (now (got.others x out ∙ eqb-true _ _ z))
        | inl i ↦ (index, here, way_on x index i)
      ]
    ]
  where
    here : next (block index) ≢ 0
    here none =
        let i = on_way (block index) index (refl, high) in
        elim (cases_Bool (nat_eq (own (block index)) 0)) [
          | inl z ↦ some (block index) i (eqb-true _ _ z) (sym (got.taken (block index) i (eqb-true _ _ z)) ∙ none)
          | inr n ↦ eqb-false _ _ n (sym (got.kept (block index) (eqb-false _ _ n)) ∙ none)
        ]
