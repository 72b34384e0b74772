-- Laws of homes and ways.
use Rattle.std.specs.Prelude.{◌≡◌, ◌≢◌, ℕ, ◌+◌, ◌-◌, ◌*◌, ◌/◌, ◌%◌, ◌<◌, ◌≤◌, nat_lt, nat_eq, List, length, slice_index, refl}
use Rattle.std.proofs.Common.{sym, ap, ◌∙◌, inl, inr, arith}
use Rattle.std.proofs.lemmas.Bool.{cases_Bool, eqb-true, eqb-false, ltb-true, ltb-false, lt-ltb, le-ltb}
use Rattle.std.proofs.lemmas.List.{drop_all}
use Rattle.byte_fields.specs.Fields.{number_at, number_of}
use Rattle.minix_layout.specs.declared.inode.Inode.{Inode}
use Rattle.minix_tables.specs.inodes.Map.{zone_at, entry_behind, entry_behind_two}
use Rattle.minix_tables.specs.inodes.laws.MapLaws.{zone_at-direct, zone_at-past}
use Rattle.volume_ops.specs.Places.{zone_number}
use Rattle.volume_ops.specs.Volume.{disk_of}
use Rattle.volume_model.specs.Volume.{Place, block, indirect, double, inner, zone_in}
use Rattle.volume_model.specs.Ways.{place_at, at_home, entry, entry_of, home, nowhere, slot}

-- the four ranges of an index
pub data Range (index : ℕ) : Type 0 where
  direct : index < 7 → Range index
  single : 7 ≤ index → index < 519 → Range index
  twice : 519 ≤ index → index < 262663 → Range index
  past : 262663 ≤ index → Range index

pub range : (index : ℕ) → Range index
range index =
    elim (cases_Bool (nat_lt index 7)) [
      | inl t ↦ direct (ltb-true _ _ t)
      | inr f ↦ elim (cases_Bool (nat_lt index 519)) [
        | inl t ↦ single (ltb-false _ _ f) (ltb-true _ _ t)
        | inr g ↦ elim (cases_Bool (nat_lt index 262663)) [
          | inl t ↦ twice (ltb-false _ _ g) (ltb-true _ _ t)
          | inr h ↦ past (ltb-false _ _ h)
        ]
      ]
    ]

pub home-direct : (index : ℕ) → index < 7 → home (block index) ≡ slot index
home-direct index low = rw (lt-ltb index 7 low) refl

pub home-single : (index : ℕ) → 7 ≤ index → index < 519 → home (block index) ≡ entry indirect (index - 7)
home-single index low high = rw (le-ltb index 7 low, lt-ltb index 519 high) refl

pub home-twice : (index : ℕ) → 519 ≤ index → index < 262663 → home (block index) ≡ entry (inner ((index - 519) / 512)) ((index - 519) % 512)
home-twice index low high = rw (le-ltb index 7 (omega arith), le-ltb index 519 low, lt-ltb index 262663 high) refl

pub home-past : (index : ℕ) → 262663 ≤ index → home (block index) ≡ nowhere
home-past index low = rw (le-ltb index 7 (omega arith), le-ltb index 519 (omega arith), le-ltb index 262663 low) refl

pub home-inner : (k : ℕ) → k < 512 → home (inner k) ≡ entry double k
home-inner k low = rw (lt-ltb k 512 low) refl

-- a home has one place
pub home_back : (x : Place) → home x ≢ nowhere → place_at (home x) ≡ x
home_back (block index) some =
    elim (range index) [
      | direct low ↦ rw (home-direct index low, lt-ltb index 7 low) refl
      | single low high ↦ rw (home-single index low high) (ap block (let up : 7 + (index - 7) ≡ index = omega arith in up))
      | twice low high ↦ rw (home-twice index low high) (ap block (let up : 519 + 512 * ((index - 519) / 512) + (index - 519) % 512 ≡ index = omega arith in up))
      | past low ↦ absurd (some (home-past index low))
    ]
home_back indirect some = refl
home_back double some = refl
home_back (inner k) some =
    elim (cases_Bool (nat_lt k 512)) [
      | inl t ↦ rw t refl
      | inr f ↦ absurd (some (rw f refl))
    ]

pub one_home : (x y : Place) → home x ≡ home y → home x ≢ nowhere → x ≡ y
one_home x y same some = sym (home_back x some) ∙ (ap place_at same ∙ home_back y (λ none. some (same ∙ none)))

-- by the homes, from the inode down
pub by_home : (P : Place → Type 0) →
    ((x : Place) (k : ℕ) → home x ≡ slot k → P x) →
    ((x : Place) → home x ≡ nowhere → P x) →
    ((x h : Place) (k : ℕ) → home x ≡ entry h k → P h → P x) →
    (x : Place) → P x
by_home P top none below (block index) =
    elim (range index) [
      | direct low ↦ top (block index) index (home-direct index low)
      | single low high ↦ below (block index) indirect (index - 7) (home-single index low high) (top indirect 7 refl)
      | twice low high ↦ below (block index) (inner ((index - 519) / 512)) ((index - 519) % 512) (home-twice index low high)
          (below (inner ((index - 519) / 512)) double ((index - 519) / 512) (home-inner _ (omega arith)) (top double 8 refl))
      | past low ↦ none (block index) (home-past index low)
    ]
by_home P top none below indirect = top indirect 7 refl
by_home P top none below double = top double 8 refl
by_home P top none below (inner k) =
    elim (cases_Bool (nat_lt k 512)) [
      | inl t ↦ below (inner k) double k (rw t refl) (top double 8 refl)
      | inr f ↦ none (inner k) (rw f refl)
    ]

-- ---- what stands at a home

-- a number behind the end of a zone of numbers
number_past : (body : List ℕ) (k : ℕ) → length body ≡ 1024 → 512 ≤ k → zone_number body k ≡ 0
unfolding number_at number_of
number_past body k size far = rw (drop_all (2 * k) body (omega arith)) refl

module _ (blocks : List (List ℕ)) (i : Inode) (whole : (b : ℕ) → length (disk_of blocks b) ≡ 1024) where
  zone_direct : (index : ℕ) → index < 7 → zone_in blocks i (block index) ≡ slice_index i.zones index
  zone_direct index low = zone_at-direct (entry_of blocks) i.zones index low

  zone_single : (index : ℕ) → 7 ≤ index → index < 519 → zone_in blocks i (block index) ≡ entry_behind (entry_of blocks) (slice_index i.zones 7) (index - 7)
  unfolding zone_at
  zone_single index low high = rw (le-ltb index 7 low, lt-ltb index 519 high) refl

  zone_twice : (index : ℕ) → 519 ≤ index → index < 262663 → zone_in blocks i (block index) ≡ entry_behind_two (entry_of blocks) (slice_index i.zones 8) (index - 519)
  unfolding zone_at
  zone_twice index low high = rw (le-ltb index 7 (omega arith), le-ltb index 519 low, lt-ltb index 262663 high) refl

  past_inner : (k : ℕ) → 512 ≤ k → zone_in blocks i (inner k) ≡ 0
  past_inner k far =
      elim (cases_Bool (nat_eq (slice_index i.zones 8) 0)) [
        | inl t ↦ rw t refl
        | inr f ↦ rw f (number_past (disk_of blocks (slice_index i.zones 8)) k (whole _) far)
      ]

  -- the zone of a place is what stands at its home
  pub zone_by_home : (x : Place) → zone_in blocks i x ≡ at_home blocks i (home x)
  zone_by_home (block index) =
      elim (range index) [
        | direct low ↦ rw (home-direct index low) (zone_direct index low)
        | single low high ↦ rw (home-single index low high) (zone_single index low high)
        | twice low high ↦ rw (home-twice index low high) (zone_twice index low high)
        | past low ↦ rw (home-past index low) (zone_at-past (entry_of blocks) i.zones index low)
      ]
  zone_by_home indirect = refl
  zone_by_home double = refl
  zone_by_home (inner k) =
      elim (cases_Bool (nat_lt k 512)) [
        | inl t ↦ rw t refl
        | inr f ↦ rw f (past_inner k (ltb-false _ _ f))
      ]

-- what is wanted of the zones after a change, place by place
pub record Rezoned (want : Place → ℕ) (blocks : List (List ℕ)) (i : Inode) : Type 0 where
  pub slots : (x : Place) (k : ℕ) → home x ≡ slot k → slice_index i.zones k ≡ want x
  pub entries : (x h : Place) (k : ℕ) → home x ≡ entry h k → want h ≢ 0 → entry_of blocks (want h) k ≡ want x
  pub behind : (x h : Place) (k : ℕ) → home x ≡ entry h k → want h ≡ 0 → want x ≡ 0
  pub none : (x : Place) → home x ≡ nowhere → want x ≡ 0

-- then the zones are as wanted
pub rezoned : (want : Place → ℕ) (blocks : List (List ℕ)) (i : Inode) → ((b : ℕ) → length (disk_of blocks b) ≡ 1024) → Rezoned want blocks i →
    (x : Place) → zone_in blocks i x ≡ want x
rezoned want blocks i whole r =
    by_home (λ x. zone_in blocks i x ≡ want x)
    (λ x k at. zone_by_home blocks i whole x ∙ (ap (at_home blocks i) at ∙ r.slots x k at))
    (λ x at. zone_by_home blocks i whole x ∙ (ap (at_home blocks i) at ∙ sym (r.none x at)))
    (λ x h k at up. zone_by_home blocks i whole x ∙ (ap (at_home blocks i) at ∙ (ap (λ zone. entry_behind (entry_of blocks) zone k) up ∙
    elim (cases_Bool (nat_eq (want h) 0)) [
      | inl t ↦ rw t (sym (r.behind x h k at (eqb-true _ _ t)))
      | inr f ↦ rw f (r.entries x h k at (eqb-false _ _ f))
    ])))

-- what stands at a home before it
pub own_slot : (blocks : List (List ℕ)) (i : Inode) → ((b : ℕ) → length (disk_of blocks b) ≡ 1024) → (x : Place) (k : ℕ) → home x ≡ slot k → slice_index i.zones k ≡ zone_in blocks i x
own_slot blocks i whole x k at = sym (zone_by_home blocks i whole x ∙ ap (at_home blocks i) at)

pub own_none : (blocks : List (List ℕ)) (i : Inode) → ((b : ℕ) → length (disk_of blocks b) ≡ 1024) → (x : Place) → home x ≡ nowhere → zone_in blocks i x ≡ 0
own_none blocks i whole x at = zone_by_home blocks i whole x ∙ ap (at_home blocks i) at

pub own_behind : (blocks : List (List ℕ)) (i : Inode) → ((b : ℕ) → length (disk_of blocks b) ≡ 1024) → (x h : Place) (k : ℕ) → home x ≡ entry h k → zone_in blocks i h ≡ 0 → zone_in blocks i x ≡ 0
own_behind blocks i whole x h k at none = zone_by_home blocks i whole x ∙ (ap (at_home blocks i) at ∙ ap (λ zone. entry_behind (entry_of blocks) zone k) none)

pub own_entry : (blocks : List (List ℕ)) (i : Inode) → ((b : ℕ) → length (disk_of blocks b) ≡ 1024) → (x h : Place) (k : ℕ) → home x ≡ entry h k → zone_in blocks i h ≢ 0 → entry_of blocks (zone_in blocks i h) k ≡ zone_in blocks i x
own_entry blocks i whole x h k at some =
    sym (zone_by_home blocks i whole x ∙ (ap (at_home blocks i) at ∙
    elim (cases_Bool (nat_eq (zone_in blocks i h) 0)) [ inl t ↦ absurd (some (eqb-true _ _ t)) | inr f ↦ rw f refl ]))
