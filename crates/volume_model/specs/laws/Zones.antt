-- The zones of an inode where its zones of numbers keep their bytes.
use Rattle.std.specs.Prelude.{◌≡◌, ◌≢◌, ℕ, ◌-◌, ◌/◌, ◌%◌, nat_eq, nat_lt, List, slice_index, refl}
use Rattle.std.proofs.Common.{ap, ◌∙◌, inl, inr}
use Rattle.std.proofs.lemmas.Bool.{cases_Bool, eqb-false}
use Rattle.minix_layout.specs.declared.inode.Inode.{Inode}
use Rattle.minix_tables.specs.inodes.Map.{zone_at, entry_behind, indirect_start, double_start, map_end}
use Rattle.volume_ops.specs.Places.{zone_number}
use Rattle.volume_ops.specs.Volume.{disk_of}
use Rattle.volume_model.specs.Volume.{Place, block, indirect, double, inner, zone_in, IsOfNumbers, at_indirect, at_double, at_inner}

-- entries of one zone
behind_kept : (e f : ℕ → ℕ → ℕ) (zone k : ℕ) → (zone ≢ 0 → f zone k ≡ e zone k) → entry_behind f zone k ≡ entry_behind e zone k
behind_kept e f zone k same =
    elim (cases_Bool (nat_eq zone 0)) [
      | inl t ↦ rw t refl
      | inr n ↦ rw n (same (eqb-false _ _ n))
    ]

zone_at-kept : (e f : ℕ → ℕ → ℕ) (zones : List ℕ) (index : ℕ) →
    ((k : ℕ) → entry_behind f (slice_index zones 7) k ≡ entry_behind e (slice_index zones 7) k) →
    ((k j : ℕ) → entry_behind f (entry_behind f (slice_index zones 8) k) j ≡ entry_behind e (entry_behind e (slice_index zones 8) k) j) →
    zone_at f zones index ≡ zone_at e zones index
unfolding zone_at
zone_at-kept e f zones index one two =
    elim (cases_Bool (nat_lt index indirect_start)) [
      | inl t ↦ rw t refl
      | inr a ↦ elim (cases_Bool (nat_lt index double_start)) [
        | inl t ↦ rw (a, t) (one (index - indirect_start))
        | inr b ↦ elim (cases_Bool (nat_lt index map_end)) [
          | inl t ↦ rw (a, b, t) (two ((index - double_start) / 512) ((index - double_start) % 512))
          | inr c ↦ rw (a, b, c) refl
        ]
      ]
    ]

-- Frame: where an inode's zones of numbers keep their bytes, all its zones stay.
pub zones_kept : (blocks after : List (List ℕ)) (i : Inode) →
    ((x : Place) → IsOfNumbers x → zone_in blocks i x ≢ 0 → disk_of after (zone_in blocks i x) ≡ disk_of blocks (zone_in blocks i x)) →
    (x : Place) → zone_in after i x ≡ zone_in blocks i x
zones_kept blocks after i same x =
    let e = λ (zone at : ℕ). zone_number (disk_of blocks zone) at in
    let f = λ (zone at : ℕ). zone_number (disk_of after zone) at in
    let one : (k : ℕ) → entry_behind f (slice_index i.zones 7) k ≡ entry_behind e (slice_index i.zones 7) k =
    λ k. behind_kept e f (slice_index i.zones 7) k (λ some. ap (λ body. zone_number body k) (same indirect at_indirect some)) in
    let outer : (k : ℕ) → entry_behind f (slice_index i.zones 8) k ≡ entry_behind e (slice_index i.zones 8) k =
    λ k. behind_kept e f (slice_index i.zones 8) k (λ some. ap (λ body. zone_number body k) (same double at_double some)) in
    let two : (k j : ℕ) → entry_behind f (entry_behind f (slice_index i.zones 8) k) j ≡ entry_behind e (entry_behind e (slice_index i.zones 8) k) j =
    λ k j. ap (λ zone. entry_behind f zone j) (outer k) ∙ behind_kept e f (entry_behind e (slice_index i.zones 8) k) j (λ some. ap (λ body. zone_number body j) (same (inner k) at_inner some)) in
    elim x as (λ x. zone_in after i x ≡ zone_in blocks i x) [
      | block index ↦ zone_at-kept e f i.zones index one two
      | indirect ↦ refl
      | double ↦ refl
      | inner k ↦ outer k
    ]
