-- The zones of an inode whose zones keep their bytes.
use Rattle.std.specs.Prelude.{◌≡◌, ◌≢◌, ℕ, nat_lt, List, refl}
use Rattle.std.proofs.Common.{sym, subst, ◌∙◌, inl, inr}
use Rattle.std.proofs.lemmas.Bool.{cases_Bool}
use Rattle.minix_layout.specs.declared.inode.Inode.{Inode}
use Rattle.volume_ops.specs.Volume.{disk_of}
use Rattle.volume_ops.specs.ZonePlaces.{ZonePlace, zone_in as zone_walked}
use Rattle.volume_ops.specs.ZonePlaces as walk
use Rattle.volume_model.specs.Volume.{Place, block, indirect, double, inner, zone_in, IsWhole, IsOfNumbers, at_indirect, at_double, at_inner}
use Rattle.volume_model.specs.laws.Ways.{own_none}
use Rattle.volume_model.specs.laws.Zones.{zones_kept}

module _ (blocks after : List (List ℕ)) (i : Inode) (whole : IsWhole blocks) (also : IsWhole after)
    (same : (x : ZonePlace) → zone_walked blocks i x ≢ 0 → disk_of after (zone_walked blocks i x) ≡ disk_of blocks (zone_walked blocks i x)) where
  inner_same : (k : ℕ) → zone_in blocks i (inner k) ≢ 0 → disk_of after (zone_in blocks i (inner k)) ≡ disk_of blocks (zone_in blocks i (inner k))
  inner_same k some =
      elim (cases_Bool (nat_lt k 512)) [
        | inl t ↦
            let e : zone_walked blocks i (walk.inner k) ≡ zone_in blocks i (inner k) = rw t refl in
            subst (λ z. disk_of after z ≡ disk_of blocks z) e (same (walk.inner k) (λ none. some (sym e ∙ none)))
        | inr f ↦ absurd (some (own_none blocks i whole (inner k) (rw f refl)))
      ]

  numbers_same : (x : Place) → IsOfNumbers x → zone_in blocks i x ≢ 0 → disk_of after (zone_in blocks i x) ≡ disk_of blocks (zone_in blocks i x)
  numbers_same (block index) numbers some = elim numbers [ ]
  numbers_same indirect at_indirect some = same walk.indirect some
  numbers_same double at_double some = same walk.double some
  numbers_same (inner k) at_inner some = inner_same k some

  kept : (x : Place) → zone_in after i x ≡ zone_in blocks i x
  kept = zones_kept blocks after i numbers_same

  pub place_kept : (x : ZonePlace) → zone_walked after i x ≡ zone_walked blocks i x
  place_kept (walk.block index) = kept (block index)
  place_kept walk.indirect = refl
  place_kept walk.double = refl
  place_kept (walk.inner k) =
      elim (cases_Bool (nat_lt k 512)) [
        | inl t ↦ rw t (kept (inner k))
        | inr f ↦ rw f refl
      ]
