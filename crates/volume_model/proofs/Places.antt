-- The places of zones as the walk through a volume has them, and as a changeable volume does.
use Rattle.std.specs.Prelude.{◌≡◌, ℕ, nat_lt, List, refl}
use Rattle.std.proofs.Common.{sym, ap, ◌∙◌, inl, inr}
use Rattle.std.proofs.lemmas.Bool.{cases_Bool}
use Rattle.minix_layout.specs.declared.inode.Inode.{Inode}
use Rattle.volume_ops.specs.ZonePlaces.{ZonePlace, zone_in as zone_walked}
use Rattle.volume_ops.specs.ZonePlaces as walk
use Rattle.volume_model.specs.Volume.{Place, block, indirect, double, inner, zone_in, IsWhole}
use Rattle.volume_model.specs.laws.Ways.{own_none}

abbrev pub from_walk : ZonePlace → Place
from_walk (walk.block index) = block index
from_walk walk.indirect = indirect
from_walk walk.double = double
from_walk (walk.inner k) = inner k

abbrev pub to_walk : Place → ZonePlace
to_walk (block index) = walk.block index
to_walk indirect = walk.indirect
to_walk double = walk.double
to_walk (inner k) = walk.inner k

there_back : (x : ZonePlace) → to_walk (from_walk x) ≡ x
there_back (walk.block index) = refl
there_back walk.indirect = refl
there_back walk.double = refl
there_back (walk.inner k) = refl

back_there : (x : Place) → from_walk (to_walk x) ≡ x
back_there (block index) = refl
back_there indirect = refl
back_there double = refl
back_there (inner k) = refl

pub one_from_walk : (x y : ZonePlace) → from_walk x ≡ from_walk y → x ≡ y
one_from_walk x y e = sym (there_back x) ∙ (ap to_walk e ∙ there_back y)

pub one_to_walk : (x y : Place) → to_walk x ≡ to_walk y → x ≡ y
one_to_walk x y e = sym (back_there x) ∙ (ap from_walk e ∙ back_there y)

-- both read the same zone there
pub zone_from_walk : (blocks : List (List ℕ)) (i : Inode) → IsWhole blocks → (x : ZonePlace) → zone_walked blocks i x ≡ zone_in blocks i (from_walk x)
zone_from_walk blocks i whole (walk.block index) = refl
zone_from_walk blocks i whole walk.indirect = refl
zone_from_walk blocks i whole walk.double = refl
zone_from_walk blocks i whole (walk.inner k) =
    elim (cases_Bool (nat_lt k 512)) [
      | inl t ↦ rw t refl
      | inr f ↦ rw f (sym (own_none blocks i whole (inner k) (rw f refl)))
    ]

pub zone_to_walk : (blocks : List (List ℕ)) (i : Inode) → IsWhole blocks → (x : Place) → zone_in blocks i x ≡ zone_walked blocks i (to_walk x)
zone_to_walk blocks i whole x = ap (zone_in blocks i) (sym (back_there x)) ∙ sym (zone_from_walk blocks i whole (to_walk x))
