-- The volume of an image that can be checked.
use Rattle.std.specs.Prelude.{◌≡◌, ℕ, ◌<◌, List, take, Option, Some, Result, Ok, Err}
use Rattle.std.specs.List.{slice_get}
use Rattle.std.proofs.Common.{sym, ap, subst, ◌∙◌}
use Rattle.std.proofs.lemmas.Option.{get_or_from_slice_get}
use Rattle.blk_base.specs.Block.{filled}
use Rattle.minix_layout.specs.declared.division.Geometry.{Geometry}
use Rattle.minix_layout.specs.declared.fault.LayoutFault.{LayoutFault}
use Rattle.minix_layout.specs.Super.{super_of}
use Rattle.volume_ops.specs.declared.fault.VolumeFault.{VolumeFault}
use Rattle.volume_ops.specs.declared.fault.VolumeFault.TheVariants as faults
use Rattle.volume_ops.specs.laws.ReadsLaws.{err-ok, same_Ok}
use Rattle.volume_ops.specs.Volume.{walked, IsFaultOf}
use Rattle.volume_ops.proofs.WalkTests.{faultless_walked}
use Rattle.vol_check.specs.Images.{HasVolume}

-- what the superblock says is how the volume is divided
pub same_division : (image : List (List ℕ)) (b : List ℕ) (r : Result Geometry LayoutFault) (g h : Geometry) → HasVolume image h → slice_get image 1 ≡ Some b → r ≡ super_of b → r ≡ Ok g → g ≡ h
same_division image b r g h has at value ok =
    same_Ok g h (sym ok ∙ (value ∙ (ap super_of (sym (get_or_from_slice_get image 1 b (filled 0) at)) ∙ has.divided)))

-- the walk through it tells no fault
pub no_layout_fault : (g h : Geometry) (image : List (List ℕ)) (f : VolumeFault) (kind : LayoutFault) (block : ℕ) → HasVolume image h → g ≡ h → 0 < g.inodes → f ≡ faults.Layout kind block →
    IsFaultOf g (take g.zones image) f → ⊥
no_layout_fault g h image f kind block has same some is told =
    let here : HasVolume image g = subst (HasVolume image) (sym same) has in
    let met = faultless_walked g (take g.zones image) some here.faultless in
    let err : walked g (take g.zones image) ≡ Err (kind, block) = subst (IsFaultOf g (take g.zones image)) is told in
    err-ok (kind, block) met.0 (sym err ∙ met.1)
