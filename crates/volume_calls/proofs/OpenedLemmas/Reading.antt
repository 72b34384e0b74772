-- What was read, and which zones that uses.
use Rattle.std.proofs.Common.{◌≡◌, ℕ, true, ◌↔◌, List, Result, Ok, Err, IsOk, refl, sym}
use Rattle.std.proofs.lemmas.Bool.{true≢false}
use Rattle.minix_layout.specs.declared.division.Geometry.{Geometry}
use Rattle.tree_model.specs.Calls.{Tree}
use Rattle.volume_ops.specs.Faultless.{IsUsed}
use Rattle.volume_ops.specs.Marks.{is_marked}
use Rattle.volume_ops.specs.Volume.{walked}
use Rattle.volume_ops.specs.Walk.{Walked}
use Rattle.volume_model.specs.ImageNodes.{contents_in}
use Rattle.volume_model.specs.Plain.{IsPlainContents, HasZone}
use Rattle.volume_model.specs.Touched.{Contents}

pub ok_of : {A E : Type 0} (r : Result A E) → IsOk r → (a : A) × (r ≡ Ok a)
ok_of (Ok a) h = (a, refl)
ok_of (Err e) h = absurd (true≢false (sym h))

-- the zones that the walk met are those of the nodes
pub same_zones : (g : Geometry) (blocks : List (List ℕ)) (tree : Tree) (all : Walked) → walked g blocks ≡ Ok all → IsPlainContents g (contents_in g blocks tree) →
    ((v : Contents) (found : Walked) → IsPlainContents g v → walked g v.blocks ≡ Ok found → (zone : ℕ) → (is_marked found.zones zone ≡ true) ↔ HasZone v zone) →
    ((zone : ℕ) → (is_marked all.zones zone ≡ true) ↔ IsUsed g blocks zone) → (zone : ℕ) → IsUsed g blocks zone ↔ HasZone (contents_in g blocks tree) zone
unfolding contents_in
same_zones g blocks tree all w stands met used zone =
    let m = met (contents_in g blocks tree) all stands w zone in
    let u = used zone in
    ((λ i. m.0 (u.1 i)), (λ i. u.0 (m.1 i)))
