-- The zone of a slot.
use Rattle.std.proofs.Common.{◌≡◌, ◌≢◌, ℕ, ◌*◌, ◌/◌, ◌<◌, List, sym, subst, arith}
use Rattle.minix_layout.specs.Widths.{slots_a_block}
use Rattle.minix_layout.specs.declared.division.Geometry.{Geometry}
use Rattle.minix_layout.specs.declared.inode.Inode.{Inode}
use Rattle.volume_model.specs.Plain.{HasSlotZones}
use Rattle.volume_model.specs.Volume.{block, zone_in}

pub in_short : (g : Geometry) (blocks : List (List ℕ)) (i : Inode) (slots k : ℕ) → g.width ≡ 14 → HasSlotZones g blocks i slots → k < slots → zone_in blocks i (block (k / 64)) ≢ 0
in_short g blocks i slots k width h low =
    let within : 64 * (k / 64) < slots = omega (arith, low) in
    h.no_hole (k / 64) (subst (λ w. slots_a_block w * (k / 64) < slots) (sym width) within)

pub in_long : (g : Geometry) (blocks : List (List ℕ)) (i : Inode) (slots k : ℕ) → g.width ≡ 30 → HasSlotZones g blocks i slots → k < slots → zone_in blocks i (block (k / 32)) ≢ 0
in_long g blocks i slots k width h low =
    let within : 32 * (k / 32) < slots = omega (arith, low) in
    h.no_hole (k / 32) (subst (λ w. slots_a_block w * (k / 32) < slots) (sym width) within)
