-- The zones of one inode: each number that is not 0 is tested, in order, and the blocks of the file are noted.
use Rattle.std.specs.Prelude.{ℕ, ◌+◌, ◌==◌, Bool, ◌||◌, nat_lt, nat_le, if◌then◌else◌, List, [], ◌∷◌, ◌++◌, take, slice_index, Result, Ok, Err}
use Rattle.minix_layout.specs.declared.division.Geometry.{Geometry}
use Rattle.minix_layout.specs.declared.fault.LayoutFault.{LayoutFault}
use Rattle.minix_layout.specs.declared.fault.LayoutFault.TheVariants.{BadZone}
use Rattle.volume_ops.specs.declared.found.Mapped.{Mapped}
use Rattle.volume_ops.specs.Reads.{Reads, Ret, Read, if_ok}
use Rattle.volume_ops.specs.Places.{zone_numbers}
use Rattle.volume_ops.specs.Marks.{is_marked, marked}

-- a fault, and the block at which it is told
abbrev pub Fault : Type 0
Fault = LayoutFault × ℕ

-- the zones that were met so far in the walk, and the mapped blocks of this inode
pub record ZoneScan : Type 0 where
  pub met : List Bool
  pub mapped : List Mapped

-- a zone that was met before, or does not lie in the zones of data
abbrev pub is_bad_zone : Geometry → ℕ → List Bool → Bool
is_bad_zone g zone met = nat_lt zone g.first || (nat_le g.zones zone || is_marked met zone)

-- the marks after this zone was met, or the fault, told at the block that holds its number
abbrev pub take_zone : Geometry → ℕ → ℕ → List Bool → Result (List Bool) Fault
take_zone g pointer_block zone met = if is_bad_zone g zone met then Err (BadZone, pointer_block) else Ok (marked met zone)

-- a zone of data, as block `index` of the file
abbrev pub take_block : Geometry → ℕ → ℕ → ℕ → ZoneScan → Result ZoneScan Fault
take_block g pointer_block index zone s =
    elim (take_zone g pointer_block zone s.met) as (λ _. Result ZoneScan Fault) [
      | Err fault ↦ Err fault
      | Ok met ↦ Ok (record { met = met; mapped = s.mapped ++ record { index = index; zone = zone } ∷ [] })
    ]

-- the zones of the file's blocks from `index` on; 0 is a hole
abbrev pub take_blocks : Geometry → ℕ → ℕ → List ℕ → ZoneScan → Result ZoneScan Fault
take_blocks g pointer_block index [] s = Ok s
take_blocks g pointer_block index (zone ∷ zones) s =
    if zone == 0 then take_blocks g pointer_block (index + 1) zones s
    else elim (take_block g pointer_block index zone s) as (λ _. Result ZoneScan Fault)
    [ Err fault ↦ Err fault | Ok after ↦ take_blocks g pointer_block (index + 1) zones after ]

-- a zone of numbers, and what is done by its numbers
abbrev pub take_numbers : Geometry → ℕ → ℕ → ZoneScan → (List ℕ → ZoneScan → Reads (Result ZoneScan Fault)) → Reads (Result ZoneScan Fault)
take_numbers g pointer_block zone s next =
    if zone == 0 then Ret (Ok s)
    else elim (take_zone g pointer_block zone s.met) as (λ _. Reads (Result ZoneScan Fault)) [
      | Err fault ↦ Ret (Err fault)
      | Ok met ↦ Read zone (λ body. next (zone_numbers body) (record { met = met; mapped = s.mapped }))
    ]

-- an indirect zone: the numbers of the 512 blocks from `index` on
abbrev pub take_indirect : Geometry → ℕ → ℕ → ℕ → ZoneScan → Reads (Result ZoneScan Fault)
take_indirect g pointer_block index zone s = take_numbers g pointer_block zone s (λ numbers after. Ret (take_blocks g zone index numbers after))

-- indirect zones one after the other, the first for the blocks from `index` on
abbrev pub take_indirects : Geometry → ℕ → ℕ → List ℕ → ZoneScan → Reads (Result ZoneScan Fault)
take_indirects g pointer_block index [] s = Ret (Ok s)
take_indirects g pointer_block index (zone ∷ zones) s =
    if_ok (take_indirect g pointer_block index zone s) (take_indirects g pointer_block (index + 512) zones)

-- a doubly indirect zone: the numbers of 512 indirect zones, for the blocks from 519 on
abbrev pub take_double : Geometry → ℕ → ℕ → ZoneScan → Reads (Result ZoneScan Fault)
take_double g pointer_block zone s = take_numbers g pointer_block zone s (λ numbers after. take_indirects g zone 519 numbers after)

-- the nine zones of an inode, which stand in block `pointer_block`: seven of data, one indirect, one doubly indirect
unfoldable pub scan_zones : Geometry → ℕ → List ℕ → List Bool → Reads (Result ZoneScan Fault)
scan_zones g pointer_block zones met =
    if_ok (Ret (take_blocks g pointer_block 0 (take 7 zones) (record { met = met; mapped = [] })))
    (λ s. if_ok (take_indirect g pointer_block 7 (slice_index zones 7) s) (take_double g pointer_block (slice_index zones 8)))
