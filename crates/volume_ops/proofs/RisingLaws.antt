-- The walk finds the mapped blocks of each file in order.
use Rattle.std.proofs.Common.{◌≡◌, ℕ, suc, ◌+◌, ◌*◌, ◌/◌, ◌==◌, ◌≤◌, Bool, List, [], ◌∷◌, ◌++◌, length, take, slice_index, Result, Ok, Err, IfOk, subst, arith}
use Rattle.std.specs.Prelude.{All}
use Rattle.std.proofs.lemmas.List.{length-take}
use Rattle.minix_layout.specs.Widths.{slot_size}
use Rattle.minix_layout.specs.declared.division.Geometry.{Geometry}
use Rattle.volume_ops.specs.declared.found.Mapped.{Mapped}
use Rattle.volume_ops.specs.declared.found.FoundNode.{FoundNode}
use Rattle.volume_ops.specs.Reads.{Reads, Ret, Read, answer, if_ok}
use Rattle.volume_ops.proofs.Answered.{ok_then, answered_then, either_ok, either_answers, any_ok, ok_weaker}
use Rattle.volume_ops.proofs.WalkKeeps.{walked_has}
use Rattle.volume_ops.specs.Places.{zone_numbers, table_block, inode_in_block}
use Rattle.volume_ops.specs.Zones.{Fault, ZoneScan, take_zone, take_block, take_blocks, take_numbers, take_indirect, take_indirects, take_double, scan_zones}
use Rattle.volume_ops.specs.Slots.{scan_slots}
use Rattle.volume_ops.specs.Walk.{Walked}
use Rattle.volume_ops.specs.Volume.{disk_of, walked}
use Rattle.volume_ops.proofs.ZonesLaws.{length-zone_numbers}
use Rattle.volume_ops.specs.laws.Rising.{RiseWithin, IsRising, HasRising}

-- ---- lists that rise

pub rise_higher : (low : ℕ) (ms : List Mapped) (high more : ℕ) → high ≤ more → RiseWithin low ms high → RiseWithin low ms more
rise_higher low [] high more h r = omega arith
rise_higher low (m ∷ ms) high more h r = (r.0, rise_higher (m.index + 1) ms high more h r.1)

pub rise_push : (low : ℕ) (ms : List Mapped) (high : ℕ) (m : Mapped) → high ≤ m.index → RiseWithin low ms high → RiseWithin low (ms ++ m ∷ []) (m.index + 1)
rise_push low [] high m h r = (omega arith, omega arith)
rise_push low (x ∷ xs) high m h r = (r.0, rise_push (x.index + 1) xs high m h r.1)

-- ---- the zones of one inode

-- the mapped blocks so far lie below `index`
abbrev Below : ℕ → ZoneScan → Type 0
Below index s = RiseWithin 0 s.mapped index

block_taken : (r : Result (List Bool) Fault) (index zone : ℕ) (s : ZoneScan) → Below index s
    → IfOk (elim r as (λ _. Result ZoneScan Fault) [ Err fault ↦ Err fault | Ok met ↦ Ok (record { met = met; mapped = s.mapped ++ record { index = index; zone = zone } ∷ [] }) ]) (Below (index + 1))
block_taken (Ok met) index zone s h = rise_push 0 s.mapped index (record { index = index; zone = zone }) (omega arith) h
block_taken (Err fault) index zone s h = tt

blocks_rise : (g : Geometry) (pointer_block index : ℕ) (zones : List ℕ) (s : ZoneScan) → Below index s → IfOk (take_blocks g pointer_block index zones s) (Below (index + length zones))
blocks_rise g pointer_block index [] s h = rise_higher 0 s.mapped index (index + 0) (omega arith) h
blocks_rise g pointer_block index (zone ∷ zones) s h =
    let end = index + suc (length zones) in
    let one_up : (t : ZoneScan) → Below (index + 1) t → IfOk (take_blocks g pointer_block (index + 1) zones t) (Below end) =
    λ t below. let e : index + 1 + length zones ≡ end = omega arith in
    subst (λ high. IfOk (take_blocks g pointer_block (index + 1) zones t) (Below high)) e (blocks_rise g pointer_block (index + 1) zones t below) in
    either_ok (zone == 0) _ _ (Below end)
    (one_up s (rise_higher 0 s.mapped index (index + 1) (omega arith) h))
    (ok_then (take_block g pointer_block index zone s) (take_blocks g pointer_block (index + 1) zones) (Below (index + 1)) (Below end)
    (block_taken (take_zone g pointer_block zone s.met) index zone s h) one_up)

zone_taken : (disk : ℕ → List ℕ) (r : Result (List Bool) Fault) (zone : ℕ) (s : ZoneScan) (next : List ℕ → ZoneScan → Reads (Result ZoneScan Fault)) (P : ZoneScan → Type 0)
    → ((met : List Bool) (body : List ℕ) → IfOk (answer disk (next (zone_numbers body) (record { met = met; mapped = s.mapped }))) P)
    → IfOk (answer disk (elim r as (λ _. Reads (Result ZoneScan Fault)) [ Err fault ↦ Ret (Err fault) | Ok met ↦ Read zone (λ body. next (zone_numbers body) (record { met = met; mapped = s.mapped })) ])) P
zone_taken disk (Ok met) zone s next P h = h met (disk zone)
zone_taken disk (Err fault) zone s next P h = tt

numbers_taken : (disk : ℕ → List ℕ) (g : Geometry) (pointer_block zone : ℕ) (s : ZoneScan) (next : List ℕ → ZoneScan → Reads (Result ZoneScan Fault)) (P : ZoneScan → Type 0)
    → P s → ((met : List Bool) (body : List ℕ) → IfOk (answer disk (next (zone_numbers body) (record { met = met; mapped = s.mapped }))) P)
    → IfOk (answer disk (take_numbers g pointer_block zone s next)) P
numbers_taken disk g pointer_block zone s next P hole h =
    either_answers disk (zone == 0) (Ret (Ok s)) _ P hole (zone_taken disk (take_zone g pointer_block zone s.met) zone s next P h)

indirect_rises : (disk : ℕ → List ℕ) (g : Geometry) (pointer_block index zone : ℕ) (s : ZoneScan) → Below index s → IfOk (answer disk (take_indirect g pointer_block index zone s)) (Below (index + 512))
indirect_rises disk g pointer_block index zone s h =
    numbers_taken disk g pointer_block zone s (λ numbers after. Ret (take_blocks g zone index numbers after)) (Below (index + 512))
    (rise_higher 0 s.mapped index (index + 512) (omega arith) h)
    (λ met body. subst (λ n. IfOk (take_blocks g zone index (zone_numbers body) (record { met = met; mapped = s.mapped })) (Below (index + n)))
    (length-zone_numbers body) (blocks_rise g zone index (zone_numbers body) (record { met = met; mapped = s.mapped }) h))

indirects_rise : (disk : ℕ → List ℕ) (g : Geometry) (pointer_block index : ℕ) (zones : List ℕ) (s : ZoneScan) → Below index s
    → IfOk (answer disk (take_indirects g pointer_block index zones s)) (Below (index + 512 * length zones))
indirects_rise disk g pointer_block index [] s h = rise_higher 0 s.mapped index (index + 512 * 0) (omega arith) h
indirects_rise disk g pointer_block index (zone ∷ zones) s h =
    answered_then disk (take_indirect g pointer_block index zone s) (take_indirects g pointer_block (index + 512) zones) (Below (index + 512)) (Below (index + 512 * suc (length zones)))
    (indirect_rises disk g pointer_block index zone s h)
    (λ t below. let e : index + 512 + 512 * length zones ≡ index + 512 * suc (length zones) = omega arith in
    subst (λ high. IfOk (answer disk (take_indirects g pointer_block (index + 512) zones t)) (Below high)) e (indirects_rise disk g pointer_block (index + 512) zones t below))

double_rises : (disk : ℕ → List ℕ) (g : Geometry) (pointer_block zone : ℕ) (s : ZoneScan) → Below 519 s → IfOk (answer disk (take_double g pointer_block zone s)) (λ z. IsRising z.mapped)
double_rises disk g pointer_block zone s h =
    numbers_taken disk g pointer_block zone s (λ numbers after. take_indirects g zone 519 numbers after) (λ z. IsRising z.mapped)
    (rise_higher 0 s.mapped 519 262663 (omega arith) h)
    (λ met body. subst (λ n. IfOk (answer disk (take_indirects g zone 519 (zone_numbers body) (record { met = met; mapped = s.mapped }))) (Below (519 + 512 * n)))
    (length-zone_numbers body) (indirects_rise disk g zone 519 (zone_numbers body) (record { met = met; mapped = s.mapped }) h))

data_rises : (g : Geometry) (pointer_block : ℕ) (zones : List ℕ) (met : List Bool) → IfOk (take_blocks g pointer_block 0 (take 7 zones) (record { met = met; mapped = [] })) (Below 7)
data_rises g pointer_block zones met =
    let few = length-take 7 zones in
    ok_weaker (take_blocks g pointer_block 0 (take 7 zones) (record { met = met; mapped = [] })) (Below (0 + length (take 7 zones))) (Below 7)
    (blocks_rise g pointer_block 0 (take 7 zones) (record { met = met; mapped = [] }) (omega arith))
    (λ s h. rise_higher 0 s.mapped (0 + length (take 7 zones)) 7 (omega (arith, few)) h)

-- the scan of an inode's zones maps blocks that rise
pub scan_rises : (disk : ℕ → List ℕ) (g : Geometry) (pointer_block : ℕ) (zones : List ℕ) (met : List Bool) → IfOk (answer disk (scan_zones g pointer_block zones met)) (λ z. IsRising z.mapped)
unfolding scan_zones
scan_rises disk g pointer_block zones met =
    answered_then disk (Ret (take_blocks g pointer_block 0 (take 7 zones) (record { met = met; mapped = [] })))
    (λ s. if_ok (take_indirect g pointer_block 7 (slice_index zones 7) s) (take_double g pointer_block (slice_index zones 8)))
    (Below 7) (λ z. IsRising z.mapped) (data_rises g pointer_block zones met)
    (λ s h. answered_then disk (take_indirect g pointer_block 7 (slice_index zones 7) s) (take_double g pointer_block (slice_index zones 8)) (Below 519) (λ z. IsRising z.mapped)
    (indirect_rises disk g pointer_block 7 (slice_index zones 7) s h)
    (λ t below. double_rises disk g pointer_block (slice_index zones 8) t below))

-- ---- the walk

-- the files that were found so far have blocks that rise
abbrev pub AllRise : List FoundNode → Type 0
AllRise nodes = All (λ n. HasRising n.found) nodes

-- each file that the walk finds has blocks that rise
pub walked_rises : (g : Geometry) (blocks : List (List ℕ)) (w : Walked) → walked g blocks ≡ Ok w → AllRise w.nodes
walked_rises g blocks w e =
    walked_has g blocks (λ n. HasRising n.found) (λ number z. IsRising z.mapped) (λ s. Unit {0})
    (λ w e. scan_rises (disk_of blocks) g (table_block g e.inode) (inode_in_block e.inode (disk_of blocks (table_block g e.inode))).zones w.zones)
    (λ w e z. any_ok (answer (disk_of blocks) (scan_slots g ((inode_in_block e.inode (disk_of blocks (table_block g e.inode))).size / slot_size g.width) z.mapped (record { named = w.named; names = [] }))))
    (λ e z rises. rises) (λ e s k. tt) (λ e. tt) w e
