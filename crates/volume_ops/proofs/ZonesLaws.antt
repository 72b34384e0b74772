-- What the scan of the zones of an inode finds: its map.
use Rattle.std.specs.Prelude.{◌≡◌, ◌≢◌, ℕ, suc, ◌+◌, ◌-◌, ◌*◌, ◌/◌, ◌%◌, ◌<◌, ◌≤◌, Bool, List, [], ◌∷◌, ◌++◌, length, take, slice_index, Result, Ok, Err, refl}
use Rattle.std.proofs.Common.{sym, ap, subst, ◌∙◌, ⊎_elim, arith}
use Rattle.std.proofs.lemmas.Bool.{cases_eq, cases_lt, eq-eqb, ne_eqb, lt-ltb, le-ltb}
use Rattle.std.proofs.lemmas.List.{get_or-take, length-take}
use Rattle.std.proofs.lemmas.List.FromFn.{get_or-map-range_with_len, length-map-range_with_len}
use Rattle.blk_base.specs.Members.{In}
use Rattle.blk_base.specs.laws.Members.{In-push, In-push_left, In-push_cases}
use Rattle.minix_layout.specs.declared.division.Geometry.{Geometry}
use Rattle.minix_tables.specs.inodes.Map.{zone_at, entry_behind, entry_behind_two}
use Rattle.minix_tables.specs.inodes.laws.MapLaws.{zone_at-direct, zone_at-past}
use Rattle.volume_ops.specs.declared.found.Mapped.{Mapped}
use Rattle.volume_ops.specs.Reads.{Reads, Ret, Read, answer, if_ok}
use Rattle.volume_ops.specs.laws.ReadsLaws.{if_ok-parts, err-ok, same_Ok}
use Rattle.volume_ops.specs.Places.{zone_number, zone_numbers}
use Rattle.volume_ops.specs.Zones.{Fault, ZoneScan, take_zone, take_block, take_blocks, take_numbers, take_indirect, take_indirects, take_double, scan_zones}

-- block k of a file, in zone `zone`
abbrev pub block_at : ℕ → ℕ → Mapped
block_at k zone = record { index = k; zone = zone }

-- The mapped blocks are those of a map, where 0 is a hole; of the blocks below `end` all are there.
pub record IsMapTo (mapped : List Mapped) (zone : ℕ → ℕ) (end : ℕ) : Type 0 where
  pub right : (m : Mapped) → In m mapped → (zone m.index ≡ m.zone) × (m.zone ≢ 0)
  pub full : (k : ℕ) → k < end → zone k ≢ 0 → In (block_at k (zone k)) mapped

-- holes want no block
pub over_holes : {mapped : List Mapped} {zone : ℕ → ℕ} {start : ℕ} (end : ℕ) → IsMapTo mapped zone start →
    ((k : ℕ) → start ≤ k → k < end → zone k ≡ 0) → IsMapTo mapped zone end
over_holes {start} end h holes = record {
  right = h.right;
  full = λ k below some. ⊎_elim (λ low. h.full k low some) (λ high. absurd (some (holes k high below))) (cases_lt k start);
}

-- one block more
one_more : {mapped : List Mapped} {zone : ℕ → ℕ} {n : ℕ} → IsMapTo mapped zone n → zone n ≢ 0 → IsMapTo (mapped ++ block_at n (zone n) ∷ []) zone (n + 1)
one_more {mapped} {zone} {n} h some = record {
  right = λ m i. ⊎_elim (h.right m) (λ e. subst (λ m. (zone m.index ≡ m.zone) × (m.zone ≢ 0)) e (refl, some)) (In-push_cases mapped (block_at n (zone n)) m i);
  full = λ k below found.
      ⊎_elim
      (λ low. In-push_left mapped (block_at n (zone n)) (block_at k (zone k)) (h.full k low found))
      (λ high. let e : n ≡ k = omega arith in subst (λ k. In (block_at k (zone k)) (mapped ++ block_at n (zone n) ∷ [])) e (In-push mapped (block_at n (zone n))))
      (cases_lt k n);
}

-- ---- zones of data

taken_mapped : (index zone : ℕ) (s after : ZoneScan) (r : Result (List Bool) Fault) →
    elim r as (λ _. Result ZoneScan Fault) [ Err fault ↦ Err fault | Ok met ↦ Ok (record { met = met; mapped = s.mapped ++ block_at index zone ∷ [] }) ] ≡ Ok after →
    s.mapped ++ block_at index zone ∷ [] ≡ after.mapped
taken_mapped index zone s after (Ok met) h = ap (λ s. s.mapped) (same_Ok _ after h)
taken_mapped index zone s after (Err fault) h = absurd (err-ok fault after h)

-- where the scan goes on after a block
then_taken : {A : Type 0} (r : Result ZoneScan Fault) (next : ZoneScan → Result A Fault) (a : A) →
    elim r as (λ _. Result A Fault) [ Err fault ↦ Err fault | Ok after ↦ next after ] ≡ Ok a →
    (s : ZoneScan) × (r ≡ Ok s) × (next s ≡ Ok a)
then_taken (Ok s) next a h = (s, refl, h)
then_taken (Err fault) next a h = absurd (err-ok fault a h)

pub take_blocks-map : (g : Geometry) (pointer_block index : ℕ) (zones : List ℕ) (s after : ZoneScan) (zone : ℕ → ℕ) →
    ((j : ℕ) → j < length zones → zone (index + j) ≡ slice_index zones j) →
    IsMapTo s.mapped zone index → take_blocks g pointer_block index zones s ≡ Ok after → IsMapTo after.mapped zone (index + length zones)
take_blocks-map g pointer_block index [] s after zone at h r =
    let e : index ≡ index + 0 = omega arith in
    subst (λ n. IsMapTo after.mapped zone n) e (subst (λ s. IsMapTo s.mapped zone index) (same_Ok s after r) h)
take_blocks-map g pointer_block index (z ∷ zs) s after zone at h r =
    let here : zone index ≡ z = (let e : index + 0 ≡ index = omega arith in rw e at (at 0 (omega arith))) in
    let rest : (j : ℕ) → j < length zs → zone ((index + 1) + j) ≡ slice_index zs j =
    (λ j below. let e : index + suc j ≡ (index + 1) + j = omega arith in rw e at (at (suc j) (omega arith))) in
    let end : (index + 1) + length zs ≡ index + suc (length zs) = omega arith in
    subst (λ n. IsMapTo after.mapped zone n) end
    (⊎_elim
    (λ none.
    take_blocks-map g pointer_block (index + 1) zs s after zone rest
    (over_holes (index + 1) h (λ k low high. let e : index ≡ k = omega arith in ap zone (sym e) ∙ here ∙ none))
    (rw (eq-eqb z 0 none) at r))
    (λ some.
    let parts = then_taken (take_block g pointer_block index z s) (take_blocks g pointer_block (index + 1) zs) after (rw (ne_eqb z 0 some) at r) in
    let more : IsMapTo (s.mapped ++ block_at index z ∷ []) zone (index + 1) =
    subst (λ z. IsMapTo (s.mapped ++ block_at index z ∷ []) zone (index + 1)) here (one_more h (λ e. some (sym here ∙ e))) in
    take_blocks-map g pointer_block (index + 1) zs parts.0 after zone rest
    (subst (λ m. IsMapTo m zone (index + 1)) (taken_mapped index z s parts.0 (take_zone g pointer_block z s.met) parts.1) more)
    parts.2)
    (cases_eq z 0))

-- ---- zones of numbers

pub length-zone_numbers : (body : List ℕ) → length (zone_numbers body) ≡ 512
unfolding zone_numbers
length-zone_numbers body = length-map-range_with_len (zone_number body) 0 512

pub zone_numbers_at : (body : List ℕ) (k : ℕ) → k < 512 → slice_index (zone_numbers body) k ≡ zone_number body k
unfolding zone_numbers
zone_numbers_at body k below = get_or-map-range_with_len (zone_number body) 0 512 k k 0 below (omega arith)

-- the entries of the zones of numbers of a disk
abbrev pub entries_of : (ℕ → List ℕ) → ℕ → ℕ → ℕ
entries_of disk zone place = zone_number (disk zone) place

-- a zone of numbers that is no hole was taken and read, and its numbers were gone through
numbers_taken : (disk : ℕ → List ℕ) (zone : ℕ) (s after : ZoneScan) (next : List ℕ → ZoneScan → Reads (Result ZoneScan Fault)) (r : Result (List Bool) Fault) →
    answer disk (elim r as (λ _. Reads (Result ZoneScan Fault)) [
      | Err fault ↦ Ret (Err fault)
      | Ok met ↦ Read zone (λ body. next (zone_numbers body) (record { met = met; mapped = s.mapped }))
    ]) ≡ Ok after →
    (t : ZoneScan) × (s.mapped ≡ t.mapped) × (answer disk (next (zone_numbers (disk zone)) t) ≡ Ok after)
numbers_taken disk zone s after next (Ok met) h = (record { met = met; mapped = s.mapped }, refl, h)
numbers_taken disk zone s after next (Err fault) h = absurd (err-ok fault after h)

numbers_read : (disk : ℕ → List ℕ) (g : Geometry) (pointer_block zone : ℕ) (s after : ZoneScan) (next : List ℕ → ZoneScan → Reads (Result ZoneScan Fault)) →
    answer disk (take_numbers g pointer_block zone s next) ≡ Ok after → zone ≢ 0 →
    (t : ZoneScan) × (s.mapped ≡ t.mapped) × (answer disk (next (zone_numbers (disk zone)) t) ≡ Ok after)
numbers_read disk g pointer_block zone s after next h some =
    numbers_taken disk zone s after next (take_zone g pointer_block zone s.met) (rw (ne_eqb zone 0 some) at h)

numbers_none : (disk : ℕ → List ℕ) (g : Geometry) (pointer_block zone : ℕ) (s after : ZoneScan) (next : List ℕ → ZoneScan → Reads (Result ZoneScan Fault)) →
    answer disk (take_numbers g pointer_block zone s next) ≡ Ok after → zone ≡ 0 → s ≡ after
numbers_none disk g pointer_block zone s after next h none = same_Ok s after (rw (eq-eqb zone 0 none) at h)

behind_none : (entries : ℕ → ℕ → ℕ) (zone place : ℕ) → zone ≡ 0 → entry_behind entries zone place ≡ 0
behind_none entries zone place none = rw (eq-eqb zone 0 none)

behind_some : (entries : ℕ → ℕ → ℕ) (zone place : ℕ) → zone ≢ 0 → entry_behind entries zone place ≡ entries zone place
behind_some entries zone place some = rw (ne_eqb zone 0 some)

pub take_indirect-map : (disk : ℕ → List ℕ) (g : Geometry) (pointer_block index z : ℕ) (s after : ZoneScan) (zone : ℕ → ℕ) →
    ((j : ℕ) → j < 512 → zone (index + j) ≡ entry_behind (entries_of disk) z j) →
    IsMapTo s.mapped zone index → answer disk (take_indirect g pointer_block index z s) ≡ Ok after → IsMapTo after.mapped zone (index + 512)
take_indirect-map disk g pointer_block index z s after zone at h r =
    ⊎_elim
    (λ none.
    subst (λ s. IsMapTo s.mapped zone (index + 512)) (numbers_none disk g pointer_block z s after (λ numbers after. Ret (take_blocks g z index numbers after)) r none)
    (over_holes (index + 512) h
    (λ k low high. let e : index + (k - index) ≡ k = omega arith in subst (λ k. zone k ≡ 0) e (at (k - index) (omega arith) ∙ behind_none (entries_of disk) z (k - index) none))))
    (λ some.
    let parts = numbers_read disk g pointer_block z s after (λ numbers after. Ret (take_blocks g z index numbers after)) r some in
    subst (λ n. IsMapTo after.mapped zone (index + n)) (length-zone_numbers (disk z))
    (take_blocks-map g z index (zone_numbers (disk z)) parts.0 after zone
    (λ j below. let low : j < 512 = omega (arith, length-zone_numbers (disk z)) in at j low ∙ (behind_some (entries_of disk) z j some ∙ sym (zone_numbers_at (disk z) j low)))
    (subst (λ m. IsMapTo m zone index) parts.1 h) parts.2))
    (cases_eq z 0)

pub take_indirects-map : (disk : ℕ → List ℕ) (g : Geometry) (pointer_block index : ℕ) (zs : List ℕ) (s after : ZoneScan) (zone : ℕ → ℕ) →
    ((i j : ℕ) → i < length zs → j < 512 → zone (index + (512 * i + j)) ≡ entry_behind (entries_of disk) (slice_index zs i) j) →
    IsMapTo s.mapped zone index → answer disk (take_indirects g pointer_block index zs s) ≡ Ok after → IsMapTo after.mapped zone (index + 512 * length zs)
take_indirects-map disk g pointer_block index [] s after zone at h r =
    let e : index ≡ index + 512 * 0 = omega arith in
    subst (λ n. IsMapTo after.mapped zone n) e (subst (λ s. IsMapTo s.mapped zone index) (same_Ok s after r) h)
take_indirects-map disk g pointer_block index (z ∷ zs) s after zone at h r =
    let parts = if_ok-parts disk (take_indirect g pointer_block index z s) (take_indirects g pointer_block (index + 512) zs) after r in
    let first : IsMapTo parts.0.mapped zone (index + 512) =
    take_indirect-map disk g pointer_block index z s parts.0 zone
    (λ j low. let e : index + (512 * 0 + j) ≡ index + j = omega arith in rw e at (at 0 j (omega arith) low)) h parts.1 in
    let end : (index + 512) + 512 * length zs ≡ index + 512 * suc (length zs) = omega arith in
    subst (λ n. IsMapTo after.mapped zone n) end
    (take_indirects-map disk g pointer_block (index + 512) zs parts.0 after zone
    (λ i j below low. let e : index + (512 * suc i + j) ≡ (index + 512) + (512 * i + j) = omega arith in rw e at (at (suc i) j (omega arith) low))
    first parts.2)

pub take_double-map : (disk : ℕ → List ℕ) (g : Geometry) (pointer_block z : ℕ) (s after : ZoneScan) (zone : ℕ → ℕ) →
    ((k : ℕ) → k < 262144 → zone (519 + k) ≡ entry_behind_two (entries_of disk) z k) →
    IsMapTo s.mapped zone 519 → answer disk (take_double g pointer_block z s) ≡ Ok after → IsMapTo after.mapped zone 262663
take_double-map disk g pointer_block z s after zone at h r =
    ⊎_elim
    (λ none.
    subst (λ s. IsMapTo s.mapped zone 262663) (numbers_none disk g pointer_block z s after (λ numbers after. take_indirects g z 519 numbers after) r none)
    (over_holes 262663 h
    (λ k low high.
    let e : 519 + (k - 519) ≡ k = omega arith in
    subst (λ k. zone k ≡ 0) e
    (at (k - 519) (omega arith)
    ∙ (ap (λ y. entry_behind (entries_of disk) y ((k - 519) % 512)) (behind_none (entries_of disk) z ((k - 519) / 512) none)
    ∙ behind_none (entries_of disk) 0 ((k - 519) % 512) refl)))))
    (λ some.
    let parts = numbers_read disk g pointer_block z s after (λ numbers after. take_indirects g z 519 numbers after) r some in
    let size = length-zone_numbers (disk z) in
    let end : 519 + 512 * length (zone_numbers (disk z)) ≡ 262663 = omega (arith, length-zone_numbers (disk z)) in
    subst (λ n. IsMapTo after.mapped zone n) end
    (take_indirects-map disk g z 519 (zone_numbers (disk z)) parts.0 after zone
    (λ i j below low.
    let small : i < 512 = omega (arith, length-zone_numbers (disk z)) in
    let outer : (512 * i + j) / 512 ≡ i = omega arith in
    let inner : (512 * i + j) % 512 ≡ j = omega arith in
    let number : entry_behind (entries_of disk) z i ≡ slice_index (zone_numbers (disk z)) i =
    behind_some (entries_of disk) z i some ∙ sym (zone_numbers_at (disk z) i small) in
    at (512 * i + j) (omega arith) ∙ rw (outer, inner, number))
    (subst (λ m. IsMapTo m zone 519) parts.1 h) parts.2))
    (cases_eq z 0)

-- ---- the nine zones

zone_at_indirect : (entries : ℕ → ℕ → ℕ) (zones : List ℕ) (k : ℕ) → k < 512 → zone_at entries zones (7 + k) ≡ entry_behind entries (slice_index zones 7) k
unfolding zone_at
zone_at_indirect entries zones k low =
    let place : (7 + k) - 7 ≡ k = omega arith in
    rw (le-ltb (7 + k) 7 (omega arith), lt-ltb (7 + k) 519 (omega arith), place)

zone_at_double : (entries : ℕ → ℕ → ℕ) (zones : List ℕ) (k : ℕ) → k < 262144 → zone_at entries zones (519 + k) ≡ entry_behind_two entries (slice_index zones 8) k
unfolding zone_at
zone_at_double entries zones k low =
    let place : (519 + k) - 519 ≡ k = omega arith in
    rw (le-ltb (519 + k) 7 (omega arith), le-ltb (519 + k) 519 (omega arith), lt-ltb (519 + k) 262663 (omega arith), place)

no_blocks : (zone : ℕ → ℕ) → IsMapTo [] zone 0
no_blocks zone = record { right = λ m i. absurd i; full = λ k below. absurd (omega arith) }

-- the mapped blocks are those of the map of the inode's zones, all of them
pub scan_zones-map : (disk : ℕ → List ℕ) (g : Geometry) (pointer_block : ℕ) (zones : List ℕ) (met : List Bool) (s : ZoneScan) →
    length zones ≡ 9 → answer disk (scan_zones g pointer_block zones met) ≡ Ok s → (end : ℕ) → IsMapTo s.mapped (zone_at (entries_of disk) zones) end
unfolding scan_zones
scan_zones-map disk g pointer_block zones met s nine r end =
    let start : ZoneScan = record { met = met; mapped = [] } in
    let zone : ℕ → ℕ = zone_at (entries_of disk) zones in
    let first = if_ok-parts disk (Ret (take_blocks g pointer_block 0 (take 7 zones) start))
    (λ s. if_ok (take_indirect g pointer_block 7 (slice_index zones 7) s) (take_double g pointer_block (slice_index zones 8))) s r in
    let seven : 0 + length (take 7 zones) ≡ 7 = omega (arith, length-take 7 zones) in
    let direct : IsMapTo first.0.mapped zone 7 =
    subst (λ n. IsMapTo first.0.mapped zone n) seven
    (take_blocks-map g pointer_block 0 (take 7 zones) start first.0 zone
    (λ j below. let low : j < 7 = omega (arith, length-take 7 zones) in let e : 0 + j ≡ j = omega arith in rw e (zone_at-direct (entries_of disk) zones j low ∙ sym (get_or-take 7 zones j 0 low)))
    (no_blocks zone) first.1) in
    let second = if_ok-parts disk (take_indirect g pointer_block 7 (slice_index zones 7) first.0) (take_double g pointer_block (slice_index zones 8)) s first.2 in
    let indirect : IsMapTo second.0.mapped zone 519 =
    take_indirect-map disk g pointer_block 7 (slice_index zones 7) first.0 second.0 zone (zone_at_indirect (entries_of disk) zones) direct second.1 in
    let all : IsMapTo s.mapped zone 262663 =
    take_double-map disk g pointer_block (slice_index zones 8) second.0 s zone (zone_at_double (entries_of disk) zones) indirect second.2 in
    record {
      right = all.right;
      full = λ k below some. ⊎_elim (λ low. all.full k low some) (λ high. absurd (some (zone_at-past (entries_of disk) zones k high))) (cases_lt k 262663);
    }
