-- Laws of the map of a file, level by level.
use Rattle.std.specs.Prelude.{◌≡◌, ◌≢◌, ℕ, ◌+◌, ◌-◌, ◌*◌, ◌/◌, ◌%◌, ◌<◌, ◌≤◌, List, slice_index}
use Rattle.std.proofs.Common.{arith}
use Rattle.minix_tables.specs.inodes.Map.{zone_at}

-- blocks 0 to 6 are zones of the inode
pub zone_at-direct : (entries : ℕ → ℕ → ℕ) (zones : List ℕ) (k : ℕ) → k < 7 → zone_at entries zones k ≡ slice_index zones k
unfolding zone_at
zone_at-direct entries zones k low = grind arith

-- with no indirect zone, blocks 7 to 518 are holes
pub zone_at-no_indirect : (entries : ℕ → ℕ → ℕ) (zones : List ℕ) (index : ℕ) →
    slice_index zones 7 ≡ 0 → 7 ≤ index → index ≤ 518 → zone_at entries zones index ≡ 0
unfolding zone_at
zone_at-no_indirect entries zones index none low high = grind arith

-- block 7 + k has entry k of the indirect zone
pub zone_at-indirect : (entries : ℕ → ℕ → ℕ) (zones : List ℕ) (k : ℕ) →
    slice_index zones 7 ≢ 0 → k < 512 → zone_at entries zones (7 + k) ≡ entries (slice_index zones 7) k
unfolding zone_at
zone_at-indirect entries zones k some high = grind arith

-- where block 519 + 512 j + k lies at the two levels
outer_place : (j k : ℕ) → k < 512 → ((519 + 512 * j + k) - 519) / 512 ≡ j
outer_place j k low = omega arith

inner_place : (j k : ℕ) → k < 512 → ((519 + 512 * j + k) - 519) % 512 ≡ k
inner_place j k low = omega arith

-- block 519 + 512 j + k has entry k of entry j of the doubly indirect zone
pub zone_at-double : (entries : ℕ → ℕ → ℕ) (zones : List ℕ) (j k : ℕ) →
    slice_index zones 8 ≢ 0 → entries (slice_index zones 8) j ≢ 0 → j < 512 → k < 512 →
    zone_at entries zones (519 + 512 * j + k) ≡ entries (entries (slice_index zones 8) j) k
unfolding zone_at
zone_at-double entries zones j k some inner low high = grind (arith, outer_place j k high, inner_place j k high)

-- with no doubly indirect zone, blocks 519 to 262,662 are holes
pub zone_at-no_double : (entries : ℕ → ℕ → ℕ) (zones : List ℕ) (j k : ℕ) →
    slice_index zones 8 ≡ 0 → j < 512 → k < 512 → zone_at entries zones (519 + 512 * j + k) ≡ 0
unfolding zone_at
zone_at-no_double entries zones j k none low high = grind (arith, outer_place j k high, inner_place j k high)

-- where entry j of the doubly indirect zone is a hole, so is each block behind it
pub zone_at-no_inner : (entries : ℕ → ℕ → ℕ) (zones : List ℕ) (j k : ℕ) →
    entries (slice_index zones 8) j ≡ 0 → j < 512 → k < 512 → zone_at entries zones (519 + 512 * j + k) ≡ 0
unfolding zone_at
zone_at-no_inner entries zones j k none low high = grind (arith, outer_place j k high, inner_place j k high)

-- from block 262,663 on all are holes
pub zone_at-past : (entries : ℕ → ℕ → ℕ) (zones : List ℕ) (index : ℕ) → 262663 ≤ index → zone_at entries zones index ≡ 0
unfolding zone_at
zone_at-past entries zones index high = grind arith
