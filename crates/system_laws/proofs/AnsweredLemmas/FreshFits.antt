-- On an image that was made, a transaction without a call can grow by one, where the zone bitmap has few blocks.
use Rattle.std.specs.Prelude.{◌≡◌, ℕ, ◌+◌, ◌<◌, ◌≤◌, ◌^◌, Bool, true, false, refl}
use Rattle.std.proofs.Common.{arith}
use Rattle.std.proofs.lemmas.Bool.{le-leb}
use Rattle.minix_layout.specs.declared.division.Geometry.{Geometry}
use Rattle.minix_layout.specs.declared.limits.TheConstants.{LEAST_JOURNAL}
use Rattle.minix_layout.specs.Geometry.{geometry_made}
use Rattle.journal_ring.specs.running.Running.{fresh, fits_in, log_blocks_for}
use Rattle.call_sessions.specs.power_cuts.calls.CallImages.{opening_on}
use Rattle.system_laws.proofs.TransactionSizeLemmas.Sets.{blocks_rise}

pub fresh_fits : (g : Geometry) (journal : ℕ) (wide : Bool) → LEAST_JOURNAL ≤ journal → g.zmap ≤ 12 → (n : ℕ) → fits_in (opening_on g journal wide).writers g.zmap (opening_on g journal wide).quota (fresh n) ≡ true
fresh_fits g journal wide least few n = le-leb (log_blocks_for (opening_on g journal wide).writers (0 + g.zmap + 12) (0 + 520)) (opening_on g journal wide).quota (by wide)
  where
    by : (w : Bool) → log_blocks_for (opening_on g journal w).writers (0 + g.zmap + 12) (0 + 520) ≤ (opening_on g journal w).quota
    by true =
        let rise = blocks_rise (opening_on g journal true).writers (record { tags = omega arith; revokes = omega arith }) (0 + g.zmap + 12) 24 (0 + 520) 520 (omega (arith, few)) (omega arith) in
        let most : log_blocks_for (opening_on g journal true).writers 24 520 ≡ 31 = refl in
        omega (arith, rise, most, least)
    by false =
        let rise = blocks_rise (opening_on g journal false).writers (record { tags = omega arith; revokes = omega arith }) (0 + g.zmap + 12) 24 (0 + 520) 520 (omega (arith, few)) (omega arith) in
        let most : log_blocks_for (opening_on g journal false).writers 24 520 ≡ 29 = refl in
        omega (arith, rise, most, least)

-- so it is on each volume that is made of so many inodes and zones
pub few_map_blocks : (inodes zones width : ℕ) → zones < 2 ^ 16 → (geometry_made inodes zones width).zmap ≤ 12
few_map_blocks inodes zones width low = omega (arith, low)
