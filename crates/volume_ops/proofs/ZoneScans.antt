-- The scan of nine zones by its three parts, as the code takes them.
use Rattle.std.proofs.Common.{◌≡◌, ℕ, List, [], take, slice_index, Bool, Result, Ok, ap, ◌∙◌, sym}
use Rattle.minix_layout.specs.declared.division.Geometry.{Geometry}
use Rattle.volume_ops.specs.declared.walk_fault.WalkFault.{WalkFault}
use Rattle.volume_ops.specs.declared.found.Mapped.{Mapped}
use Rattle.volume_ops.specs.Reads.{Reads, Ret, answer, if_ok}
use Rattle.volume_ops.specs.Zones.{Fault, ZoneScan, take_blocks, take_indirect, take_double, scan_zones}
use Rattle.volume_ops.specs.Volume.{IsTold}
use Rattle.volume_ops.proofs.GoesOn.{answer-if_ok-ok, told_first, told_same}

-- what follows the zones of data
abbrev rest : Geometry → ℕ → List ℕ → ZoneScan → Reads (Result ZoneScan Fault)
rest g pointer_block zones s = if_ok (take_indirect g pointer_block 7 (slice_index zones 7) s) (take_double g pointer_block (slice_index zones 8))

module _ (disk : ℕ → List ℕ) (g : Geometry) (pointer_block : ℕ) (zones : List ℕ) (met : List Bool) where
  past_data : (s : ZoneScan) → take_blocks g pointer_block 0 (take 7 zones) (record { met = met; mapped = [] }) ≡ Ok s → answer disk (scan_zones g pointer_block zones met) ≡ answer disk (rest g pointer_block zones s)
  unfolding scan_zones
  past_data s e = answer-if_ok-ok disk (Ret (take_blocks g pointer_block 0 (take 7 zones) (record { met = met; mapped = [] }))) (rest g pointer_block zones) s e

  pub told_by_data : (fault : WalkFault) → IsTold (take_blocks g pointer_block 0 (take 7 zones) (record { met = met; mapped = [] })) fault → IsTold (answer disk (scan_zones g pointer_block zones met)) fault
  unfolding scan_zones
  told_by_data fault h = told_first disk (Ret (take_blocks g pointer_block 0 (take 7 zones) (record { met = met; mapped = [] }))) (rest g pointer_block zones) fault h

  pub told_by_indirect : (numbers : List ℕ) (mapped : List Mapped) (seventh : ℕ) (s : ZoneScan) (fault : WalkFault)
      → numbers ≡ zones → mapped ≡ [] → seventh ≡ slice_index zones 7
      → take_blocks g pointer_block 0 (take 7 numbers) (record { met = met; mapped = mapped }) ≡ Ok s
      → IsTold (answer disk (take_indirect g pointer_block 7 seventh s)) fault → IsTold (answer disk (scan_zones g pointer_block zones met)) fault
  told_by_indirect numbers mapped seventh s fault n m z e h =
      told_same _ _ fault (past_data s (ap (λ x. take_blocks g pointer_block 0 (take 7 x) (record { met = met; mapped = [] })) (sym n) ∙ (ap (λ x. take_blocks g pointer_block 0 (take 7 numbers) (record { met = met; mapped = x })) (sym m) ∙ e)))
      (told_first disk (take_indirect g pointer_block 7 (slice_index zones 7) s) (take_double g pointer_block (slice_index zones 8)) fault
      (told_same _ _ fault (ap (λ x. answer disk (take_indirect g pointer_block 7 x s)) (sym z)) h))

  pub past_indirect : (numbers : List ℕ) (mapped : List Mapped) (seventh eighth : ℕ) (s t : ZoneScan)
      → numbers ≡ zones → mapped ≡ [] → seventh ≡ slice_index zones 7 → eighth ≡ slice_index zones 8
      → take_blocks g pointer_block 0 (take 7 numbers) (record { met = met; mapped = mapped }) ≡ Ok s
      → answer disk (take_indirect g pointer_block 7 seventh s) ≡ Ok t
      → answer disk (scan_zones g pointer_block zones met) ≡ answer disk (take_double g pointer_block eighth t)
  past_indirect numbers mapped seventh eighth s t n m z w e h =
      past_data s (ap (λ x. take_blocks g pointer_block 0 (take 7 x) (record { met = met; mapped = [] })) (sym n) ∙ (ap (λ x. take_blocks g pointer_block 0 (take 7 numbers) (record { met = met; mapped = x })) (sym m) ∙ e))
      ∙ (answer-if_ok-ok disk (take_indirect g pointer_block 7 (slice_index zones 7) s) (take_double g pointer_block (slice_index zones 8)) t
      (ap (λ x. answer disk (take_indirect g pointer_block 7 x s)) (sym z) ∙ h)
      ∙ ap (λ x. answer disk (take_double g pointer_block x t)) (sym w))

  pub told_by_double : (numbers : List ℕ) (mapped : List Mapped) (seventh eighth : ℕ) (s t : ZoneScan) (fault : WalkFault)
      → numbers ≡ zones → mapped ≡ [] → seventh ≡ slice_index zones 7 → eighth ≡ slice_index zones 8
      → take_blocks g pointer_block 0 (take 7 numbers) (record { met = met; mapped = mapped }) ≡ Ok s
      → answer disk (take_indirect g pointer_block 7 seventh s) ≡ Ok t
      → IsTold (answer disk (take_double g pointer_block eighth t)) fault → IsTold (answer disk (scan_zones g pointer_block zones met)) fault
  told_by_double numbers mapped seventh eighth s t fault n m z w e i h = told_same _ _ fault (past_indirect numbers mapped seventh eighth s t n m z w e i) h
