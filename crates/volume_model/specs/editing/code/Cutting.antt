-- The steps of a cut as the code takes them.
use Rattle.std.specs.Prelude.{ℕ, ◌-◌, ◌/◌, ◌==◌, nat_lt, nat_le, Bool, ◌&&◌, if◌then◌else◌, List}
use Rattle.std.specs.List.{list_any}
use Rattle.minix_layout.specs.declared.division.Geometry.{Geometry}
use Rattle.volume_ops.specs.declared.found.Mapped.{Mapped}
use Rattle.volume_model.specs.Edits.{clear_from, edited}
use Rattle.volume_model.specs.Volume.{Place, block, indirect, double, inner}

-- a zone of numbers is cleared where it stays
unfoldable pub clear_step : Geometry → List (List ℕ) → Bool → ℕ → ℕ → List (List ℕ)
clear_step g blocks keep zone k = if keep then edited g blocks (clear_from zone k) else blocks

-- the tests as the code makes them
abbrev pub keeps_listed : List Mapped → ℕ → Place → Bool
keeps_listed zones from (block i) = nat_lt i from
keeps_listed zones from indirect = list_any (λ (m : Mapped). nat_lt m.index from && (nat_le 7 m.index && nat_lt m.index 519)) zones
keeps_listed zones from double = list_any (λ (m : Mapped). nat_lt m.index from && nat_le 519 m.index) zones
keeps_listed zones from (inner group) = list_any (λ (m : Mapped). nat_lt m.index from && (nat_le 519 m.index && ((m.index - 519) / 512 == group))) zones
