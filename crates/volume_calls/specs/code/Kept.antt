-- What a cut leaves, by the mapped blocks of a file.
use Rattle.std.specs.List.{list_any}
use Rattle.std.specs.Prelude.{ℕ, ◌*◌, ◌/◌, ◌%◌, ◌==◌, nat_le, Bool, not, ◌&&◌, ◌||◌, List}
use Rattle.volume_ops.specs.declared.found.Mapped.{Mapped}

-- a cut from size `old` to `size`, in bytes, leaves the size and these mapped blocks, and clears no byte of them
abbrev pub keeps_mapped : ℕ → ℕ → List Mapped → Bool
keeps_mapped size old zones =
    (old == size) && (not (list_any (λ (m : Mapped). nat_le size (1024 * m.index)) zones)
    && ((size % 1024 == 0) || not (list_any (λ (m : Mapped). m.index == size / 1024) zones)))
