-- Whether a volume is clean is said by its metadata.
use Rattle.std.specs.Prelude.{ℕ, List}
use Rattle.minix_layout.specs.declared.division.Geometry.{Geometry}
use Rattle.minix_layout.specs.Geometry.{IsSound}
use Rattle.volume_ops.specs.Faultless.{IsFaultless}
use Rattle.volume_ops.specs.Metadata.{of_volume, of_directory, AgreeOnMetadata}
use Rattle.volume_ops.proofs.SameWalks.{same_walk}
use Rattle.vol_check.specs.Clean.{IsClean}
use Rattle.vol_check.proofs.SameClean as by_parts
use Rattle.vol_check.proofs.SameClean.{first_zone_of}
use Rattle.std.proofs.Common.{refl}

pub same_clean : (g : Geometry) → IsSound g → (blocks other : List (List ℕ)) → AgreeOnMetadata g blocks other → IsFaultless g blocks → IsClean g blocks → IsClean g other
same_clean g sound blocks other agree faultless =
    by_parts.same_clean g sound blocks other faultless (same_walk g blocks other sound.some_inode agree)
    (λ b low high. agree b (of_volume low high))
    (λ inode some low led directory has. agree (first_zone_of g blocks inode) (of_directory inode 0 led directory has refl))
