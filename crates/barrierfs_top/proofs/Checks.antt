-- What is told of a volume, by the five clauses of its check.
use Rattle.std.proofs.Common.{◌≡◌, ◌↔◌, ℕ, List, Ok, Err, refl}
use Rattle.std.specs.Prelude.{Result, IfOk}
use Rattle.minix_layout.specs.declared.division.Geometry.{Geometry}
use Rattle.vol_check.specs.declared.verdict.Verdict.{Verdict}
use Rattle.vol_check.specs.declared.verdict.Verdict.TheVariants as verdicts
use Rattle.vol_check.specs.Clean.{IsClean}
use Rattle.vol_check.specs.Verdicts.{IsVerdict, IsInodeMapFault, IsZoneMapFault, IsLinksFault, IsDotsFault}

module _ {E : Type 0} (g : Geometry) (blocks : List (List ℕ)) where
  pub told : (r : Result Verdict E) → IfOk r (λ v. (v ≡ verdicts.Clean) ↔ IsClean g blocks)
      → ((block : ℕ) → IfOk r (λ v. (v ≡ verdicts.InodeMap block) ↔ IsInodeMapFault g blocks block))
      → ((block : ℕ) → IfOk r (λ v. (v ≡ verdicts.ZoneMap block) ↔ IsZoneMapFault g blocks block))
      → ((block : ℕ) → IfOk r (λ v. (v ≡ verdicts.Links block) ↔ IsLinksFault g blocks block))
      → ((block : ℕ) → IfOk r (λ v. (v ≡ verdicts.Dots block) ↔ IsDotsFault g blocks block))
      → IfOk r (IsVerdict g blocks)
  told (Ok verdicts.Clean) clean inode_map zone_map links dots = clean.0 refl
  told (Ok (verdicts.InodeMap block)) clean inode_map zone_map links dots = (inode_map block).0 refl
  told (Ok (verdicts.ZoneMap block)) clean inode_map zone_map links dots = (zone_map block).0 refl
  told (Ok (verdicts.Links block)) clean inode_map zone_map links dots = (links block).0 refl
  told (Ok (verdicts.Dots block)) clean inode_map zone_map links dots = (dots block).0 refl
  told (Err fault) clean inode_map zone_map links dots = tt
