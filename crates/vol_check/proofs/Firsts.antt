-- The first of some numbers that is not so, and that of a volume one verdict is told.
use Rattle.std.specs.Prelude.{◌≡◌, ℕ, ◌+◌, ◌<◌, ◌≤◌, ◌↔◌, List, Result, Ok, Err, IfOk, refl}
use Rattle.std.proofs.Common.{sym, ap, subst, ◌∙◌, ⊎_elim, arith}
use Rattle.std.proofs.lemmas.Bool.{cases_eq, cases_lt}
use Rattle.minix_layout.specs.declared.division.Geometry.{Geometry}
use Rattle.minix_layout.specs.Bits.{inode_bit, zone_bit}
use Rattle.volume_ops.specs.Places.{table_block}
use Rattle.vol_check.specs.declared.verdict.Verdict.{Verdict}
use Rattle.vol_check.specs.declared.verdict.Verdict.TheVariants as verdicts
use Rattle.vol_check.specs.Clean.{HasInodeBit, HasZoneBit, HasLinks, HasDots, dots_block, IsClean}
use Rattle.vol_check.specs.Verdicts.{AllFrom, IsFirst, HasAllInodeBits, HasAllZoneBits, HasAllLinks, HasAllDots, IsInodeMapFault, IsZoneMapFault, IsLinksFault, IsDotsFault, IsVerdict}

module _ (from end : ℕ) (Holds : ℕ → Type 0) where
  pub all_more : (n : ℕ) → AllFrom from n Holds → Holds n → AllFrom from (n + 1) Holds
  all_more n all here k low high =
      ⊎_elim (λ e. subst Holds (sym e) here) (λ apart. all k low (omega (arith, high, apart))) (cases_eq k n)

  pub first_here : (n : ℕ) → from ≤ n → n < end → (Holds n → ⊥) → AllFrom from n Holds → IsFirst from end Holds n
  first_here n low high fails before = record { low = low; high = high; fails = fails; before = before }

  first_not_all : (n : ℕ) → IsFirst from end Holds n → AllFrom from end Holds → ⊥
  first_not_all n f all = f.fails (all n f.low f.high)

  first_same : (n m : ℕ) → IsFirst from end Holds n → IsFirst from end Holds m → n ≡ m
  first_same n m f s =
      ⊎_elim
      (λ e. e)
      (λ apart. ⊎_elim (λ less. absurd (f.fails (s.before n f.low less))) (λ more. absurd (s.fails (f.before m s.low (omega (arith, more, apart))))) (cases_lt n m))
      (cases_eq n m)

module _ (g : Geometry) (blocks : List (List ℕ)) where
  clean_inode_bits : IsClean g blocks → HasAllInodeBits g blocks
  clean_inode_bits c k low high = c.inode_bits k low (omega (arith, high))

  clean_links : IsClean g blocks → HasAllLinks g blocks
  clean_links c k low high = c.links k low (omega (arith, high))

  clean_dots : IsClean g blocks → HasAllDots g blocks
  clean_dots c k low high = c.dots k low (omega (arith, high))

  pub made_clean : HasAllInodeBits g blocks → HasAllZoneBits g blocks → HasAllLinks g blocks → HasAllDots g blocks → IsClean g blocks
  made_clean inodes zones links dots = record {
    inode_bits = λ k low high. inodes k low (omega (arith, high));
    zone_bits = zones;
    links = λ k low high. links k low (omega (arith, high));
    dots = λ k low high. dots k low (omega (arith, high));
  }

  no_inode_map : (b : ℕ) → IsInodeMapFault g blocks b → HasAllInodeBits g blocks → ⊥
  no_inode_map b f all = first_not_all 1 (g.inodes + 1) (HasInodeBit g blocks) f.inode f.first all

  no_zone_map : (b : ℕ) → IsZoneMapFault g blocks b → HasAllZoneBits g blocks → ⊥
  no_zone_map b f all = first_not_all g.first g.zones (HasZoneBit g blocks) f.zone f.first all

  no_links : (b : ℕ) → IsLinksFault g blocks b → HasAllLinks g blocks → ⊥
  no_links b f all = first_not_all 1 (g.inodes + 1) (HasLinks g blocks) f.inode f.first all

  no_dots : (b : ℕ) → IsDotsFault g blocks b → HasAllDots g blocks → ⊥
  no_dots b f all = first_not_all 1 (g.inodes + 1) (HasDots g blocks) f.inode f.first all

  pub one_verdict : (v w : Verdict) → IsVerdict g blocks v → IsVerdict g blocks w → v ≡ w
  one_verdict verdicts.Clean verdicts.Clean f s = refl
  one_verdict verdicts.Clean (verdicts.InodeMap b) f s = absurd (no_inode_map b s (clean_inode_bits f))
  one_verdict verdicts.Clean (verdicts.ZoneMap b) f s = absurd (no_zone_map b s f.zone_bits)
  one_verdict verdicts.Clean (verdicts.Links b) f s = absurd (no_links b s (clean_links f))
  one_verdict verdicts.Clean (verdicts.Dots b) f s = absurd (no_dots b s (clean_dots f))
  one_verdict (verdicts.InodeMap a) verdicts.Clean f s = absurd (no_inode_map a f (clean_inode_bits s))
  one_verdict (verdicts.InodeMap a) (verdicts.InodeMap b) f s =
      ap verdicts.InodeMap (sym f.stands ∙ (ap (λ k. (inode_bit g k).block) (first_same 1 (g.inodes + 1) (HasInodeBit g blocks) f.inode s.inode f.first s.first) ∙ s.stands))
  one_verdict (verdicts.InodeMap a) (verdicts.ZoneMap b) f s = absurd (no_inode_map a f s.inode_bits)
  one_verdict (verdicts.InodeMap a) (verdicts.Links b) f s = absurd (no_inode_map a f s.inode_bits)
  one_verdict (verdicts.InodeMap a) (verdicts.Dots b) f s = absurd (no_inode_map a f s.inode_bits)
  one_verdict (verdicts.ZoneMap a) verdicts.Clean f s = absurd (no_zone_map a f s.zone_bits)
  one_verdict (verdicts.ZoneMap a) (verdicts.InodeMap b) f s = absurd (no_inode_map b s f.inode_bits)
  one_verdict (verdicts.ZoneMap a) (verdicts.ZoneMap b) f s =
      ap verdicts.ZoneMap (sym f.stands ∙ (ap (λ k. (zone_bit g k).block) (first_same g.first g.zones (HasZoneBit g blocks) f.zone s.zone f.first s.first) ∙ s.stands))
  one_verdict (verdicts.ZoneMap a) (verdicts.Links b) f s = absurd (no_zone_map a f s.zone_bits)
  one_verdict (verdicts.ZoneMap a) (verdicts.Dots b) f s = absurd (no_zone_map a f s.zone_bits)
  one_verdict (verdicts.Links a) verdicts.Clean f s = absurd (no_links a f (clean_links s))
  one_verdict (verdicts.Links a) (verdicts.InodeMap b) f s = absurd (no_inode_map b s f.inode_bits)
  one_verdict (verdicts.Links a) (verdicts.ZoneMap b) f s = absurd (no_zone_map b s f.zone_bits)
  one_verdict (verdicts.Links a) (verdicts.Links b) f s =
      ap verdicts.Links (sym f.stands ∙ (ap (table_block g) (first_same 1 (g.inodes + 1) (HasLinks g blocks) f.inode s.inode f.first s.first) ∙ s.stands))
  one_verdict (verdicts.Links a) (verdicts.Dots b) f s = absurd (no_links a f s.links)
  one_verdict (verdicts.Dots a) verdicts.Clean f s = absurd (no_dots a f (clean_dots s))
  one_verdict (verdicts.Dots a) (verdicts.InodeMap b) f s = absurd (no_inode_map b s f.inode_bits)
  one_verdict (verdicts.Dots a) (verdicts.ZoneMap b) f s = absurd (no_zone_map b s f.zone_bits)
  one_verdict (verdicts.Dots a) (verdicts.Links b) f s = absurd (no_links b s f.links)
  one_verdict (verdicts.Dots a) (verdicts.Dots b) f s =
      ap verdicts.Dots (sym f.stands ∙ (ap (dots_block g blocks) (first_same 1 (g.inodes + 1) (HasDots g blocks) f.inode s.inode f.first s.first) ∙ s.stands))

  -- what is told says just when it is told
  pub told : {E : Type 0} (r : Result Verdict E) (w : Verdict) → IfOk r (IsVerdict g blocks) → IfOk r (λ v. (v ≡ w) ↔ IsVerdict g blocks w)
  told (Ok v) w h = (λ e. subst (IsVerdict g blocks) e h, λ other. one_verdict v w h other)
  told (Err e) w h = tt
