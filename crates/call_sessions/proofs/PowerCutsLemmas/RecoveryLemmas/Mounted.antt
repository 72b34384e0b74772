-- What is mounted after attempts of recovery is what is mounted without them.
use Rattle.std.specs.Prelude.{◌≡◌, ◌≢◌, ℕ, ◌+◌, ◌^◌, ◌%◌, ◌<◌, ◌==◌, nat_lt, nat_le, not, if◌then◌else◌, Bool, true, false, List, take, length, Option, Some, None, Result, Ok, Err, IfOk, refl}
use Rattle.std.specs.Option.{option_map}
use Rattle.std.proofs.Common.{sym, ap, ◌∙◌, subst, arith}
use Rattle.std.proofs.lemmas.Bool.{and_parts, ltb-true, leb-true, eqb-true, true≢false}
use Rattle.minix_layout.specs.declared.division.Geometry.{Geometry}
use Rattle.minix_layout.specs.declared.fault.LayoutFault.{LayoutFault}
use Rattle.minix_layout.specs.declared.fault.LayoutFault.TheVariants.{BadMagic, BadGeometry}
use Rattle.minix_layout.specs.Geometry.{is_consistent}
use Rattle.minix_layout.specs.Words.{inode_blocks}
use Rattle.minix_layout.specs.Super.{is_magic, magic_of, geometry_of, is_divided, super_of as volume_super}
use Rattle.log_model.specs.Marks.{Transaction}
use Rattle.journal_blocks.specs.declared.super_block.JournalSuper.{JournalSuper}
use Rattle.journal_blocks.specs.declared.fault.JournalFault.{JournalFault}
use Rattle.journal_blocks.specs.Super.{super_of, is_journal}
use Rattle.journal_blocks.specs.Log.{body_at, log_of}
use Rattle.journal_blocks.specs.laws.Logs.{log_counts}
use Rattle.journal_replay.specs.Recovered.{recovered, journal_fault, next_sequence, transactions_of}
use Rattle.journal_replay.specs.laws.Recoveries.{transactions-full, recovered_super}
use Rattle.volume_ops.specs.Walk.{Walked}
use Rattle.volume_ops.specs.Zones.{Fault}
use Rattle.volume_ops.specs.Volume.{VolumeState, disk_of, walked}
use Rattle.mount_make.specs.declared.fault.ImageFault.TheVariants as image_faults
use Rattle.mount_make.specs.laws.Recovering.{journal_after}
use Rattle.mount_make.specs.Images.{FaultPlace, by_super, divided, has_journal, as_told, fault_in_journal, recovered_from, volume_in, by_walk, by_journal, by_geometry, mounted, recovered_by, recovered_image, journal_at}
use Rattle.call_sessions.specs.power_cuts.recovery.Found.{words_from, found_by, found_in}
use Rattle.call_sessions.specs.power_cuts.recovery.code.Left.{IsLeft}
use Rattle.call_sessions.proofs.PowerCutsLemmas.RecoveryLemmas.Kept.{left_untouched, left_recovered}

-- ---- an image that is mounted

walk_by : (g : Geometry) (volume : List (List ℕ)) (v : VolumeState) (r : Result Walked Fault) → by_walk g volume r ≡ Ok v → g ≡ v.geometry
walk_by g volume v (Ok found) e = let same : ◌≡◌ {A = VolumeState} (record { geometry = g; blocks = volume }) v = cc in ap (λ (x : VolumeState). x.geometry) same
walk_by g volume v (Err fault) e = absurd (cc)

journal_by : (g : Geometry) (image : List (List ℕ)) (v : VolumeState) (o : Option FaultPlace) → by_journal g image o ≡ Ok v → (o ≡ None) × (g ≡ v.geometry)
journal_by g image v None e = (refl, walk_by g (volume_in g image) v (walked g (volume_in g image)) e)
journal_by g image v (Some told) e = absurd (cc)

-- its volume is divided, and its journal has no fault
pub record IsMountable (image : List (List ℕ)) (g : Geometry) : Type 0 where
  pub is_divided : divided image ≡ Ok g
  pub fine : fault_in_journal g.zones image ≡ None

mountable_by : (image : List (List ℕ)) (v : VolumeState) (r : Result Geometry FaultPlace) → divided image ≡ r → by_geometry image r ≡ Ok v → IsMountable image v.geometry
mountable_by image v (Ok g) is e =
    let parts = journal_by g image v (fault_in_journal g.zones image) e in
    subst (IsMountable image) parts.1 (record { is_divided = is; fine = parts.0 })
mountable_by image v (Err told) is e = absurd (cc)

pub mountable : (image : List (List ℕ)) (v : VolumeState) → mounted image ≡ Ok v → IsMountable image v.geometry
mountable image v e = mountable_by image v (divided image) refl e

pub zones_are : (image : List (List ℕ)) (g : Geometry) (base : ℕ) → divided image ≡ Ok g → IfOk (divided image) (λ (h : Geometry). h.zones ≡ base) → g.zones ≡ base
zones_are image g base is same = subst (λ (r : Result Geometry FaultPlace). IfOk r (λ (h : Geometry). h.zones ≡ base)) is same

-- ---- its journal

journal_fine_by : (has : Bool) (o : Option (JournalFault × ℕ)) → o ≡ None → ◌≡◌ {A = Option FaultPlace} (if has then option_map as_told o else None) None
journal_fine_by true o e = ap (option_map as_told) e
journal_fine_by false o e = refl

pub journal_within : (base : ℕ) (image : List (List ℕ)) → has_journal base image ≡ true → base < length image
journal_within base image has = ltb-true base (length image) (and_parts (nat_lt base (length image)) (is_journal (disk_of image base)) has).0

-- ---- its volume

whole_by : (h g : Geometry) (few : Bool) (fault : FaultPlace) → ◌≡◌ {A = Result Geometry FaultPlace} (if few then Err fault else Ok h) (Ok g) → ◌≡◌ {A = Result Geometry LayoutFault} (Ok h) (Ok g)
whole_by h g true fault e = absurd (cc)
whole_by h g false fault e = let same : h ≡ g = cc in ap Ok same

said_by : (image : List (List ℕ)) (g : Geometry) (few : Bool) (fault : FaultPlace) (r : Result Geometry LayoutFault) → (if few then Err fault else by_super image r) ≡ Ok g → r ≡ Ok g
said_by image g true fault r e = absurd (cc)
said_by image g false fault (Ok h) e = whole_by h g (nat_lt (length image) h.zones) _ e
said_by image g false fault (Err f) e = absurd (cc)

-- its superblock is read
super_is : (image : List (List ℕ)) (g : Geometry) → divided image ≡ Ok g → volume_super (disk_of image 1) ≡ Ok g
unfolding divided
super_is image g e = said_by image g (nat_lt (length image) 2) _ (volume_super (disk_of image 1)) e

consistent_by : (right divided : Bool) (h g : Geometry) → (divided ≡ true → is_consistent h ≡ true)
    → ◌≡◌ {A = Result Geometry LayoutFault} (if not right then Err BadMagic else if not divided then Err BadGeometry else Ok h) (Ok g) → is_consistent g ≡ true
consistent_by false divided h g whole e = absurd (cc)
consistent_by true false h g whole e = absurd (cc)
consistent_by true true h g whole e = let same : h ≡ g = cc in ap is_consistent (sym same) ∙ whole refl

consistent : (b : List ℕ) (g : Geometry) → volume_super b ≡ Ok g → is_consistent g ≡ true
unfolding volume_super
consistent b g e =
    consistent_by (is_magic (magic_of b)) (is_divided b) (geometry_of b) g
    (λ whole. (and_parts _ (is_consistent (geometry_of b)) whole).1) e

-- a volume has more than two blocks
low_enough : (g : Geometry) → is_consistent g ≡ true → 1 < g.zones
low_enough g e =
    let a = and_parts (nat_lt 0 g.inodes) _ e in
    let b = and_parts (nat_lt g.first g.zones) _ a.1 in
    let c = and_parts (nat_le (2 + g.imap + g.zmap + inode_blocks g.inodes) g.first) _ b.1 in
    let lt = ltb-true g.first g.zones b.0 in
    let le = leb-true (2 + g.imap + g.zmap + inode_blocks g.inodes) g.first c.0 in
    omega (arith, lt, le)

-- a volume that is divided is so still, where neither its superblock nor the size of the image changed
divided_by : (old new : List (List ℕ)) (g : Geometry) → volume_super (disk_of old 1) ≡ Ok g → volume_super (disk_of new 1) ≡ Ok g → length new ≡ length old → divided old ≡ Ok g → divided new ≡ Ok g
unfolding divided
divided_by old new g before after size is =
    let first : (if nat_lt (length old) 2 then Err (image_faults.BadGeometry, length old) else by_super old (Ok g)) ≡ Ok g =
    ap (λ (r : Result Geometry LayoutFault). if nat_lt (length old) 2 then Err (image_faults.BadGeometry, length old) else by_super old r) (sym before) ∙ is in
    rw (after, size) first

-- ---- behind attempts

pub record IsMountedStill (base : ℕ) (image left : List (List ℕ)) (v : VolumeState) : Type 0 where
  pub recovered_is : recovered_image left ≡ recovered base image
  pub mounts : mounted left ≡ Ok v

module _ (base : ℕ) (image left : List (List ℕ)) (v : VolumeState) (is : mounted image ≡ Ok v) (zones : v.geometry.zones ≡ base) (has : has_journal base image ≡ true) (kept : IsLeft base image left) where
  good : IsMountable image v.geometry
  good = mountable image v is

  divided_still : divided left ≡ Ok v.geometry
  divided_still =
      let super = super_is image v.geometry good.is_divided in
      let low : 1 < base = let k = low_enough v.geometry (consistent (disk_of image 1) v.geometry super) in omega (arith, k, zones) in
      divided_by image left v.geometry super (ap volume_super (kept.keeps.super_block low) ∙ super) kept.keeps.size good.is_divided

  same_volume : volume_in v.geometry left ≡ volume_in v.geometry image
  same_volume = ap (λ (i : List (List ℕ)). take v.geometry.zones i) (subst (λ (n : ℕ). recovered_from n left ≡ recovered_from n image) (sym zones) kept.keeps.recovered)

  fine_still : fault_in_journal v.geometry.zones left ≡ None
  fine_still = subst (λ (n : ℕ). fault_in_journal n left ≡ None) (sym zones) (journal_fine_by (has_journal base left) (journal_fault base left) kept.fine)

  pub mounted_still : IsMountedStill base image left v
  mounted_still = record {
    recovered_is = ap (recovered_by left) divided_still ∙ (ap (λ (n : ℕ). recovered_from n left) zones ∙ (kept.keeps.recovered ∙ ap (λ (b : Bool). if b then recovered base image else image) has));
    mounts =
        ap (by_geometry left) divided_still
        ∙ (ap (by_journal v.geometry left) fine_still
        ∙ (ap (λ (volume : List (List ℕ)). by_walk v.geometry volume (walked v.geometry volume)) same_volume
        ∙ (sym (ap (by_journal v.geometry image) good.fine)
        ∙ (sym (ap (by_geometry image) good.is_divided) ∙ is))));
  }

  -- what the superblock of the journal says then
  pub log_after : (s : JournalSuper) → super_of (disk_of image base) ≡ Ok s → length (disk_of image base) ≡ 1024 → s.start ≢ 0
      → journal_at base (recovered_image left) ≡ Some (record s { sequence = next_sequence (log_of base s image); start = 0 })
  log_after s read size some =
      ap (journal_at base) mounted_still.recovered_is
      ∙ journal_after base image s (next_sequence (log_of base s image)) (journal_within base image has) size read (λ t after. recovered_super base image s t (journal_within base image has) size read some after)

-- ---- the image that recovery leaves in the end

-- it is that of the image before the attempts, and is mounted as the same volume
pub record IsMountedAgain (image last : List (List ℕ)) (v : VolumeState) : Type 0 where
  pub recovered_is : last ≡ recovered_image image
  pub mounts : mounted last ≡ Ok v

no_fault_by : (has : Bool) (o : Option (JournalFault × ℕ)) → has ≡ true → ◌≡◌ {A = Option FaultPlace} (if has then option_map as_told o else None) None → o ≡ None
no_fault_by true None is e = refl
no_fault_by true (Some fault) is e = absurd (cc)
no_fault_by false o is e = absurd (cc)

pub mounted_again : (base : ℕ) (image left last : List (List ℕ)) (v : VolumeState) → mounted image ≡ Ok v → v.geometry.zones ≡ base → has_journal base image ≡ true → IsLeft base image left
    → length (disk_of image base) ≡ 1024 → last ≡ recovered_image left → IsMountedAgain image last v
mounted_again base image left last v is zones has kept whole e =
    let within = journal_within base image has in
    let fine = no_fault_by (has_journal base image) (journal_fault base image) has (subst (λ (n : ℕ). fault_in_journal n image ≡ None) zones (mountable image v is).fine) in
    let stays = mounted_still base image image v is zones has (left_untouched base image within whole fine) in
    let after = mounted_still base image (recovered base image) v is zones has (left_recovered base image within whole fine) in
    let same : last ≡ recovered base image = e ∙ (mounted_still base image left v is zones has kept).recovered_is in
    record { recovered_is = same ∙ sym stays.recovered_is; mounts = ap mounted same ∙ after.mounts }

-- the number past the last of the log
pub reached_by : (base : ℕ) (image : List (List ℕ)) (s : JournalSuper) → s.sequence < 2 ^ 32 → s.start ≢ 0 → next_sequence (log_of base s image) ≡ (s.sequence + length (transactions_of base s image) + 1) % 2 ^ 32
reached_by base image s fits some =
    let count = log_counts base s image fits in
    let same = ap (λ (ts : List Transaction). length ts) (transactions-full base s image some) in
    ap (λ (n : ℕ). (n + 1) % 2 ^ 32) count ∙ (past s.sequence (length (log_of base s image).done) ∙ ap (λ (n : ℕ). (s.sequence + n + 1) % 2 ^ 32) (sym same))
  where
    past : (a n : ℕ) → ((a + n) % 2 ^ 32 + 1) % 2 ^ 32 ≡ (a + n + 1) % 2 ^ 32
    past a n = omega arith

-- what was counted
pub counted_as : (base first : ℕ) (image : List (List ℕ)) (s : JournalSuper) (n : ℕ) → super_of (body_at image base) ≡ Ok s → (s.start ≡ 0 → n ≡ 0) → (s.start ≢ 0 → n ≡ words_from first (s.sequence + length (transactions_of base s image)))
    → n ≡ found_in base first image
counted_as base first image s n read none some =
    counted_by (s.start == 0) refl ∙ sym (ap (found_by base first image) read)
  where
    counted_by : (empty : Bool) → (s.start == 0) ≡ empty → n ≡ (if empty then 0 else words_from first (s.sequence + length (transactions_of base s image)))
    counted_by true is = none (eqb-true s.start 0 is)
    counted_by false is = some (λ h. true≢false (sym (subst (λ (k : ℕ). (k == 0) ≡ true) (sym h) refl) ∙ is))

pub volume_is : (image : List (List ℕ)) (v w : VolumeState) → mounted image ≡ Ok v → mounted image ≡ Ok w → w.geometry.zones ≡ v.geometry.zones
volume_is image v w first second = let same : ◌≡◌ {A = Result VolumeState FaultPlace} (Ok v) (Ok w) = sym first ∙ second in same_zones same
  where
    same_zones : ◌≡◌ {A = Result VolumeState FaultPlace} (Ok v) (Ok w) → w.geometry.zones ≡ v.geometry.zones
    same_zones e = let eq : w ≡ v = cc in ap (λ (x : VolumeState). x.geometry.zones) eq
