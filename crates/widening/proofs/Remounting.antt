-- An image that was mounted, and one that has its journal and another volume.
use Rattle.std.specs.Prelude.{◌≡◌, ℕ, ◌-◌, ◌<◌, ◌==◌, ◌&&◌, nat_lt, Bool, true, false, if◌then◌else◌, List, length, Option, Some, None, Result, Ok, Err, refl}
use Rattle.std.specs.Option.{option_map}
use Rattle.std.proofs.Common.{sym, ap, subst, ◌∙◌, ⊎_elim, arith}
use Rattle.std.proofs.lemmas.Bool.{cases_Bool, and_parts, ltb-true}
use Rattle.std.proofs.lemmas.Option.{none-some}
use Rattle.minix_layout.specs.declared.division.Geometry.{Geometry}
use Rattle.minix_layout.specs.declared.fault.LayoutFault.{LayoutFault}
use Rattle.minix_layout.specs.Super.{super_of as super_of_volume}
use Rattle.journal_blocks.specs.declared.super_block.JournalSuper.{JournalSuper}
use Rattle.journal_blocks.specs.declared.fault.JournalFault.{JournalFault}
use Rattle.journal_blocks.specs.declared.fault.JournalFault.TheVariants as journal
use Rattle.journal_blocks.specs.Super.{super_of, is_journal}
use Rattle.journal_blocks.specs.Log.{log_of}
use Rattle.journal_replay.specs.Recovered.{fault_by, fault_of, journal_fault, recovered}
use Rattle.journal_replay.specs.laws.Attempts.{same_body}
use Rattle.volume_ops.specs.Volume.{VolumeState, disk_of, walked}
use Rattle.volume_ops.specs.Walk.{Walked}
use Rattle.volume_ops.specs.Zones.{Fault}
use Rattle.volume_ops.specs.laws.ReadsLaws.{err-ok, same_Ok}
use Rattle.mount_make.specs.declared.fault.ImageFault.TheVariants as faults
use Rattle.mount_make.specs.Images.{FaultPlace, has_journal, as_told, fault_in_journal, recovered_from, volume_in, by_super, divided, by_walk, by_journal, by_geometry, mounted, recovered_by, recovered_image}
use Rattle.mount_make.specs.laws.Recovering.{length-recovered, recovered_as, is_super, emptied_after, super_after, found_fine, found_recovered}

-- ---- what mounting found

pub record IsMounted (blocks : List (List ℕ)) (v : VolumeState) : Type 0 where
  pub divides : divided blocks ≡ Ok v.geometry
  pub fine : fault_in_journal v.geometry.zones blocks ≡ None
  pub volume : v.blocks ≡ volume_in v.geometry blocks
  pub walks : (all : Walked) × (walked v.geometry v.blocks ≡ Ok all)

walk_found : (blocks : List (List ℕ)) (v : VolumeState) (g : Geometry) → divided blocks ≡ Ok g → fault_in_journal g.zones blocks ≡ None →
    (r : Result Walked Fault) → walked g (volume_in g blocks) ≡ r → by_walk g (volume_in g blocks) r ≡ Ok v → IsMounted blocks v
walk_found blocks v g divides fine (Ok all) walk e =
    let u : VolumeState = record { geometry = g; blocks = volume_in g blocks } in
    let m : IsMounted blocks u = record { divides = divides; fine = fine; volume = refl; walks = (all, walk) } in
    subst (IsMounted blocks) (same_Ok u v e) m
walk_found blocks v g divides fine (Err fault) walk e = absurd (err-ok _ v e)

journal_found : (blocks : List (List ℕ)) (v : VolumeState) (g : Geometry) → divided blocks ≡ Ok g → (o : Option FaultPlace) → fault_in_journal g.zones blocks ≡ o → by_journal g blocks o ≡ Ok v → IsMounted blocks v
journal_found blocks v g divides (Some told) fine e = absurd (err-ok told v e)
journal_found blocks v g divides None fine e = walk_found blocks v g divides fine (walked g (volume_in g blocks)) refl e

geometry_found : (blocks : List (List ℕ)) (v : VolumeState) (r : Result Geometry FaultPlace) → divided blocks ≡ r → by_geometry blocks r ≡ Ok v → IsMounted blocks v
geometry_found blocks v (Ok g) divides e = journal_found blocks v g divides (fault_in_journal g.zones blocks) refl e
geometry_found blocks v (Err told) divides e = absurd (err-ok told v e)

pub mounted_parts : (blocks : List (List ℕ)) (v : VolumeState) → mounted blocks ≡ Ok v → IsMounted blocks v
mounted_parts blocks v e = geometry_found blocks v (divided blocks) refl e

pub recovered_is : (blocks : List (List ℕ)) (v : VolumeState) → IsMounted blocks v → recovered_image blocks ≡ recovered_from v.geometry.zones blocks
recovered_is blocks v m = ap (recovered_by blocks) m.divides

-- ---- and an image without a fault is mounted

pub mounts : (image : List (List ℕ)) (g : Geometry) (all : Walked) → divided image ≡ Ok g → fault_in_journal g.zones image ≡ None → walked g (volume_in g image) ≡ Ok all →
    mounted image ≡ Ok (record { geometry = g; blocks = volume_in g image })
mounts image g all divides fine walk = ap (by_geometry image) divides ∙ (ap (by_journal g image) fine ∙ ap (by_walk g (volume_in g image)) walk)

-- ---- the journal

no_fault_map : (o : Option (JournalFault × ℕ)) → option_map as_told o ≡ None → o ≡ None
no_fault_map None e = refl
no_fault_map (Some fault) e = absurd (none-some (as_told fault) (sym e))

module _ (base : ℕ) (blocks : List (List ℕ)) where
  -- the journal's superblock can be read, and the journal has all its blocks
  super_by : (r : Result JournalSuper JournalFault) → super_of (disk_of blocks base) ≡ r → fault_by base blocks r ≡ None → (s : JournalSuper) × (super_of (disk_of blocks base) ≡ Ok s) × (nat_lt (length blocks - base) s.maxlen ≡ false)
  super_by (Err fault) is e = absurd (none-some (fault, base) (sym e))
  super_by (Ok s) is e = (s, is, by (nat_lt (length blocks - base) s.maxlen) refl e)
    where
      by : (short : Bool) → nat_lt (length blocks - base) s.maxlen ≡ short →
          ◌≡◌ {A = Option (JournalFault × ℕ)} (if short then Some (journal.BadCount, base) else option_map (λ at. (journal.BadCount, at)) (fault_of base s blocks)) None → nat_lt (length blocks - base) s.maxlen ≡ false
      by true is e = absurd (none-some (journal.BadCount, base) (sym e))
      by false is e = is

  super_found : journal_fault base blocks ≡ None → (s : JournalSuper) × (super_of (disk_of blocks base) ≡ Ok s) × (nat_lt (length blocks - base) s.maxlen ≡ false)
  unfolding journal_fault
  super_found e = super_by (super_of (disk_of blocks base)) refl e

empty_fine : (base : ℕ) (image : List (List ℕ)) (s : JournalSuper) → super_of (disk_of image base) ≡ Ok s → (s.start == 0) ≡ true → nat_lt (length image - base) s.maxlen ≡ false → journal_fault base image ≡ None
unfolding journal_fault
empty_fine base image s is empty long =
    ap (fault_by base image) is
    ∙ (ap (λ short. if short then Some (journal.BadCount, base) else option_map (λ at. (journal.BadCount, at)) (fault_of base s image)) long
    ∙ ap (λ none. option_map (λ at. (journal.BadCount, at)) (if none then None else (log_of base s image).fault)) empty)

module _ (base : ℕ) (blocks image : List (List ℕ)) (size : length (disk_of blocks base) ≡ 1024) (fine : fault_in_journal base blocks ≡ None) (long : length image ≡ length blocks)
    (same : disk_of image base ≡ disk_of (recovered_from base blocks) base) where
  calm_without : has_journal base blocks ≡ false → (fault_in_journal base image ≡ None) × (recovered_from base image ≡ image)
  calm_without is =
      let stays : recovered_from base blocks ≡ blocks = ap (λ b. if b then recovered base blocks else blocks) is in
      let none : has_journal base image ≡ false =
      ap (λ n. nat_lt base n && is_journal (disk_of image base)) long ∙ (ap (λ b. nat_lt base (length blocks) && is_journal b) (same ∙ ap (λ i. disk_of i base) stays) ∙ is) in
      (ap (λ b. if b then option_map as_told (journal_fault base image) else None) none, ap (λ b. if b then recovered base image else image) none)

  calm_with : has_journal base blocks ≡ true → (fault_in_journal base image ≡ None) × (recovered_from base image ≡ image)
  calm_with is =
      let p = and_parts (nat_lt base (length blocks)) (is_journal (disk_of blocks base)) is in
      let within = ltb-true base (length blocks) p.0 in
      let f = no_fault_map (journal_fault base blocks) (sym (ap (λ b. if b then option_map as_told (journal_fault base blocks) else None) is) ∙ fine) in
      let x = super_found base blocks f in
      let after = emptied_after base blocks x.0 within size x.1 in
      let t : JournalSuper = record x.0 { sequence = after.sequence; start = 0 } in
      let there : super_of (disk_of image base) ≡ Ok t = ap super_of (same ∙ ap (λ i. disk_of i base) (found_recovered base blocks within p.1)) ∙ after.read in
      let found = is_super (disk_of image base) t there in
      let inside : base < length image = omega (arith, long, within) in
      let short : nat_lt (length image - base) t.maxlen ≡ false = ap (λ n. nat_lt (n - base) x.0.maxlen) long ∙ x.2 in
      (found_fine base image inside found (empty_fine base image t there refl short), found_recovered base image inside found ∙ recovered_as base image (Ok t) there)

  -- a recovered journal has no fault, and is recovered to itself
  pub journal_calm : (fault_in_journal base image ≡ None) × (recovered_from base image ≡ image)
  journal_calm = ⊎_elim (λ t. calm_with t) (λ f. calm_without f) (cases_Bool (has_journal base blocks))

-- ---- the superblock of the volume

module _ (base : ℕ) (blocks : List (List ℕ)) where
  pub length-recovered_from : length (recovered_from base blocks) ≡ length blocks
  length-recovered_from =
      ⊎_elim
      (λ t. ap (λ b. length (if b then recovered base blocks else blocks)) t ∙ length-recovered base blocks)
      (λ f. ap (λ b. length (if b then recovered base blocks else blocks)) f)
      (cases_Bool (has_journal base blocks))

  -- it stays by the recovery
  pub super_stays : 1 < base → fault_in_journal base blocks ≡ None → disk_of (recovered_from base blocks) 1 ≡ disk_of blocks 1
  super_stays low fine =
      ⊎_elim
      (λ is.
      let p = and_parts (nat_lt base (length blocks)) (is_journal (disk_of blocks base)) is in
      let within = ltb-true base (length blocks) p.0 in
      let f = no_fault_map (journal_fault base blocks) (sym (ap (λ b. if b then option_map as_told (journal_fault base blocks) else None) is) ∙ fine) in
      let x = super_found base blocks f in
      ap (λ b. disk_of (if b then recovered base blocks else blocks) 1) is ∙ same_body (recovered base blocks) blocks 1 (super_after base blocks x.0 low within x.1 f))
      (λ none. ap (λ b. disk_of (if b then recovered base blocks else blocks) 1) none)
      (cases_Bool (has_journal base blocks))

-- ---- how an image is divided

whole_by : (blocks : List (List ℕ)) (h g : Geometry) (short : Bool) → nat_lt (length blocks) h.zones ≡ short → ◌≡◌ {A = Result Geometry FaultPlace} (if short then Err (faults.BadGeometry, length blocks) else Ok h) (Ok g) →
    (h ≡ g) × (nat_lt (length blocks) g.zones ≡ false)
whole_by blocks h g true is e = absurd (err-ok _ g e)
whole_by blocks h g false is e = let same = same_Ok h g e in (same, ap (λ (k : Geometry). nat_lt (length blocks) k.zones) (sym same) ∙ is)

super_is : (blocks : List (List ℕ)) (g : Geometry) (r : Result Geometry LayoutFault) → by_super blocks r ≡ Ok g → (r ≡ Ok g) × (nat_lt (length blocks) g.zones ≡ false)
super_is blocks g (Ok h) e = let x = whole_by blocks h g (nat_lt (length blocks) h.zones) refl e in (ap Ok x.0, x.1)
super_is blocks g (Err fault) e = absurd (err-ok _ g e)

pub divided_parts : (blocks : List (List ℕ)) (g : Geometry) → divided blocks ≡ Ok g → (nat_lt (length blocks) 2 ≡ false) × (super_of_volume (disk_of blocks 1) ≡ Ok g) × (nat_lt (length blocks) g.zones ≡ false)
unfolding divided
divided_parts blocks g e = by (nat_lt (length blocks) 2) refl e
  where
    by : (short : Bool) → nat_lt (length blocks) 2 ≡ short → ◌≡◌ {A = Result Geometry FaultPlace} (if short then Err (faults.BadGeometry, length blocks) else by_super blocks (super_of_volume (disk_of blocks 1))) (Ok g) →
        (nat_lt (length blocks) 2 ≡ false) × (super_of_volume (disk_of blocks 1) ≡ Ok g) × (nat_lt (length blocks) g.zones ≡ false)
    by true is e = absurd (err-ok _ g e)
    by false is e = let x = super_is blocks g (super_of_volume (disk_of blocks 1)) e in (is, x.0, x.1)

pub divided_from : (blocks : List (List ℕ)) (g : Geometry) → nat_lt (length blocks) 2 ≡ false → super_of_volume (disk_of blocks 1) ≡ Ok g → nat_lt (length blocks) g.zones ≡ false → divided blocks ≡ Ok g
unfolding divided
divided_from blocks g two is whole =
    ap (λ b. if b then Err (faults.BadGeometry, length blocks) else by_super blocks (super_of_volume (disk_of blocks 1))) two
    ∙ (ap (by_super blocks) is ∙ ap (λ b. if b then Err (faults.BadGeometry, length blocks) else Ok g) whole)
