-- The image that mounting leaves: how long it is, which blocks stay, and that it is recovered to itself.
use Rattle.std.specs.Prelude.{◌≡◌, ◌≢◌, ℕ, ◌+◌, ◌<◌, ◌==◌, Bool, true, false, nat_lt, if◌then◌else◌, List, length, slice_get, Some, None, Result, Ok, Err, refl}
use Rattle.std.specs.Option.{option_map}
use Rattle.std.proofs.Common.{sym, ap, ◌∙◌, subst, ⊎_elim, arith, length-set}
use Rattle.std.proofs.lemmas.Bool.{lt-ltb, eqb-true, true≢false}
use Rattle.blk_base.specs.laws.Members.{slice_get-in_range, slice_get-set_same, slice_get-set_other}
use Rattle.minix_layout.specs.declared.division.Geometry.{Geometry}
use Rattle.minix_layout.specs.declared.fault.LayoutFault.{LayoutFault}
use Rattle.minix_layout.specs.Super.{super_of as volume_super}
use Rattle.log_model.specs.Marks.{Mark, Keep, Clear, Set, body_after}
use Rattle.journal_blocks.specs.declared.super_block.JournalSuper.{JournalSuper}
use Rattle.journal_blocks.specs.declared.fault.JournalFault.{JournalFault}
use Rattle.journal_blocks.specs.Super.{super_of, is_journal}
use Rattle.journal_blocks.specs.Log.{log_of}
use Rattle.journal_blocks.specs.laws.Supers.{read_parts, tail_read}
use Rattle.journal_blocks.specs.laws.Logs.{mark-inside}
use Rattle.journal_replay.specs.Recovered.{by_super, healed, log_mark, next_sequence, emptied_super, emptied, recovered, journal_fault, AreBetween}
use Rattle.journal_replay.specs.laws.Attempts.{length-healed, healed-at, same_body, body_at-some, below_power}
use Rattle.journal_replay.specs.laws.Recoveries.{fine_log}
use Rattle.volume_ops.specs.Volume.{disk_of}
use Rattle.minix_layout.specs.Geometry.{IsSound}
use Rattle.mount_make.specs.declared.fault.ImageFault.TheVariants.{BadGeometry}
use Rattle.mount_make.specs.Images.{FaultPlace, journal_kind, by_super as divided_by, divided, has_journal, as_told, fault_in_journal, recovered_from, read_or_none, journal_at, recovered_by, recovered_image, recovery_fault}
use Rattle.order_model.specs.Device.{Seen}
use Rattle.order_model.specs.Steps.{OnlyReads}
use Rattle.journal_replay.specs.declared.fault.RecoverFault.{RecoverFault}
use Rattle.journal_replay.specs.declared.fault.RecoverFault.TheVariants as recovery
use Rattle.volume_ops.specs.laws.DeviceReads.{same_surface}
use Rattle.mount_make.specs.declared.fault.MountFault.{MountFault}
use Rattle.mount_make.specs.declared.fault.MountFault.TheVariants as mount
use Rattle.mount_make.specs.code.Mounting.{KeepsImage}

-- ---- the recovered image, by what its superblock says

pub recovered_as : (base : ℕ) (image : List (List ℕ)) (r : Result JournalSuper JournalFault) → super_of (disk_of image base) ≡ r → recovered base image ≡ by_super base image r
unfolding recovered
recovered_as base image r e = ap (by_super base image) e

-- an empty log, or one that is not
abbrev pub by_start : ℕ → List (List ℕ) → JournalSuper → Bool → List (List ℕ)
by_start base image s none = if none then image else emptied base s image

length-by_start : (base : ℕ) (image : List (List ℕ)) (s : JournalSuper) (none : Bool) → length (by_start base image s none) ≡ length image
length-by_start base image s true = refl
length-by_start base image s false = length-set (healed (log_mark base s image) 0 image) base (emptied_super base s image) ∙ length-healed (log_mark base s image) 0 image

length-by_super : (base : ℕ) (image : List (List ℕ)) (r : Result JournalSuper JournalFault) → length (by_super base image r) ≡ length image
length-by_super base image (Err fault) = refl
length-by_super base image (Ok s) = length-by_start base image s (s.start == 0)

pub length-recovered : (base : ℕ) (image : List (List ℕ)) → length (recovered base image) ≡ length image
length-recovered base image = ap length (recovered_as base image (super_of (disk_of image base)) refl) ∙ length-by_super base image (super_of (disk_of image base))

-- ---- the superblock of the journal

pub is_super : (b : List ℕ) (s : JournalSuper) → super_of b ≡ Ok s → is_journal b ≡ true
is_super b s e = let p = read_parts b s e in rw (p.0, p.1) refl

pub has_super : (base : ℕ) (image : List (List ℕ)) → base < length image → is_journal (disk_of image base) ≡ true → has_journal base image ≡ true
has_super base image within is = rw (lt-ltb base (length image) within, is) refl

-- it is read as before, but for the sequence, and with no start
pub record IsEmptied (b : List ℕ) (s : JournalSuper) : Type 0 where
  pub sequence : ℕ
  pub read : super_of b ≡ Ok (record s { sequence = sequence; start = 0 })

without_start : (s : JournalSuper) → s.start ≡ 0 → ◌≡◌ {A = JournalSuper} s (record s { sequence = s.sequence; start = 0 })
without_start s e = ap (λ (n : ℕ). let t : JournalSuper = record s { start = n } in t) e

emptied_by : (base : ℕ) (image : List (List ℕ)) (s : JournalSuper) → base < length image → length (disk_of image base) ≡ 1024 → super_of (disk_of image base) ≡ Ok s → (none : Bool) → (s.start == 0) ≡ none → IsEmptied (disk_of (by_start base image s none) base) s
emptied_by base image s within size e true is = record { sequence = s.sequence; read = e ∙ ap Ok (without_start s (eqb-true s.start 0 is)) }
emptied_by base image s within size e false is =
    let n = next_sequence (log_of base s image) in
    let long = length-healed (log_mark base s image) 0 image in
    let there : disk_of (emptied base s image) base ≡ emptied_super base s image = body_at-some (emptied base s image) base (emptied_super base s image) (slice_get-set_same (healed (log_mark base s image) 0 image) base (emptied_super base s image) (omega (arith, within, long))) in
    record {
      sequence = n;
      read = ap super_of there ∙ tail_read (disk_of image base) s n size e (below_power ((log_of base s image).sequence + 1));
    }

pub emptied_after : (base : ℕ) (image : List (List ℕ)) (s : JournalSuper) → base < length image → length (disk_of image base) ≡ 1024 → super_of (disk_of image base) ≡ Ok s → IsEmptied (disk_of (recovered base image) base) s
emptied_after base image s within size e =
    subst (λ (i : List (List ℕ)). IsEmptied (disk_of i base) s) (sym (recovered_as base image (Ok s) e)) (emptied_by base image s within size e (s.start == 0) refl)

-- ---- blocks before the journal

not_set : (m : Mark) (a : List ℕ) → ((x : List ℕ) → m ≡ Set x → ⊥) → body_after m a ≡ a
not_set Keep a h = refl
not_set Clear a h = refl
not_set (Set x) a h = absurd (h x refl)

pub emptied-at : (base : ℕ) (image : List (List ℕ)) (s : JournalSuper) (b : ℕ) (a : List ℕ) → b ≢ base → slice_get image b ≡ Some a → slice_get (emptied base s image) b ≡ Some (body_after (log_mark base s image b) a)
emptied-at base image s b a differ at = slice_get-set_other (healed (log_mark base s image) 0 image) base b (emptied_super base s image) differ ∙ healed-at (log_mark base s image) 0 b b image a (omega arith) at

-- the volume's superblock stays
super_by : (base : ℕ) (image : List (List ℕ)) (s : JournalSuper) → 1 < base → base < length image → super_of (disk_of image base) ≡ Ok s → journal_fault base image ≡ None → (none : Bool) → (s.start == 0) ≡ none → slice_get (by_start base image s none) 1 ≡ slice_get image 1
super_by base image s low within e fine true is = refl
super_by base image s low within e fine false is =
    let some : s.start ≢ 0 = λ (h : s.start ≡ 0). true≢false (sym (subst (λ (n : ℕ). (n == 0) ≡ true) (sym h) refl) ∙ is) in
    let good = fine_log base image s e some fine in
    let a = slice_get-in_range image 1 (omega (arith, low, within)) in
    let free : (x : List ℕ) → log_mark base s image 1 ≡ Set x → ⊥ = λ x h. let k = (mark-inside base s image 1 x good h).0 in omega (arith, k) in
    emptied-at base image s 1 a.0 (omega (arith, low)) a.1 ∙ (ap Some (not_set (log_mark base s image 1) a.0 free) ∙ sym a.1)

pub super_after : (base : ℕ) (image : List (List ℕ)) (s : JournalSuper) → 1 < base → base < length image → super_of (disk_of image base) ≡ Ok s → journal_fault base image ≡ None → slice_get (recovered base image) 1 ≡ slice_get image 1
super_after base image s low within e fine =
    ap (λ (i : List (List ℕ)). slice_get i 1) (recovered_as base image (Ok s) e) ∙ super_by base image s low within e fine (s.start == 0) refl

-- ---- what an attempt leaves

-- nothing was written
pub keeps_same : (base : ℕ) (old new : List (List ℕ)) → new ≡ old → KeepsImage base old new
keeps_same base old new e = record { size = ap length e; super_block = λ _. ap (λ (i : List (List ℕ)). disk_of i 1) e; recovered = ap (recovered_from base) e }

-- a journal that was found is found still
found_still : (base : ℕ) (old new : List (List ℕ)) (s : JournalSuper) → base < length old → length (disk_of old base) ≡ 1024 → super_of (disk_of old base) ≡ Ok s → AreBetween old (recovered base old) new → is_journal (disk_of new base) ≡ true
found_still base old new s within size e between =
    ⊎_elim
    (λ same. ap is_journal (same_body new old base same) ∙ is_super (disk_of old base) s e)
    (λ same.
    let after = emptied_after base old s within size e in
    ap is_journal (same_body new (recovered base old) base same) ∙ is_super (disk_of (recovered base old) base) (record s { sequence = after.sequence; start = 0 }) after.read)
    (between base)

pub keeps_attempt : (base : ℕ) (old new : List (List ℕ)) (s : JournalSuper) → base < length old → length (disk_of old base) ≡ 1024 → super_of (disk_of old base) ≡ Ok s → journal_fault base old ≡ None
    → recovered base new ≡ recovered base old → AreBetween old (recovered base old) new → KeepsImage base old new
keeps_attempt base old new s within size e fine same between =
    let long : length new ≡ length old = sym (length-recovered base new) ∙ (ap length same ∙ length-recovered base old) in
    let here = has_super base old within (is_super (disk_of old base) s e) in
    let there = has_super base new (omega (arith, long, within)) (found_still base old new s within size e between) in
    record {
      size = long;
      super_block = λ low. ⊎_elim (λ k. same_body new old 1 k) (λ k. same_body new old 1 (k ∙ super_after base old s low within e fine)) (between 1);
      recovered = ap (λ (b : Bool). if b then recovered base new else new) there ∙ (same ∙ sym (ap (λ (b : Bool). if b then recovered base old else old) here));
    }

-- an attempt that ended with a fault
pub keeps_failed : (base : ℕ) (old new : Seen) (s : JournalSuper) → base < length old.surface → length (disk_of old.surface base) ≡ 1024 → super_of (disk_of old.surface base) ≡ Ok s
    → recovered base new.surface ≡ recovered base old.surface → AreBetween old.surface (recovered base old.surface) new.surface → (fault : RecoverFault)
    → ((id : ℕ) → fault ≡ recovery.DeviceFailed id → journal_fault base old.surface ≡ None) → (((id : ℕ) → fault ≢ recovery.DeviceFailed id) → OnlyReads old new) → KeepsImage base old.surface new.surface
keeps_failed base old new s within size e same between (recovery.DeviceFailed id) fine read = keeps_attempt base old.surface new.surface s within size e (fine id refl) same between
keeps_failed base old new s within size e same between recovery.ReadFault fine read = keeps_same base old.surface new.surface (same_surface old new (read (λ id k. cc)))
keeps_failed base old new s within size e same between (recovery.BadJournal fault at) fine read = keeps_same base old.surface new.surface (same_surface old new (read (λ id k. cc)))
keeps_failed base old new s within size e same between recovery.NoMemory fine read = keeps_same base old.surface new.surface (same_surface old new (read (λ id k. cc)))

-- the device's own fault is told as such alone
pub failed_is : (fault : RecoverFault) (id : ℕ) → recovery_fault fault ≡ mount.DeviceFailed id → fault ≡ recovery.DeviceFailed id
failed_is (recovery.DeviceFailed n) id e = ap recovery.DeviceFailed (cc)
failed_is recovery.ReadFault id e = absurd (cc)
failed_is (recovery.BadJournal fault at) id e = absurd (cc)
failed_is recovery.NoMemory id e = absurd (cc)

-- so no other answer tells one
pub ok_fine : {X : Type 0} (r : Result X RecoverFault) (x : X) → r ≡ Ok x → (id : ℕ) → r ≢ Err (recovery.DeviceFailed id)
ok_fine {X = X} r x is id e = let none : ◌≡◌ {A = Result X RecoverFault} (Ok x) (Err (recovery.DeviceFailed id)) = sym is ∙ e in absurd (cc)

pub err_fine : {X Y : Type 0} (r : Result X RecoverFault) (f : RecoverFault) (told : MountFault) → r ≡ Err f → told ≡ recovery_fault f
    → ((id : ℕ) → ◌≢◌ {A = Result Y MountFault} (Err told) (Err (mount.DeviceFailed id))) → (id : ℕ) → r ≢ Err (recovery.DeviceFailed id)
err_fine {X = X} r f told is as_told none id e =
    let both : ◌≡◌ {A = Result X RecoverFault} (Err f) (Err (recovery.DeviceFailed id)) = sym is ∙ e in
    let same : f ≡ recovery.DeviceFailed id = cc in
    none id (ap Err (as_told ∙ ap recovery_fault same))

-- ---- the whole image

same_whole : (old new : List (List ℕ)) → length new ≡ length old → (r : Result Geometry LayoutFault) → divided_by new r ≡ divided_by old r
same_whole old new size (Ok g) = rw size refl
same_whole old new size (Err fault) = refl

pub same_divided : (old new : List (List ℕ)) → length new ≡ length old → disk_of new 1 ≡ disk_of old 1 → divided new ≡ divided old
unfolding divided
same_divided old new size one =
    rw size (ap (λ (r : Result Geometry FaultPlace). if nat_lt (length old) 2 then Err (BadGeometry, length old) else r) (ap (λ (b : List ℕ). divided_by new (volume_super b)) one ∙ same_whole old new size (volume_super (disk_of old 1))))

-- a volume has more than two blocks
low_enough : (g : Geometry) → IsSound g → 1 < g.zones
low_enough g sound = let a = sound.some_zone in let b = sound.tables_below in omega (arith, a, b)

pub recovers_same : (old new : List (List ℕ)) (g : Geometry) → divided old ≡ Ok g → IsSound g → KeepsImage g.zones old new → recovered_image new ≡ recovered_image old
recovers_same old new g is sound k =
    let one = same_divided old new k.size (k.super_block (low_enough g sound)) in
    ap (recovered_by new) (one ∙ is) ∙ (k.recovered ∙ sym (ap (recovered_by old) is))

-- ---- the journal that is found

pub found_fault : (base : ℕ) (image : List (List ℕ)) (fault : JournalFault) (at : ℕ) → base < length image → is_journal (disk_of image base) ≡ true → journal_fault base image ≡ Some (fault, at) → fault_in_journal base image ≡ Some (journal_kind fault, at)
found_fault base image fault at within is e =
    ap (λ (b : Bool). if b then option_map as_told (journal_fault base image) else None) (has_super base image within is) ∙ ap (option_map as_told) e

pub found_fine : (base : ℕ) (image : List (List ℕ)) → base < length image → is_journal (disk_of image base) ≡ true → journal_fault base image ≡ None → fault_in_journal base image ≡ None
found_fine base image within is e =
    ap (λ (b : Bool). if b then option_map as_told (journal_fault base image) else None) (has_super base image within is) ∙ ap (option_map as_told) e

pub found_recovered : (base : ℕ) (image : List (List ℕ)) → base < length image → is_journal (disk_of image base) ≡ true → recovered_from base image ≡ recovered base image
found_recovered base image within is = ap (λ (b : Bool). if b then recovered base image else image) (has_super base image within is)

-- what its superblock says in the end
pub journal_after : (base : ℕ) (image : List (List ℕ)) (s : JournalSuper) (n : ℕ) → base < length image → length (disk_of image base) ≡ 1024 → super_of (disk_of image base) ≡ Ok s
    → ((t : JournalSuper) → super_of (disk_of (recovered base image) base) ≡ Ok t → (t.sequence ≡ n) × (t.start ≡ 0)) → journal_at base (recovered base image) ≡ Some (record s { sequence = n; start = 0 })
journal_after base image s n within size e next =
    let after = emptied_after base image s within size e in
    let t : JournalSuper = record s { sequence = after.sequence; start = 0 } in
    let long = length-recovered base image in
    let here = has_super base (recovered base image) (omega (arith, long, within)) (is_super (disk_of (recovered base image) base) t after.read) in
    ap (λ (b : Bool). if b then read_or_none (super_of (disk_of (recovered base image) base)) else None) here
    ∙ (ap read_or_none after.read ∙ ap (λ (k : ℕ). let u : JournalSuper = record s { sequence = k; start = 0 } in Some u) (next t after.read).0)
