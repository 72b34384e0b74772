-- An attempt of recovery leaves a journal without a fault.
use Rattle.std.specs.Prelude.{◌≡◌, ◌≢◌, ℕ, ◌-◌, ◌<◌, ◌≤◌, ◌==◌, Bool, true, false, List, length, slice_get, Option, Some, None, Result, Ok, Err, refl}
use Rattle.std.proofs.Common.{sym, ap, ◌∙◌, subst, ⊎_elim, inl, inr, arith}
use Rattle.std.proofs.lemmas.Bool.{cases_lt, eqb-true, true≢false}
use Rattle.blk_base.specs.laws.Members.{slice_get-in_range, slice_get-out}
use Rattle.log_model.specs.Marks.{Mark, Keep, Clear, Set, body_after}
use Rattle.journal_blocks.specs.declared.super_block.JournalSuper.{JournalSuper}
use Rattle.journal_blocks.specs.declared.fault.JournalFault.{JournalFault}
use Rattle.journal_blocks.specs.Super.{super_of}
use Rattle.journal_blocks.specs.Log.{Reading, body_at}
use Rattle.journal_blocks.specs.laws.Logs.{mark-inside}
use Rattle.journal_replay.specs.Recovered.{log_mark, recovered, journal_fault, fault_of, AreBetween}
use Rattle.journal_replay.specs.laws.Attempts.{same_body, same_log, recovered-full, recovered-empty}
use Rattle.journal_replay.specs.laws.Recoveries.{fault-super, fault-long, fault-log, fault-full, fault-empty, fine_log}
use Rattle.mount_make.specs.laws.Recovering.{length-recovered, emptied_after, emptied-at, keeps_attempt}
use Rattle.call_sessions.specs.power_cuts.recovery.code.Left.{IsLeft}

none_told : {A : Type 0} (a : A) → ◌≡◌ {A = Option A} (Some a) None → ⊥
none_told a e = cc

pub not_bad : (base : ℕ) (image : List (List ℕ)) (fault : JournalFault) → journal_fault base image ≡ None → super_of (body_at image base) ≡ Err fault → ⊥
not_bad base image fault fine e = none_told (fault, base) (sym (fault-super base image fault e) ∙ fine)

-- a journal without a fault has a superblock, and all its blocks
pub super_by : (base : ℕ) (image : List (List ℕ)) (r : Result JournalSuper JournalFault) → super_of (body_at image base) ≡ r → journal_fault base image ≡ None → (s : JournalSuper) × (super_of (body_at image base) ≡ Ok s)
super_by base image (Ok s) e fine = (s, e)
super_by base image (Err fault) e fine = absurd (not_bad base image fault fine e)

short_enough : (base : ℕ) (image : List (List ℕ)) (s : JournalSuper) → super_of (body_at image base) ≡ Ok s → journal_fault base image ≡ None → s.maxlen ≤ length image - base
short_enough base image s read fine =
    ⊎_elim
    (λ long. absurd (none_told _ (sym (fault-long base image s read long) ∙ fine)))
    (λ short. short)
    (cases_lt (length image - base) s.maxlen)

kept_body : (m : Mark) (a : List ℕ) → ((x : List ℕ) → m ≡ Set x → ⊥) → body_after m a ≡ a
kept_body Keep a h = refl
kept_body Clear a h = refl
kept_body (Set x) a h = absurd (h x refl)

module _ (base : ℕ) (old new : List (List ℕ)) (s : JournalSuper) (within : base < length old) (read : super_of (body_at old base) ≡ Ok s) (fine : journal_fault base old ≡ None)
    (size : length new ≡ length old) (between : AreBetween old (recovered base old) new) where
  short : s.maxlen ≤ length new - base
  short = let k = short_enough base old s read fine in omega (arith, k, size)

  -- where the log is not empty, no block behind the superblock is a home
  module _ (some : s.start ≢ 0) (full : (s.start == 0) ≡ false) where
    block_same : (q : ℕ) → base < q → (a : List ℕ) → slice_get old q ≡ Some a → slice_get (recovered base old) q ≡ slice_get old q
    block_same q behind a at =
        let good = fine_log base old s read some fine in
        let free : (x : List ℕ) → log_mark base s old q ≡ Set x → ⊥ = λ x h. let k = (mark-inside base s old q x good h).1 in omega (arith, k, behind) in
        let differ : q ≢ base = λ e. omega (arith, e, behind) in
        ap (λ (i : List (List ℕ)). slice_get i q) (recovered-full base old s read full)
        ∙ (emptied-at base old s q a differ at ∙ (ap Some (kept_body (log_mark base s old q) a free) ∙ sym at))

    behind_same : (q : ℕ) → base < q → slice_get new q ≡ slice_get old q
    behind_same q behind =
        ⊎_elim
        (λ lt. let a = slice_get-in_range old q lt in ⊎_elim (λ e. e) (λ e. e ∙ block_same q behind a.0 a.1) (between q))
        (λ le. slice_get-out new q (omega (arith, le, size)) ∙ sym (slice_get-out old q le))
        (cases_lt q (length old))

    journal_same : slice_get new base ≡ slice_get old base → (q : ℕ) → base ≤ q → slice_get new q ≡ slice_get old q
    journal_same first q le =
        ⊎_elim
        (λ behind. behind_same q behind)
        (λ not_behind. let here : base ≡ q = omega (arith, le, not_behind) in subst (λ (k : ℕ). slice_get new k ≡ slice_get old k) here first)
        (cases_lt base q)

    log_fine : slice_get new base ≡ slice_get old base → fault_of base s new ≡ None
    log_fine first =
        fault-full base s new some
        ∙ (ap (λ (r : Reading). r.fault) (same_log base s new old (journal_same first)) ∙ fine_log base old s read some fine)

  fine_before : slice_get new base ≡ slice_get old base → (none : Bool) → (s.start == 0) ≡ none → journal_fault base new ≡ None
  fine_before first true is = fault-log base new s None (ap super_of (same_body new old base first) ∙ read) short (fault-empty base s new (eqb-true s.start 0 is))
  fine_before first false is =
      let some : s.start ≢ 0 = λ h. true≢false (sym (subst (λ (n : ℕ). (n == 0) ≡ true) (sym h) refl) ∙ is) in
      fault-log base new s None (ap super_of (same_body new old base first) ∙ read) short (log_fine some is first)

  fine_after : length (body_at old base) ≡ 1024 → slice_get new base ≡ slice_get (recovered base old) base → journal_fault base new ≡ None
  fine_after whole first =
      let after = emptied_after base old s within whole read in
      let t : JournalSuper = record s { sequence = after.sequence; start = 0 } in
      fault-log base new t None (ap super_of (same_body new (recovered base old) base first) ∙ after.read) short (fault-empty base t new refl)

  pub still_fine : length (body_at old base) ≡ 1024 → journal_fault base new ≡ None
  still_fine whole = ⊎_elim (λ e. fine_before e (s.start == 0) refl) (fine_after whole) (between base)

-- what an attempt leaves
pub left_by : (base : ℕ) (old new : List (List ℕ)) → base < length old → length (body_at old base) ≡ 1024 → journal_fault base old ≡ None
    → recovered base new ≡ recovered base old → AreBetween old (recovered base old) new → IsLeft base old new
left_by base old new within whole fine same between =
    let s = super_by base old (super_of (body_at old base)) refl fine in
    let size : length new ≡ length old = sym (length-recovered base new) ∙ (ap length same ∙ length-recovered base old) in
    record {
      within = omega (arith, size, within);
      fine = still_fine base old new s.0 within s.1 fine size between whole;
      recovered = same;
      keeps = keeps_attempt base old new s.0 within whole s.1 fine same between;
    }

-- one attempt after others
pub left_after : (base : ℕ) (image left new : List (List ℕ)) → IsLeft base image left → IsLeft base left new → IsLeft base image new
left_after base image left new first then = record {
  within = then.within;
  fine = then.fine;
  recovered = then.recovered ∙ first.recovered;
  keeps = record {
    size = then.keeps.size ∙ first.keeps.size;
    super_block = λ low. then.keeps.super_block low ∙ first.keeps.super_block low;
    recovered = then.keeps.recovered ∙ first.keeps.recovered;
  };
}

-- ---- no attempt, and a recovery that has ended

pub left_untouched : (base : ℕ) (image : List (List ℕ)) → base < length image → length (body_at image base) ≡ 1024 → journal_fault base image ≡ None → IsLeft base image image
left_untouched base image within whole fine = left_by base image image within whole fine refl (λ b. inl refl)

-- the log of the recovered image is empty, so it recovers to itself
pub left_recovered : (base : ℕ) (image : List (List ℕ)) → base < length image → length (body_at image base) ≡ 1024 → journal_fault base image ≡ None → IsLeft base image (recovered base image)
left_recovered base image within whole fine =
    let s = super_by base image (super_of (body_at image base)) refl fine in
    let after = emptied_after base image s.0 within whole s.1 in
    let t : JournalSuper = record s.0 { sequence = after.sequence; start = 0 } in
    left_by base image (recovered base image) within whole fine (recovered-empty base (recovered base image) t after.read refl) (λ b. inr refl)
