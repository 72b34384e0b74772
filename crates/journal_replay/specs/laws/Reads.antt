-- Laws of reads, one after the other.
use Rattle.std.specs.Prelude.{◌≡◌, ◌≢◌, ℕ, Bool, true, false, not, ◌&&◌, List, [], ◌∷◌, ◌++◌, Result, Err, refl}
use Rattle.std.proofs.Common.{sym, ap, ◌∙◌, subst}
use Rattle.std.proofs.lemmas.Bool.{false≢true, and_parts}
use Rattle.order_model.specs.Machine.{Machine}
use Rattle.journal_replay.specs.declared.scanning.ScanFault.{ScanFault}
use Rattle.journal_replay.specs.declared.scanning.ScanFault.TheVariants as scan
use Rattle.journal_replay.specs.declared.fault.RecoverFault.{RecoverFault}
use Rattle.journal_replay.specs.declared.fault.RecoverFault.TheVariants as recovering
use Rattle.journal_replay.specs.code.Scans.{HasAsked, HasAskedFor}
use Rattle.journal_replay.specs.Driving.{after_reads, can_read, WereRead, FailsToRead}

and_is : (a b : Bool) → a ≡ true → b ≡ true → (a && b) ≡ true
and_is true b e f = f
and_is false b e f = absurd (false≢true e)

not_is : (b : Bool) → b ≡ false → not b ≡ true
not_is true e = absurd (false≢true (sym e))
not_is false e = refl

was_false : (b : Bool) → not b ≡ true → b ≡ false
was_false true e = absurd (false≢true e)
was_false false e = refl

module _ {S : Type 0} (m : Machine S) where
  after_reads-append : (s : S) (xs ys : List ℕ) → after_reads m s (xs ++ ys) ≡ after_reads m (after_reads m s xs) ys
  after_reads-append s [] ys = refl
  after_reads-append s (x ∷ xs) ys = after_reads-append (m.after_read s x) xs ys

  can_read-append : (s : S) (xs ys : List ℕ) → can_read m s xs ≡ true → can_read m (after_reads m s xs) ys ≡ true → can_read m s (xs ++ ys) ≡ true
  can_read-append s [] ys e f = f
  can_read-append s (x ∷ xs) ys e f =
      let p = and_parts (not (m.read_fails s)) (can_read m (m.after_read s x) xs) e in
      and_is (not (m.read_fails s)) (can_read m (m.after_read s x) (xs ++ ys)) p.0 (can_read-append (m.after_read s x) xs ys p.1 f)

  pub reads_on : (first old new : S) → WereRead m first old → WereRead m old new → WereRead m first new
  reads_on first old new a b = (
    a.0 ++ b.0,
    b.1 ∙ (ap (λ s. after_reads m s b.0) a.1 ∙ sym (after_reads-append first a.0 b.0)),
    can_read-append first a.0 b.0 a.2 (subst (λ (s : S). can_read m s b.0 ≡ true) a.1 b.2),
  )

  -- one block more was read
  pub read_more_of : (first old : S) (block : ℕ) → WereRead m first old → m.read_fails old ≡ false → WereRead m first (m.after_read old block)
  read_more_of first old block a fine = reads_on first old (m.after_read old block) a (block ∷ [], refl, and_is (not (m.read_fails old)) true (not_is (m.read_fails old) fine) refl)

  -- the next one could not be
  pub read_failed : (first old : S) (block : ℕ) → WereRead m first old → m.read_fails old ≡ true → FailsToRead m first (m.after_read old block)
  read_failed first old block a fails = record { before = old; were = a; fails = fails; block = block; last = refl }

  -- a device that is sound can read
  module _ (valid sound : S → Type 0) (reads : (s : S) (b : ℕ) → valid s → valid (m.after_read s b)) (stays : (s : S) (b : ℕ) → sound s → sound (m.after_read s b))
      (works : (s : S) → valid s → sound s → m.read_fails s ≡ false) where
    still_sound : (s : S) (bs : List ℕ) → valid s → sound s → valid (after_reads m s bs) × sound (after_reads m s bs)
    still_sound s [] v w = (v, w)
    still_sound s (b ∷ bs) v w = still_sound (m.after_read s b) bs (reads s b v) (stays s b w)

    pub sound_reads : (first now : S) → valid first → sound first → FailsToRead m first now → ⊥
    sound_reads first now v w f =
        let p = still_sound first f.were.0 v w in
        false≢true (sym (works f.before (subst valid (sym f.were.1) p.0) (subst sound (sym f.were.1) p.1)) ∙ f.fails)

-- an answer is read exactly where it does not fail
pub could_read : (ok fails : Bool) → ok ≡ not fails → ok ≡ true → fails ≡ false
could_read ok fails e is = was_false fails (sym e ∙ is)

pub could_not_read : (ok fails : Bool) → ok ≡ not fails → ok ≡ false → fails ≡ true
could_not_read ok true e is = refl
could_not_read ok false e is = absurd (false≢true (sym is ∙ e))

-- ---- what was asked for, by the answer

by_fault : {S : Type 0} (X : Type 0) (m : Machine S) (f : RecoverFault) (first now : S) → f ≢ recovering.ReadFault → HasAskedFor {X = X} m (Err f) first now → WereRead m first now
by_fault X m recovering.ReadFault first now other h = absurd (other refl)
by_fault X m (recovering.DeviceFailed id) first now other h = h
by_fault X m (recovering.BadJournal fault block) first now other h = h
by_fault X m recovering.NoMemory first now other h = h

module _ {S X : Type 0} (m : Machine S) where
  pub asked_failed : (r : Result X ScanFault) (first now : S) → r ≡ Err scan.ReadFault → HasAsked m r first now → FailsToRead m first now
  asked_failed r first now e h = subst (λ (q : Result X ScanFault). HasAsked m q first now) e h

  pub asked_refused : (r : Result X ScanFault) (first now : S) → r ≡ Err scan.NoMemory → HasAsked m r first now → WereRead m first now
  asked_refused r first now e h = subst (λ (q : Result X ScanFault). HasAsked m q first now) e h

  pub asked_in_vain : (r : Result X RecoverFault) (first now : S) → r ≡ Err recovering.ReadFault → HasAskedFor m r first now → FailsToRead m first now
  asked_in_vain r first now e h = subst (λ (q : Result X RecoverFault). HasAskedFor m q first now) e h

  pub asked_before : (r : Result X RecoverFault) (f : RecoverFault) (first now : S) → r ≡ Err f → f ≢ recovering.ReadFault → HasAskedFor m r first now → WereRead m first now
  asked_before r f first now e other h = by_fault X m f first now other (subst (λ (q : Result X RecoverFault). HasAskedFor m q first now) e h)
