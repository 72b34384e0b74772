-- A text is refused at its first faulty line, and at no other.
use Rattle.std.proofs.Common.{◌≡◌, ℕ, zero, suc, ◌+◌, ◌-◌, ◌≤◌, List, [], ◌∷◌, length, take, Bool, true, false, Option, Some, None, Result, Ok, Err, refl, sym, ap, ◌∙◌, arith, slice_get, if◌then◌else◌}
use Rattle.script_words.specs.Spelling.{is_skipped}
use Rattle.script_words.specs.LineByLine.{at_line, lines_read}
use Rattle.script_words.specs.laws.FirstFault.{error_of, fault_of, read_on, behind, AreRead, behind_all, IsFirstFault}
use Rattle.script_words.proofs.LineByLine.{read_none, read_step, read_stop}

-- one fault has one number and one kind
same_fault : {A K : Type 0} (n m : ℕ) (kind other : K) (result : Result A (ℕ × K)) → result ≡ Err (n, kind) → result ≡ Err (m, other) → (m ≡ n) × (other ≡ kind)
same_fault {K = K} n m kind other result h g =
    let e : (m, other) ≡ (n, kind) = cc in
    (ap (λ (fault : ℕ × K). fault.0) e, ap (λ (fault : ℕ × K). fault.1) e)

-- a line with no fault is read
read_unless_skipped : {R K : Type 0} (skipped : Bool) (read : Result R K) (reading : Option R) (n : ℕ) → (if skipped then None else error_of read) ≡ None → (if skipped then Ok reading else at_line n read) ≡ Ok (if skipped then reading else read_on reading read)
read_unless_skipped true read reading n h = refl
read_unless_skipped false (Ok r) reading n h = refl
read_unless_skipped false (Err kind) reading n h = cc

-- a line with a fault is refused with it
refused_unless_skipped : {R K : Type 0} (skipped : Bool) (read : Result R K) (reading : Option R) (n : ℕ) (kind : K) → (if skipped then None else error_of read) ≡ Some kind → (if skipped then Ok reading else at_line n read) ≡ Err (n, kind)
refused_unless_skipped true read reading n kind h = cc
refused_unless_skipped false (Ok r) reading n kind h = cc
refused_unless_skipped false (Err k) reading n kind h = let same : k ≡ kind = cc in rw same refl

-- So many lines are read, and then comes the first fault; place counts from 0.
record IsFaultAt {R K : Type 0} (read : Option R → List ℕ → Result R K) (may_end : Option R → Bool) (order : K) (reading : Option R) (lines : List (List ℕ)) (place : ℕ) (kind : K) : Type 0 where
  counted : place ≤ length lines
  before : AreRead read reading (take place lines)
  line : (l : List ℕ) → slice_get lines place ≡ Some l → fault_of read (behind_all read reading (take place lines)) l ≡ Some kind
  none : slice_get lines place ≡ None → (may_end (behind_all read reading lines) ≡ false) × (kind ≡ order)

-- the same, with the lines counted from n on
record IsFaultFrom {R K : Type 0} (read : Option R → List ℕ → Result R K) (may_end : Option R → Bool) (order : K) (n : ℕ) (reading : Option R) (lines : List (List ℕ)) (m : ℕ) (kind : K) : Type 0 where
  place : ℕ
  counted : m ≡ n + place
  fault : IsFaultAt read may_end order reading lines place kind

-- A text may end exactly where `ended` takes what was read, and else the line after the last one is out of order.
module _ {R K S : Type 0} (read : Option R → List ℕ → Result R K) (ended : ℕ → Option R → Result S (ℕ × K)) (may_end : Option R → Bool) (order : K) (refused : (n : ℕ) (reading : Option R) → may_end reading ≡ false → ended n reading ≡ Err (n, order)) (unended : (n : ℕ) (reading : Option R) (fault : ℕ × K) → ended n reading ≡ Err fault → may_end reading ≡ false) where
  -- a line with no fault, and the lines behind it
  step : (n : ℕ) (reading : Option R) (l : List ℕ) (ls : List (List ℕ)) → fault_of read reading l ≡ None → lines_read read ended n reading (l ∷ ls) ≡ lines_read read ended (n + 1) (behind read reading l) ls
  step n reading l ls h = read_step read ended n reading (behind read reading l) l ls (read_unless_skipped (is_skipped l) (read reading l) reading n h)

  -- a line with one
  stop : (n : ℕ) (reading : Option R) (l : List ℕ) (ls : List (List ℕ)) (kind : K) → fault_of read reading l ≡ Some kind → lines_read read ended n reading (l ∷ ls) ≡ Err (n, kind)
  stop n reading l ls kind h = read_stop read ended n reading l ls (n, kind) (refused_unless_skipped (is_skipped l) (read reading l) reading n kind h)

  -- a fault is told
  told : (lines : List (List ℕ)) (n : ℕ) (reading : Option R) (place : ℕ) (kind : K) → IsFaultAt read may_end order reading lines place kind → lines_read read ended n reading lines ≡ Err (n + place, kind)
  told [] n reading zero kind is =
      let t = is.none refl in
      read_none read ended n reading ∙ (refused n reading t.0 ∙ (let e : n ≡ n + 0 = omega arith in rw (t.1, ← e) refl))
  told [] n reading (suc place) kind is = absurd (omega (arith, is.counted))
  told (l ∷ ls) n reading zero kind is = stop n reading l ls kind (is.line l refl) ∙ (let e : n ≡ n + 0 = omega arith in rw (← e) refl)
  told (l ∷ ls) n reading (suc place) kind is =
      step n reading l ls is.before.0
      ∙ (told ls (n + 1) (behind read reading l) place kind (record { counted = omega (arith, is.counted); before = is.before.1; line = is.line; none = is.none })
      ∙ (let e : n + 1 + place ≡ n + suc place = omega arith in rw e refl))

  -- what is told is a fault
  found_line : (o : Option K) (l : List ℕ) (ls : List (List ℕ)) (n : ℕ) (reading : Option R) (m : ℕ) (kind : K) → fault_of read reading l ≡ o → lines_read read ended n reading (l ∷ ls) ≡ Err (m, kind) → (lines_read read ended (n + 1) (behind read reading l) ls ≡ Err (m, kind) → IsFaultFrom read may_end order (n + 1) (behind read reading l) ls m kind) → IsFaultFrom read may_end order n reading (l ∷ ls) m kind
  found_line None l ls n reading m kind e h behind_it =
      let rest = behind_it (sym (step n reading l ls e) ∙ h) in
      record {
        place = suc rest.place;
        counted = omega (arith, rest.counted);
        fault = record {
          counted = omega (arith, rest.fault.counted);
          before = (e, rest.fault.before);
          line = rest.fault.line;
          none = rest.fault.none;
        };
      }
  found_line (Some k) l ls n reading m kind e h behind_it =
      let t = same_fault n m k kind _ (stop n reading l ls k e) h in
      record {
        place = 0;
        counted = omega (arith, t.0);
        fault = record {
          counted = omega arith;
          before = tt;
          line = λ x g. let this : l ≡ x = cc in rw (← this) (e ∙ ap Some (sym t.1));
          none = λ g. cc;
        };
      }

  found : (lines : List (List ℕ)) (n : ℕ) (reading : Option R) (m : ℕ) (kind : K) → lines_read read ended n reading lines ≡ Err (m, kind) → IsFaultFrom read may_end order n reading lines m kind
  found [] n reading m kind h =
      let end : ended n reading ≡ Err (m, kind) = sym (read_none read ended n reading) ∙ h in
      let may_not = unended n reading (m, kind) end in
      let t = same_fault n m order kind _ (refused n reading may_not) end in
      record {
        place = 0;
        counted = omega (arith, t.0);
        fault = record { counted = omega arith; before = tt; line = λ x g. cc; none = λ g. (may_not, t.1) };
      }
  found (l ∷ ls) n reading m kind h = found_line (fault_of read reading l) l ls n reading m kind refl h (found ls (n + 1) (behind read reading l) m kind)

  -- what is told is the first fault
  pub is_first_fault : (lines : List (List ℕ)) (n : ℕ) (kind : K) → lines_read read ended 1 None lines ≡ Err (n, kind) → IsFirstFault read may_end order lines n kind
  is_first_fault lines n kind h =
      let from = found lines 1 None n kind h in
      let e : n - 1 ≡ from.place = omega (arith, from.counted) in
      record {
        counted = (omega (arith, from.counted), omega (arith, from.counted, from.fault.counted));
        before = rw e from.fault.before;
        line = rw e from.fault.line;
        none = rw e from.fault.none;
      }

  -- and the first fault is told
  pub first_fault_told : (lines : List (List ℕ)) (n : ℕ) (kind : K) → IsFirstFault read may_end order lines n kind → lines_read read ended 1 None lines ≡ Err (n, kind)
  first_fault_told lines n kind is =
      told lines 1 None (n - 1) kind (record {
        counted = omega (arith, is.counted.0, is.counted.1);
        before = is.before;
        line = is.line;
        none = is.none;
      })
      ∙ (let e : 1 + (n - 1) ≡ n = omega (arith, is.counted.0) in rw e refl)
