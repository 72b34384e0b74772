-- The first faulty line of a text, in words of its lines, for any grammar.
use Rattle.std.specs.Prelude.{◌≡◌, ℕ, ◌+◌, ◌-◌, ◌≤◌, Bool, false, List, [], ◌∷◌, length, take, Option, Some, None, Result, Ok, Err, if◌then◌else◌, slice_get}
use Rattle.script_words.specs.Spelling.{is_skipped}

-- ---- one line

abbrev pub error_of : {R K : Type 0} → Result R K → Option K
error_of (Ok r) = None
error_of (Err kind) = Some kind

-- the fault of a line behind what was read, where it has one
abbrev pub fault_of : {R K : Type 0} → (Option R → List ℕ → Result R K) → Option R → List ℕ → Option K
fault_of read reading l = if is_skipped l then None else error_of (read reading l)

abbrev pub read_on : {R K : Type 0} → Option R → Result R K → Option R
read_on reading (Ok r) = Some r
read_on reading (Err kind) = reading

-- what was read behind a line; a line that is skipped or faulty adds nothing
abbrev pub behind : {R K : Type 0} → (Option R → List ℕ → Result R K) → Option R → List ℕ → Option R
behind read reading l = if is_skipped l then reading else read_on reading (read reading l)

-- ---- lines

-- no line of these has a fault
abbrev pub AreRead : {R K : Type 0} → (Option R → List ℕ → Result R K) → Option R → List (List ℕ) → Type 0
AreRead read reading [] = Unit {0}
AreRead read reading (l ∷ ls) = (fault_of read reading l ≡ None) × AreRead read (behind read reading l) ls

abbrev pub behind_all : {R K : Type 0} → (Option R → List ℕ → Result R K) → Option R → List (List ℕ) → Option R
behind_all read reading [] = reading
behind_all read reading (l ∷ ls) = behind_all read (behind read reading l) ls

-- Line n, counted from 1, is the first faulty one, with this kind: all lines before it are read, and it has that
-- fault; or it is the line after the last one, what was read may not end, and the kind is that of order.
pub record IsFirstFault {R K : Type 0} (read : Option R → List ℕ → Result R K) (may_end : Option R → Bool) (order : K) (lines : List (List ℕ)) (n : ℕ) (kind : K) : Type 0 where
  pub counted : (1 ≤ n) × (n ≤ length lines + 1)
  pub before : AreRead read None (take (n - 1) lines)
  pub line : (l : List ℕ) → slice_get lines (n - 1) ≡ Some l → fault_of read (behind_all read None (take (n - 1) lines)) l ≡ Some kind
  pub none : slice_get lines (n - 1) ≡ None → (may_end (behind_all read None lines) ≡ false) × (kind ≡ order)
