-- A text is refused at its first faulty line, and at no other.
use Rattle.std.proofs.Common.{◌≡◌, ℕ, List, Bool, true, false, Option, Some, None, Err, refl}
use Rattle.script_words.specs.Spelling.{lines_of}
use Rattle.script_words.proofs.FirstFault.{is_first_fault, first_fault_told}
use Rattle.script_grammar.specs.declared.kinds.ScriptKind.{ScriptKind}
use Rattle.script_grammar.specs.declared.kinds.ScriptKind.TheVariants as kinds
use Rattle.store_grammar.specs.declared.reading.Reading.{Reading}
use Rattle.store_grammar.specs.Grammar.{is_behind_events, read_one, ended, ended_in, store_of}
use Rattle.store_grammar.specs.laws.FirstFault.{has_events, IsFirstFault}

-- where no line was `events`, the end is out of order
ended_in-refused : (n : ℕ) (r : Reading) (behind : Bool) → behind ≡ false → ended_in n r behind ≡ Err (n, kinds.Order)
ended_in-refused n r false h = refl
ended_in-refused n r true h = cc

ended-refused : (n : ℕ) (reading : Option Reading) → has_events reading ≡ false → ended n reading ≡ Err (n, kinds.Order)
ended-refused n None h = refl
ended-refused n (Some r) h = ended_in-refused n r (is_behind_events r.section) h

-- and it is refused nowhere else
ended_in-fault : (n : ℕ) (r : Reading) (behind : Bool) (fault : ℕ × ScriptKind) → ended_in n r behind ≡ Err fault → behind ≡ false
ended_in-fault n r false fault h = refl
ended_in-fault n r true fault h = cc

ended-fault : (n : ℕ) (reading : Option Reading) (fault : ℕ × ScriptKind) → ended n reading ≡ Err fault → has_events reading ≡ false
ended-fault n None fault h = refl
ended-fault n (Some r) fault h = ended_in-fault n r (is_behind_events r.section) fault h

-- the law: what is told is the first fault, and the first fault is told
pub tells_first_fault : (bytes : List ℕ) (n : ℕ) (kind : ScriptKind) → (store_of bytes ≡ Err (n, kind) → IsFirstFault (lines_of bytes) n kind) × (IsFirstFault (lines_of bytes) n kind → store_of bytes ≡ Err (n, kind))
tells_first_fault bytes n kind = (
  is_first_fault read_one ended has_events kinds.Order ended-refused ended-fault (lines_of bytes) n kind,
  first_fault_told read_one ended has_events kinds.Order ended-refused ended-fault (lines_of bytes) n kind,
)
