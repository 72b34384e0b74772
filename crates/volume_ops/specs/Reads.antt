-- Programs that ask for blocks.
use Rattle.std.specs.Prelude.{◌≡◌, ℕ, List, [], ◌∷◌, Result, Ok, Err}
use Rattle.blk_base.specs.Members.{In}

-- Such a program ends with an answer, or it reads a block and goes on by its bytes.
pub data Reads (A : Type 0) : Type 0 where
  Ret : A → Reads A
  Read : ℕ → (List ℕ → Reads A) → Reads A

module _ {A : Type 0} where
  -- what it answers over a disk
  abbrev pub answer : (ℕ → List ℕ) → Reads A → A
  answer disk (Ret a) = a
  answer disk (Read block more) = answer disk (more (disk block))

  -- the blocks that it reads there, in order
  abbrev pub blocks_read : (ℕ → List ℕ) → Reads A → List ℕ
  blocks_read disk (Ret a) = []
  blocks_read disk (Read block more) = block ∷ blocks_read disk (more (disk block))

-- one program, and then another that goes on by its answer
abbrev pub and_then : {A B : Type 0} → Reads A → (A → Reads B) → Reads B
and_then (Ret a) next = next a
and_then (Read block more) next = Read block (λ body. and_then (more body) next)

-- how a program goes on after a result: a fault ends it
abbrev pub go_on : {A B E : Type 0} → (A → Reads (Result B E)) → Result A E → Reads (Result B E)
go_on next (Ok a) = next a
go_on next (Err e) = Ret (Err e)

-- one program, and where it finds no fault another
abbrev pub if_ok : {A B E : Type 0} → Reads (Result A E) → (A → Reads (Result B E)) → Reads (Result B E)
if_ok program next = and_then program (go_on next)

-- two disks have the same bytes in these blocks
abbrev pub AgreeOn : List ℕ → (ℕ → List ℕ) → (ℕ → List ℕ) → Type 0
AgreeOn blocks disk other = (block : ℕ) → In block blocks → other block ≡ disk block
