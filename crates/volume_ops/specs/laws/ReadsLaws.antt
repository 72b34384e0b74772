-- Laws of programs that ask for blocks.
use Rattle.std.specs.Prelude.{◌≡◌, ℕ, Bool, true, false, if◌then◌else◌, List, ◌∷◌, ◌++◌, Result, Ok, Err, refl}
use Rattle.std.proofs.Common.{sym, ap, ◌∙◌, inl, inr}
use Rattle.volume_ops.specs.Reads.{Reads, Ret, Read, answer, blocks_read, and_then, go_on, if_ok, AgreeOn}

-- the answer of two programs, one after the other
pub answer-and_then : {A B : Type 0} (disk : ℕ → List ℕ) (program : Reads A) (next : A → Reads B) → answer disk (and_then program next) ≡ answer disk (next (answer disk program))
answer-and_then disk (Ret a) next = refl
answer-and_then disk (Read block more) next = answer-and_then disk (more (disk block)) next

-- the blocks that they read
pub blocks_read-and_then : {A B : Type 0} (disk : ℕ → List ℕ) (program : Reads A) (next : A → Reads B) →
    blocks_read disk (and_then program next) ≡ blocks_read disk program ++ blocks_read disk (next (answer disk program))
blocks_read-and_then disk (Ret a) next = refl
blocks_read-and_then disk (Read block more) next =
    ap (λ blocks. block ∷ blocks) (blocks_read-and_then disk (more (disk block)) next)

-- A program answers the same, and reads the same blocks, over a disk that agrees with the first in the blocks
-- that it reads there.
pub answer-agrees : {A : Type 0} (disk other : ℕ → List ℕ) (program : Reads A) → AgreeOn (blocks_read disk program) disk other → answer other program ≡ answer disk program
answer-agrees disk other (Ret a) same = refl
answer-agrees disk other (Read block more) same =
    rw (same block (inl refl)) (answer-agrees disk other (more (disk block)) (λ b h. same b (inr h)))

pub blocks_read-agree : {A : Type 0} (disk other : ℕ → List ℕ) (program : Reads A) → AgreeOn (blocks_read disk program) disk other → blocks_read other program ≡ blocks_read disk program
blocks_read-agree disk other (Ret a) same = refl
blocks_read-agree disk other (Read block more) same =
    rw (same block (inl refl)) (ap (λ blocks. block ∷ blocks) (blocks_read-agree disk other (more (disk block)) (λ b h. same b (inr h))))

-- ---- programs that end well

-- a result is not both
pub err-ok : {A E : Type 0} (e : E) (a : A) → ◌≡◌ {A = Result A E} (Err e) (Ok a) → ⊥
err-ok e a h = cc

pub same_Ok : {A E : Type 0} (a b : A) → ◌≡◌ {A = Result A E} (Ok a) (Ok b) → a ≡ b
same_Ok a b h = cc

-- both programs of `if_ok` ended well
go_on-parts : {A B E : Type 0} (disk : ℕ → List ℕ) (next : A → Reads (Result B E)) (b : B) (r : Result A E) →
    answer disk (go_on next r) ≡ Ok b → (a : A) × (r ≡ Ok a) × (answer disk (next a) ≡ Ok b)
go_on-parts disk next b (Ok a) h = (a, refl, h)
go_on-parts disk next b (Err e) h = absurd (err-ok e _ h)

pub if_ok-parts : {A B E : Type 0} (disk : ℕ → List ℕ) (program : Reads (Result A E)) (next : A → Reads (Result B E)) (b : B) →
    answer disk (if_ok program next) ≡ Ok b → (a : A) × (answer disk program ≡ Ok a) × (answer disk (next a) ≡ Ok b)
if_ok-parts disk program next b h =
    go_on-parts disk next b (answer disk program) (sym (answer-and_then disk program (go_on next)) ∙ h)

-- a test that is a fault did not hold
pub unless-parts : {A E : Type 0} (disk : ℕ → List ℕ) (bad : Bool) (e : E) (program : Reads (Result A E)) (a : A) →
    answer disk (if bad then Ret (Err e) else program) ≡ Ok a → (bad ≡ false) × (answer disk program ≡ Ok a)
unless-parts disk true e program a h = absurd (err-ok e _ h)
unless-parts disk false e program a h = (refl, h)
