-- How a program goes on by the answer of its first part, and what a fault of a part says of the whole.
use Rattle.std.proofs.Common.{◌≡◌, ℕ, List, Result, Ok, Err, ap, ◌∙◌}
use Rattle.std.specs.Result.{IsErrAnd, IfErr}
use Rattle.volume_ops.specs.declared.walk_fault.WalkFault.{WalkFault}
use Rattle.volume_ops.specs.declared.walk_fault.WalkFault.TheVariants.{Layout, NoMemory}
use Rattle.volume_ops.specs.Reads.{Reads, answer, go_on, if_ok}
use Rattle.volume_ops.specs.laws.ReadsLaws.{answer-and_then}
use Rattle.volume_ops.specs.Zones.{Fault}
use Rattle.volume_ops.specs.Volume.{IsTold}

module _ {A B E : Type 0} (disk : ℕ → List ℕ) (program : Reads (Result A E)) (next : A → Reads (Result B E)) where
  pub answer-if_ok-ok : (a : A) → answer disk program ≡ Ok a → answer disk (if_ok program next) ≡ answer disk (next a)
  answer-if_ok-ok a e = answer-and_then disk program (go_on next) ∙ ap (λ r. answer disk (go_on next r)) e

  pub answer-if_ok-err : (f : E) → answer disk program ≡ Err f → answer disk (if_ok program next) ≡ Err f
  answer-if_ok-err f e = answer-and_then disk program (go_on next) ∙ ap (λ r. answer disk (go_on next r)) e

-- a fault of a part is told of the whole, where the whole has the faults of the part
pub told_on : {A B : Type 0} (part : Result A Fault) (whole : Result B Fault) (e : WalkFault) → ((f : Fault) → part ≡ Err f → whole ≡ Err f) → IsTold part e → IsTold whole e
told_on part whole (Layout fault block) step h = step (fault, block) h
told_on part whole NoMemory step h = tt

-- the same at the exit of a ?
pub told_at_exit : {T A B : Type 0} (r : Result T WalkFault) (part : Result A Fault) (whole : Result B Fault) (e : WalkFault) → IsErrAnd r (λ y. y ≡ e) → ((f : Fault) → part ≡ Err f → whole ≡ Err f) → IsTold part e → IfErr r (IsTold whole)
told_at_exit (Ok x) part whole e is step h = absurd is
told_at_exit (Err y) part whole e is step h = rw is (told_on part whole e step h)

-- the whole has the faults of the part that it begins with
pub told_first : {A B : Type 0} (disk : ℕ → List ℕ) (program : Reads (Result A Fault)) (next : A → Reads (Result B Fault)) (e : WalkFault) → IsTold (answer disk program) e → IsTold (answer disk (if_ok program next)) e
told_first disk program next e h = told_on (answer disk program) (answer disk (if_ok program next)) e (answer-if_ok-err disk program next) h

-- what is told of one answer is told of another that is the same
pub told_same : {A : Type 0} (r s : Result A Fault) (e : WalkFault) → r ≡ s → IsTold s e → IsTold r e
told_same r s e same = told_on s r e (λ f h. same ∙ h)
