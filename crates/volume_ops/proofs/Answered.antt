-- What holds of the answers of programs.
use Rattle.std.proofs.Common.{ℕ, Bool, true, false, if◌then◌else◌, List, Result, Ok, Err, IfOk, sym, subst}
use Rattle.volume_ops.specs.Reads.{Reads, answer, if_ok, go_on}
use Rattle.volume_ops.specs.laws.ReadsLaws.{answer-and_then}

pub ok_then : {A B E : Type 0} (r : Result A E) (f : A → Result B E) (Q : A → Type 0) (P : B → Type 0) → IfOk r Q → ((a : A) → Q a → IfOk (f a) P)
    → IfOk (elim r as (λ _. Result B E) [ Err e ↦ Err e | Ok a ↦ f a ]) P
ok_then (Ok a) f Q P h k = k a h
ok_then (Err e) f Q P h k = tt

going_on : {A B E : Type 0} (disk : ℕ → List ℕ) (r : Result A E) (next : A → Reads (Result B E)) (Q : A → Type 0) (P : B → Type 0)
    → IfOk r Q → ((a : A) → Q a → IfOk (answer disk (next a)) P) → IfOk (answer disk (go_on next r)) P
going_on disk (Ok a) next Q P h k = k a h
going_on disk (Err e) next Q P h k = tt

pub answered_then : {A B E : Type 0} (disk : ℕ → List ℕ) (p : Reads (Result A E)) (next : A → Reads (Result B E)) (Q : A → Type 0) (P : B → Type 0)
    → IfOk (answer disk p) Q → ((a : A) → Q a → IfOk (answer disk (next a)) P) → IfOk (answer disk (if_ok p next)) P
answered_then disk p next Q P h k =
    subst (λ r. IfOk r P) (sym (answer-and_then disk p (go_on next))) (going_on disk (answer disk p) next Q P h k)

pub either_ok : {A E : Type 0} (b : Bool) (r s : Result A E) (P : A → Type 0) → IfOk r P → IfOk s P → IfOk (if b then r else s) P
either_ok true r s P h k = h
either_ok false r s P h k = k

pub either_answers : {A E : Type 0} (disk : ℕ → List ℕ) (b : Bool) (p q : Reads (Result A E)) (P : A → Type 0)
    → IfOk (answer disk p) P → IfOk (answer disk q) P → IfOk (answer disk (if b then p else q)) P
either_answers disk true p q P h k = h
either_answers disk false p q P h k = k

pub any_ok : {A E : Type 0} (r : Result A E) → IfOk r (λ _. Unit {0})
any_ok (Ok a) = tt
any_ok (Err e) = tt

pub ok_weaker : {A E : Type 0} (r : Result A E) (Q P : A → Type 0) → IfOk r Q → ((a : A) → Q a → P a) → IfOk r P
ok_weaker (Ok a) Q P h k = k a h
ok_weaker (Err e) Q P h k = tt
