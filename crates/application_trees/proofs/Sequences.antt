-- The calls of one thread in the order of its program. (These are lemmas of a store's session, which stand above `session_core`.)
use Rattle.std.specs.Prelude.{◌≡◌, ℕ, zero, suc, ◌+◌, ◌<◌, ◌≤◌, ◌==◌, Bool, true, false, List, [], ◌∷◌, take, Some, slice_get, refl}
use Rattle.std.proofs.Common.{sym, ap, subst, ◌∙◌, arith}
use Rattle.std.proofs.lemmas.Bool.{eq-eqb, false≢true}
use Rattle.std.proofs.lemmas.Option.{same_Some, none-some}
use Rattle.blk_base.specs.Members.{In}
use Rattle.blk_base.specs.laws.Members.{filter_all, filter-In}
use Rattle.tree_model.specs.declared.call.Call.{Call}
use Rattle.tree_model.specs.declared.call.Reply.{Reply}
use Rattle.crash_laws.specs.LegalHistory.{Event, Begin, End, thread_of, Follows, of_thread}
use Rattle.application_trees.specs.Programs.{ends}

abbrev is_end : Event → Bool
is_end (Begin t c) = false
is_end (End t c r) = true

begin_end : (u : ℕ) (d : Call) (t : ℕ) (c : Call) (r : Reply) → Begin u d ≡ End t c r → ⊥
begin_end u d t c r e = false≢true (ap is_end e)

abbrev end_call : Call → Event → Call
end_call other (Begin t c) = other
end_call other (End t c r) = c

two_begins : (u : ℕ) (d : Call) (v : ℕ) (g : Call) (es : List Event) (program : List Call) → Follows (Begin u d ∷ Begin v g ∷ es) program → ⊥
two_begins u d v g es [] f = f
two_begins u d v g es (x ∷ program) f = f

-- the call that ends here is the next one of the program
pub ended_call : (es : List Event) (program : List Call) (q t : ℕ) (c : Call) (r : Reply) → Follows es program → slice_get es q ≡ Some (End t c r) → slice_get program (ends (take q es)) ≡ Some c
ended_call [] program q t c r f e = absurd (none-some (End t c r) e)
ended_call (Begin u d ∷ []) [] q t c r f e = absurd f
ended_call (Begin u d ∷ []) (x ∷ program) zero t c r f e = absurd (begin_end u d t c r (same_Some (Begin u d) (End t c r) e))
ended_call (Begin u d ∷ []) (x ∷ program) (suc q) t c r f e = absurd (none-some (End t c r) e)
ended_call (Begin u d ∷ Begin v g ∷ es) program q t c r f e = absurd (two_begins u d v g es program f)
ended_call (Begin u d ∷ End v g y ∷ es) [] q t c r f e = absurd f
ended_call (Begin u d ∷ End v g y ∷ es) (x ∷ program) zero t c r f e = absurd (begin_end u d t c r (same_Some (Begin u d) (End t c r) e))
ended_call (Begin u d ∷ End v g y ∷ es) (x ∷ program) (suc zero) t c r f e = ap Some (sym f.1 ∙ ap (end_call g) (same_Some (End v g y) (End t c r) e))
ended_call (Begin u d ∷ End v g y ∷ es) (x ∷ program) (suc (suc q)) t c r f e = ended_call es program q t c r f.2 e
ended_call (End v g y ∷ es) [] q t c r f e = absurd f
ended_call (End v g y ∷ es) (x ∷ program) zero t c r f e = ap Some (sym f.0 ∙ ap (end_call g) (same_Some (End v g y) (End t c r) e))
ended_call (End v g y ∷ es) (x ∷ program) (suc q) t c r f e = ended_call es program q t c r f.1 e

-- an end counts among those before each later event
pub ends_below : (es : List Event) (n q t : ℕ) (c : Call) (r : Reply) → n < q → slice_get es n ≡ Some (End t c r) → ends (take n es) < ends (take q es)
ends_below [] n q t c r lt e = absurd (none-some (End t c r) e)
ends_below (x ∷ es) n zero t c r lt e = absurd (omega (arith, lt))
ends_below (Begin u d ∷ es) zero (suc q) t c r lt e = absurd (begin_end u d t c r (same_Some (Begin u d) (End t c r) e))
ends_below (End u d y ∷ es) zero (suc q) t c r lt e = omega arith
ends_below (Begin u d ∷ es) (suc n) (suc q) t c r lt e = ends_below es n q t c r (omega (arith, lt)) e
ends_below (End u d y ∷ es) (suc n) (suc q) t c r lt e = let less = ends_below es n q t c r (omega (arith, lt)) e in omega (arith, less)

-- and they never fall
pub ends_rise : (es : List Event) (n q : ℕ) → n ≤ q → ends (take n es) ≤ ends (take q es)
ends_rise es zero q le = omega arith
ends_rise [] (suc n) q le = omega arith
ends_rise (x ∷ es) (suc n) zero le = absurd (omega (arith, le))
ends_rise (Begin u d ∷ es) (suc n) (suc q) le = ends_rise es n q (omega (arith, le))
ends_rise (End u d y ∷ es) (suc n) (suc q) le = let less = ends_rise es n q (omega (arith, le)) in omega (arith, less)

-- ---- one thread

no_entry : (es : List Event) → Follows es [] → es ≡ []
no_entry [] f = refl
no_entry (Begin t c ∷ []) f = absurd f
no_entry (Begin t c ∷ Begin u d ∷ es) f = absurd f
no_entry (Begin t c ∷ End u d r ∷ es) f = absurd f
no_entry (End t c r ∷ es) f = absurd f

one_thread : (es : List Event) (program : ℕ → List Call) → ((t : ℕ) → Follows (of_thread t es) (program t)) → ((t : ℕ) → program (suc t) ≡ []) → (x : Event) → In x es → thread_of x ≡ 0
one_thread es program follows none x i = at (thread_of x) refl
  where
    at : (t : ℕ) → thread_of x ≡ t → thread_of x ≡ 0
    at zero e = e
    at (suc t) e =
        let empty = no_entry (of_thread (suc t) es) (subst (Follows (of_thread (suc t) es)) (none t) (follows (suc t))) in
        let there : In x (of_thread (suc t) es) = filter-In (λ y. thread_of y == suc t) es x i (eq-eqb (thread_of x) (suc t) e) in
        absurd (subst (In x) empty there)

pub follows_all : (es : List Event) (program : ℕ → List Call) → ((t : ℕ) → Follows (of_thread t es) (program t)) → ((t : ℕ) → program (suc t) ≡ []) → Follows es (program 0)
follows_all es program follows none =
    subst (λ l. Follows l (program 0)) (filter_all (λ y. thread_of y == 0) es (λ x i. eq-eqb (thread_of x) 0 (one_thread es program follows none x i))) (follows 0)
