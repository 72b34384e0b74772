-- Threads, to which calls are added, and the lines of their calls.
use Rattle.std.proofs.Common.{◌≡◌, ℕ, suc, ◌<◌, ◌≤◌, List, [], ◌∷◌, ◌++◌, length, refl, sym, ap, ◌∙◌, inl, inr, arith, append_assoc, length-append}
use Rattle.blk_base.specs.Members.{In}
use Rattle.tree_model.specs.declared.call.Call.{Call}
use Rattle.line_grammar.specs.calls.Programs.{pushed_last, last_length}
use Rattle.session_grammar.specs.WellFormed.{all_calls, IsLineOf, AreLinesOf}

pub length-pushed_last : {A : Type 0} (ts : List (List A)) (x : A) → length (pushed_last ts x) ≡ length ts
length-pushed_last [] x = refl
length-pushed_last (t ∷ []) x = refl
length-pushed_last (t ∷ u ∷ ts) x = ap suc (length-pushed_last (u ∷ ts) x)

-- one call more of the last thread is one call more behind all
pub all_calls-pushed : (ps : List (List Call)) (c : Call) → 0 < length ps → all_calls (pushed_last ps c) ≡ all_calls ps ++ c ∷ []
all_calls-pushed [] c some = absurd (omega (arith, some))
all_calls-pushed (p ∷ []) c some = ap (λ xs. xs ++ []) refl ∙ append_assoc p (c ∷ []) [] ∙ ap (λ xs. p ++ xs) refl ∙ sym (append_assoc p [] (c ∷ []))
all_calls-pushed (p ∷ q ∷ ps) c some = ap (λ xs. p ++ xs) (all_calls-pushed (q ∷ ps) c (omega arith)) ∙ sym (append_assoc p (all_calls (q ∷ ps)) (c ∷ []))

-- a thread with no calls adds none
pub all_calls-thread : (ps : List (List Call)) → all_calls (ps ++ [] ∷ []) ≡ all_calls ps
all_calls-thread [] = refl
all_calls-thread (p ∷ ps) = ap (λ xs. p ++ xs) (all_calls-thread ps)

-- the last thread alone grows
pub each_few-pushed : {A : Type 0} (m : ℕ) (ts : List (List A)) (x : A) → last_length ts < m → ((t : List A) → In t ts → length t ≤ m) → (t : List A) → In t (pushed_last ts x) → length t ≤ m
each_few-pushed m [] x lt all t h = absurd h
each_few-pushed m (u ∷ []) x lt all t (inl e) = omega (arith, lt, length-append u (x ∷ []), ap length e)
each_few-pushed m (u ∷ []) x lt all t (inr h) = absurd h
each_few-pushed m (u ∷ v ∷ ts) x lt all t (inl e) = all t (inl e)
each_few-pushed m (u ∷ v ∷ ts) x lt all t (inr h) = each_few-pushed m (v ∷ ts) x lt (λ s i. all s (inr i)) t h

pub AreLinesOf-push : (ls : List (List ℕ)) (cs : List Call) (l : List ℕ) (c : Call) → AreLinesOf ls cs → IsLineOf l c → AreLinesOf (ls ++ l ∷ []) (cs ++ c ∷ [])
AreLinesOf-push [] [] l c are is = (is, tt)
AreLinesOf-push [] (d ∷ cs) l c are is = absurd are
AreLinesOf-push (m ∷ ls) [] l c are is = absurd are
AreLinesOf-push (m ∷ ls) (d ∷ cs) l c are is = (are.0, AreLinesOf-push ls cs l c are.1 is)
