-- One event more.
use Rattle.std.proofs.Common.{◌≡◌, ℕ, ◌+◌, ◌-◌, ◌≤◌, zero, suc, false, List, [], ◌∷◌, ◌++◌, length, drop, Some, None, refl, sym, ap, ◌∙◌, arith}
use Rattle.std.proofs.lemmas.List.{drop_at}
use Rattle.order_model.specs.declared.completion.Completion.{Completion}
use Rattle.host_machine.specs.runs.Runs.{Event}
use Rattle.host_machine.specs.runs.Runs as runs
use Rattle.thread_sides.specs.declared.events.HostEvent.{HostEvent}
use Rattle.thread_sides.specs.declared.events.HostEvent.TheVariants as noted
use Rattle.session_threads.specs.sides.HostReplay.{with_completions, takes}

none_left : (n : ℕ) → drop {A = Completion} n [] ≡ drop {A = Completion} (suc n) []
none_left zero = refl
none_left (suc n) = refl

-- events behind others take what those leave
behind : (xs ys : List HostEvent) (cs : List Completion) → with_completions (xs ++ ys) cs ≡ with_completions xs cs ++ with_completions ys (drop (takes xs) cs)
behind [] ys cs = refl
behind (noted.Call t full ∷ xs) ys cs = ap (λ l. runs.Call full (t - 1) ∷ l) (behind xs ys cs)
behind (noted.Commit ∷ xs) ys cs = ap (λ l. runs.Commit false ∷ l) (behind xs ys cs)
behind (noted.Writeback pick ∷ xs) ys cs = ap (λ l. runs.WriteBack false pick ∷ l) (behind xs ys cs)
behind (noted.Flush ∷ xs) ys cs = ap (λ l. runs.FlushStep false None ∷ l) (behind xs ys cs)
behind (noted.Take ∷ xs) ys [] = behind xs ys [] ∙ ap (λ l. with_completions xs [] ++ with_completions ys l) (none_left (takes xs))
behind (noted.Take ∷ xs) ys (c ∷ cs) = ap (λ l. runs.TakeStep (Some c) ∷ l) (behind xs ys cs)

-- events do not see what they leave
pub front : (xs : List HostEvent) (cs more : List Completion) → takes xs ≤ length cs → with_completions xs (cs ++ more) ≡ with_completions xs cs
front [] cs more le = refl
front (noted.Call t full ∷ xs) cs more le = ap (λ l. runs.Call full (t - 1) ∷ l) (front xs cs more le)
front (noted.Commit ∷ xs) cs more le = ap (λ l. runs.Commit false ∷ l) (front xs cs more le)
front (noted.Writeback pick ∷ xs) cs more le = ap (λ l. runs.WriteBack false pick ∷ l) (front xs cs more le)
front (noted.Flush ∷ xs) cs more le = ap (λ l. runs.FlushStep false None ∷ l) (front xs cs more le)
front (noted.Take ∷ xs) [] more le = absurd (omega (arith, le))
front (noted.Take ∷ xs) (c ∷ cs) more le = ap (λ l. runs.TakeStep (Some c) ∷ l) (front xs cs more (omega (arith, le)))

takes_append : (xs ys : List HostEvent) → takes (xs ++ ys) ≡ takes xs + takes ys
takes_append [] ys = omega arith
takes_append (noted.Call t full ∷ xs) ys = takes_append xs ys
takes_append (noted.Commit ∷ xs) ys = takes_append xs ys
takes_append (noted.Writeback pick ∷ xs) ys = takes_append xs ys
takes_append (noted.Flush ∷ xs) ys = takes_append xs ys
takes_append (noted.Take ∷ xs) ys = let e = takes_append xs ys in omega (arith, e)

-- one that takes nothing
pub more_events : (xs : List HostEvent) (x : HostEvent) (e : Event) (cs : List Completion) → ((l : List Completion) → with_completions (x ∷ []) l ≡ e ∷ []) → with_completions (xs ++ x ∷ []) cs ≡ with_completions xs cs ++ e ∷ []
more_events xs x e cs is = behind xs (x ∷ []) cs ∙ ap (λ l. with_completions xs cs ++ l) (is (drop (takes xs) cs))

pub same_takes : (xs : List HostEvent) (x : HostEvent) → takes (x ∷ []) ≡ 0 → takes (xs ++ x ∷ []) ≡ takes xs
same_takes xs x none = let n = takes_append xs (x ∷ []) in omega (arith, n, none)

-- one that takes the next completion
pub more_taken : (xs : List HostEvent) (cs : List Completion) (c : Completion) → takes xs ≡ length cs → with_completions (xs ++ noted.Take ∷ []) (cs ++ c ∷ []) ≡ with_completions xs cs ++ runs.TakeStep (Some c) ∷ []
more_taken xs cs c count =
    behind xs (noted.Take ∷ []) (cs ++ c ∷ [])
    ∙ ap (λ l. l ++ with_completions (noted.Take ∷ []) (drop (takes xs) (cs ++ c ∷ []))) (front xs cs (c ∷ []) (omega (arith, count)))
    ∙ ap (λ l. with_completions xs cs ++ with_completions (noted.Take ∷ []) l) (drop_at cs (c ∷ []) (takes xs) (sym count))

pub one_take : (xs : List HostEvent) → takes (xs ++ noted.Take ∷ []) ≡ takes xs + 1
one_take xs = takes_append xs (noted.Take ∷ [])
