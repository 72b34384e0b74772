-- One event more.
use Rattle.std.proofs.Common.{◌≡◌, ℕ, ◌+◌, ◌≤◌, zero, suc, List, [], ◌∷◌, ◌++◌, length, drop, refl, sym, ap, ◌∙◌, arith}
use Rattle.std.proofs.lemmas.List.{drop_at}
use Rattle.order_model.specs.declared.command.Command.{Command}
use Rattle.order_model.specs.Machine.{Machine}
use Rattle.thread_sides.specs.declared.events.DeviceEvent.{DeviceEvent}
use Rattle.thread_sides.specs.declared.events.DeviceEvent.TheVariants as noted
use Rattle.thread_sides.specs.DeviceReplay.{DeviceNow, DeviceStep, Takes, Moves, Writes, Sends, with_commands, receives, stepped, steps}

none_left : (n : ℕ) → drop {A = Command} n [] ≡ drop {A = Command} (suc n) []
none_left zero = refl
none_left (suc n) = refl

behind : (xs ys : List DeviceEvent) (cs : List Command) → with_commands (xs ++ ys) cs ≡ with_commands xs cs ++ with_commands ys (drop (receives xs) cs)
behind [] ys cs = refl
behind (noted.Transfer pick ∷ xs) ys cs = ap (λ l. Moves pick ∷ l) (behind xs ys cs)
behind (noted.Persist pick ∷ xs) ys cs = ap (λ l. Writes pick ∷ l) (behind xs ys cs)
behind (noted.Answer full ∷ xs) ys cs = ap (λ l. Sends full ∷ l) (behind xs ys cs)
behind (noted.Receive ∷ xs) ys [] = behind xs ys [] ∙ ap (λ l. with_commands xs [] ++ with_commands ys l) (none_left (receives xs))
behind (noted.Receive ∷ xs) ys (c ∷ cs) = ap (λ l. Takes c ∷ l) (behind xs ys cs)

front : (xs : List DeviceEvent) (cs more : List Command) → receives xs ≤ length cs → with_commands xs (cs ++ more) ≡ with_commands xs cs
front [] cs more le = refl
front (noted.Transfer pick ∷ xs) cs more le = ap (λ l. Moves pick ∷ l) (front xs cs more le)
front (noted.Persist pick ∷ xs) cs more le = ap (λ l. Writes pick ∷ l) (front xs cs more le)
front (noted.Answer full ∷ xs) cs more le = ap (λ l. Sends full ∷ l) (front xs cs more le)
front (noted.Receive ∷ xs) [] more le = absurd (omega (arith, le))
front (noted.Receive ∷ xs) (c ∷ cs) more le = ap (λ l. Takes c ∷ l) (front xs cs more (omega (arith, le)))

receives_append : (xs ys : List DeviceEvent) → receives (xs ++ ys) ≡ receives xs + receives ys
receives_append [] ys = omega arith
receives_append (noted.Transfer pick ∷ xs) ys = receives_append xs ys
receives_append (noted.Persist pick ∷ xs) ys = receives_append xs ys
receives_append (noted.Answer full ∷ xs) ys = receives_append xs ys
receives_append (noted.Receive ∷ xs) ys = let e = receives_append xs ys in omega (arith, e)

pub more_events : (xs : List DeviceEvent) (x : DeviceEvent) (e : DeviceStep) (cs : List Command) → ((l : List Command) → with_commands (x ∷ []) l ≡ e ∷ []) → with_commands (xs ++ x ∷ []) cs ≡ with_commands xs cs ++ e ∷ []
more_events xs x e cs is = behind xs (x ∷ []) cs ∙ ap (λ l. with_commands xs cs ++ l) (is (drop (receives xs) cs))

pub same_receives : (xs : List DeviceEvent) (x : DeviceEvent) → receives (x ∷ []) ≡ 0 → receives (xs ++ x ∷ []) ≡ receives xs
same_receives xs x none = let n = receives_append xs (x ∷ []) in omega (arith, n, none)

pub more_taken : (xs : List DeviceEvent) (cs : List Command) (c : Command) → receives xs ≡ length cs → with_commands (xs ++ noted.Receive ∷ []) (cs ++ c ∷ []) ≡ with_commands xs cs ++ Takes c ∷ []
more_taken xs cs c count =
    behind xs (noted.Receive ∷ []) (cs ++ c ∷ [])
    ∙ ap (λ l. l ++ with_commands (noted.Receive ∷ []) (drop (receives xs) (cs ++ c ∷ []))) (front xs cs (c ∷ []) (omega (arith, count)))
    ∙ ap (λ l. with_commands xs cs ++ with_commands (noted.Receive ∷ []) l) (drop_at cs (c ∷ []) (receives xs) (sym count))

pub one_receive : (xs : List DeviceEvent) → receives (xs ++ noted.Receive ∷ []) ≡ receives xs + 1
one_receive xs = receives_append xs (noted.Receive ∷ [])

module _ {S : Type 0} (m : Machine S) where
  pub steps_more : (s : DeviceNow S) (xs : List DeviceStep) (e : DeviceStep) → steps m s (xs ++ e ∷ []) ≡ stepped m (steps m s xs) e
  steps_more s [] e = refl
  steps_more s (x ∷ xs) e = steps_more (stepped m s x) xs e
