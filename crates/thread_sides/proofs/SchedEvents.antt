-- One event more.
use Rattle.std.proofs.Common.{◌≡◌, ℕ, ◌+◌, ◌≤◌, zero, suc, Bool, List, [], ◌∷◌, ◌++◌, length, drop, refl, sym, ap, ◌∙◌, arith}
use Rattle.std.proofs.lemmas.List.{drop_at}
use Rattle.order_model.specs.declared.request.Request.{Request}
use Rattle.schedulers.specs.reassign.Scheduler.{SchedSteps}
use Rattle.thread_sides.specs.declared.events.SchedEvent.{SchedEvent}
use Rattle.thread_sides.specs.declared.events.SchedEvent.TheVariants as noted
use Rattle.thread_sides.specs.SchedReplay.{SchedNow, SchedStep, Takes, Sends, with_requests, accepts, stepped, steps}

none_left : (n : ℕ) → drop {A = Request} n [] ≡ drop {A = Request} (suc n) []
none_left zero = refl
none_left (suc n) = refl

behind : (xs ys : List SchedEvent) (rs : List Request) → with_requests (xs ++ ys) rs ≡ with_requests xs rs ++ with_requests ys (drop (accepts xs) rs)
behind [] ys rs = refl
behind (noted.Dispatch pick full ∷ xs) ys rs = ap (λ l. Sends pick full ∷ l) (behind xs ys rs)
behind (noted.Accept ∷ xs) ys [] = behind xs ys [] ∙ ap (λ l. with_requests xs [] ++ with_requests ys l) (none_left (accepts xs))
behind (noted.Accept ∷ xs) ys (r ∷ rs) = ap (λ l. Takes r ∷ l) (behind xs ys rs)

front : (xs : List SchedEvent) (rs more : List Request) → accepts xs ≤ length rs → with_requests xs (rs ++ more) ≡ with_requests xs rs
front [] rs more le = refl
front (noted.Dispatch pick full ∷ xs) rs more le = ap (λ l. Sends pick full ∷ l) (front xs rs more le)
front (noted.Accept ∷ xs) [] more le = absurd (omega (arith, le))
front (noted.Accept ∷ xs) (r ∷ rs) more le = ap (λ l. Takes r ∷ l) (front xs rs more (omega (arith, le)))

accepts_append : (xs ys : List SchedEvent) → accepts (xs ++ ys) ≡ accepts xs + accepts ys
accepts_append [] ys = omega arith
accepts_append (noted.Dispatch pick full ∷ xs) ys = accepts_append xs ys
accepts_append (noted.Accept ∷ xs) ys = let e = accepts_append xs ys in omega (arith, e)

pub more_sent : (xs : List SchedEvent) (pick : ℕ) (full : Bool) (rs : List Request) → with_requests (xs ++ noted.Dispatch pick full ∷ []) rs ≡ with_requests xs rs ++ Sends pick full ∷ []
more_sent xs pick full rs = behind xs (noted.Dispatch pick full ∷ []) rs

pub same_accepts : (xs : List SchedEvent) (pick : ℕ) (full : Bool) → accepts (xs ++ noted.Dispatch pick full ∷ []) ≡ accepts xs
same_accepts xs pick full = let n = accepts_append xs (noted.Dispatch pick full ∷ []) in omega (arith, n)

pub more_taken : (xs : List SchedEvent) (rs : List Request) (r : Request) → accepts xs ≡ length rs → with_requests (xs ++ noted.Accept ∷ []) (rs ++ r ∷ []) ≡ with_requests xs rs ++ Takes r ∷ []
more_taken xs rs r count =
    behind xs (noted.Accept ∷ []) (rs ++ r ∷ [])
    ∙ ap (λ l. l ++ with_requests (noted.Accept ∷ []) (drop (accepts xs) (rs ++ r ∷ []))) (front xs rs (r ∷ []) (omega (arith, count)))
    ∙ ap (λ l. with_requests xs rs ++ with_requests (noted.Accept ∷ []) l) (drop_at rs (r ∷ []) (accepts xs) (sym count))

pub one_accept : (xs : List SchedEvent) → accepts (xs ++ noted.Accept ∷ []) ≡ accepts xs + 1
one_accept xs = accepts_append xs (noted.Accept ∷ [])

module _ {K : Type 0} (k : SchedSteps K) where
  pub steps_more : (s : SchedNow K) (xs : List SchedStep) (e : SchedStep) → steps k s (xs ++ e ∷ []) ≡ stepped k (steps k s xs) e
  steps_more s [] e = refl
  steps_more s (x ∷ xs) e = steps_more (stepped k s x) xs e
