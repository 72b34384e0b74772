-- Each completion of a device that stays on, and of which nothing fails, is of a request that was submitted; and there are no more
-- completions than requests.
use Rattle.std.specs.List.{AllByRecursion, IsDistinct, list_any}
use Rattle.std.specs.Option.{option_and_then, option_to_list}
use Rattle.std.specs.Prelude.{◌≡◌, [], ◌≢◌, ◌⊎◌, ℕ, suc, ◌<◌, ◌≤◌, eqb, true, false, List, ◌∷◌, ◌++◌, length, map, Some, slice_get, refl}
use Rattle.std.proofs.Common.{sym, ap, subst, ◌∙◌, inl, inr, arith}
use Rattle.std.proofs.lemmas.Bool.{ne_eqb, eqb-true}
use Rattle.std.proofs.lemmas.List.{length-map}
use Rattle.std.proofs.lemmas.Option.{same_Some}
use Rattle.std.proofs.lemmas.Map.Steps.{length-le_from_distinct_below}
use Rattle.blk_base.specs.Members.{In}
use Rattle.blk_base.specs.laws.Members.{In-append_left, In-append_cases, In-map, In-list_any, In-slice_get, slice_get-In, slice_get-length, slice_get-append_left}
use Rattle.order_model.specs.declared.command.Command.{Command}
use Rattle.order_model.specs.declared.completion.Completion.{Completion}
use Rattle.order_model.specs.declared.completion.Completion.TheVariants as completions
use Rattle.order_model.specs.declared.part.Part.{Part}
use Rattle.order_model.specs.declared.request.Kind.{Kind}
use Rattle.order_model.specs.declared.request.Kind.TheVariants as puts
use Rattle.order_model.specs.declared.request.Request.{Request}
use Rattle.order_model.specs.Carrying.{SchedSeen, Carries, WasAccepted}
use Rattle.order_model.specs.Device.{Seen, Completes, completed, completion_id}
use Rattle.order_model.specs.OrderClosed.{is_flush}
use Rattle.order_model.specs.Received.{all_parts}
use Rattle.order_model.proofs.Received.{flush-is}
use Rattle.stack_core.specs.BlockLayer.{QueuesState}
use Rattle.session_core.specs.run.machine.Fits.{RequestsFit}

-- the completion is of a request that was submitted, and says what this asked for
abbrev pub IsOf : List Request → Completion → Type 0
IsOf rs (completions.Moved id) = (q : Request) × (slice_get rs id ≡ Some q) × (is_flush q.kind ≡ false)
IsOf rs (completions.Flushed id) = (q : Request) × (slice_get rs id ≡ Some q) × (is_flush q.kind ≡ true)
IsOf rs (completions.Failed id) = ⊥
IsOf rs completions.Cut = ⊥

part_of : (cs : List Command) (p : Part) → In p (all_parts cs) → (c : Command) × In c cs × In p c.parts
part_of [] p i = absurd i
part_of (c ∷ cs) p i = by (λ there. part_of cs p there) (In-append_cases c.parts (all_parts cs) p i)
  where
    by : (In p (all_parts cs) → (d : Command) × In d cs × In p d.parts) → In p c.parts ⊎ In p (all_parts cs) → (d : Command) × In d (c ∷ cs) × In p d.parts
    by rest (inl here) = (c, inl refl, here)
    by rest (inr there) = let o = rest there in (o.0, inr o.1, o.2)

module _ (rs : List Request) (limit : ℕ) (q : QueuesState) (p : SchedSeen) (d : Seen) (fits : RequestsFit rs limit q p d) (carries : Carries p) where
  accepted : (id : ℕ) (kind : Kind) → WasAccepted p id kind → (r : Request) × (slice_get rs id ≡ Some r) × (r.kind ≡ kind)
  accepted id kind w =
      let low = slice_get-length p.accepted w.place w.request w.taken in
      let at : slice_get rs w.place ≡ Some w.request = ap (λ l. slice_get l w.place) (sym fits.submitted) ∙ (slice_get-append_left p.accepted q.submission w.place low ∙ w.taken) in
      let same : w.place ≡ id = sym (fits.fitting w.place w.request at).named ∙ w.named in
      (w.request, subst (λ i. slice_get rs i ≡ Some w.request) same at, w.same)

  sent : (c : Command) → In c d.took → In c p.sent_out
  sent c i = subst (In c) (sym fits.sent) (In-append_left (d.took ++ q.dispatched) (option_to_list q.kept) c (In-append_left d.took q.dispatched c i))

  pub is_of : Completes d → (In completions.Cut (completed d) → ⊥) → ((id : ℕ) → In (completions.Failed id) (completed d) → ⊥) → (c : Completion) → In c (completed d) → IsOf rs c
  is_of completes uncut unfailed (completions.Moved id) i =
      let moved = completes.moved id i in
      let c = part_of d.took moved.1 (slice_get-In (all_parts d.took) moved.0 moved.1 moved.2) in
      let r = accepted moved.1.id (puts.Put moved.1.block moved.1.body) (carries.parts c.0 moved.1 (sent c.0 c.1) c.2) in
      (r.0, subst (λ i. slice_get rs i ≡ Some r.0) moved.3 r.1, ap is_flush r.2)
  is_of completes uncut unfailed (completions.Flushed id) i =
      let flushed = completes.flushed id i in
      let c = flush-is d.took flushed.0 id flushed.1 in
      let r = accepted id puts.Flush (carries.flushes c.0 id (sent c.0 (slice_get-In d.took flushed.0 c.0 c.1)) c.2) in
      (r.0, r.1, ap is_flush r.2)
  is_of completes uncut unfailed (completions.Failed id) i = absurd (unfailed id i)
  is_of completes uncut unfailed completions.Cut i = absurd (uncut i)

pub below : (rs : List Request) (c : Completion) (id : ℕ) → IsOf rs c → completion_id c ≡ Some id → id < length rs
below rs (completions.Moved i) id o e = subst (λ j. j < length rs) (same_Some i id e) (slice_get-length rs i o.0 o.1)
below rs (completions.Flushed i) id o e = subst (λ j. j < length rs) (same_Some i id e) (slice_get-length rs i o.0 o.1)
below rs (completions.Failed i) id o e = absurd o
below rs completions.Cut id o e = absurd o

-- ---- how many there are

abbrev id_of : Completion → ℕ
id_of (completions.Moved id) = id
id_of (completions.Flushed id) = id
id_of (completions.Failed id) = id
id_of completions.Cut = 0

named : (rs : List Request) (c : Completion) → IsOf rs c → completion_id c ≡ Some (id_of c)
named rs (completions.Moved id) o = refl
named rs (completions.Flushed id) o = refl
named rs (completions.Failed id) o = absurd o
named rs completions.Cut o = absurd o

-- no id completes twice
abbrev Once : List Completion → Type 0
Once cs = (i j id : ℕ) → option_and_then completion_id (slice_get cs i) ≡ Some id → option_and_then completion_id (slice_get cs j) ≡ Some id → i ≡ j

all_of : (P : ℕ → Type 0) (xs : List ℕ) → ((x : ℕ) → In x xs → P x) → AllByRecursion P xs
all_of P [] each = tt
all_of P (x ∷ xs) each = (each x (inl refl), all_of P xs (λ y i. each y (inr i)))

distinct : (rs : List Request) (cs : List Completion) → ((c : Completion) → In c cs → IsOf rs c) → Once cs → IsDistinct eqb (map id_of cs)
unfolding IsDistinct
distinct rs [] each once = tt
distinct rs (c ∷ cs) each once =
    (all_of (λ y. eqb (id_of c) y ≡ false) (map id_of cs) (λ y i. ne_eqb (id_of c) y (differs y i)), distinct rs cs (λ d i. each d (inr i)) (λ i j id a b. let same = once (suc i) (suc j) id a b in omega (arith, same)))
  where
    differs : (y : ℕ) → In y (map id_of cs) → id_of c ≢ y
    differs y i same =
        let d = In-map id_of cs y i in
        let at = In-slice_get cs d.0 d.1 in
        let here : option_and_then completion_id (slice_get cs at.0) ≡ Some y = ap (option_and_then completion_id) at.2 ∙ (named rs d.0 (each d.0 (inr d.1)) ∙ ap Some d.2) in
        let none = once 0 (suc at.0) y (named rs c (each c (inl refl)) ∙ ap Some same) here in
        omega (arith, none)

pub few : (rs : List Request) (cs : List Completion) → ((c : Completion) → In c cs → IsOf rs c) → Once cs → length cs ≤ length rs
few rs cs each once =
    let n = length-le_from_distinct_below (map id_of cs) (length rs) (distinct rs cs each once) low in
    let same = length-map cs id_of in
    omega (arith, n, same)
  where
    low : (id : ℕ) → list_any (eqb id) (map id_of cs) ≡ true → id < length rs
    low id h =
        let x = In-list_any (eqb id) (map id_of cs) h in
        let c = In-map id_of cs x.0 x.1 in
        below rs c.0 id (each c.0 c.1) (named rs c.0 (each c.0 c.1) ∙ ap Some (c.2 ∙ sym (eqb-true id x.0 x.2)))
