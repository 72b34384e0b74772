-- The request that a pick of the plain scheduler sends.
use Rattle.std.proofs.Common.{◌≡◌, ℕ, ◌<◌, ◌↔◌, Bool, true, Some, sym, ap, subst, ◌∙◌, arith, ⊎_elim}
use Rattle.std.specs.Option.{option_map}
use Rattle.std.proofs.lemmas.Bool.{cases_lt}
use Rattle.std.proofs.lemmas.Option.{same_Some}
use Rattle.blk_base.specs.Members.{In}
use Rattle.blk_base.specs.laws.Members.{In-slice_get, filter-In, IsAscending-filter, IsAscending-places}
use Rattle.order_model.specs.declared.command.Command.{Command}
use Rattle.order_model.specs.declared.request.Request.{Request}
use Rattle.order_model.specs.Single.{command_of_request}
use Rattle.schedulers.specs.reassign.Epoch.{Waiting, may_leave, eligible, picked, leaves_flagged}
use Rattle.schedulers.specs.reassign.MayLeave.{MayLeave, LeavesAsBarrier}
use Rattle.schedulers.specs.reassign.Sched.{SchedState, seen_of, command_of, sched_steps}
use Rattle.schedulers.specs.reassign.laws.Valid.{IsValid}
use Rattle.schedulers.specs.reassign.laws.WentLaws.{command-id}
use Rattle.schedulers.specs.reassign.laws.DispatchedLaws.{picked-leaves}
use Rattle.schedulers.specs.reassign.laws.SchedulerLaws.{mapped_some}
use Rattle.schedulers.specs.reassign.laws.MayLeaveLaws.{leaves-means, means-leaves, flag-means, means-flag}
use Rattle.schedulers.specs.epochs.Picks.{IsSentBy}

-- the request that was picked is the one at place i
record IsPick (s : SchedState) (pick i : ℕ) (flagged : Bool) : Type 0 where
  waiting : Waiting
  at : picked s.queue pick ≡ Some waiting
  there : In waiting s.queue.waiting
  may : may_leave s.queue.waiting waiting ≡ true
  place : waiting.number ≡ i
  flag : leaves_flagged s.queue waiting ≡ flagged

pick-is : (s : SchedState) (pick i : ℕ) (flagged : Bool) → IsValid s → IsSentBy s pick i flagged → IsPick s pick i flagged
pick-is s pick i flagged v b =
    let o = mapped_some (command_of s.queue) (picked s.queue pick) (command_of_request b.request flagged) b.sends in
    let w = o.0 in
    let leaves = picked-leaves s pick w o.1 in
    let f = v.waiting w leaves.0 in
    let named = ap (λ (r : Request). r.id) (sym f.same) ∙ command-id w.request b.request (leaves_flagged s.queue w) flagged o.2 in
    record {
      waiting = w;
      at = o.1;
      there = leaves.0;
      may = leaves.1;
      place = v.ids w.number i f.request b.request f.taken b.taken named;
      flag = ap (λ (c : Command). c.barrier) o.2;
    }

is-pick : (s : SchedState) (pick : ℕ) (w : Waiting) → IsValid s → In w s.queue.waiting → picked s.queue pick ≡ Some w → IsSentBy s pick w.number (leaves_flagged s.queue w)
is-pick s pick w v there at =
    let f = v.waiting w there in
    record {
      request = f.request;
      taken = f.taken;
      sends = ap (option_map (command_of s.queue)) at ∙ ap (λ (r : Request). Some (command_of_request r (leaves_flagged s.queue w))) f.same;
    }

pub may-pick : (s : SchedState) (i : ℕ) → IsValid s → MayLeave (seen_of s) i → (pick : ℕ) × (flagged : Bool) × IsSentBy s pick i flagged
may-pick s i v m =
    let w = means-leaves s i v m in
    let at = In-slice_get (eligible s.queue.waiting) w.0 (filter-In (may_leave s.queue.waiting) s.queue.waiting w.0 w.1 w.3) in
    (at.0, leaves_flagged s.queue w.0, subst (λ n. IsSentBy s at.0 n (leaves_flagged s.queue w.0)) w.2 (is-pick s at.0 w.0 v w.1 at.2))

pub pick-may : (s : SchedState) (pick i : ℕ) (flagged : Bool) → IsValid s → IsSentBy s pick i flagged → MayLeave (seen_of s) i
pick-may s pick i flagged v b =
    let p = pick-is s pick i flagged v b in
    subst (MayLeave (seen_of s)) p.place (leaves-means s p.waiting v p.there p.may)

pub command-pick : (s : SchedState) (pick : ℕ) (c : Command) → IsValid s → sched_steps.command s pick ≡ Some c → (i : ℕ) × (flagged : Bool) × IsSentBy s pick i flagged
command-pick s pick c v e =
    let o = mapped_some (command_of s.queue) (picked s.queue pick) c e in
    (o.0.number, leaves_flagged s.queue o.0, is-pick s pick o.0 v (picked-leaves s pick o.0 o.1).0 o.1)

-- an earlier pick is that of an earlier request
earlier : (s : SchedState) (p q i j : ℕ) (f g : Bool) → IsValid s → IsSentBy s p i f → IsSentBy s q j g → p < q → i < j
earlier s p q i j f g v a b lt =
    let x = pick-is s p i f v a in
    let y = pick-is s q j g v b in
    let order = IsAscending-filter (λ (w : Waiting). w.number) (may_leave s.queue.waiting) s.queue.waiting v.ascending in
    let less = IsAscending-places (λ (w : Waiting). w.number) (eligible s.queue.waiting) p q x.waiting y.waiting order lt x.at y.at in
    let m = x.place in
    let n = y.place in
    omega (arith, less, m, n)

pub in_order : (s : SchedState) (p q i j : ℕ) (f g : Bool) → IsValid s → IsSentBy s p i f → IsSentBy s q j g → (p < q) ↔ (i < j)
in_order s p q i j f g v a b = (
  earlier s p q i j f g v a b,
  λ lt.
      ⊎_elim
      (λ less. less)
      (λ le.
      ⊎_elim
      (λ more. let back = earlier s q p j i g f v b a more in absurd (omega (arith, lt, back)))
      (λ ge.
      let same : p ≡ q = omega (arith, le, ge) in
      let x = pick-is s p i f v a in
      let y = pick-is s q j g v b in
      let one = ap (λ (w : Waiting). w.number) (same_Some x.waiting y.waiting (sym x.at ∙ ap (picked s.queue) same ∙ y.at)) in
      let m = x.place in
      let n = y.place in
      absurd (omega (arith, lt, one, m, n)))
      (cases_lt q p))
      (cases_lt p q),
)

pub flag-is : (s : SchedState) (pick i : ℕ) (flagged : Bool) → IsValid s → IsSentBy s pick i flagged → (flagged ≡ true) ↔ LeavesAsBarrier (seen_of s) i
flag-is s pick i flagged v b =
    let p = pick-is s pick i flagged v b in (
      λ e. subst (LeavesAsBarrier (seen_of s)) p.place (flag-means s p.waiting v p.there (p.flag ∙ e)),
      λ l. sym p.flag ∙ means-flag s p.waiting v p.there (subst (LeavesAsBarrier (seen_of s)) (sym p.place) l),
    )
