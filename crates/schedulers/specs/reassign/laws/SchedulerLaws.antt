-- The plain scheduler is a scheduler.
use Rattle.std.specs.Prelude.{◌≡◌, ℕ, ◌<◌, ◌≤◌, ◌↔◌, ◌==◌, ◌&&◌, not, Bool, true, false, List, [], ◌∷◌, length, nat_lt, Option, Some, None, slice_get, refl}
use Rattle.std.specs.Option.{option_map}
use Rattle.std.proofs.Common.{ap, ap₂, sym, ◌∙◌, ⊎_elim, arith}
use Rattle.std.proofs.lemmas.Bool.{cases_lt, lt-ltb, le-ltb, eq-eqb, ne_eqb}
use Rattle.std.proofs.lemmas.List.{append-nil, map-append, length-map}
use Rattle.std.proofs.lemmas.Option.{none-some, same_Some}
use Rattle.blk_base.specs.laws.Members.{slice_get-in_range, slice_get-out}
use Rattle.order_model.specs.declared.request.Request.{Request}
use Rattle.schedulers.specs.reassign.Epoch.{Waiting, can_accept, is_open, is_blocked, eligible, picked, unflagged}
use Rattle.schedulers.specs.reassign.Sched.{SchedState, accepted, sent, command_of, waiting_ids, seen_of, sched_steps}
use Rattle.schedulers.specs.reassign.Scheduler.{Accepts, Sends, IsScheduler}
use Rattle.schedulers.specs.reassign.laws.Valid.{IsValid}
use Rattle.schedulers.specs.reassign.laws.AcceptedLaws.{accepted-valid}
use Rattle.schedulers.specs.reassign.laws.DispatchedLaws.{dispatched-valid}
use Rattle.schedulers.specs.reassign.laws.OrderLaws.{carries}
use Rattle.schedulers.specs.reassign.laws.ProgressLaws.{eligible-nonempty, blocked-nonempty}

accepts : (s : SchedState) (r : Request) → Accepts (seen_of s) r (seen_of (accepted s r))
accepts s r = record {
  limit = refl;
  capacity = refl;
  accepted = refl;
  waiting = map-append (λ (w : Waiting). w.request.id) s.queue.waiting (record { number = s.queue.next; request = unflagged r } ∷ []);
  sent_out = refl;
}

sends : (s : SchedState) (o : Option Waiting) → Sends (seen_of s) (option_map (command_of s.queue) o) (seen_of (sent s o))
sends s None = record { limit = refl; capacity = refl; accepted = refl; sent_out = sym (append-nil s.sent_out) }
sends s (Some w) = record { limit = refl; capacity = refl; accepted = refl; sent_out = refl }

-- where no request leaves, nothing changes
stays : (s : SchedState) (o : Option Waiting) → option_map (command_of s.queue) o ≡ None → sent s o ≡ s
stays s None e = refl
stays s (Some w) e = absurd (none-some (command_of s.queue w) (sym e))

-- no request is picked exactly past the list
mapped-none : {X Y : Type 0} (f : X → Y) (o : Option X) → option_map f o ≡ None → o ≡ None
mapped-none f None e = refl
mapped-none f (Some x) e = absurd (none-some (f x) (sym e))

-- what came was picked
pub mapped_some : {X Y : Type 0} (f : X → Y) (o : Option X) (y : Y) → option_map f o ≡ Some y → (x : X) × (o ≡ Some x) × (f x ≡ y)
mapped_some f None y e = absurd (none-some y e)
mapped_some f (Some x) y e = (x, refl, same_Some (f x) y e)

pub none_past : {X : Type 0} (xs : List X) (pick : ℕ) → (slice_get xs pick ≡ None) ↔ (length xs ≤ pick)
none_past xs pick = (
  λ e.
      ⊎_elim
      (λ lt. let x = slice_get-in_range xs pick lt in absurd (none-some x.0 (sym e ∙ x.1)))
      (λ past. past)
      (cases_lt pick (length xs)),
  λ past. slice_get-out xs pick past,
)

pub mapped_past : {X Y : Type 0} (f : X → Y) (xs : List X) (pick : ℕ) → (option_map f (slice_get xs pick) ≡ None) ↔ (length xs ≤ pick)
mapped_past f xs pick = (
  λ e. (none_past xs pick).0 (mapped-none f (slice_get xs pick) e),
  λ past. ap (option_map f) ((none_past xs pick).1 past),
)

pub waits_on : (s : SchedState) → 0 < length (seen_of s).waiting → 0 < length s.queue.waiting
waits_on s h = let n = length-map s.queue.waiting (λ (w : Waiting). w.request.id) in omega arith

pub on_waits : (s : SchedState) → 0 < length s.queue.waiting → 0 < length (seen_of s).waiting
on_waits s h = let n = length-map s.queue.waiting (λ (w : Waiting). w.request.id) in omega arith

-- where no more wait than may, not so many do exactly where fewer do
fewer_wait : (n capacity : ℕ) → n ≤ capacity → not (n == capacity) ≡ nat_lt n capacity
fewer_wait n capacity most =
    ⊎_elim
    (λ lt. ap not (ne_eqb n capacity (λ e. omega (arith, lt, e))) ∙ sym (lt-ltb n capacity lt))
    (λ le. ap not (eq-eqb n capacity (omega (arith, le, most))) ∙ sym (le-ltb n capacity le))
    (cases_lt n capacity)

not_twice : (b : Bool) → b ≡ not (not b)
not_twice true = refl
not_twice false = refl

can_is : (s : SchedState) → IsValid s → can_accept s.queue ≡ (not (is_blocked s.queue) && nat_lt (length (waiting_ids s.queue)) s.queue.capacity)
can_is s v =
    let count = sym (length-map s.queue.waiting (λ (w : Waiting). w.request.id)) in
    ap₂ (λ (a b : Bool). a && b) (not_twice (is_open s.queue.closing))
    (fewer_wait (length s.queue.waiting) s.queue.capacity v.room ∙ ap (λ n. nat_lt n s.queue.capacity) count)

pub keeps : IsScheduler sched_steps IsValid
keeps = record {
  carries = carries;
  accepts = λ s r v a can. (accepted-valid s r v a can, accepts s r);
  dispatches = λ s pick v. (dispatched-valid s pick v, sends s (picked s.queue pick));
  none = λ s pick v. mapped_past (command_of s.queue) (eligible s.queue.waiting) pick;
  stays = λ s pick e. stays s (picked s.queue pick) e;
  some = λ s v h. eligible-nonempty s v (waits_on s h);
  can = can_is;
  blocked = λ s v h. on_waits s (blocked-nonempty s v h);
}
