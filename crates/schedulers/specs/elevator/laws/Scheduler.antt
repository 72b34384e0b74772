-- The elevator is a scheduler.
use Rattle.std.specs.Prelude.{◌≡◌, ℕ, ◌+◌, ◌<◌, zero, suc, Bool, true, [], ◌∷◌, length, Option, Some, None, refl}
use Rattle.std.specs.Option.{option_map, option_map_or}
use Rattle.std.proofs.Common.{sym, arith}
use Rattle.std.proofs.lemmas.List.{append-nil, map-append}
use Rattle.std.proofs.lemmas.Option.{none-some}
use Rattle.blk_base.specs.laws.Members.{In-filter, slice_get-In}
use Rattle.order_model.specs.declared.request.Kind.{Kind}
use Rattle.order_model.specs.declared.request.Kind.TheVariants.{Put, Flush}
use Rattle.order_model.specs.declared.request.Request.{Request}
use Rattle.schedulers.specs.reassign.Epoch.{EpochState, Waiting, can_accept, eligible, may_leave, unflagged}
use Rattle.schedulers.specs.reassign.Scheduler.{IsAcceptable, Accepts, Sends, IsScheduler}
use Rattle.schedulers.specs.reassign.laws.AcceptedLaws.{accepted-valid}
use Rattle.schedulers.specs.reassign.laws.DispatchedLaws.{opened-valid}
use Rattle.schedulers.specs.reassign.laws.SchedulerLaws as laws
use Rattle.order_model.specs.Merging.{ungrouped}
use Rattle.schedulers.specs.elevator.Elevator.{ElevatorState, Gathering, opened, accepted, listed, picked, next_part, taken, gathered, alone, leaving_as, leaving_with, sent_as, dispatched, seen_of, elevator_steps}
use Rattle.schedulers.specs.elevator.laws.List.{in_order-In, length-in_order}
use Rattle.schedulers.specs.elevator.laws.Valid.{IsElevator, Leaves, sent_apart, carries_requests, sent_valid}

pub opened_valid : (limit capacity : ℕ) → IsElevator (opened limit capacity)
opened_valid limit capacity = record { groups = []; each = λ g h. absurd h; sent = refl; apart = opened-valid limit capacity }

pub accepted_valid : (s : ElevatorState) (r : Request) → IsElevator s → IsAcceptable (seen_of s) r → can_accept s.queue ≡ true → IsElevator (accepted s r)
accepted_valid s r v a can = record {
  groups = v.groups;
  each = v.each;
  sent = v.sent;
  apart = accepted-valid (sent_apart s s.queue (ungrouped v.groups)) r v.apart (record { few = a.few; new = a.new; barrier = a.barrier; flush = a.flush }) can;
}

-- what is picked waits, and may leave
pub picked_leaves : (s : ElevatorState) (pick : ℕ) (w : Waiting) → picked s pick ≡ Some w → Leaves s.queue w
picked_leaves s pick w e =
    let ws = s.queue.waiting in
    let a = In-filter (may_leave ws) ws w (in_order-In s.head (eligible ws) w (slice_get-In (listed s.head ws) pick w e)) in
    record { there = a.0; may = a.1 }

sent_option_valid : (s : ElevatorState) (o : Option Waiting) → IsElevator s → ((w : Waiting) → o ≡ Some w → Leaves s.queue w) → IsElevator (option_map_or (λ w. sent_as s (leaving_with s.queue w)) o s)
sent_option_valid s None v leaves = v
sent_option_valid s (Some w) v leaves = sent_valid s w v (leaves w refl)

pub dispatched_valid : (s : ElevatorState) (pick : ℕ) → IsElevator s → IsElevator (dispatched s pick)
dispatched_valid s pick v = sent_option_valid s (picked s pick) v (picked_leaves s pick)

accepts : (s : ElevatorState) (r : Request) → Accepts (seen_of s) r (seen_of (accepted s r))
accepts s r = record {
  limit = refl;
  capacity = refl;
  accepted = refl;
  waiting = map-append (λ (w : Waiting). w.request.id) s.queue.waiting (record { number = s.queue.next; request = unflagged r } ∷ []);
  sent_out = refl;
}

-- as many may wait as before
gathered_option_capacity : (n block : ℕ) (ordered : Bool) (g : Gathering) (o : Option Waiting) → ((w : Waiting) → (gathered n ordered (block + 1) (taken g w)).queue.capacity ≡ g.queue.capacity)
    → (option_map_or (λ w. gathered n ordered (block + 1) (taken g w)) o g).queue.capacity ≡ g.queue.capacity
gathered_option_capacity n block ordered g None rest = refl
gathered_option_capacity n block ordered g (Some w) rest = rest w

gathered_capacity : (n block : ℕ) (ordered : Bool) (g : Gathering) → (gathered n ordered block g).queue.capacity ≡ g.queue.capacity
unfolding gathered
gathered_capacity zero block ordered g = refl
gathered_capacity (suc n) block ordered g =
    gathered_option_capacity n block ordered g (next_part g.queue block ordered) (λ w. gathered_capacity n (block + 1) ordered (taken g w))

leaving_capacity : (queue : EpochState) (w : Waiting) (k : Kind) → (leaving_as queue w k).queue.capacity ≡ queue.capacity
leaving_capacity queue w (Put block body) = gathered_capacity 15 (block + 1) w.request.ordered (alone queue w)
leaving_capacity queue w Flush = refl

sends : (s : ElevatorState) (o : Option Waiting) → Sends (seen_of s) (option_map (λ w. (leaving_with s.queue w).command) o) (seen_of (option_map_or (λ w. sent_as s (leaving_with s.queue w)) o s))
sends s None = record { limit = refl; capacity = refl; accepted = refl; sent_out = sym (append-nil s.sent_out) }
sends s (Some w) = record { limit = refl; capacity = leaving_capacity s.queue w w.request.kind; accepted = refl; sent_out = refl }

-- where no request leaves, nothing changes
stays : (s : ElevatorState) (o : Option Waiting) → option_map (λ w. (leaving_with s.queue w).command) o ≡ None → option_map_or (λ w. sent_as s (leaving_with s.queue w)) o s ≡ s
stays s None e = refl
stays s (Some w) e = absurd (none-some (leaving_with s.queue w).command (sym e))

waits_in_list : (s : ElevatorState) → IsElevator s → 0 < length (seen_of s).waiting → 0 < length (listed s.head s.queue.waiting)
waits_in_list s v h =
    let some = laws.keeps.some (sent_apart s s.queue (ungrouped v.groups)) v.apart h in
    let n = length-in_order s.head (eligible s.queue.waiting) in
    omega (arith, some, n)

pub keeps : IsScheduler elevator_steps IsElevator
keeps = record {
  carries = carries_requests;
  accepts = λ s r v a can. (accepted_valid s r v a can, accepts s r);
  dispatches = λ s pick v. (dispatched_valid s pick v, sends s (picked s pick));
  none = λ s pick v. laws.mapped_past (λ w. (leaving_with s.queue w).command) (listed s.head s.queue.waiting) pick;
  stays = λ s pick e. stays s (picked s pick) e;
  some = waits_in_list;
  can = λ s v. laws.keeps.can (sent_apart s s.queue (ungrouped v.groups)) v.apart;
  blocked = λ s v h. laws.keeps.blocked (sent_apart s s.queue (ungrouped v.groups)) v.apart h;
}
