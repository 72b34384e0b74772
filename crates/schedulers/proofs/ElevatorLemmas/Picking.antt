-- What a pick of the elevator sends, and where it leaves the head.
use Rattle.std.proofs.Common.{◌≡◌, ℕ, ◌+◌, ◌-◌, ◌<◌, ◌≤◌, ◌↔◌, ◌++◌, not, Bool, true, false, List, [], ◌∷◌, length, map, Option, Some, None, is_some, slice_get, refl, sym, ap, subst, ◌∙◌, arith, inl, inr, ⊎_elim, if◌then◌else◌}
use Rattle.std.specs.Option.{option_map, option_map_or, option_to_list}
use Rattle.std.proofs.lemmas.Bool.{cases_Bool, cases_lt, both_ways, not-true, eqb-true}
use Rattle.std.proofs.lemmas.List.{length-map, length_push}
use Rattle.std.proofs.lemmas.Option.{none-some, same_Some}
use Rattle.blk_base.specs.Members.{In}
use Rattle.blk_base.specs.laws.Members.{In-push, In-slice_get, filter-In, slice_get-in_range, slice_get-push, map_some-slice_get}
use Rattle.order_model.specs.declared.part.Part.{Part}
use Rattle.order_model.specs.declared.command.Command.{Command}
use Rattle.order_model.specs.declared.request.Kind.{Kind}
use Rattle.order_model.specs.declared.request.Kind.TheVariants.{Put, Flush}
use Rattle.order_model.specs.declared.request.Request.{Request}
use Rattle.order_model.specs.OrderClosed.{kind_block, IsPutOf}
use Rattle.order_model.specs.Merging.{ungrouped}
use Rattle.order_model.specs.Received.{ids_of}
use Rattle.schedulers.specs.reassign.Epoch.{Waiting, may_leave, eligible}
use Rattle.schedulers.specs.reassign.MayLeave.{MayLeave, HasNotLeft}
use Rattle.schedulers.specs.reassign.Sched as plain
use Rattle.schedulers.specs.reassign.Sched.{SchedState}
use Rattle.schedulers.specs.reassign.laws.Valid.{IsFrom}
use Rattle.schedulers.specs.reassign.laws.WentLaws.{holds_at, at_holds}
use Rattle.schedulers.specs.reassign.laws.FlagLaws.{flag_unblocks}
use Rattle.schedulers.specs.reassign.laws.SchedulerLaws.{mapped_some}
use Rattle.schedulers.specs.reassign.laws.MayLeaveLaws.{leaves-means, means-leaves, blocked-means, may_leave_of, not_left_of, put_at, at_put}
use Rattle.schedulers.specs.elevator.Elevator.{ElevatorState, listed, picked, has_class, leaving_as, leaving_with, head_after, sent_as, dispatched, seen_of, elevator_steps}
use Rattle.schedulers.specs.elevator.Picks.{IsSentBy, IsPartFor, CanJoin}
use Rattle.schedulers.specs.elevator.laws.Eligible.{IsPutAt, put-block}
use Rattle.schedulers.specs.elevator.laws.List.{Meets, block_at, In-in_order, meets-asym}
use Rattle.schedulers.specs.elevator.laws.Scheduler.{picked_leaves, dispatched_valid, keeps}
use Rattle.schedulers.specs.elevator.laws.Valid.{IsElevator, Leaves, Joins, sent_apart, carries_requests, own_class}
use Rattle.schedulers.proofs.ElevatorLemmas.Finding.{listed-rises}
use Rattle.schedulers.proofs.ElevatorLemmas.Gathered.{part_as, part_of, IsGathered, put_gathers}

-- the plain scheduler with the same requests
abbrev apart_of : (s : ElevatorState) → IsElevator s → SchedState
apart_of s v = sent_apart s s.queue (ungrouped v.groups)

-- ---- what may leave

pub leaves-may : (s : ElevatorState) (w : Waiting) → (v : IsElevator s) → Leaves s.queue w → MayLeave (seen_of s) w.number
leaves-may s w v l =
    may_leave_of (plain.seen_of (apart_of s v)) (seen_of s) w.number refl refl (leaves-means (apart_of s v) w v.apart l.there l.may)

may-leaves : (s : ElevatorState) (i : ℕ) → IsElevator s → MayLeave (seen_of s) i → (w : Waiting) × Leaves s.queue w × (w.number ≡ i)
may-leaves s i v m =
    let w = means-leaves (apart_of s v) i v.apart (may_leave_of (seen_of s) (plain.seen_of (apart_of s v)) i refl refl m) in
    (w.0, record { there = w.1; may = w.3 }, w.2)

-- ---- the first that a command carries

part_id : (id : ℕ) (k : Kind) → (part_as id k).id ≡ id
part_id id (Put block body) = refl
part_id id Flush = refl

first_kind : (s : ElevatorState) (w : Waiting) (k : Kind) → IsElevator s → Leaves s.queue w → w.request.kind ≡ k → slice_get (ids_of (leaving_as s.queue w k).command) 0 ≡ Some w.request.id
first_kind s w (Put block body) v l e =
    let c = (leaving_as s.queue w (Put block body)).command in
    let g = put_gathers s.queue w (Put block body) block v.apart.ascending l e refl in
    ap (λ (ps : List Part). slice_get (map (λ (p : Part). p.id) ps ++ option_to_list c.flush) 0) g.parts ∙ ap Some (part_id w.request.id w.request.kind)
first_kind s w Flush v l e =
    ap (λ (k : Kind). slice_get (ids_of (plain.command_of s.queue (record { number = w.number; request = record w.request { kind = k } }))) 0) e

pub first_id : (s : ElevatorState) (w : Waiting) → IsElevator s → Leaves s.queue w → slice_get (ids_of (leaving_with s.queue w).command) 0 ≡ Some w.request.id
first_id s w v l = first_kind s w w.request.kind v l refl

-- the request that was picked is the one at place i
record IsPick (s : ElevatorState) (pick i : ℕ) (c : Command) : Type 0 where
  waiting : Waiting
  at : picked s pick ≡ Some waiting
  leaves : Leaves s.queue waiting
  place : waiting.number ≡ i
  same : (leaving_with s.queue waiting).command ≡ c

pick-is : (s : ElevatorState) (pick i : ℕ) (c : Command) → IsElevator s → IsSentBy s pick i c → IsPick s pick i c
pick-is s pick i c v b =
    let o = mapped_some (λ w. (leaving_with s.queue w).command) (picked s pick) c b.sends in
    let w = o.0 in
    let l = picked_leaves s pick w o.1 in
    let f = v.apart.waiting w l.there in
    let mine = ap (λ (d : Command). slice_get (ids_of d) 0) (sym o.2) ∙ first_id s w v l in
    let named = ap (λ (r : Request). r.id) (sym f.same) ∙ same_Some w.request.id b.request.id (sym mine ∙ b.first) in
    record { waiting = w; at = o.1; leaves = l; place = v.apart.ids w.number i f.request b.request f.taken b.taken named; same = o.2 }

is-pick : (s : ElevatorState) (pick : ℕ) (w : Waiting) → IsElevator s → picked s pick ≡ Some w → IsSentBy s pick w.number (leaving_with s.queue w).command
is-pick s pick w v at =
    let l = picked_leaves s pick w at in
    let f = v.apart.waiting w l.there in
    record {
      sends = ap (option_map (λ u. (leaving_with s.queue u).command)) at;
      request = f.request;
      taken = f.taken;
      first = first_id s w v l ∙ ap (λ (r : Request). Some r.id) f.same;
    }

pub may-pick : (s : ElevatorState) (i : ℕ) → IsElevator s → MayLeave (seen_of s) i → (pick : ℕ) × (c : Command) × IsSentBy s pick i c
may-pick s i v m =
    let w = may-leaves s i v m in
    let ws = s.queue.waiting in
    let at = In-slice_get (listed s.head ws) w.0 (In-in_order s.head (eligible ws) w.0 (filter-In (may_leave ws) ws w.0 w.1.there w.1.may)) in
    (at.0, (leaving_with s.queue w.0).command, subst (λ n. IsSentBy s at.0 n (leaving_with s.queue w.0).command) w.2 (is-pick s at.0 w.0 v at.2))

pub pick-may : (s : ElevatorState) (pick i : ℕ) (c : Command) → IsElevator s → IsSentBy s pick i c → MayLeave (seen_of s) i
pick-may s pick i c v b =
    let p = pick-is s pick i c v b in
    subst (MayLeave (seen_of s)) p.place (leaves-may s p.waiting v p.leaves)

pub command-pick : (s : ElevatorState) (pick : ℕ) (c : Command) → IsElevator s → elevator_steps.command s pick ≡ Some c → (i : ℕ) × IsSentBy s pick i c
command-pick s pick c v e =
    let o = mapped_some (λ w. (leaving_with s.queue w).command) (picked s pick) c e in
    (o.0.number, subst (IsSentBy s pick o.0.number) o.2 (is-pick s pick o.0 v o.1))

-- ---- the order of the list

-- the block of the put at place i
pick_block : (s : ElevatorState) (pick i block : ℕ) (c : Command) → (v : IsElevator s) → (p : IsPick s pick i c) → IsPutOf s.accepted i block → IsPutAt p.waiting block
pick_block s pick i block c v p put =
    at_put (apart_of s v) p.waiting block (v.apart.waiting p.waiting p.leaves.there) (subst (λ n. IsPutOf s.accepted n block) (sym p.place) put)

earlier_meets : (s : ElevatorState) (p q i j a b : ℕ) (c d : Command) → IsElevator s → IsSentBy s p i c → IsSentBy s q j d → IsPutOf s.accepted i a → IsPutOf s.accepted j b → p < q → Meets s.head a b
earlier_meets s p q i j a b c d v x y put other lt =
    let m = pick-is s p i c v x in
    let n = pick-is s q j d v y in
    let rises = listed-rises s.queue.waiting s.head p q m.waiting n.waiting v.apart.ascending lt m.at n.at in
    subst (λ z. Meets s.head z b) (put-block m.waiting a (pick_block s p i a c v m put))
    (subst (λ z. Meets s.head (block_at m.waiting) z) (put-block n.waiting b (pick_block s q j b d v n other)) rises)

pub in_order : (s : ElevatorState) (p q i j a b : ℕ) (c d : Command) → IsElevator s → IsSentBy s p i c → IsSentBy s q j d → IsPutOf s.accepted i a → IsPutOf s.accepted j b → (p < q) ↔ Meets s.head a b
in_order s p q i j a b c d v x y put other = (
  earlier_meets s p q i j a b c d v x y put other,
  λ meets.
      ⊎_elim
      (λ less. less)
      (λ le.
      ⊎_elim
      (λ more. absurd (meets-asym s.head a b meets (earlier_meets s q p j i b a d c v y x other put more)))
      (λ ge.
      let same : p ≡ q = omega (arith, le, ge) in
      let m = pick-is s p i c v x in
      let n = pick-is s q j d v y in
      let one = same_Some m.waiting n.waiting (sym m.at ∙ ap (picked s) same ∙ n.at) in
      let blocks = sym (put-block m.waiting a (pick_block s p i a c v m put)) ∙ ap block_at one ∙ put-block n.waiting b (pick_block s q j b d v n other) in
      let self = subst (λ z. Meets s.head z b) blocks meets in
      absurd (meets-asym s.head b b self self))
      (cases_lt q p))
      (cases_lt p q),
)

-- ---- what joins

class_is : (ordered own : Bool) → (if ordered then own else not own) ≡ true → own ≡ ordered
class_is true own e = e
class_is false own e = not-true own e

joins-can : (s : ElevatorState) (block : ℕ) (ordered : Bool) (u : Waiting) → IsElevator s → Joins s.queue block ordered u → CanJoin (seen_of s) ordered block u.number
joins-can s block ordered u v j =
    let f = v.apart.waiting u j.leaves.there in
    record {
      may = leaves-may s u v j.leaves;
      put = put_at (apart_of s v) u block f j.put;
      class = holds_at (λ (r : Request). r.ordered ≡ ordered) (slice_get s.accepted u.number) f.request f.taken (ap (λ (r : Request). r.ordered) (sym f.same) ∙ class_is ordered u.request.ordered j.class);
    }

can-joins : (s : ElevatorState) (block j : ℕ) (ordered : Bool) → IsElevator s → CanJoin (seen_of s) ordered block j → (u : Waiting) × Joins s.queue block ordered u
can-joins s block j ordered v c =
    let w = may-leaves s j v c.may in
    let u = w.0 in
    let f = v.apart.waiting u w.1.there in
    let at : slice_get s.accepted j ≡ Some f.request = ap (slice_get s.accepted) (sym w.2) ∙ f.taken in
    let own : u.request.ordered ≡ ordered = ap (λ (r : Request). r.ordered) f.same ∙ at_holds (λ (r : Request). r.ordered ≡ ordered) (slice_get s.accepted j) f.request at c.class in (
      u,
      record {
        leaves = w.1;
        put = at_put (apart_of s v) u block f (subst (λ n. IsPutOf s.accepted n block) (sym w.2) c.put);
        class = subst (λ o. has_class o u.request ≡ true) own (own_class u.request);
      },
    )

-- the command of the put at place i
pick_gathers : (s : ElevatorState) (pick i block : ℕ) (c : Command) → (v : IsElevator s) → (p : IsPick s pick i c) → IsPutOf s.accepted i block → IsGathered s.queue p.waiting block c
pick_gathers s pick i block c v p put =
    subst (IsGathered s.queue p.waiting block) p.same
    (put_gathers s.queue p.waiting p.waiting.request.kind block v.apart.ascending p.leaves refl (pick_block s pick i block c v p put))

-- its class
pick_class : (s : ElevatorState) (pick i : ℕ) (c : Command) → (v : IsElevator s) → (b : IsSentBy s pick i c) → (p : IsPick s pick i c) → p.waiting.request.ordered ≡ b.request.ordered
pick_class s pick i c v b p =
    let f = v.apart.waiting p.waiting p.leaves.there in
    let one = same_Some f.request b.request (sym f.taken ∙ ap (slice_get s.accepted) p.place ∙ b.taken) in
    ap (λ (r : Request). r.ordered) f.same ∙ ap (λ (r : Request). r.ordered) one

part_kind : (id block : ℕ) (k : Kind) → kind_block k ≡ Some block → k ≡ Put (part_as id k).block (part_as id k).body
part_kind id block (Put b body) e = refl
part_kind id block Flush e = absurd (none-some block e)

part_for : (s : ElevatorState) (u : Waiting) (block : ℕ) → IsFrom s.accepted u → IsPutAt u block → IsPartFor s.accepted u.number (part_of u)
part_for s u block f put =
    holds_at (λ (r : Request). (r.id ≡ (part_of u).id) × (r.kind ≡ Put (part_of u).block (part_of u).body)) (slice_get s.accepted u.number) f.request f.taken (
      ap (λ (r : Request). r.id) (sym f.same) ∙ sym (part_id u.request.id u.request.kind),
      ap (λ (r : Request). r.kind) (sym f.same) ∙ part_kind u.request.id block u.request.kind put,
    )

pub part-is : (s : ElevatorState) (pick i block k : ℕ) (c : Command) (p : Part) → IsElevator s → (b : IsSentBy s pick i c) → IsPutOf s.accepted i block → slice_get c.parts k ≡ Some p
    → (j : ℕ) × IsPartFor s.accepted j p × CanJoin (seen_of s) b.request.ordered (block + k) j
part-is s pick i block k c p v b put at =
    let m = pick-is s pick i c v b in
    let g = pick_gathers s pick i block c v m put in
    let u = map_some-slice_get part_of (m.waiting ∷ g.more) k p (ap (λ (ps : List Part). slice_get ps k) (sym g.parts) ∙ at) in
    let j = g.each k u.0 u.1 in (
      u.0.number,
      subst (IsPartFor s.accepted u.0.number) u.2 (part_for s u.0 (block + k) (v.apart.waiting u.0 j.leaves.there) j.put),
      subst (λ o. CanJoin (seen_of s) o (block + k) u.0.number) (pick_class s pick i c v b m) (joins-can s (block + k) m.waiting.request.ordered u.0 v j),
    )

pub joins-is : (s : ElevatorState) (pick i block k : ℕ) (c : Command) → IsElevator s → (b : IsSentBy s pick i c) → IsPutOf s.accepted i block → k < 16
    → (k < length c.parts) ↔ ((m : ℕ) → m ≤ k → (j : ℕ) × CanJoin (seen_of s) b.request.ordered (block + m) j)
joins-is s pick i block k c v b put small =
    let p = pick-is s pick i c v b in
    let g = pick_gathers s pick i block c v p put in
    let class = pick_class s pick i c v b p in
    let all = p.waiting ∷ g.more in
    let count : length c.parts ≡ length all = ap length g.parts ∙ length-map all part_of in (
      λ lt m le.
          let u = slice_get-in_range all m (omega (arith, lt, le, count)) in
          (u.0.number, subst (λ o. CanJoin (seen_of s) o (block + m) u.0.number) class (joins-can s (block + m) p.waiting.request.ordered u.0 v (g.each m u.0 u.1))),
      λ each.
          ⊎_elim
          (λ lt. omega (arith, lt, count))
          (λ le.
          let can = each (length all) le in
          let u = can-joins s (block + length all) can.0 b.request.ordered v can.1 in
          absurd (g.end (omega (arith, small, le)) u.0 (subst (λ o. Joins s.queue (block + length all) o u.0) (sym class) u.1)))
          (cases_lt k (length all)),
    )

-- ---- what is sent

sent_there : (s : ElevatorState) (o : Option Waiting) (c : Command) → option_map (λ w. (leaving_with s.queue w).command) o ≡ Some c → In c (option_map_or (λ w. sent_as s (leaving_with s.queue w)) o s).sent_out
sent_there s None c e = absurd (none-some c e)
sent_there s (Some w) c e = subst (λ d. In c (s.sent_out ++ d ∷ [])) (sym (same_Some (leaving_with s.queue w).command c e)) (In-push s.sent_out c)

pub parts-few : (s : ElevatorState) (pick : ℕ) (c : Command) → IsElevator s → elevator_steps.command s pick ≡ Some c → length c.parts ≤ 16
parts-few s pick c v e = (carries_requests (dispatched s pick) (dispatched_valid s pick v)).small c (sent_there s (picked s pick) c e)

-- ---- the head

head_sent : (s : ElevatorState) (o : Option Waiting) (c : Command) → option_map (λ w. (leaving_with s.queue w).command) o ≡ Some c → (option_map_or (λ w. sent_as s (leaving_with s.queue w)) o s).head ≡ head_after s.head c.parts
head_sent s None c e = absurd (none-some c e)
head_sent s (Some w) c e = ap (λ (d : Command). head_after s.head d.parts) (same_Some (leaving_with s.queue w).command c e)

last_part : (head : ℕ) (front : List Part) (p : Part) → head_after head (front ++ p ∷ []) ≡ p.block + 1
last_part head front p =
    let n = length_push front p in
    let end : length (front ++ p ∷ []) - 1 ≡ length front = omega (arith, n) in
    ap (λ (o : Option Part). option_map_or (λ (q : Part). q.block + 1) o head) (ap (slice_get (front ++ p ∷ [])) end ∙ slice_get-push front p)

pub head_moves : (s : ElevatorState) (pick : ℕ) (c : Command) (front : List Part) (last : Part) → elevator_steps.command s pick ≡ Some c → c.parts ≡ front ++ last ∷ [] → (dispatched s pick).head ≡ last.block + 1
head_moves s pick c front last e parts = head_sent s (picked s pick) c e ∙ ap (head_after s.head) parts ∙ last_part s.head front last

no_part : (head : ℕ) (ps : List Part) → length ps ≡ 0 → head_after head ps ≡ head
no_part head [] e = refl
no_part head (p ∷ ps) e = absurd (omega (arith, e))

pub head_stays : (s : ElevatorState) (pick id : ℕ) (c : Command) → IsElevator s → elevator_steps.command s pick ≡ Some c → c.flush ≡ Some id → (dispatched s pick).head ≡ s.head
head_stays s pick id c v e flush =
    let whole = (carries_requests (dispatched s pick) (dispatched_valid s pick v)).whole c (sent_there s (picked s pick) c e) in
    let none = eqb-true (length c.parts) 0 (sym whole ∙ ap is_some flush) in
    head_sent s (picked s pick) c e ∙ no_part s.head c.parts none

none_head : (s : ElevatorState) (o : Option Waiting) → option_map (λ w. (leaving_with s.queue w).command) o ≡ None → (option_map_or (λ w. sent_as s (leaving_with s.queue w)) o s).head ≡ s.head
none_head s None e = refl
none_head s (Some w) e = absurd (none-some (leaving_with s.queue w).command (sym e))

pub head_where_none : (s : ElevatorState) (pick : ℕ) → elevator_steps.command s pick ≡ None → (dispatched s pick).head ≡ s.head
head_where_none s pick e = none_head s (picked s pick) e

-- ---- what keeps it from accepting, and the barrier

pub blocked-is : (s : ElevatorState) → IsElevator s → ((seen_of s).blocked ≡ true) ↔ HasNotLeft (seen_of s)
blocked-is s v =
    let both = blocked-means (apart_of s v) v.apart in
    (λ b. not_left_of (plain.seen_of (apart_of s v)) (seen_of s) refl refl (both.0 b), λ n. both.1 (not_left_of (seen_of s) (plain.seen_of (apart_of s v)) refl refl n))

-- the command of a pick is a barrier exactly where it takes away what kept it from accepting
pub barrier-is : (s : ElevatorState) (pick : ℕ) (c : Command) → IsElevator s → elevator_steps.command s pick ≡ Some c → (c.barrier ≡ true) ↔ (HasNotLeft (seen_of s) × (HasNotLeft (seen_of (dispatched s pick)) → ⊥))
barrier-is s pick c v e =
    let now = dispatched s pick in
    let both = flag_unblocks elevator_steps IsElevator keeps s pick c v e in
    let before = blocked-is s v in
    let after = blocked-is now (dispatched_valid s pick v) in (
      λ flag.
          let b = both.0 flag in
          (before.0 b.0, λ left. both_ways (seen_of now).blocked b.1 (after.1 left)),
      λ h.
          let gone : (seen_of now).blocked ≡ false =
          elim (cases_Bool (seen_of now).blocked) [
            | inl t ↦ absurd (h.1 (after.0 t))
            | inr f ↦ f
          ] in
          both.1 (before.1 h.0, gone),
    )
