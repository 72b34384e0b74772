-- What every elevator keeps: its commands are merged of those that the plain scheduler would have sent.
use Rattle.std.specs.Prelude.{◌≡◌, ℕ, ◌+◌, ◌<◌, ◌≤◌, ◌||◌, ◌++◌, zero, suc, Bool, true, false, List, [], ◌∷◌, length, map, find, Option, Some, None, is_some, refl, if◌then◌else◌}
use Rattle.std.specs.Option.{option_map_or}
use Rattle.std.specs.List.{list_any}
use Rattle.std.proofs.Common.{ap, ap₂, sym, subst, ◌∙◌, inl, inr, ⊎_elim, arith, append_assoc}
use Rattle.std.proofs.lemmas.Bool.{cases_Bool, both_ways, false≢true, and_parts, not-true, or_cases, eqb-true}
use Rattle.std.proofs.lemmas.List.{append-nil, map-append, length-append, length_push}
use Rattle.std.proofs.lemmas.Option.{none-some, same_Some}
use Rattle.blk_base.specs.Members.{In}
use Rattle.blk_base.specs.laws.Members.{In-filter, list_any-In, In-push_cases, slice_get-In, slice_get-length, slice_get-push_cases}
use Rattle.order_model.specs.declared.part.Part.{Part}
use Rattle.order_model.specs.declared.command.Command.{Command}
use Rattle.order_model.specs.declared.command.Priority.TheVariants.{Simple, Ordered}
use Rattle.order_model.specs.declared.request.Kind.{Kind}
use Rattle.order_model.specs.declared.request.Kind.TheVariants.{Put, Flush}
use Rattle.order_model.specs.declared.request.Request.{Request}
use Rattle.order_model.specs.OrderClosed.{is_flush, kind_block}
use Rattle.order_model.specs.Received.{all_parts}
use Rattle.order_model.specs.Single.{parts_for, flush_for, command_of_request}
use Rattle.order_model.specs.Carrying.{Carries}
use Rattle.order_model.specs.Merging.{ungrouped, first_flush, merged, IsGroup}
use Rattle.order_model.proofs.Direct.{few_alone}
use Rattle.order_model.proofs.Merging.{carries_merged}
use Rattle.schedulers.specs.reassign.Epoch.{EpochState, Waiting, may_leave, eligible, departed, leaves_flagged}
use Rattle.schedulers.specs.reassign.Sched as plain
use Rattle.schedulers.specs.reassign.Sched.{SchedState, command_of}
use Rattle.schedulers.specs.reassign.laws.Valid.{IsValid}
use Rattle.schedulers.specs.reassign.laws.DispatchedLaws.{sent-valid, flagged_last}
use Rattle.schedulers.specs.reassign.laws.OrderLaws.{carries}
use Rattle.schedulers.specs.elevator.Elevator.{ElevatorState, Gathering, seen_of, is_put_of, has_class, joins, next_part, joined, taken, gathered, alone, leaving_as, leaving_with, sent_as}
use Rattle.schedulers.specs.elevator.laws.Eligible.{IsPutAt, put-is_flush}

-- the plain scheduler that sent these commands
abbrev pub sent_apart : ElevatorState → EpochState → List Command → SchedState
sent_apart s queue commands = record { limit = s.limit; accepted = s.accepted; sent_out = commands; queue = queue }

pub record IsElevator (s : ElevatorState) : Type 0 where
  -- the commands of one request each, by the command that they were merged to
  pub groups : List (List Command)
  pub each : (g : List Command) → In g groups → IsGroup g
  pub sent : s.sent_out ≡ map merged groups
  pub apart : IsValid (sent_apart s s.queue (ungrouped groups))

-- ---- the relation

pub carries_requests : (s : ElevatorState) → IsElevator s → Carries (seen_of s)
carries_requests s v =
    subst (λ (cs : List Command). Carries (record (seen_of s) { sent_out = cs })) (sym v.sent)
    (carries_merged (plain.seen_of (sent_apart s s.queue (ungrouped v.groups))) v.groups v.each refl (carries (sent_apart s s.queue (ungrouped v.groups)) v.apart))

-- ---- one group more

ungrouped-push : (gs : List (List Command)) (g : List Command) → ungrouped (gs ++ g ∷ []) ≡ ungrouped gs ++ g
ungrouped-push [] g = append-nil g
ungrouped-push (h ∷ gs) g = ap (λ l. h ++ l) (ungrouped-push gs g) ∙ sym (append_assoc h (ungrouped gs) g)

pub with_group : (s : ElevatorState) (g : Gathering) (group : List Command) → (v : IsElevator s) → IsGroup group → g.command ≡ merged group → IsValid (sent_apart s g.queue (ungrouped v.groups ++ group)) → IsElevator (sent_as s g)
with_group s g group v whole same apart = record {
  groups = v.groups ++ group ∷ [];
  each = λ h i. ⊎_elim (λ old. v.each h old) (λ e. subst IsGroup e whole) (In-push_cases v.groups group h i);
  sent = ap₂ (λ (cs : List Command) (c : Command). cs ++ c ∷ []) v.sent same ∙ sym (map-append merged v.groups (group ∷ []));
  apart = subst (λ cs. IsValid (sent_apart s g.queue cs)) (sym (ungrouped-push v.groups group)) apart;
}

-- ---- the first of a group

alone_group : (c : Command) → length c.parts ≤ 16 → IsGroup (c ∷ [])
alone_group c few = record {
  some = omega arith;
  alone = λ d h e. refl;
  last = λ n d at b. let lt = slice_get-length (c ∷ []) n d at in omega (arith, lt);
  apart = λ m n d e p q lt at there h i same. let near = slice_get-length (c ∷ []) n e there in absurd (omega (arith, near, lt));
  small = subst (λ (ps : List Part). length ps ≤ 16) (sym (append-nil c.parts)) few;
}

merged_alone : (r : Request) (flagged : Bool) → command_of_request r flagged ≡ merged (command_of_request r flagged ∷ [])
merged_alone r true = ap (λ (ps : List Part). record (command_of_request r true) { parts = ps }) (sym (append-nil (parts_for r.id r.kind)))
merged_alone r false = ap (λ (ps : List Part). record (command_of_request r false) { parts = ps }) (sym (append-nil (parts_for r.id r.kind)))

few_of : (queue : EpochState) (w : Waiting) → length (command_of queue w).parts ≤ 16
few_of queue w = let one = few_alone w.request (leaves_flagged queue w) in omega (arith, one)

-- a request that waits, and may leave
pub record Leaves (queue : EpochState) (w : Waiting) : Type 0 where
  pub there : In w queue.waiting
  pub may : may_leave queue.waiting w ≡ true

pub alone_valid : (s : ElevatorState) (w : Waiting) → IsElevator s → Leaves s.queue w → IsElevator (sent_as s (alone s.queue w))
alone_valid s w v l =
    with_group s (alone s.queue w) (command_of s.queue w ∷ []) v (alone_group (command_of s.queue w) (few_of s.queue w)) (merged_alone w.request (leaves_flagged s.queue w))
    (sent-valid (sent_apart s s.queue (ungrouped v.groups)) w v.apart l.there l.may)

-- ---- gathering

has_class-same : (ordered : Bool) (a b : Request) → a.ordered ≡ true → b.ordered ≡ false → has_class ordered a ≡ true → has_class ordered b ≡ true → ⊥
has_class-same true a b p q h i = both_ways b.ordered q i
has_class-same false a b p q h i = both_ways a.ordered (not-true a.ordered h) p

-- a command that is being gathered: puts of one class and of blocks below the next one; so many may still join
pub record IsOpen (s : ElevatorState) (before : List Command) (ordered : Bool) (block left : ℕ) (g : Gathering) : Type 0 where
  pub group : List Command
  pub whole : IsGroup group
  pub same : g.command ≡ merged group
  pub apart : IsValid (sent_apart s g.queue (before ++ group))
  pub puts : (c : Command) → In c group → is_some c.flush ≡ false
  pub below : (c : Command) (p : Part) → In c group → In p c.parts → p.block < block
  pub few : length (all_parts group) + left ≤ 16
  -- behind the barrier nothing of its class waits
  pub flagged : list_any (λ (c : Command). c.barrier) group ≡ true → (u : Waiting) → In u g.queue.waiting → has_class ordered u.request ≡ true → ⊥

put_flush_none : (id : ℕ) (k : Kind) → is_flush k ≡ false → is_some (flush_for id k) ≡ false
put_flush_none id (Put block body) e = refl
put_flush_none id Flush e = absurd (false≢true (sym e))

-- the block of the part of a put
part_block : (id : ℕ) (k : Kind) (block : ℕ) (p : Part) → kind_block k ≡ Some block → In p (parts_for id k) → p.block ≡ block
part_block id (Put b body) block p e h = ⊎_elim (λ same. ap (λ (q : Part). q.block) (sym same) ∙ same_Some b block e) (λ none. absurd none) h
part_block id Flush block p e h = absurd (none-some block e)

-- behind a put that leaves with the flag nothing of its class waits
flagged_out : (s : SchedState) (w : Waiting) (ordered : Bool) → is_flush w.request.kind ≡ false → has_class ordered w.request ≡ true → leaves_flagged s.queue w ≡ true
    → (u : Waiting) → In u (departed s.queue (Some w)).waiting → has_class ordered u.request ≡ true → ⊥
flagged_out s w ordered put class flag u h other =
    let last = flagged_last s w flag put in
    has_class-same ordered w.request u.request last.0 (last.1 u h) class other

pub opened_by : (s : ElevatorState) (w : Waiting) (block : ℕ) (ordered : Bool) → (v : IsElevator s) → Leaves s.queue w → IsPutAt w block → has_class ordered w.request ≡ true
    → IsOpen s (ungrouped v.groups) ordered (block + 1) 15 (alone s.queue w)
opened_by s w block ordered v l put class =
    let p = sent_apart s s.queue (ungrouped v.groups) in
    let c = command_of s.queue w in
    let kind = put-is_flush w block put in
    record {
      group = c ∷ [];
      whole = alone_group c (few_of s.queue w);
      same = merged_alone w.request (leaves_flagged s.queue w);
      apart = sent-valid p w v.apart l.there l.may;
      puts = λ d h. ⊎_elim (λ e. subst (λ (x : Command). is_some x.flush ≡ false) e (put_flush_none w.request.id w.request.kind kind)) (λ none. absurd none) h;
      below = λ d q h i.
          ⊎_elim
          (λ e.
          let n = part_block w.request.id w.request.kind block q put (subst (λ (x : Command). In q x.parts) (sym e) i) in
          omega (arith, n))
          (λ none. absurd none)
          h;
      few =
          let one = few_alone w.request (leaves_flagged s.queue w) in
          let same = ap length (append-nil c.parts) in
          omega (arith, one, same);
      flagged = λ any u h other.
          ⊎_elim
          (λ flag. flagged_out p w ordered kind class flag u h other)
          (λ none. absurd (false≢true none))
          (or_cases (leaves_flagged s.queue w) false any);
    }

-- what is found
find-In : {X : Type 0} (p : X → Bool) (xs : List X) (x : X) → find p xs ≡ Some x → In x xs × (p x ≡ true)
find-In p [] x e = absurd (none-some x e)
find-In p (y ∷ ys) x e =
    elim (cases_Bool (p y)) [
      | inl t ↦
          let same : y ≡ x = same_Some y x (rw t at e) in
          (inl same, ap p (sym same) ∙ t)
      | inr f ↦
          let rest = find-In p ys x (rw f at e) in
          (inr rest.0, rest.1)
    ]

kind_put_of : (block : ℕ) (k : Kind) → is_put_of block k ≡ true → kind_block k ≡ Some block
kind_put_of block (Put b body) e = ap Some (eqb-true b block e)
kind_put_of block Flush e = absurd (false≢true e)

-- the put that joins
pub record Joins (queue : EpochState) (block : ℕ) (ordered : Bool) (w : Waiting) : Type 0 where
  pub leaves : Leaves queue w
  pub put : IsPutAt w block
  pub class : has_class ordered w.request ≡ true

pub next-joins : (queue : EpochState) (block : ℕ) (ordered : Bool) (w : Waiting) → next_part queue block ordered ≡ Some w → Joins queue block ordered w
next-joins queue block ordered w e =
    let f = find-In (joins block ordered) (eligible queue.waiting) w e in
    let a = In-filter (may_leave queue.waiting) queue.waiting w f.0 in
    let b = and_parts (is_put_of block w.request.kind) (has_class ordered w.request) f.1 in
    record { leaves = record { there = a.0; may = a.1 }; put = kind_put_of block w.request.kind b.0; class = b.1 }

all_parts-push : (cs : List Command) (c : Command) → all_parts (cs ++ c ∷ []) ≡ all_parts cs ++ c.parts
all_parts-push [] c = append-nil c.parts
all_parts-push (d ∷ cs) c = ap (λ l. d.parts ++ l) (all_parts-push cs c) ∙ sym (append_assoc d.parts (all_parts cs) c.parts)

or_false : (b : Bool) → (b || false) ≡ (false || b)
or_false true = refl
or_false false = refl

flag_priority : (before flagged : Bool) → (if flagged then Ordered else (if before then Ordered else Simple)) ≡ (if before || flagged then Ordered else Simple)
flag_priority true true = refl
flag_priority true false = refl
flag_priority false true = refl
flag_priority false false = refl

list_any-push : (cs : List Command) (c : Command) → list_any (λ (d : Command). d.barrier) (cs ++ c ∷ []) ≡ (list_any (λ (d : Command). d.barrier) cs || c.barrier)
list_any-push [] c = or_false c.barrier
list_any-push (d ∷ cs) c =
    elim (cases_Bool d.barrier) [
      | inl t ↦ rw t refl
      | inr f ↦ rw f (list_any-push cs c)
    ]

first_flush-push : (cs : List Command) (c : Command) → 0 < length cs → first_flush (cs ++ c ∷ []) ≡ first_flush cs
first_flush-push [] c h = absurd (omega (arith, h))
first_flush-push (d ∷ cs) c h = refl

-- the command that was merged, with one more
joined_merged : (cs : List Command) (r : Request) (flagged : Bool) → 0 < length cs → joined (merged cs) r flagged ≡ merged (cs ++ command_of_request r flagged ∷ [])
joined_merged cs r flagged some =
    let c = command_of_request r flagged in
    let parts = sym (all_parts-push cs c) in
    let any = sym (list_any-push cs c) in
    let flush = sym (first_flush-push cs c some) in
    let before = list_any (λ (d : Command). d.barrier) cs in
    let priority : (if flagged then Ordered else (if before then Ordered else Simple)) ≡ (if list_any (λ (d : Command). d.barrier) (cs ++ c ∷ []) then Ordered else Simple) =
    flag_priority before flagged ∙ ap (λ (b : Bool). if b then Ordered else Simple) any in
    λ i. record { parts = parts i; priority = priority i; barrier = any i; flush = flush i }

-- one more part
more_parts : (cs : List Command) (queue : EpochState) (w : Waiting) → length (all_parts (cs ++ command_of queue w ∷ [])) ≤ length (all_parts cs) + 1
more_parts cs queue w =
    let c = command_of queue w in
    let push = ap length (all_parts-push cs c) in
    let both = length-append (all_parts cs) c.parts in
    let one = few_alone w.request (leaves_flagged queue w) in
    omega (arith, push, both, one)

joined_group : (s : ElevatorState) (before : List Command) (ordered : Bool) (block left : ℕ) (g : Gathering) (w : Waiting) → (o : IsOpen s before ordered block (suc left) g) → Joins g.queue block ordered w
    → IsGroup (o.group ++ command_of g.queue w ∷ [])
joined_group s before ordered block left g w o j =
    let c = command_of g.queue w in
    let n = length_push o.group c in
    record {
      some = omega (arith, n);
      alone = λ d h e.
          ⊎_elim
          (λ old. absurd (both_ways (is_some d.flush) (o.puts d old) e))
          (λ new. absurd (both_ways (is_some d.flush) (subst (λ (x : Command). is_some x.flush ≡ false) new (put_flush_none w.request.id w.request.kind (put-is_flush w block j.put))) e))
          (In-push_cases o.group c d h);
      last = λ k d at b.
          ⊎_elim
          (λ old. absurd (o.flagged (list_any-In (λ (x : Command). x.barrier) o.group d (slice_get-In o.group k d old) b) w j.leaves.there j.class))
          (λ new. let e = new.0 in omega (arith, n, e))
          (slice_get-push_cases o.group c k d at);
      apart = λ k l d e p q lt at there h i same.
          ⊎_elim
          (λ old.
          let near = slice_get-length o.group l e old in
          ⊎_elim
          (λ first. o.whole.apart k l d e p q lt first old h i same)
          (λ new. let z = new.0 in absurd (omega (arith, near, lt, z)))
          (slice_get-push_cases o.group c k d at))
          (λ new.
          let z = new.0 in
          let here = part_block w.request.id w.request.kind block q j.put (subst (λ (x : Command). In q x.parts) (sym new.1) i) in
          ⊎_elim
          (λ first. let less = o.below d p (slice_get-In o.group k d first) h in absurd (omega (arith, less, here, same)))
          (λ other. let y = other.0 in absurd (omega (arith, lt, z, y)))
          (slice_get-push_cases o.group c k d at))
          (slice_get-push_cases o.group c l e there);
      small = let more = more_parts o.group g.queue w in let few = o.few in omega (arith, more, few);
    }

pub taken_open : (s : ElevatorState) (before : List Command) (ordered : Bool) (block left : ℕ) (g : Gathering) (w : Waiting) → IsOpen s before ordered block (suc left) g → Joins g.queue block ordered w
    → IsOpen s before ordered (block + 1) left (taken g w)
taken_open s before ordered block left g w o j =
    let c = command_of g.queue w in
    let p = sent_apart s g.queue (before ++ o.group) in
    let kind = put-is_flush w block j.put in
    record {
      group = o.group ++ c ∷ [];
      whole = joined_group s before ordered block left g w o j;
      same = ap (λ (d : Command). joined d w.request (leaves_flagged g.queue w)) o.same ∙ joined_merged o.group w.request (leaves_flagged g.queue w) o.whole.some;
      apart = subst (λ cs. IsValid (sent_apart s (departed g.queue (Some w)) cs)) (append_assoc before o.group (c ∷ [])) (sent-valid p w o.apart j.leaves.there j.leaves.may);
      puts = λ d h.
          ⊎_elim
          (λ old. o.puts d old)
          (λ new. subst (λ (x : Command). is_some x.flush ≡ false) new (put_flush_none w.request.id w.request.kind kind))
          (In-push_cases o.group c d h);
      below = λ d q h i.
          ⊎_elim
          (λ old. let less = o.below d q old i in omega (arith, less))
          (λ new. let e = part_block w.request.id w.request.kind block q j.put (subst (λ (x : Command). In q x.parts) (sym new) i) in omega (arith, e))
          (In-push_cases o.group c d h);
      few = let more = more_parts o.group g.queue w in let few = o.few in omega (arith, more, few);
      flagged = λ any u h other.
          ⊎_elim
          (λ old. absurd (o.flagged old w j.leaves.there j.class))
          (λ flag. flagged_out p w ordered kind j.class flag u h other)
          (or_cases (list_any (λ (x : Command). x.barrier) o.group) c.barrier (sym (list_any-push o.group c) ∙ any));
    }

-- none joins any more
closed_now : (s : ElevatorState) (before : List Command) (ordered : Bool) (block left : ℕ) (g : Gathering) → IsOpen s before ordered block left g → IsOpen s before ordered block 0 g
closed_now s before ordered block left g o =
    record { group = o.group; whole = o.whole; same = o.same; apart = o.apart; puts = o.puts; below = o.below; few = let n = o.few in omega (arith, n); flagged = o.flagged }

gathered_option : (s : ElevatorState) (before : List Command) (ordered : Bool) (block n : ℕ) (g : Gathering) → IsOpen s before ordered block (suc n) g → (o : Option Waiting) → next_part g.queue block ordered ≡ o
    → ((w : Waiting) → IsOpen s before ordered (block + 1) n (taken g w) → (end : ℕ) × IsOpen s before ordered end 0 (gathered n ordered (block + 1) (taken g w)))
    → (end : ℕ) × IsOpen s before ordered end 0 (option_map_or (λ w. gathered n ordered (block + 1) (taken g w)) o g)
gathered_option s before ordered block n g v None e rest = (block, closed_now s before ordered block (suc n) g v)
gathered_option s before ordered block n g v (Some w) e rest = rest w (taken_open s before ordered block n g w v (next-joins g.queue block ordered w e))

pub gathered_open : (s : ElevatorState) (before : List Command) (ordered : Bool) (n block : ℕ) (g : Gathering) → IsOpen s before ordered block n g → (end : ℕ) × IsOpen s before ordered end 0 (gathered n ordered block g)
unfolding gathered
gathered_open s before ordered zero block g v = (block, v)
gathered_open s before ordered (suc n) block g v =
    gathered_option s before ordered block n g v (next_part g.queue block ordered) refl (λ w o. gathered_open s before ordered n (block + 1) (taken g w) o)

pub own_class : (r : Request) → has_class r.ordered r ≡ true
own_class r =
    elim (cases_Bool r.ordered) [
      | inl t ↦ rw t refl
      | inr f ↦ rw f refl
    ]

leaving_valid : (s : ElevatorState) (w : Waiting) (k : Kind) → IsElevator s → Leaves s.queue w → w.request.kind ≡ k → IsElevator (sent_as s (leaving_as s.queue w k))
leaving_valid s w (Put block body) v l e =
    let first = opened_by s w block w.request.ordered v l (ap kind_block e) (own_class w.request) in
    let all = (gathered_open s (ungrouped v.groups) w.request.ordered 15 (block + 1) (alone s.queue w) first).1 in
    with_group s (gathered 15 w.request.ordered (block + 1) (alone s.queue w)) all.group v all.whole all.same all.apart
leaving_valid s w Flush v l e = alone_valid s w v l

-- what leaves with a request keeps what an elevator keeps
pub sent_valid : (s : ElevatorState) (w : Waiting) → IsElevator s → Leaves s.queue w → IsElevator (sent_as s (leaving_with s.queue w))
sent_valid s w v l = leaving_valid s w w.request.kind v l refl
