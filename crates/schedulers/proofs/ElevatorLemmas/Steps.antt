-- The fields of an elevator when it is made, and after an acceptance and a dispatch.
use Rattle.std.proofs.Common.{◌≡◌, ℕ, ◌+◌, ◌<◌, ◌++◌, Bool, true, false, [], ◌∷◌, length, Option, Some, None, slice_get, if◌then◌else◌, refl, ap, ap₂, sym, subst, ◌∙◌, arith}
use Rattle.std.specs.Option.{option_map, option_map_or}
use Rattle.std.proofs.lemmas.Bool.{false≢true}
use Rattle.std.proofs.lemmas.List.{length_push}
use Rattle.std.proofs.lemmas.Option.{none-some, same_Some, some_pair_parts}
use Rattle.order_model.specs.declared.command.Command.{Command}
use Rattle.order_model.specs.declared.request.Kind.{Kind}
use Rattle.order_model.specs.declared.request.Kind.TheVariants.{Put, Flush}
use Rattle.order_model.specs.declared.request.Request.{Request}
use Rattle.order_model.specs.History.{HistoryState}
use Rattle.order_model.specs.OrderClosed.{kind_block}
use Rattle.order_model.specs.Single.{command_of_request}
use Rattle.order_model.proofs.Next.{sent_few}
use Rattle.schedulers.specs.reassign.Epoch as epoch
use Rattle.schedulers.specs.reassign.Epoch.{EpochState, Waiting, can_accept, may_leave, departed, leaving, leaves_flagged}
use Rattle.schedulers.specs.reassign.Scheduler.{IsAcceptable}
use Rattle.schedulers.specs.reassign.laws.Recorded.{recorded}
use Rattle.schedulers.specs.declared.elevator.elevator.Elevator.TheInside.{Inside}
use Rattle.schedulers.specs.elevator.Elevator.{Gathering, opened, picked, gathered, alone, leaving_as, leaving_with, sent_as, head_after, seen_of}
use Rattle.schedulers.specs.elevator.laws.Valid.{IsElevator, carries_requests, sent_valid}
use Rattle.schedulers.specs.elevator.laws.Scheduler.{opened_valid, accepted_valid, picked_leaves}
use Rattle.schedulers.specs.elevator.code.Fields.{state_of, IsInside}
use Rattle.schedulers.specs.elevator.code.Found.{IsListedAt}

abbrev pub fields_with : ℕ → EpochState → ℕ → HistoryState Request → HistoryState Command → Inside
fields_with limit queue head accepted sent_out = record { limit = limit; queue = queue; head = head; trace = record { accepted = accepted; sent_out = sent_out } }

-- ---- made

pub made_fields : (limit capacity : ℕ) (queue : EpochState) (accepted : HistoryState Request) (sent_out : HistoryState Command) → queue ≡ (opened limit capacity).queue → accepted ≡ record { items = []; room = limit } → sent_out ≡ record { items = []; room = limit }
    → IsInside (fields_with limit queue 0 accepted sent_out)
made_fields limit capacity queue accepted sent_out q a b =
    let fields : IsInside (fields_with limit (opened limit capacity).queue 0 (record { items = []; room = limit }) (record { items = []; room = limit })) = record {
      valid = opened_valid limit capacity;
      accepted = refl;
      sent_out = refl;
    } in
    subst (λ h. IsInside (fields_with limit queue 0 accepted h)) (sym b)
    (subst (λ h. IsInside (fields_with limit queue 0 h (record { items = []; room = limit }))) (sym a)
    (subst (λ p. IsInside (fields_with limit p 0 (record { items = []; room = limit }) (record { items = []; room = limit }))) (sym q) fields))

-- ---- an acceptance

pub accepted_fields : (s : Inside) (r : Request) → IsInside s → IsAcceptable (seen_of (state_of s)) r → can_accept s.queue ≡ true → IsInside (fields_with s.limit (epoch.accepted s.queue r) s.head (recorded s.trace.accepted r) s.trace.sent_out)
accepted_fields s r v a can = record {
  valid = accepted_valid (state_of s) r v.valid a can;
  accepted = v.accepted;
  sent_out = v.sent_out;
}

-- ---- what leaves together

-- the request that leaves
pub leaving-some : (q : EpochState) (o : Option Waiting) (r : Request) (flagged : Bool) → Some (r, flagged) ≡ leaving q o → (w : Waiting) × (o ≡ Some w) × (w.request ≡ r) × (leaves_flagged q w ≡ flagged)
leaving-some q None r flagged e = absurd (none-some (r, flagged) (sym e))
leaving-some q (Some w) r flagged e =
    let p = some_pair_parts w.request r (leaves_flagged q w) flagged (sym e) in
    (w, refl, p.0, p.1)

pub record LeavesTogether (q : EpochState) (o : Option Waiting) (g : Gathering) : Type 0 where
  pub waiting : Waiting
  pub there : o ≡ Some waiting
  pub all : g ≡ leaving_with q waiting

put_behind : (q : EpochState) (w : Waiting) (k : Kind) (block : ℕ) → Some block ≡ option_map (λ b. b + 1) (kind_block k) → gathered 15 w.request.ordered block (alone q w) ≡ leaving_as q w k
put_behind q w (Put b body) block e = ap (λ n. gathered 15 w.request.ordered n (alone q w)) (same_Some block (b + 1) e)
put_behind q w Flush block e = absurd (none-some block (sym e))

alone_is : (q : EpochState) (o : Option Waiting) (w : Waiting) (r : Request) (flagged : Bool) (queue : EpochState) (command : Command) → o ≡ Some w → w.request ≡ r → leaves_flagged q w ≡ flagged → queue ≡ departed q o → command ≡ command_of_request r flagged
    → record { queue = queue; command = command } ≡ alone q w
alone_is q o w r flagged queue command there same flag state made =
    let rest = state ∙ ap (departed q) there in
    let own = made ∙ sym (ap₂ command_of_request same flag) in
    λ i. record { queue = rest i; command = own i }

pub put_together : (q : EpochState) (o : Option Waiting) (r : Request) (flagged : Bool) (block : ℕ) (queue : EpochState) (command : Command) (g : Gathering) → Some (r, flagged) ≡ leaving q o → queue ≡ departed q o → command ≡ command_of_request r flagged
    → Some block ≡ option_map (λ b. b + 1) (kind_block r.kind) → g ≡ gathered 15 r.ordered block (record { queue = queue; command = command }) → LeavesTogether q o g
put_together q o r flagged block queue command g given state made next all =
    let l = leaving-some q o r flagged given in
    let w = l.0 in
    let first = alone_is q o w r flagged queue command l.1 l.2 l.3 state made in
    let behind = put_behind q w w.request.kind block (next ∙ ap (λ (s : Request). option_map (λ b. b + 1) (kind_block s.kind)) (sym l.2)) in
    record {
      waiting = w;
      there = l.1;
      all = all ∙ ap₂ (λ (s : Request) (h : Gathering). gathered 15 s.ordered block h) (sym l.2) first ∙ behind;
    }

pub together_command : (q : EpochState) (o : Option Waiting) (g : Gathering) → LeavesTogether q o g → Some g.command ≡ option_map (λ w. (leaving_with q w).command) o
together_command q o g l = ap (λ (h : Gathering). Some h.command) l.all ∙ ap (option_map (λ w. (leaving_with q w).command)) (sym l.there)

-- ---- a dispatch

-- what was found, and what left
pub record IsSent (s : Inside) (pick : ℕ) (command : Command) (queue : EpochState) : Type 0 where
  pub waiting : Waiting
  pub picked_at : picked (state_of s) pick ≡ Some waiting
  pub command_is : command ≡ (leaving_with s.queue waiting).command
  pub queue_is : queue ≡ (leaving_with s.queue waiting).queue

-- something left
came : (sent : Bool) (command : Command) (o : Option Command) → o ≡ (if sent then Some command else None) → sent ≡ true → Some command ≡ o
came true command o e t = sym e
came false command o e t = absurd (false≢true t)

pub sent_is : (s : Inside) (pick at : ℕ) (sent : Bool) (command : Command) (queue : EpochState) → IsListedAt s.queue.waiting s.head pick at → sent ≡ true
    → option_map (λ w. (leaving_with s.queue w).command) (slice_get s.queue.waiting at) ≡ (if sent then Some command else None)
    → queue ≡ option_map_or (λ w. (leaving_with s.queue w).queue) (slice_get s.queue.waiting at) s.queue → IsSent s pick command queue
sent_is s pick at sent command queue found t c q = record {
  waiting = found.waiting;
  picked_at = found.listed_at;
  command_is = same_Some command (leaving_with s.queue found.waiting).command (came sent command _ c t ∙ ap (option_map (λ w. (leaving_with s.queue w).command)) found.there);
  queue_is = q ∙ ap (λ o. option_map_or (λ w. (leaving_with s.queue w).queue) o s.queue) found.there;
}

-- the state behind it
after_valid : (s : Inside) (pick : ℕ) (command : Command) (queue : EpochState) → IsInside s → (t : IsSent s pick command queue) → IsElevator (sent_as (state_of s) (leaving_with s.queue t.waiting))
after_valid s pick command queue v t = sent_valid (state_of s) t.waiting v.valid (picked_leaves (state_of s) pick t.waiting t.picked_at)

-- there is room for it
pub sent_room : (s : Inside) (pick : ℕ) (command : Command) (queue : EpochState) → IsInside s → IsSent s pick command queue
    → length s.trace.sent_out.items < s.limit
sent_room s pick command queue v t =
    let g = leaving_with s.queue t.waiting in
    let after = sent_as (state_of s) g in
    let few = (sent_few (seen_of after) (carries_requests after (after_valid s pick command queue v t))).0 in
    let n = length_push s.trace.sent_out.items g.command in
    omega (arith, few, n)

abbrev sent_history : Inside → Command → HistoryState Command
sent_history s c = record { items = s.trace.sent_out.items ++ c ∷ []; room = s.trace.sent_out.room }

pub dispatched_fields : (s : Inside) (pick : ℕ) (command : Command) (queue : EpochState) (head : ℕ) (history : HistoryState Command) → IsInside s → IsSent s pick command queue → head ≡ head_after s.head command.parts → history ≡ sent_history s command
    → IsInside (fields_with s.limit queue head s.trace.accepted history)
dispatched_fields s pick command queue head history v t h e =
    let g = leaving_with s.queue t.waiting in
    let fields : IsInside (fields_with s.limit g.queue (head_after s.head g.command.parts) s.trace.accepted (sent_history s g.command)) = record {
      valid = after_valid s pick command queue v t;
      accepted = v.accepted;
      sent_out = v.sent_out;
    } in
    let moved = h ∙ ap (λ (c : Command). head_after s.head c.parts) t.command_is in
    let kept = e ∙ ap (sent_history s) t.command_is in
    subst (λ x. IsInside (fields_with s.limit queue head s.trace.accepted x)) (sym kept)
    (subst (λ n. IsInside (fields_with s.limit queue n s.trace.accepted (sent_history s g.command))) (sym moved)
    (subst (λ q. IsInside (fields_with s.limit q (head_after s.head g.command.parts) s.trace.accepted (sent_history s g.command))) (sym t.queue_is) fields))

-- the request that was found may leave
pub found_leaves : (s : Inside) (pick at : ℕ) (w : Waiting) → IsListedAt s.queue.waiting s.head pick at → slice_get s.queue.waiting at ≡ Some w → may_leave s.queue.waiting w ≡ true
found_leaves s pick at w found there =
    let same = same_Some found.waiting w (sym found.there ∙ there) in
    (picked_leaves (state_of s) pick w (found.listed_at ∙ ap Some same)).may

-- a request that was read
pub got : (o : Option Waiting) (r : Request) → Some r ≡ option_map (λ w. w.request) o → (w : Waiting) × (o ≡ Some w) × (w.request ≡ r)
got None r e = absurd (none-some r (sym e))
got (Some w) r e = (w, refl, same_Some w.request r (sym e))
