-- The queues and the scheduler between them along a run: each step keeps what holds between them and the device.
use Rattle.std.proofs.Common.{◌≡◌, ℕ, ◌<◌, ◌≤◌, Bool, true, false, List, [], ◌∷◌, ◌++◌, length, take, Option, Some, None, slice_get, nat_lt, refl, sym, ap, subst, ◌∙◌, arith, if◌then◌else◌, append_assoc}
use Rattle.std.specs.Option.{option_to_list}
use Rattle.std.proofs.lemmas.List.{append-nil, length-append, length-take-le, take_at}
use Rattle.blk_base.specs.laws.Members.{slice_get-length, slice_get-append_left}
use Rattle.order_model.specs.declared.command.Command.{Command}
use Rattle.order_model.specs.declared.request.Request.{Request}
use Rattle.order_model.specs.Device.{Seen, IsReceivable}
use Rattle.order_model.specs.Carrying.{SchedSeen, Carries, Fits}
use Rattle.order_model.proofs.Next.{next_receivable}
use Rattle.schedulers.specs.reassign.Scheduler.{SchedSteps, IsAcceptable, Sends, IsScheduler}
use Rattle.schedulers.specs.reassign.laws.Places.{next_id-new}
use Rattle.stack_core.specs.BlockLayer.{QueuesState, BlockLayer, with_request, submitted, accepted_first, layer_accepted, queued_or_kept, queued_or_kept_option, dispatched_from, layer_dispatched}
use Rattle.stack_core.specs.RequestPath.{AreRequests, IsScheduled}
use Rattle.stack_core.proofs.DirectPath.{take_more_get, prefix_requests, block_within}

-- the item behind a prefix
middle_get : {X : Type 0} (xs ys : List X) (y : X) → slice_get (xs ++ y ∷ ys) (length xs) ≡ Some y
middle_get [] ys y = refl
middle_get (x ∷ xs) ys y = middle_get xs ys y

-- ---- what was accepted

-- the accepted requests are the script's first ones
accepted_requests : (rs : List Request) (s : QueuesState) (p : SchedSeen) (d : Seen) → IsScheduled s p rs d → AreRequests (length d.base) p.accepted
accepted_requests rs s p d v i r at =
    prefix_requests s.next (length d.base) rs v.fitting i r
    (ap (λ l. slice_get l i) (sym v.submitted) ∙ slice_get-append_left p.accepted s.submission i (slice_get-length p.accepted i r at) ∙ at)

accepted_few : (rs : List Request) (s : QueuesState) (p : SchedSeen) (d : Seen) → IsScheduled s p rs d → length p.accepted ≤ length rs
accepted_few rs s p d v =
    let n = ap length (sym v.submitted) ∙ length-append p.accepted s.submission in
    let m = length-take-le s.next rs v.within in
    omega (arith, n, m, v.within)

-- the scheduler may be given the first request of the submission queue
pub acceptable : (rs : List Request) (s : QueuesState) (p : SchedSeen) (d : Seen) → IsScheduled s p rs d → (r : Request) (qs : List Request) → s.submission ≡ r ∷ qs → IsAcceptable p r
acceptable rs s p d v r qs waits =
    let n = length p.accepted in
    let at : slice_get (take s.next rs) n ≡ Some r = ap (λ l. slice_get l n) (sym v.submitted ∙ ap (λ l. p.accepted ++ l) waits) ∙ middle_get p.accepted qs r in
    let q = prefix_requests s.next (length d.base) rs v.fitting n r at in
    let lt = slice_get-length (take s.next rs) n r at in
    let most = length-take-le s.next rs v.within in
    record {
      few = omega (arith, lt, most, v.within, v.may_accept);
      new = next_id-new p.accepted r.id (λ i z there. (accepted_requests rs s p d v i z there).named) q.named;
      barrier = q.ordered;
      flush = q.flush;
    }

-- ---- submit

submitted_option : (rs : List Request) (s : QueuesState) (p : SchedSeen) (d : Seen) → IsScheduled s p rs d → (o : Option Request) → slice_get rs s.next ≡ o → IsScheduled (with_request s o) p rs d
submitted_option rs s p d v None at = v
submitted_option rs s p d v (Some r) at =
    let lt = slice_get-length rs s.next r at in
    record {
      within = omega (arith, lt);
      submitted = sym (append_assoc p.accepted s.submission (r ∷ [])) ∙ ap (λ l. l ++ r ∷ []) v.submitted ∙ sym (take_more_get rs s.next r at);
      sent = v.sent;
      may_accept = v.may_accept;
      fitting = v.fitting;
      limit = v.limit;
    }

submitted_where : (b : Bool) (rs : List Request) (s : QueuesState) (p : SchedSeen) (d : Seen) → IsScheduled s p rs d → IsScheduled (if b then with_request s (slice_get rs s.next) else s) p rs d
submitted_where true rs s p d v = submitted_option rs s p d v (slice_get rs s.next) refl
submitted_where false rs s p d v = v

pub submitted-path : (rs : List Request) (s : QueuesState) (p : SchedSeen) (d : Seen) → IsScheduled s p rs d → IsScheduled (submitted rs s) p rs d
submitted-path rs s p d v = submitted_where (nat_lt (length s.submission) s.capacity) rs s p d v

-- ---- a scheduler's state beside its queues

module _ {K : Type 0} where
  -- the state is valid, and holds with the queues and the device
  pub record IsBeside (k : SchedSteps K) (valid : K → Type 0) (r : BlockLayer K) (rs : List Request) (d : Seen) : Type 0 where
    pub keeps : valid r.sched
    pub path : IsScheduled r.queues (k.seen r.sched) rs d

  -- ---- accept

  accepted_list : (k : SchedSteps K) (valid : K → Type 0) (rs : List Request) (r : BlockLayer K) (d : Seen) → IsScheduler k valid → IsBeside k valid r rs d → k.can_accept r.sched ≡ true → (l : List Request) → r.queues.submission ≡ l
      → IsBeside k valid (accepted_first k r l) rs d
  accepted_list k valid rs r d laws v can [] waits = v
  accepted_list k valid rs r d laws v can (q ∷ qs) waits =
      let old = v.path in
      let p = k.seen r.sched in
      let step = laws.accepts r.sched q v.keeps (acceptable rs r.queues p d old q qs waits) can in
      record {
        keeps = step.0;
        path = record {
          within = old.within;
          submitted = ap (λ l. l ++ qs) step.1.accepted ∙ append_assoc p.accepted (q ∷ []) qs ∙ ap (λ l. p.accepted ++ l) (sym waits) ∙ old.submitted;
          sent = step.1.sent_out ∙ old.sent;
          may_accept = step.1.limit ∙ old.may_accept;
          fitting = old.fitting;
          limit = old.limit;
        };
      }

  accepted_where : (b : Bool) (k : SchedSteps K) (valid : K → Type 0) (rs : List Request) (r : BlockLayer K) (d : Seen) → IsScheduler k valid → IsBeside k valid r rs d → k.can_accept r.sched ≡ b
      → IsBeside k valid (if b then accepted_first k r r.queues.submission else r) rs d
  accepted_where true k valid rs r d laws v can = accepted_list k valid rs r d laws v can r.queues.submission refl
  accepted_where false k valid rs r d laws v can = v

  pub accepted-path : (k : SchedSteps K) (valid : K → Type 0) (rs : List Request) (r : BlockLayer K) (d : Seen) → IsScheduler k valid → IsBeside k valid r rs d → IsBeside k valid (layer_accepted k r) rs d
  accepted-path k valid rs r d laws v = accepted_where (k.can_accept r.sched) k valid rs r d laws v refl

-- ---- dispatch

-- a command that was sent out goes into the dispatch queue, or is kept
queued_or_kept_where : (b : Bool) (rs : List Request) (s : QueuesState) (p : SchedSeen) (d : Seen) (c : Command) → IsScheduled (record s { kept = Some c }) p rs d
    → IsScheduled (if b then record s { kept = None; dispatched = s.dispatched ++ c ∷ [] } else record s { kept = Some c }) p rs d
queued_or_kept_where true rs s p d c v = record {
  within = v.within;
  submitted = v.submitted;
  sent = v.sent ∙ append_assoc d.took s.dispatched (c ∷ []) ∙ sym (append-nil (d.took ++ (s.dispatched ++ c ∷ [])));
  may_accept = v.may_accept;
  fitting = v.fitting;
  limit = v.limit;
}
queued_or_kept_where false rs s p d c v = v

-- a command that was sent out, where there was one
queued_or_kept-path : (rs : List Request) (s : QueuesState) (old new : SchedSeen) (d : Seen) → IsScheduled s old rs d → s.kept ≡ None → (o : Option Command) → Sends old o new → IsScheduled (queued_or_kept_option s o) new rs d
queued_or_kept-path rs s old new d v none None step = record {
  within = v.within;
  submitted = ap (λ l. l ++ s.submission) step.accepted ∙ v.submitted;
  sent = step.sent_out ∙ append-nil old.sent_out ∙ v.sent;
  may_accept = step.limit ∙ v.may_accept;
  fitting = v.fitting;
  limit = v.limit;
}
queued_or_kept-path rs s old new d v none (Some c) step =
    queued_or_kept_where (nat_lt (length s.dispatched) s.capacity) rs s new d c
    (record {
      within = v.within;
      submitted = ap (λ l. l ++ s.submission) step.accepted ∙ v.submitted;
      sent = step.sent_out ∙ ap (λ l. l ++ c ∷ []) (v.sent ∙ ap (λ o. d.took ++ s.dispatched ++ option_to_list o) none ∙ append-nil (d.took ++ s.dispatched));
      may_accept = step.limit ∙ v.may_accept;
      fitting = v.fitting;
      limit = v.limit;
    })

-- the command that was kept
kept-path : (rs : List Request) (s : QueuesState) (p : SchedSeen) (d : Seen) (c : Command) → IsScheduled s p rs d → s.kept ≡ Some c → IsScheduled (queued_or_kept s c) p rs d
kept-path rs s p d c v kept =
    queued_or_kept_where (nat_lt (length s.dispatched) s.capacity) rs s p d c
    (record {
      within = v.within;
      submitted = v.submitted;
      sent = v.sent ∙ ap (λ o. d.took ++ s.dispatched ++ option_to_list o) kept;
      may_accept = v.may_accept;
      fitting = v.fitting;
      limit = v.limit;
    })

module _ {K : Type 0} where
  dispatched_option : (k : SchedSteps K) (valid : K → Type 0) (rs : List Request) (r : BlockLayer K) (d : Seen) (pick : ℕ) → IsScheduler k valid → IsBeside k valid r rs d → (o : Option Command) → r.queues.kept ≡ o
      → IsBeside k valid (dispatched_from k r pick o) rs d
  dispatched_option k valid rs r d pick laws v None kept =
      let step = laws.dispatches r.sched pick v.keeps in
      record {
        keeps = step.0;
        path = queued_or_kept-path rs r.queues (k.seen r.sched) (k.seen (k.dispatched r.sched pick)) d v.path kept (k.command r.sched pick) step.1;
      }
  dispatched_option k valid rs r d pick laws v (Some c) kept = record { keeps = v.keeps; path = kept-path rs r.queues (k.seen r.sched) d c v.path kept }

  pub dispatched-path : (k : SchedSteps K) (valid : K → Type 0) (rs : List Request) (r : BlockLayer K) (d : Seen) (pick : ℕ) → IsScheduler k valid → IsBeside k valid r rs d → IsBeside k valid (layer_dispatched k r pick) rs d
  dispatched-path k valid rs r d pick laws v = dispatched_option k valid rs r d pick laws v r.queues.kept refl

-- ---- receive

-- what the device took, the first command that waits for it, and the others
sent_next : (rs : List Request) (s : QueuesState) (p : SchedSeen) (d : Seen) (c : Command) (cs : List Command) → IsScheduled s p rs d → s.dispatched ≡ c ∷ cs
    → p.sent_out ≡ d.took ++ c ∷ (cs ++ option_to_list s.kept)
sent_next rs s p d c cs v waits =
    v.sent ∙ ap (λ l. (d.took ++ l) ++ option_to_list s.kept) waits ∙ append_assoc d.took (c ∷ cs) (option_to_list s.kept)

-- the device may be given the first command of the dispatch queue
pub first_receivable : (rs : List Request) (s : QueuesState) (p : SchedSeen) (d : Seen) (c : Command) (cs : List Command) → IsScheduled s p rs d → Carries p → length d.surface ≡ length d.base → s.dispatched ≡ c ∷ cs → IsReceivable d c
first_receivable rs s p d c cs v carries same waits =
    let few = accepted_few rs s p d v in
    next_receivable p d c (cs ++ option_to_list s.kept) carries (sent_next rs s p d c cs v waits)
    (λ i block put. subst (λ n. block < n) (sym same) (block_within (length d.base) p.accepted (accepted_requests rs s p d v) i block put))
    (omega (arith, few, v.limit))

-- the device took it
pub first_received : (rs : List Request) (s : QueuesState) (p : SchedSeen) (d : Seen) (c : Command) (cs : List Command) → IsScheduled s p rs d → s.dispatched ≡ c ∷ cs
    → IsScheduled (record s { dispatched = cs }) p rs (record d { took = d.took ++ c ∷ [] })
first_received rs s p d c cs v waits = record {
  within = v.within;
  submitted = v.submitted;
  sent = sent_next rs s p d c cs v waits ∙ sym (append_assoc d.took (c ∷ []) (cs ++ option_to_list s.kept)) ∙ sym (append_assoc (d.took ++ c ∷ []) cs (option_to_list s.kept));
  may_accept = v.may_accept;
  fitting = v.fitting;
  limit = v.limit;
}

-- ---- the order

-- scheduler and device fit what was submitted
pub scheduled_fits : (rs : List Request) (s : QueuesState) (p : SchedSeen) (d : Seen) → IsScheduled s p rs d → Fits (take s.next rs) p d
scheduled_fits rs s p d v = record {
  accepted = (length p.accepted, sym (ap (take (length p.accepted)) (sym v.submitted) ∙ take_at p.accepted s.submission (length p.accepted) refl));
  took = (length d.took, sym (ap (take (length d.took)) (v.sent ∙ append_assoc d.took s.dispatched (option_to_list s.kept)) ∙ take_at d.took (s.dispatched ++ option_to_list s.kept) (length d.took) refl));
}
