-- The block layer and the device along a session: each of their steps keeps how requests are on their way.
use Rattle.std.proofs.Common.{◌≡◌, ℕ, ◌<◌, ◌≤◌, Bool, true, false, List, [], ◌∷◌, ◌++◌, length, Option, Some, None, slice_get, nat_lt, refl, sym, ap, subst, ◌∙◌, arith, if◌then◌else◌, append_assoc}
use Rattle.std.specs.Option.{option_to_list}
use Rattle.std.proofs.lemmas.List.{append-nil, length-append}
use Rattle.blk_base.specs.laws.Members.{slice_get-length, slice_get-append_left}
use Rattle.order_model.specs.declared.command.Command.{Command}
use Rattle.order_model.specs.declared.request.Request.{Request}
use Rattle.order_model.specs.Device.{Seen, IsReceivable}
use Rattle.order_model.specs.Carrying.{SchedSeen, Carries}
use Rattle.order_model.proofs.Next.{next_receivable}
use Rattle.schedulers.specs.reassign.Scheduler.{SchedSteps, IsAcceptable, Sends, IsScheduler}
use Rattle.schedulers.specs.reassign.laws.Places.{next_id-new}
use Rattle.stack_core.specs.BlockLayer.{QueuesState, BlockLayer, accepted_first, layer_accepted, queued_or_kept, queued_or_kept_option, dispatched_from, layer_dispatched}
use Rattle.stack_core.specs.RequestPath.{AreRequests}
use Rattle.stack_core.proofs.DirectPath.{block_within}
use Rattle.session_core.specs.run.machine.Fits.{RequestsFit}

-- the item behind a prefix
middle_get : {X : Type 0} (xs ys : List X) (y : X) → slice_get (xs ++ y ∷ ys) (length xs) ≡ Some y
middle_get [] ys y = refl
middle_get (x ∷ xs) ys y = middle_get xs ys y

module _ (rs : List Request) (limit : ℕ) where
  -- ---- what was accepted

  accepted_requests : (q : QueuesState) (p : SchedSeen) (d : Seen) → RequestsFit rs limit q p d → AreRequests (length d.base) p.accepted
  accepted_requests q p d v i r at =
      v.fitting i r (ap (λ l. slice_get l i) (sym v.submitted) ∙ slice_get-append_left p.accepted q.submission i (slice_get-length p.accepted i r at) ∙ at)

  accepted_few : (q : QueuesState) (p : SchedSeen) (d : Seen) → RequestsFit rs limit q p d → length p.accepted ≤ length rs
  accepted_few q p d v = (let n = ap length (sym v.submitted) ∙ length-append p.accepted q.submission in omega (arith, n))

  -- the scheduler may be given the first request of the submission queue
  pub acceptable : (q : QueuesState) (p : SchedSeen) (d : Seen) → RequestsFit rs limit q p d → (r : Request) (more : List Request) → q.submission ≡ r ∷ more → IsAcceptable p r
  acceptable q p d v r more waits =
      let n = length p.accepted in
      let at : slice_get rs n ≡ Some r = ap (λ l. slice_get l n) (sym v.submitted ∙ ap (λ l. p.accepted ++ l) waits) ∙ middle_get p.accepted more r in
      let own = v.fitting n r at in
      let lt = slice_get-length rs n r at in
      record {
        few = omega (arith, lt, v.few, v.scheduler);
        new = next_id-new p.accepted r.id (λ i z there. (accepted_requests q p d v i z there).named) own.named;
        barrier = own.ordered;
        flush = own.flush;
      }

  -- ---- accept

  module _ {K : Type 0} (k : SchedSteps K) (valid : K → Type 0) (laws : IsScheduler k valid) (d : Seen) where
    pub record IsLayer (l : BlockLayer K) : Type 0 where
      pub keeps : valid l.sched
      pub fits : RequestsFit rs limit l.queues (k.seen l.sched) d

    accepted_list : (l : BlockLayer K) → IsLayer l → k.can_accept l.sched ≡ true → (waiting : List Request) → l.queues.submission ≡ waiting → IsLayer (accepted_first k l waiting)
    accepted_list l v can [] waits = v
    accepted_list l v can (q ∷ qs) waits =
        let old = v.fits in
        let p = k.seen l.sched in
        let step = laws.accepts l.sched q v.keeps (acceptable l.queues p d old q qs waits) can in
        record {
          keeps = step.0;
          fits = record {
            counted = old.counted;
            submitted = ap (λ x. x ++ qs) step.1.accepted ∙ append_assoc p.accepted (q ∷ []) qs ∙ ap (λ x. p.accepted ++ x) (sym waits) ∙ old.submitted;
            sent = step.1.sent_out ∙ old.sent;
            fitting = old.fitting;
            few = old.few;
            scheduler = step.1.limit ∙ old.scheduler;
            device = old.device;
          };
        }

    accepted_where : (b : Bool) (l : BlockLayer K) → IsLayer l → k.can_accept l.sched ≡ b → IsLayer (if b then accepted_first k l l.queues.submission else l)
    accepted_where true l v can = accepted_list l v can l.queues.submission refl
    accepted_where false l v can = v

    pub accepted_fits : (l : BlockLayer K) → IsLayer l → IsLayer (layer_accepted k l)
    accepted_fits l v = accepted_where (k.can_accept l.sched) l v refl

  -- ---- dispatch

  -- a command that was sent out goes into the dispatch queue, or is kept
  queued_where : (b : Bool) (q : QueuesState) (p : SchedSeen) (d : Seen) (c : Command) → RequestsFit rs limit (record q { kept = Some c }) p d
      → RequestsFit rs limit (if b then record q { kept = None; dispatched = q.dispatched ++ c ∷ [] } else record q { kept = Some c }) p d
  queued_where true q p d c v = record {
    counted = v.counted;
    submitted = v.submitted;
    sent = v.sent ∙ append_assoc d.took q.dispatched (c ∷ []) ∙ sym (append-nil (d.took ++ (q.dispatched ++ c ∷ [])));
    fitting = v.fitting;
    few = v.few;
    scheduler = v.scheduler;
    device = v.device;
  }
  queued_where false q p d c v = v

  -- a command that was sent out, where there was one
  queued_option : (q : QueuesState) (old new : SchedSeen) (d : Seen) → RequestsFit rs limit q old d → q.kept ≡ None → (o : Option Command) → Sends old o new → RequestsFit rs limit (queued_or_kept_option q o) new d
  queued_option q old new d v none None step = record {
    counted = v.counted;
    submitted = ap (λ l. l ++ q.submission) step.accepted ∙ v.submitted;
    sent = step.sent_out ∙ append-nil old.sent_out ∙ v.sent;
    fitting = v.fitting;
    few = v.few;
    scheduler = step.limit ∙ v.scheduler;
    device = v.device;
  }
  queued_option q old new d v none (Some c) step =
      queued_where (nat_lt (length q.dispatched) q.capacity) q new d c
      (record {
        counted = v.counted;
        submitted = ap (λ l. l ++ q.submission) step.accepted ∙ v.submitted;
        sent = step.sent_out ∙ ap (λ l. l ++ c ∷ []) (v.sent ∙ ap (λ o. d.took ++ q.dispatched ++ option_to_list o) none ∙ append-nil (d.took ++ q.dispatched));
        fitting = v.fitting;
        few = v.few;
        scheduler = step.limit ∙ v.scheduler;
        device = v.device;
      })

  -- the command that was kept
  kept_sent : (q : QueuesState) (p : SchedSeen) (d : Seen) (c : Command) → RequestsFit rs limit q p d → q.kept ≡ Some c → RequestsFit rs limit (queued_or_kept q c) p d
  kept_sent q p d c v kept =
      queued_where (nat_lt (length q.dispatched) q.capacity) q p d c
      (record {
        counted = v.counted;
        submitted = v.submitted;
        sent = v.sent ∙ ap (λ o. d.took ++ q.dispatched ++ option_to_list o) kept;
        fitting = v.fitting;
        few = v.few;
        scheduler = v.scheduler;
        device = v.device;
      })

  module _ {K : Type 0} (k : SchedSteps K) (valid : K → Type 0) (laws : IsScheduler k valid) (d : Seen) where
    dispatched_option : (l : BlockLayer K) (pick : ℕ) → IsLayer k valid laws d l → (o : Option Command) → l.queues.kept ≡ o → IsLayer k valid laws d (dispatched_from k l pick o)
    dispatched_option l pick v None kept =
        let step = laws.dispatches l.sched pick v.keeps in
        record { keeps = step.0; fits = queued_option l.queues (k.seen l.sched) (k.seen (k.dispatched l.sched pick)) d v.fits kept (k.command l.sched pick) step.1 }
    dispatched_option l pick v (Some c) kept = record { keeps = v.keeps; fits = kept_sent l.queues (k.seen l.sched) d c v.fits kept }

    pub dispatched_fits : (l : BlockLayer K) (pick : ℕ) → IsLayer k valid laws d l → IsLayer k valid laws d (layer_dispatched k l pick)
    dispatched_fits l pick v = dispatched_option l pick v l.queues.kept refl

  -- ---- receive

  -- what the device took, the first command that waits for it, and the others
  sent_next : (q : QueuesState) (p : SchedSeen) (d : Seen) (c : Command) (cs : List Command) → RequestsFit rs limit q p d → q.dispatched ≡ c ∷ cs → p.sent_out ≡ d.took ++ c ∷ (cs ++ option_to_list q.kept)
  sent_next q p d c cs v waits = v.sent ∙ ap (λ l. (d.took ++ l) ++ option_to_list q.kept) waits ∙ append_assoc d.took (c ∷ cs) (option_to_list q.kept)

  -- the device may be given the first command of the dispatch queue
  pub first_receivable : (q : QueuesState) (p : SchedSeen) (d : Seen) (c : Command) (cs : List Command) → RequestsFit rs limit q p d → Carries p → length d.surface ≡ length d.base → q.dispatched ≡ c ∷ cs → IsReceivable d c
  first_receivable q p d c cs v carries same waits =
      let few = accepted_few q p d v in
      next_receivable p d c (cs ++ option_to_list q.kept) carries (sent_next q p d c cs v waits)
      (λ i block put. subst (λ n. block < n) (sym same) (block_within (length d.base) p.accepted (accepted_requests q p d v) i block put))
      (omega (arith, few, v.few, v.device))

  -- the device took it
  pub first_received : (q : QueuesState) (p : SchedSeen) (d : Seen) (c : Command) (cs : List Command) → RequestsFit rs limit q p d → q.dispatched ≡ c ∷ cs
      → RequestsFit rs limit (record q { dispatched = cs }) p (record d { took = d.took ++ c ∷ [] })
  first_received q p d c cs v waits = record {
    counted = v.counted;
    submitted = v.submitted;
    sent = sent_next q p d c cs v waits ∙ sym (append_assoc d.took (c ∷ []) (cs ++ option_to_list q.kept)) ∙ sym (append_assoc (d.took ++ c ∷ []) cs (option_to_list q.kept));
    fitting = v.fitting;
    few = v.few;
    scheduler = v.scheduler;
    device = v.device;
  }

  -- a step of the device that takes nothing
  pub same_given : (q : QueuesState) (p : SchedSeen) (old new : Seen) → RequestsFit rs limit q p old → new.base ≡ old.base → new.limit ≡ old.limit → new.took ≡ old.took → RequestsFit rs limit q p new
  same_given q p old new v base most took = record {
    counted = v.counted;
    submitted = v.submitted;
    sent = v.sent ∙ ap (λ l. l ++ q.dispatched ++ option_to_list q.kept) (sym took);
    fitting = subst (λ b. AreRequests (length b) rs) (sym base) v.fitting;
    few = v.few;
    scheduler = v.scheduler;
    device = subst (λ n. limit ≤ n) (sym most) v.device;
  }
