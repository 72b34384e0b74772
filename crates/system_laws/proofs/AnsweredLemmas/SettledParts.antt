-- Where no event of what is below the host changes anything, all is done there.
use Rattle.std.specs.Prelude.{◌≡◌, [], ℕ, ◌<◌, ◌≤◌, Bool, true, false, List, ◌∷◌, ◌++◌, length, Option, Some, None, slice_get, refl, if◌then◌else◌}
use Rattle.std.specs.Option.{option_to_list}
use Rattle.std.proofs.Common.{sym, ap, subst, ◌∙◌, ⊎_elim, arith}
use Rattle.std.proofs.lemmas.Bool.{cases_lt, lt-ltb}
use Rattle.std.proofs.lemmas.List.{append-nil, length-append}
use Rattle.blk_base.specs.Members.{In}
use Rattle.blk_base.specs.laws.Members.{slice_get-in_range}
use Rattle.order_model.specs.declared.command.Command.{Command}
use Rattle.order_model.specs.declared.completion.Completion.{Completion}
use Rattle.order_model.specs.declared.request.Kind.TheVariants as puts
use Rattle.order_model.specs.declared.request.Request.{Request}
use Rattle.order_model.specs.Device.{completed, completion_id}
use Rattle.order_model.specs.Machine.{Machine}
use Rattle.order_model.specs.Received.{all_ids}
use Rattle.schedulers.specs.reassign.Scheduler.{SchedSteps, IsScheduler}
use Rattle.stack_core.specs.BlockLayer.{accepted_first, dispatched_from, given_first}
use Rattle.line_grammar.specs.declared.events.event.CoreEvent.{CoreEvent}
use Rattle.line_grammar.specs.declared.events.event.CoreEvent.TheVariants as events
use Rattle.flush_actor.specs.Part.{FlushPart, at_limit}
use Rattle.flush_actor.specs.Steps.{flush_due, submit_flush}
use Rattle.minix_host.specs.Sessions.{Opening}
use Rattle.session_core.specs.run.machine.Machine.{SessionState, layer_of, with_layer, received, happens}
use Rattle.system_laws.proofs.AnsweredLemmas.Drained.{IsDrained}
use Rattle.system_laws.proofs.AnsweredLemmas.Emptied.{Stands}
use Rattle.system_laws.proofs.AnsweredLemmas.Going.{GoesOn}
use Rattle.system_laws.proofs.AnsweredLemmas.LowerParts.{IsBelow, accepts, dispatches, receives, transfers, persists, answers, flushes}
use Rattle.system_laws.proofs.AnsweredLemmas.Matching.{Matches, all_drained}
use Rattle.system_laws.proofs.AnsweredLemmas.SchedulerWaits.{accepted_sent, next_command, fewer_wait, accepts_again}
use Rattle.system_laws.proofs.AnsweredLemmas.TakingSteps.{takes, sends_flush, brings_kept, brings_next}
use Rattle.system_laws.proofs.AnsweredLemmas.Told.{each_of, taken_told, taken_few, told_is}

-- what fell is not the same
no_longer : (n o : ℕ) → n < o → n ≡ o → ⊥
no_longer n o less same = omega (arith, less, same)

none_of : {A : Type 0} (l : List A) → ((x : A) (xs : List A) → l ≡ x ∷ xs → ⊥) → l ≡ []
none_of l never = by l refl
  where
    by : (xs : List _) → l ≡ xs → l ≡ []
    by [] e = e
    by (x ∷ xs) e = absurd (never x xs e)

no_value : {A : Type 0} (o : Option A) → ((x : A) → o ≡ Some x → ⊥) → o ≡ None
no_value o never = by o refl
  where
    by : (p : Option _) → o ≡ p → o ≡ None
    by None e = e
    by (Some x) e = absurd (never x e)

true_never : (b : Bool) → (b ≡ true → ⊥) → b ≡ false
true_never true never = absurd (never refl)
true_never false never = refl

some_is_none : {A : Type 0} (x : A) → ◌≡◌ {A = Option A} None (Some x) → ⊥
some_is_none x e = cc

module _ {K S : Type 0} (s : Opening) (k : SchedSteps K) (m : Machine S) (sched_valid : K → Type 0) (good : S → Type 0) (left : S → ℕ) (scheduler : IsScheduler k sched_valid) (going : GoesOn m good left) where
  abbrev X : Type 0
  X = SessionState K S

  module _ (r : X) (st : Stands s k m sched_valid good left scheduler going r) (still : (e : CoreEvent) → IsBelow e → happens s k m r e ≡ r) where
    abbrev f : FlushPart
    f = r.host.journal.flush

    -- ---- the device has no work left, and takes all that waits for it

    no_transfers : 0 < m.can_transfer r.dev → ⊥
    no_transfers can = no_longer (left (m.transferred r.dev 0)) (left r.dev) (going.transferred r.dev 0 st.holds.dev can) (ap (λ (x : X). left x.dev) (still (events.Transfer 0) transfers))

    no_persists : 0 < m.can_persist r.dev → ⊥
    no_persists can = no_longer (left (m.persisted r.dev 0)) (left r.dev) (going.persisted r.dev 0 st.holds.dev can) (ap (λ (x : X). left x.dev) (still (events.Persist 0) persists))

    idle : left r.dev ≡ 0
    idle = ⊎_elim (λ some. absurd (⊎_elim no_transfers no_persists ((going.progress r.dev st.holds.dev).works some))) (λ few. omega (arith, few)) (cases_lt 0 (left r.dev))

    none_dispatched : r.queues.dispatched ≡ []
    none_dispatched = none_of r.queues.dispatched waits
      where
        waits : (c : Command) (cs : List Command) → r.queues.dispatched ≡ c ∷ cs → ⊥
        waits c cs is =
            let goes : happens s k m r events.Receive ≡ record r { queues = record r.queues { dispatched = cs }; dev = m.received r.dev c } =
            ap (λ b. if b then received m r (given_first r.queues r.queues.dispatched) else r) ((going.progress r.dev st.holds.dev).room idle) ∙ ap (λ l. received m r (given_first r.queues l)) is in
            no_longer (length cs) (length r.queues.dispatched) (let n = ap length is in omega (arith, n)) (ap (λ (x : X). length x.queues.dispatched) (sym goes ∙ still events.Receive receives))

    -- ---- nothing waits in the block layer

    none_kept : r.queues.kept ≡ None
    none_kept = no_value r.queues.kept waits
      where
        waits : (c : Command) → r.queues.kept ≡ Some c → ⊥
        waits c is =
            let goes : happens s k m r (events.Dispatch 0) ≡ record r { queues = record r.queues { kept = None; dispatched = r.queues.dispatched ++ c ∷ [] } } =
            ap (λ o. with_layer r (dispatched_from k (layer_of r) 0 o)) is
            ∙ ap (λ b. record r { queues = if b then record r.queues { kept = None; dispatched = r.queues.dispatched ++ c ∷ [] } else record r.queues { kept = Some c } })
            (lt-ltb (length r.queues.dispatched) r.queues.capacity (let none = ap length none_dispatched in let room = st.queues in omega (arith, none, room))) in
            some_is_none c (ap (λ (x : X). x.queues.kept) (sym goes ∙ still (events.Dispatch 0) dispatches) ∙ is)

    none_waits : length (k.seen r.sched).waiting ≡ 0
    none_waits = ⊎_elim (λ some. absurd (waits some)) (λ few. omega (arith, few)) (cases_lt 0 (length (k.seen r.sched).waiting))
      where
        waits : 0 < length (k.seen r.sched).waiting → ⊥
        waits some =
            let c = next_command k sched_valid scheduler r.sched st.holds.sched some in
            let goes : (happens s k m r (events.Dispatch 0)).sched ≡ k.dispatched r.sched 0 = ap (λ o. (dispatched_from k (layer_of r) 0 o).sched) none_kept in
            no_longer (length (k.seen (k.dispatched r.sched 0)).waiting) (length (k.seen r.sched).waiting) (fewer_wait k sched_valid scheduler r.sched st.holds.sched c.0 c.1)
            (ap (λ p. length (k.seen p).waiting) (sym goes ∙ ap (λ (x : X). x.sched) (still (events.Dispatch 0) dispatches)))

    none_submitted : r.queues.submission ≡ []
    none_submitted = none_of r.queues.submission waits
      where
        waits : (q : Request) (qs : List Request) → r.queues.submission ≡ q ∷ qs → ⊥
        waits q qs is =
            let goes : happens s k m r events.Accept ≡ record r { queues = record r.queues { submission = qs }; sched = k.accepted r.sched q } =
            ap (λ b. with_layer r (if b then accepted_first k (layer_of r) r.queues.submission else layer_of r)) (accepts_again k sched_valid scheduler r.sched st.holds.sched none_waits st.waits)
            ∙ ap (λ l. with_layer r (accepted_first k (layer_of r) l)) is in
            no_longer (length qs) (length r.queues.submission) (let n = ap length is in omega (arith, n)) (ap (λ (x : X). length x.queues.submission) (sym goes ∙ still events.Accept accepts))

    -- ---- each request has completed in the device

    done : (id : ℕ) → id < length f.requests → (c : Completion) × In c (completed (m.seen r.dev)) × (completion_id c ≡ Some id)
    done id low =
        let fits = st.holds.fits.requests in
        let accepted : (k.seen r.sched).accepted ≡ f.requests = sym (append-nil (k.seen r.sched).accepted) ∙ (ap (λ l. (k.seen r.sched).accepted ++ l) (sym none_submitted) ∙ fits.submitted) in
        let took : (k.seen r.sched).sent_out ≡ (m.seen r.dev).took =
        fits.sent
        ∙ (ap (λ o. ((m.seen r.dev).took ++ r.queues.dispatched) ++ option_to_list o) none_kept
        ∙ (append-nil ((m.seen r.dev).took ++ r.queues.dispatched)
        ∙ (ap (λ l. (m.seen r.dev).took ++ l) none_dispatched ∙ append-nil (m.seen r.dev).took))) in
        let q = slice_get-in_range f.requests id low in
        let there = accepted_sent (k.seen r.sched) (scheduler.carries r.sched st.holds.sched) none_waits id q.0 (ap (λ l. slice_get l id) accepted ∙ q.1) in
        let sent = subst (λ i. In i (all_ids (k.seen r.sched).sent_out)) (fits.fitting id q.0 q.1).named there in
        (going.progress r.dev st.holds.dev).done idle id (subst (λ l. In id (all_ids l)) took sent)

    -- ---- all completions were taken

    few : length f.taken ≤ f.limit
    few = taken_few s k m sched_valid good left scheduler going r st

    none_queued : flush_due f ≡ false → r.completions ≡ []
    none_queued due = none_of r.completions waits
      where
        waits : (c : Completion) (cs : List Completion) → r.completions ≡ c ∷ cs → ⊥
        waits c cs is =
            no_longer (length cs) (length r.completions) (let n = ap length is in omega (arith, n))
            (ap (λ (x : X). length x.completions) (sym (takes s k m r c cs is due few) ∙ still events.FlushStep flushes))

    none_back : r.completions ≡ [] → r.kept ≡ None
    none_back empty = no_value r.kept waits
      where
        waits : (c : Completion) → r.kept ≡ Some c → ⊥
        waits c is = some_is_none c (ap (λ (x : X). x.kept) (sym (brings_kept s k m r c is empty st.queues) ∙ still events.Answer answers) ∙ is)

    none_next : r.completions ≡ [] → m.next_answer r.dev ≡ None
    none_next empty = no_value (m.next_answer r.dev) waits
      where
        waits : (c : Completion) → m.next_answer r.dev ≡ Some c → ⊥
        waits c is =
            no_longer (length r.completions) 1 (let none = ap length empty in omega (arith, none))
            (sym (ap (λ (x : X). length x.completions) (sym (brings_next s k m r c (none_back empty) is empty st.queues) ∙ still events.Answer answers)))

    all_told : r.completions ≡ [] → completed (m.seen r.dev) ≡ f.taken
    all_told empty =
        told_is s k m sched_valid good left scheduler going r st
        ∙ (ap (λ l. f.taken ++ (l ++ option_to_list r.kept ++ (m.seen r.dev).waiting)) empty
        ∙ (ap (λ o. f.taken ++ ([] ++ option_to_list o ++ (m.seen r.dev).waiting)) (none_back empty)
        ∙ (ap (λ l. f.taken ++ ([] ++ [] ++ l)) ((going.device.answers r.dev st.holds.dev).1.none (none_next empty))
        ∙ append-nil f.taken)))

    -- a flush that is due goes out below the limit, and once none is, all is done
    none_due : at_limit f ≡ false → flush_due f ≡ true → ⊥
    none_due free due =
        let more = length-append f.requests (record { id = length f.requests; kind = puts.Flush; ordered = true; barrier = true } ∷ []) in
        no_longer (length f.requests) (length (submit_flush f).requests) (omega (arith, more))
        (sym (ap (λ (x : X). length x.host.journal.flush.requests) (sym (sends_flush s k m r due free none_submitted st.queues few) ∙ still events.FlushStep flushes)))

    drained : Matches f → flush_due f ≡ false → IsDrained f
    drained ms none =
        all_drained f ms (λ id low. let c = done id low in (c.0, subst (In c.0) (all_told (none_queued none)) c.1, c.2))
        (λ c i. each_of s k m sched_valid good left scheduler going r st c (taken_told s k m sched_valid good left scheduler going r st c i)) none

  -- the host may go on
  pub record IsSettled (r : X) : Type 0 where
    pub empty : r.queues.submission ≡ []
    -- a flush is due only at the limit
    pub due : at_limit r.host.journal.flush ≡ false → flush_due r.host.journal.flush ≡ false
    pub drained : flush_due r.host.journal.flush ≡ false → IsDrained r.host.journal.flush

  pub settled : (r : X) → Stands s k m sched_valid good left scheduler going r → Matches r.host.journal.flush → ((e : CoreEvent) → IsBelow e → happens s k m r e ≡ r) → IsSettled r
  settled r st ms still = record { empty = none_submitted r st still; due = λ free. true_never (flush_due r.host.journal.flush) (none_due r st still free); drained = drained r st still ms }
