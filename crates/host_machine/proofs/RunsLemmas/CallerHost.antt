-- A caller's whole step keeps the order rules, the ring's facts and the facts of all begun calls; and each Ok keeps
-- the order rule of such calls.
use Rattle.std.proofs.Common.{sym, ap, subst, ◌∙◌, inl, inr, arith}
use Rattle.std.proofs.lemmas.Bool.{false≢true}
use Rattle.std.proofs.lemmas.Option.{none-some, same_Some}
use Rattle.std.specs.List.{filter, list_any}
use Rattle.std.specs.Prelude.{◌≡◌, ℕ, ◌+◌, ◌-◌, ◌<◌, ◌==◌, ◌&&◌, ◌||◌, ◌⊎◌, Bool, true, false, not, List, [], ◌∷◌, ◌++◌, length, set, Option, Some, None, is_none, slice_get, nat_lt, IsTrue, refl, if◌then◌else◌}
use Rattle.blk_base.specs.laws.Members.{slice_get-length}
use Rattle.order_model.specs.declared.note.Note.TheVariants as notes
use Rattle.order_model.specs.declared.request.Kind.TheVariants as puts
use Rattle.order_model.specs.declared.request.Request.{Request}
use Rattle.log_model.specs.Marks.{Transaction}
use Rattle.page_cache.specs.Pages.{put_page, marked}
use Rattle.page_cache.specs.declared.cached_page.CachedPage.{CachedPage}
use Rattle.page_cache.specs.declared.cached_page.PageState.TheVariants.{Firm}
use Rattle.crash_laws.specs.History.{History, HasTrees}
use Rattle.crash_laws.specs.Session.{Session}
use Rattle.crash_laws.specs.laws.Submitting.{after}
use Rattle.host_machine.proofs.CallSteps.{change_keeps, quiet_keeps, unanswered_quiet}
use Rattle.host_machine.proofs.Entries.{length_new, entry_noted, trees_noted}
use Rattle.host_machine.proofs.Machine.{plain_at}
use Rattle.host_machine.proofs.Sends.{plainly}
use Rattle.host_machine.proofs.Steps.{enough, advance_keeps}
use Rattle.host_machine.specs.laws.Choices.{either}
use Rattle.host_machine.specs.Causes as causes
use Rattle.host_machine.specs.Causes.{Cause}
use Rattle.host_machine.specs.Host.{Stepped, Goal, AwaitCommit, AnswerOk, AwaitLastPut, unsent_on, goal_of, data_goal, end_call, end_with, set_wait, set_thread, wanting, send_page, change, hindrance, hindered, plain, listed, begin, await_durable, await_last_put, await_commit, pursue, walk_pages, continue_begun, step_call, step_thread, advance, stop_of, dropped_pages, written_pages}
use Rattle.host_machine.specs.Model.{Freed}
use Rattle.host_machine.specs.Outcomes as outcomes
use Rattle.host_machine.specs.State.{Ending, Answered, SessionFull, Begins, Ends, Entry, Begun, Thread, Host}
use Rattle.commit_actor.specs.Journal.{Plan, Committing, is_submitted, latest_change}
use Rattle.flush_actor.specs.Kinds.{is_begun, is_data, is_durable}
use Rattle.flush_actor.specs.Part.{at_limit, is_flushed_after, flush_above, last_put}
use Rattle.flush_actor.specs.Waits.{no_wait}
use Rattle.flush_actor.specs.declared.call_kind.CallKind.{CallKind}
use Rattle.flush_actor.specs.declared.call_kind.CallKind.TheVariants.{Reading, Changing, FileBarrier, DataBarrier, FileSync, DataSync, WholeSync}
use Rattle.flush_actor.specs.declared.wait.Wait.{Wait}
use Rattle.host_machine.specs.laws.Contract.{Over, view_of, Contract, noted_history, InPlan, InPhase, session}
use Rattle.host_machine.specs.laws.Facts.{IsPlain, PagesMapped}
use Rattle.host_machine.specs.laws.Rules.{AllRules}
use Rattle.host_machine.proofs.RunsLemmas.BuildHost.{entry_rules}
use Rattle.host_machine.proofs.RunsLemmas.CallGoals.{ChangedListed, last_put_is_place}
use Rattle.host_machine.proofs.RunsLemmas.CallHost.{wait_In, wait_at, all_sent, all_grow, all_set, all_wait, all_thread, change_keeps_unsent}
use Rattle.host_machine.proofs.RunsLemmas.CallMoves.{unsent_on-some, begins, call_walks}
use Rattle.host_machine.proofs.RunsLemmas.CallOk.{step_ok, target_needs, flush_needs, goal_has_target}
use Rattle.host_machine.proofs.RunsLemmas.CallSteps.{same_pages}
use Rattle.host_machine.proofs.RunsLemmas.FlushFacts.{other_pushed, wait_set, sync_begins, need_opens_none, entry_counted}
use Rattle.host_machine.proofs.RunsLemmas.RulesHost.{page_keeps}
use Rattle.host_machine.specs.runs.Promises.{KeepsOk}
use Rattle.host_machine.specs.runs.laws.CallFacts.{CallFacts, wait_of, AllCalls}
use Rattle.host_machine.specs.runs.laws.FlushFacts.{FlushFacts, is_open}
use Rattle.host_machine.specs.runs.laws.Kept.{Calls, Flushes, KeepsRules}
use Rattle.host_machine.specs.runs.laws.RingFacts.{RingKept}

module _ {A T V C R : Type 0} {o : Over A T V C R} {Stands : V → T → Type 0} (contract : Contract o Stands) (txs : List Transaction) (N : ℕ) where
  -- the rules and the ring's facts, without those of images; and all calls
  pub record KeepsCalls (x : Host V C R) : Type 0 where
    pub rules : AllRules o.program (noted_history o Stands x.history x.cuts) (session o Stands txs x)
    pub ring : RingKept (session o Stands txs x) x.journal.ring N x.journal.phase
    pub calls : Calls contract txs N x
    pub flushes : Flushes contract txs N x

  abbrev Kept : Stepped V C R → Type 0
  Kept x = KeepsCalls x.host

  module _ (s : Host V C R) (kept : KeepsRules contract s txs N) (calls : Calls contract txs N s) (flushes : Flushes contract txs N s) where
    abbrev h : History A
    h = noted_history o Stands s.history s.cuts

    abbrev sess : Session
    sess = session o Stands txs s

    abbrev r : ℕ
    r = s.journal.running.number

    trees : HasTrees h
    trees = trees_noted o.model contract.trees o.place s.history s.cuts kept.images.0.rise

    stays : KeepsCalls s
    stays = record { rules = kept.rules; ring = kept.ring; calls = calls; flushes = flushes }

    -- the transactions on their way list what they changed
    pub listed_now : ChangedListed h s.journal N
    listed_now = record {
      running = kept.images.0.altered.listed;
      plan = λ p at f ch.
          let x = in_plan p at in
          let on = x.on_way in
          let e : N + 1 ≡ r - 1 = omega arith in
          x.listed f (ap (λ k. h.changes k f) (sym e) ∙ ch);
      idle = λ at. subst (InPhase o Stands s.history s.cuts sess r N) at kept.images.0.in_phase;
      closing = λ at. subst (InPhase o Stands s.history s.cuts sess r N) at kept.images.0.in_phase;
      committing = λ p at. (in_plan p at).on_way;
    }
      where
        in_plan : (p : Plan) → s.journal.phase ≡ Committing p → InPlan o Stands s.history s.cuts sess r N p
        in_plan p at = subst (InPhase o Stands s.history s.cuts sess r N) at kept.images.0.in_phase

    -- ---- an entry that changes no page; the call of thread t ends

    module _ (t : ℕ) (c : C) (rest : List C) (there : t < length s.threads) where
      ends : (ending : Ending R) → KeepsCalls (end_call o.model o.setup s t c rest ending)
      ends ending =
          let e : Entry C R = record { thread = t; call = c; what = Ends ending } in
          let noted = entry_noted o.model s.history e o.place s.cuts r kept.images.0.closed kept.images.0.numbers.cuts in
          let grown = all_grow noted kept.images.0.numbers (same_pages noted kept.images.0.numbers s.pages) calls in
          record {
            rules = entry_rules contract s txs N kept e;
            ring = kept.ring;
            calls =
                subst (λ n. AllCalls (noted_history o Stands (s.history ++ e ∷ []) s.cuts) sess s.pages n r (set s.threads t (record { calls = rest; begun = None })) (set s.journal.flush.waits t no_wait)) (sym (length_new o.model s.history e))
                (all_set t (record { calls = rest; begun = None }) no_wait there (λ b k. absurd (none-some b k)) (λ k. refl) grown);
            flushes = wait_set (entry_counted flushes e) t no_wait (λ v k x. absurd (false≢true x)) (λ id x. absurd (none-some id x));
          }

      -- ---- a begun call

      module _ (th : Thread C) (b : Begun) (at : slice_get s.threads t ≡ Some th) (begun : th.begun ≡ Some b) where
        abbrev w : Wait
        w = wait_of s.journal.flush.waits t

        facts : CallFacts h sess s.pages (length s.history) r b w
        facts = calls.each t th b at begun

        waits_on : (v : Wait) → (is_open s.journal.flush.notes v ≡ true → is_open s.journal.flush.notes w ≡ true) → ((id : ℕ) → v.need ≡ Some id → (id < length s.journal.flush.notes) × (is_durable v.kind ≡ true))
            → CallFacts h sess s.pages (length s.history) r b v → KeepsCalls (set_wait o.model o.setup s t v)
        waits_on v opens needs new = record {
          flushes = wait_set flushes t v (λ x k e. let same = wait_at s.journal.flush.waits t x k in subst (λ y. is_open s.journal.flush.notes y ≡ true) same (opens e)) needs;
          rules = kept.rules;
          ring = kept.ring;
          calls = all_wait t v there
              (λ x y e k. subst (λ z. CallFacts h sess s.pages (length s.history) r z v) (same_Some b y (sym begun ∙ ap (λ (z : Thread C). z.begun) (same_Some th x (sym at ∙ e)) ∙ k)) new)
              (λ x e k. absurd (none-some b (sym k ∙ sym (ap (λ (z : Thread C). z.begun) (same_Some th x (sym at ∙ e))) ∙ begun))) calls;
        }

        need_calls : (id : ℕ) → (w.need ≡ None) ⊎ (w.need ≡ Some id) → (id < length s.journal.flush.notes) × (is_durable w.kind ≡ true) → CallFacts h sess s.pages (length s.history) r b (record w { need = Some id }) → Kept (await_durable o.model o.setup s t c rest w id)
        need_calls id fresh needs new =
            either Kept (list_any (is_flushed_after id) s.journal.flush.taken) _ _ (λ e. ends (Answered o.model.ok))
            (λ e. either Kept (at_limit s.journal.flush && not (flush_above id 0 s.journal.flush.notes)) _ _ (λ e. ends SessionFull) (λ e. waits_on (record w { need = Some id }) (need_opens_none s.journal.flush.notes id w fresh) (λ i q. let same = same_Some id i q in let lt = needs.0 in (omega arith, needs.1)) new))

        last_put_calls : w.need ≡ None → is_durable w.kind ≡ true → ((id : ℕ) → last_put 0 s.journal.flush.notes None ≡ Some id → CallFacts h sess s.pages (length s.history) r b (record w { need = Some id })) → Kept (await_last_put o.model o.setup s t c rest w)
        last_put_calls no_need durable new = by (last_put 0 s.journal.flush.notes None) refl
          where
            by : (x : Option ℕ) → last_put 0 s.journal.flush.notes None ≡ x → Kept (elim x as (λ _. Stepped V C R) [ None ↦ end_with o.model o.setup s t c rest (Answered o.model.ok) | Some id ↦ await_durable o.model o.setup s t c rest w id ])
            by None e = ends (Answered o.model.ok)
            by (Some id) e = need_calls id (inl no_need) (last_put_is_place s.journal.flush.notes id e, durable) (new id e)

        target_calls : (k : ℕ) → w.need ≡ None → w.target ≡ Some k → Kept (await_commit o.model o.setup s t c rest w k)
        target_calls k no_need target =
            either Kept (is_submitted s.journal k) _ _
            (λ e. either Kept (is_durable w.kind) _ _
            (λ d. last_put_calls no_need d (λ id last. target_needs o.model o.setup s w refl trees kept.rules.order.commits kept.images.0.numbers listed_now facts k id target e last))
            (λ d. ends (Answered o.model.ok)))
            (λ e. either Kept (at_limit s.journal.flush) _ _ (λ e. ends SessionFull) (λ e. stays))

        module _ (no_target : w.target ≡ None) (no_need : w.need ≡ None) where
          to_commit : (k : ℕ) → unsent_on s.pages b.list ≡ None → goal_of s.journal b ≡ AwaitCommit k → Kept (pursue o.model o.setup s t c rest w (AwaitCommit k))
          to_commit k passed goal =
              let new = goal_has_target o.model o.setup s w refl trees kept.rules.order.commits kept.images.0.numbers listed_now facts t c rest no_target no_need passed k goal in
              either Kept (at_limit s.journal.flush) _ _ (λ e. ends SessionFull) (λ e. by (k == s.journal.running.number) (waits_on (record w { target = Some k }) (λ x. x) (λ id x. absurd (none-some id (sym no_need ∙ x))) new))
            where
              by : (x : Bool) → KeepsCalls (set_wait o.model o.setup s t (record w { target = Some k })) → KeepsCalls (if x then wanting o.model o.setup (set_wait o.model o.setup s t (record w { target = Some k })) else set_wait o.model o.setup s t (record w { target = Some k }))
              by true k = record { rules = k.rules; ring = k.ring; calls = k.calls; flushes = k.flushes }
              by false k = k

          -- where the goal is the last put, it is a data sync without a target
          flush_goal : goal_of s.journal b ≡ AwaitLastPut → (b.kind ≡ DataSync) × (latest_change s.journal b.file ≡ None)
          flush_goal e = by (is_data b.kind) (latest_change s.journal b.file) refl e
            where
              of_kind : (k : CallKind) (x : Bool) → data_goal k x r ≡ AwaitLastPut → k ≡ DataSync
              of_kind DataSync x q = refl
              of_kind DataBarrier true q = absurd (let z : ⊥ = cc in z)
              of_kind DataBarrier false q = absurd (let z : ⊥ = cc in z)
              of_kind Reading true q = absurd (let z : ⊥ = cc in z)
              of_kind Reading false q = absurd (let z : ⊥ = cc in z)
              of_kind Changing true q = absurd (let z : ⊥ = cc in z)
              of_kind Changing false q = absurd (let z : ⊥ = cc in z)
              of_kind FileBarrier true q = absurd (let z : ⊥ = cc in z)
              of_kind FileBarrier false q = absurd (let z : ⊥ = cc in z)
              of_kind FileSync true q = absurd (let z : ⊥ = cc in z)
              of_kind FileSync false q = absurd (let z : ⊥ = cc in z)
              of_kind WholeSync true q = absurd (let z : ⊥ = cc in z)
              of_kind WholeSync false q = absurd (let z : ⊥ = cc in z)

              by : (x : Bool) (l : Option ℕ) → latest_change s.journal b.file ≡ l → (if x then elim l as (λ _. Goal) [ Some k ↦ AwaitCommit k | None ↦ data_goal b.kind b.sent_barrier r ] else AwaitCommit r) ≡ AwaitLastPut → (b.kind ≡ DataSync) × (latest_change s.journal b.file ≡ None)
              by true None l q = (of_kind b.kind b.sent_barrier q, l)
              by true (Some k) l q = absurd (let z : ⊥ = cc in z)
              by false l0 l q = absurd (let z : ⊥ = cc in z)

          goal_calls : unsent_on s.pages b.list ≡ None → (g : Goal) → goal_of s.journal b ≡ g → Kept (pursue o.model o.setup s t c rest w g)
          goal_calls passed AnswerOk e = ends (Answered o.model.ok)
          goal_calls passed AwaitLastPut e =
              let f = flush_goal e in
              last_put_calls no_need (ap is_durable (facts.kind ∙ f.0)) (λ id last. flush_needs o.model o.setup s w refl trees kept.rules.order.commits kept.images.0.numbers listed_now facts t c rest no_target no_need passed id f.0 f.1 last)
          goal_calls passed (AwaitCommit k) e = to_commit k passed e

          walks : (next : CachedPage × List (ℕ × ℕ)) → unsent_on s.pages b.list ≡ Some next
              → KeepsCalls (set_thread o.model o.setup (send_page o.model o.setup s next.0 true (is_data b.kind && is_none (unsent_on s.pages next.1))) t (record { calls = c ∷ rest; begun = Some (record b { list = next.1; sent_barrier = b.sent_barrier || (is_data b.kind && is_none (unsent_on s.pages next.1)) }) }))
          walks next e =
              let is_next = unsent_on-some s.pages b.list next.0 next.1 e in
              let barrier = is_data b.kind && is_none (unsent_on s.pages next.1) in
              let q : Request = record { id = length s.journal.flush.requests; kind = puts.Put next.0.block next.0.body; ordered = true; barrier = barrier } in
              let p = plainly sess kept.images.0.counted q (notes.Page next.0.birth next.0.index next.0.version) in
              let rules = page_keeps contract s txs N kept next.0 true barrier is_next.there in
              let others = all_sent p kept.images.0.mapped next.0 is_next.there refl Firm (λ e. refl) calls in
              let own = call_walks p s.pages kept.images.0.mapped next.0 is_next.there refl r b w next.1 barrier is_next refl (last next) no_target no_need facts in
              record {
                rules = rules.rules;
                ring = rules.ring;
                flushes = other_pushed flushes (notes.Page next.0.birth next.0.index next.0.version) refl;
                calls = all_thread t (record { calls = c ∷ rest; begun = Some (record b { list = next.1; sent_barrier = b.sent_barrier || barrier }) }) there
                    (λ x k. subst (λ y. CallFacts h (after p) (put_page s.pages (marked next.0 Firm)) (length s.history) r y w) (same_Some (record b { list = next.1; sent_barrier = b.sent_barrier || barrier }) x k) own) (λ k. none-some (record b { list = next.1; sent_barrier = b.sent_barrier || barrier }) (sym k)) others;
              }
            where
              none_of : (x : Option (CachedPage × List (ℕ × ℕ))) → is_none x ≡ true → x ≡ None
              none_of None e = refl
              none_of (Some y) e = absurd (false≢true e)

              second : (x y : Bool) → (x && y) ≡ true → y ≡ true
              second true y e = e
              second false y e = absurd (false≢true e)

              last : (next : CachedPage × List (ℕ × ℕ)) → (is_data b.kind && is_none (unsent_on s.pages next.1)) ≡ true → (unsent_on s.pages next.1 ≡ None) × IsTrue ((is_data b.kind && is_none (unsent_on s.pages next.1)) || false)
              last next e = (none_of (unsent_on s.pages next.1) (second (is_data b.kind) (is_none (unsent_on s.pages next.1)) e), ap (λ x. x || false) e)

          walk_calls : (full : Bool) → Kept (walk_pages o.model o.setup full s t c rest w b)
          walk_calls full = by (unsent_on s.pages b.list) refl
            where
              by : (x : Option (CachedPage × List (ℕ × ℕ))) → unsent_on s.pages b.list ≡ x → Kept (elim x as (λ _. Stepped V C R) [
                | None ↦ pursue o.model o.setup s t c rest w (goal_of s.journal b)
                | Some next ↦
                    if at_limit s.journal.flush then end_with o.model o.setup s t c rest SessionFull
                    else if full then record { host = s; step = outcomes.Waiting causes.QueueFull }
                    else record {
                      host = set_thread o.model o.setup (send_page o.model o.setup s next.0 true (is_data b.kind && is_none (unsent_on s.pages next.1))) t (record { calls = c ∷ rest; begun = Some (record b { list = next.1; sent_barrier = b.sent_barrier || (is_data b.kind && is_none (unsent_on s.pages next.1)) }) });
                      step = outcomes.Sent (length s.journal.flush.requests);
                    }
              ])
              by None e = goal_calls e (goal_of s.journal b) refl
              by (Some next) e = either Kept (at_limit s.journal.flush) _ _ (λ e. ends SessionFull) (λ d. either Kept full _ _ (λ e. stays) (λ d. walks next e))

        -- A step of a begun call keeps all begun calls.
        pub begun_calls : (full : Bool) → Kept (continue_begun o.model o.setup full s t c rest w b)
        begun_calls full = by w.need refl w.target refl
          where
            by : (x : Option ℕ) → w.need ≡ x → (y : Option ℕ) → w.target ≡ y → Kept (elim x as (λ _. Stepped V C R) [ Some id ↦ await_durable o.model o.setup s t c rest w id | None ↦ elim y as (λ _. Stepped V C R) [ Some k ↦ await_commit o.model o.setup s t c rest w k | None ↦ walk_pages o.model o.setup full s t c rest w b ] ])
            by (Some id) e y f = need_calls id (inr e) (let c = calls.counted in flushes.needed w (wait_In s.journal.flush.waits t (omega arith)) id e) (same_need id e)
              where
                same_need : (id : ℕ) → w.need ≡ Some id → CallFacts h sess s.pages (length s.history) r b (record w { need = Some id })
                same_need id e = subst (λ n. CallFacts h sess s.pages (length s.history) r b (record { kind = w.kind; target = w.target; need = n })) e facts
            by None e (Some k) f = target_calls k e f
            by None e None f = walk_calls f e full

        -- And where it answers Ok, the call's order rule holds.
        pub begun_ok : (full : Bool) → (continue_begun o.model o.setup full s t c rest w b).step ≡ outcomes.Done o.model.ok → KeepsOk h sess s.journal.flush.taken (length s.history + 1) b
        begun_ok full e = let same = calls.counted in step_ok o.model o.setup s w refl trees kept.rules.order.commits kept.images.0.numbers listed_now facts full t c rest (λ id q. ap is_durable (sym facts.kind) ∙ (flushes.needed w (wait_In s.journal.flush.waits t (omega arith)) id q).1) e

    -- ---- a call begins

    begins_calls : (t : ℕ) (c : C) (rest : List C) → t < length s.threads → Kept (begin o.model o.setup s t c rest)
    begins_calls t c rest there =
        let e : Entry C R = record { thread = t; call = c; what = Begins } in
        let noted = entry_noted o.model s.history e o.place s.cuts r kept.images.0.closed kept.images.0.numbers.cuts in
        let grown = all_grow noted kept.images.0.numbers (same_pages noted kept.images.0.numbers s.pages) calls in
        let images = quiet_keeps contract refl refl e (unanswered_quiet contract s.history e refl) kept.images.0 in
        let more_trees = trees_noted o.model contract.trees o.place (s.history ++ e ∷ []) s.cuts images.rise in
        let plain = plain_at contract (s.history ++ e ∷ []) s.cuts sess s.volume (length (s.history ++ e ∷ [])) refl refl images.stands in
        let b : Begun = record { begin = length s.history + 1; kind = o.model.kind c; file = o.model.node s.volume c; list = listed o.model o.setup s.pages (o.model.kind c) (o.model.node s.volume c); sent_barrier = false } in
        let v : Wait = record { kind = o.model.kind c; target = None; need = None } in
        let new = begins more_trees plain s.pages images.mapped images.sent b v (sym (length_new o.model s.history e)) refl refl refl refl refl r in
        record {
          rules = entry_rules contract s txs N kept e;
          ring = kept.ring;
          flushes = begun_flushes (is_durable (o.model.kind c)) refl;
          calls =
              all_set t (record { calls = c ∷ rest; begun = Some b }) v there
              (λ x k. subst (λ y. CallFacts (noted_history o Stands (s.history ++ e ∷ []) s.cuts) sess s.pages (length (s.history ++ e ∷ [])) r y v) (same_Some b x k) new) (λ k. absurd (none-some b (sym k)))
              (subst (λ n. AllCalls (noted_history o Stands (s.history ++ e ∷ []) s.cuts) sess s.pages n r s.threads s.journal.flush.waits) (sym (length_new o.model s.history e)) grown);
        }
      where
        begun_flushes : (x : Bool) → is_durable (o.model.kind c) ≡ x → FlushFacts o.model.kind s.journal.flush.notes (set s.journal.flush.waits t (record { kind = o.model.kind c; target = None; need = None })) (s.history ++ record { thread = t; call = c; what = Begins } ∷ [])
        begun_flushes true e = sync_begins flushes (record { thread = t; call = c; what = Begins }) t (record { kind = o.model.kind c; target = None; need = None }) e refl
        begun_flushes false e =
            wait_set (entry_counted flushes (record { thread = t; call = c; what = Begins })) t (record { kind = o.model.kind c; target = None; need = None })
            (λ v k x. absurd (false≢true (sym (ap (λ d. d && true) e) ∙ x))) (λ id x. absurd (none-some id x))

    -- ---- a plain call

    changes : (t : ℕ) (c : C) (rest : List C) → t < length s.threads → o.model.reply s.volume c ≡ None → is_begun (o.model.kind c) ≡ false → hindrance o.model o.setup s c ≡ None
        → KeepsCalls (end_call o.model o.setup (change o.model o.setup s c (o.model.apply s.volume (length s.history + 1) s.journal.running.number c)) t c rest (Answered (o.model.apply s.volume (length s.history + 1) s.journal.running.number c).reply))
    changes t c rest there accepted plain free =
        let a = o.model.apply s.volume (length s.history + 1) s.journal.running.number c in
        let e : Entry C R = record { thread = t; call = c; what = Ends (Answered a.reply) } in
        let es = s.history ++ e ∷ [] in
        let noted = entry_noted o.model s.history e o.place s.cuts r kept.images.0.closed kept.images.0.numbers.cuts in
        let images = (change_keeps contract s txs N t c rest kept.images accepted plain (enough o.model o.setup s c free)).0 in
        let old = plain_at contract s.history s.cuts sess s.volume (length s.history) refl refl kept.images.0.stands in
        let next = length_new o.model s.history e in
        let new = subst (λ n. IsPlain o.program (noted_history o Stands es s.cuts) sess n (view_of o a.volume)) next (plain_at contract es s.cuts sess a.volume (length es) refl refl images.stands) in
        let ps = written_pages o.model o.setup a.volume (length s.history + 1) (dropped_pages o.model o.setup s.pages a.touched.dropped) a.touched.pages in
        let mapped = subst (λ n. PagesMapped (noted_history o Stands es s.cuts) n (view_of o a.volume) ps) next images.mapped in
        let keeps = change_keeps_unsent o.model o.setup noted kept.images.0.numbers old new s.pages a.volume a.touched.dropped a.touched.pages kept.images.0.mapped mapped in
        let grown = all_grow noted kept.images.0.numbers keeps calls in
        record {
          rules = entry_rules contract s txs N kept e;
          ring = kept.ring;
          flushes = wait_set (entry_counted flushes e) t no_wait (λ v k x. absurd (false≢true x)) (λ id x. absurd (none-some id x));
          calls =
              subst (λ n. AllCalls (noted_history o Stands es s.cuts) sess ps n r (set s.threads t (record { calls = rest; begun = None })) (set s.journal.flush.waits t no_wait)) (sym next)
              (all_set t (record { calls = rest; begun = None }) no_wait there (λ b k. absurd (none-some b k)) (λ k. refl) grown);
        }

    wants : KeepsCalls (wanting o.model o.setup s)
    wants = record { rules = kept.rules; ring = kept.ring; calls = calls; flushes = flushes }

    hindered_calls : (cause : Cause) → KeepsCalls (hindered o.model o.setup s cause)
    hindered_calls causes.Closing = stays
    hindered_calls (causes.TxFull n) = wants
    hindered_calls (causes.Quarantine n) = either KeepsCalls (nat_lt (length (filter (λ (z : Freed). nat_lt z.transaction s.journal.running.number) (o.model.zones s.volume).waiting)) n) (wanting o.model o.setup s) s (λ e. wants) (λ e. stays)
    hindered_calls (causes.Conflict b k) = stays
    hindered_calls (causes.Commit k) = stays
    hindered_calls (causes.Durable k) = stays
    hindered_calls causes.QueueFull = stays

    plain_calls : (t : ℕ) (c : C) (rest : List C) → t < length s.threads → o.model.reply s.volume c ≡ None → is_begun (o.model.kind c) ≡ false → Kept (plain o.model o.setup s t c rest)
    plain_calls t c rest there accepted not_begun = by (hindrance o.model o.setup s c) refl
      where
        by : (x : Option Cause) → hindrance o.model o.setup s c ≡ x → Kept (elim x as (λ _. Stepped V C R) [
          | Some cause ↦ if at_limit s.journal.flush then end_with o.model o.setup s t c rest SessionFull else record { host = hindered o.model o.setup s cause; step = outcomes.Waiting cause }
          | None ↦ end_with o.model o.setup (change o.model o.setup s c (o.model.apply s.volume (length s.history + 1) s.journal.running.number c)) t c rest (Answered (o.model.apply s.volume (length s.history + 1) s.journal.running.number c).reply)
        ])
        by None e = changes t c rest there accepted not_begun e
        by (Some cause) e = either Kept (at_limit s.journal.flush) _ _ (λ e. ends t c rest there SessionFull) (λ e. hindered_calls cause)

    -- ---- a caller's step

    call_calls : (full : Bool) (t : ℕ) (th : Thread C) (c : C) (rest : List C) → slice_get s.threads t ≡ Some th → Kept (step_call o.model o.setup full s t th.begun c rest)
    call_calls full t th c rest at = by th.begun refl
      where
        there : t < length s.threads
        there = slice_get-length s.threads t th at

        second : (x : Option R) → o.model.reply s.volume c ≡ x → (y : Bool) → is_begun (o.model.kind c) ≡ y
            → Kept (elim x as (λ _. Stepped V C R) [ Some refusal ↦ end_with o.model o.setup s t c rest (Answered refusal) | None ↦ if y then begin o.model o.setup s t c rest else plain o.model o.setup s t c rest ])
        second (Some refusal) e y f = ends t c rest (slice_get-length s.threads t th at) (Answered refusal)
        second None e true f = begins_calls t c rest (slice_get-length s.threads t th at)
        second None e false f = plain_calls t c rest (slice_get-length s.threads t th at) e f

        by : (x : Option Begun) → th.begun ≡ x → Kept (step_call o.model o.setup full s t x c rest)
        by (Some b) e = begun_calls t c rest (slice_get-length s.threads t th at) th b at e full
        by None e = second (o.model.reply s.volume c) refl (is_begun (o.model.kind c)) refl

    thread_calls : (full : Bool) (t : ℕ) (th : Thread C) → slice_get s.threads t ≡ Some th → (cs : List C) → Kept (step_thread o.model o.setup full s t th.begun cs)
    thread_calls full t th at [] = stays
    thread_calls full t th at (c ∷ rest) = by (stop_of o.model o.setup s.journal.flush.taken (o.model.kind c))
      where
        by : (x : Option (Ending R)) → Kept (elim x as (λ _. Stepped V C R) [ Some stop ↦ end_with o.model o.setup s t c rest stop | None ↦ step_call o.model o.setup full s t th.begun c rest ])
        by (Some stop) = ends t c rest (slice_get-length s.threads t th at) stop
        by None = call_calls full t th c rest at

    pub advance_calls : (full : Bool) (t : ℕ) → Kept (advance o.model o.setup full s t)
    advance_calls full t = by (slice_get s.threads t) refl
      where
        by : (x : Option (Thread C)) → slice_get s.threads t ≡ x → Kept (elim x as (λ _. Stepped V C R) [ None ↦ record { host = s; step = outcomes.Ended } | Some th ↦ step_thread o.model o.setup full s t th.begun th.calls ])
        by None e = stays
        by (Some th) e = thread_calls full t th e th.calls

    -- with the facts of images
    pub advance_rules : (full : Bool) (t : ℕ) → ((th : Thread C) (c : C) (rest : List C) (x : Begun) → slice_get s.threads t ≡ Some th → th.calls ≡ c ∷ rest → th.begun ≡ Some x → is_begun (o.model.kind c) ≡ true)
        → KeepsRules contract (advance o.model o.setup full s t).host txs N × Calls contract txs N (advance o.model o.setup full s t).host × Flushes contract txs N (advance o.model o.setup full s t).host
    advance_rules full t begun_kinds =
        let x = advance_calls full t in
        (record { rules = x.rules; images = (advance_keeps contract txs N s (kept.images, record { order = kept.rules.order; pages = kept.rules.pages; committed = kept.rules.committed }) full t begun_kinds).0; ring = x.ring }, x.calls, x.flushes)
