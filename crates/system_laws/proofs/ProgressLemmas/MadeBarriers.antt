-- In sessions on images that were made: a barrier call that has begun sends its pages, waits for its transaction, and is answered.
use Rattle.std.specs.Prelude.{◌≡◌, ◌⊎◌, ℕ, zero, suc, ◌+◌, ◌==◌, ◌&&◌, ◌||◌, ◌<◌, ◌≤◌, Bool, true, false, List, [], ◌∷◌, ◌++◌, length, map, replicate, set, is_none, Option, option_map, Some, None, slice_get, slice_index_or, refl, if◌then◌else◌}
use Rattle.std.proofs.lemmas.List.{append-nil, append_assoc, length-map}
use Rattle.std.proofs.lemmas.Bool.{cases_Bool}
use Rattle.std.proofs.lemmas.Option.{none-some, same_Some, slice_get-map}
use Rattle.std.proofs.Common.{sym, ap, subst, ◌∙◌, inl, inr, arith}
use Rattle.blk_base.specs.laws.Members.{slice_get-length, slice_get-push, slice_get-set_same}
use Rattle.minix_layout.specs.declared.division.Geometry.{Geometry}
use Rattle.minix_layout.specs.declared.limits.TheConstants.{LEAST_JOURNAL, MOST_JOURNAL}
use Rattle.minix_layout.specs.Geometry.{IsSound}
use Rattle.line_grammar.specs.calls.WellFormed.{IsWellFormed}
use Rattle.tree_model.specs.declared.call.Call.{Call}
use Rattle.tree_model.specs.declared.call.Call.TheVariants as calls
use Rattle.tree_model.specs.declared.call.Reply.{Reply}
use Rattle.tree_model.specs.declared.call.Reply.TheVariants as replies
use Rattle.page_cache.specs.Pages.{page_at, is_unsent}
use Rattle.page_cache.specs.declared.cached_page.CachedPage.{CachedPage}
use Rattle.volume_steps.specs.Now.{VolumeNow}
use Rattle.volume_steps.specs.Plain.{IsPlainNow}
use Rattle.volume_steps.specs.NewNow.{new_now}
use Rattle.flush_actor.specs.Kinds.{is_begun, is_data, is_durable}
use Rattle.flush_actor.specs.Part.{is_over, at_limit}
use Rattle.flush_actor.specs.Waits.{no_wait}
use Rattle.flush_actor.specs.declared.call_kind.CallKind.{CallKind}
use Rattle.flush_actor.specs.declared.call_kind.CallKind.TheVariants as kinds
use Rattle.flush_actor.specs.declared.wait.Wait.{Wait}
use Rattle.commit_actor.specs.Journal.{JournalPart, is_submitted, latest_change}
use Rattle.host_machine.specs.Host.{Stepped, Goal, AwaitCommit, AnswerOk, AwaitLastPut, unsent_on, goal_of, data_goal, set_wait, set_thread, send_page, end_with, pursue, walk_pages, advance, begin, plain, step_call, wanting}
use Rattle.host_machine.specs.State as machine
use Rattle.host_machine.specs.State.{Answered, SessionFull, Begun, Thread, Host}
use Rattle.host_machine.specs.laws.Contract.{Over}
use Rattle.host_machine.specs.runs.Runs.{Event, Call as CallStep, Commit}
use Rattle.crash_laws.specs.Volumes.{WalkEnd}
use Rattle.minix_host.specs.ByteCalls.{ByteCall, HasBytes}
use Rattle.minix_host.specs.PlainTrees.{PlainTree}
use Rattle.minix_host.specs.Runs.{host_after}
use Rattle.call_sessions.specs.CallsAs.{thread_as}
use Rattle.call_sessions.specs.Sessions.{call_over, made_now, made_ring, plain_call, plain_host}
use Rattle.call_sessions.specs.power_cuts.calls.CallImages.{made_session}
use Rattle.call_sessions.specs.promises.Entries.{EndsAt}
use Rattle.call_sessions.proofs.PromisesLemmas.Origins.{steps_append}
use Rattle.system_laws.specs.progress.Commits.{IsUnderWay, IsHeldBack, IsNext, IsInBarrier, IsBarrierWaiting, host_moves, BarrierOutcome, answered, session_full, held_back}
use Rattle.system_laws.specs.transaction_size.Sizes.{HaveLines}
use Rattle.system_laws.proofs.MadeSession as opened
use Rattle.system_laws.proofs.ProgressLemmas.MadeProgress.{barrier_answered}
use Rattle.system_laws.proofs.ProgressLemmas.Targets.{IsFor, AreFor, none_for, steps_for, waits_for}
use Rattle.system_laws.proofs.ProgressLemmas.BegunSteps.{in_call}
use Rattle.system_laws.proofs.ProgressLemmas.Waiting.{starts, sends}
use Rattle.system_laws.proofs.TransactionSizeLemmas.Hosts.{IsKept}
use Rattle.system_laws.proofs.TransactionSizeLemmas.MadeShare as made

-- no thread waits yet
none_yet : {X : Type 0} (ps : List X) (u : ℕ) → IsFor 1 false (slice_index_or (map (λ (p : X). no_wait) ps) u no_wait)
none_yet [] u = none_for 1 false
none_yet (p ∷ ps) zero = none_for 1 false
none_yet (p ∷ ps) (suc u) = none_yet ps u

set_here : (ws : List Wait) (t : ℕ) (w : Wait) → t < length ws → slice_index_or (set ws t w) t no_wait ≡ w
set_here [] t w low = absurd (omega (arith, low))
set_here (x ∷ xs) zero w low = refl
set_here (x ∷ xs) (suc t) w low = set_here xs t w (omega (arith, low))

-- what is left of a list is shorter
shorter : (pages : List CachedPage) (list : List (ℕ × ℕ)) (next : CachedPage × List (ℕ × ℕ)) → unsent_on pages list ≡ Some next → length next.1 < length list
shorter pages [] next e = absurd (none-some next e)
shorter pages (k ∷ ks) next e = by (shorter pages ks next) (page_at pages k.0 k.1) e
  where
    longer : length next.1 < length ks → length next.1 < suc (length ks)
    longer low = omega (arith, low)

    by : (unsent_on pages ks ≡ Some next → length next.1 < length ks) → (o : Option CachedPage) → (elim o as (λ _. Option (CachedPage × List (ℕ × ℕ))) [ None ↦ unsent_on pages ks | Some p ↦ if is_unsent p.state then Some (p, ks) else unsent_on pages ks ]) ≡ Some next → length next.1 < suc (length ks)
    by rest None is = longer (rest is)
    by rest (Some p) is = sent (is_unsent p.state) is
      where
        sent : (x : Bool) → (if x then Some (p, ks) else unsent_on pages ks) ≡ Some next → length next.1 < suc (length ks)
        sent true is = let same = ap (λ (n : CachedPage × List (ℕ × ℕ)). length n.1) (same_Some (p, ks) next is) in omega (arith, same)
        sent false is = longer (rest is)

-- a barrier call needs no put on the medium
no_last : (j : JournalPart) (b : Begun) → is_durable b.kind ≡ false → goal_of j b ≡ AwaitLastPut → ⊥
no_last j b barrier e = by (cases_Bool (is_data b.kind))
  where
    of_kind : (kind : CallKind) (sent : Bool) → is_durable kind ≡ false → data_goal kind sent j.running.number ≡ AwaitLastPut → ⊥
    of_kind kinds.DataSync sent calm e = cc
    of_kind kinds.FileSync sent calm e = cc
    of_kind kinds.WholeSync sent calm e = cc
    of_kind kinds.Reading true calm e = cc
    of_kind kinds.Reading false calm e = cc
    of_kind kinds.Changing true calm e = cc
    of_kind kinds.Changing false calm e = cc
    of_kind kinds.FileBarrier true calm e = cc
    of_kind kinds.FileBarrier false calm e = cc
    of_kind kinds.DataBarrier true calm e = cc
    of_kind kinds.DataBarrier false calm e = cc

    of_change : (o : Option ℕ) → (elim o as (λ _. Goal) [ Some k ↦ AwaitCommit k | None ↦ data_goal b.kind b.sent_barrier j.running.number ]) ≡ AwaitLastPut → ⊥
    of_change (Some k) e = cc
    of_change None e = of_kind b.kind b.sent_barrier barrier e

    by : (is_data b.kind ≡ true) ⊎ (is_data b.kind ≡ false) → ⊥
    by (inl is) = of_change (latest_change j b.file) (sym (ap (λ x. if x then (elim (latest_change j b.file) as (λ _. Goal) [ Some k ↦ AwaitCommit k | None ↦ data_goal b.kind b.sent_barrier j.running.number ]) else AwaitCommit j.running.number) is) ∙ e)
    by (inr is) = let no : AwaitCommit j.running.number ≡ AwaitLastPut = sym (ap (λ x. if x then (elim (latest_change j b.file) as (λ _. Goal) [ Some k ↦ AwaitCommit k | None ↦ data_goal b.kind b.sent_barrier j.running.number ]) else AwaitCommit j.running.number) is) ∙ e in cc

module _ (g : Geometry) (journal : ℕ) (wide : Bool) (limit : ℕ) (programs : List (List Call)) (sound : IsSound g) (least : LEAST_JOURNAL ≤ journal) (most : journal ≤ MOST_JOURNAL)
    (words : limit + journal < 4294967296) (lines : HaveLines programs) (bytes_of : (c : Call) → IsWellFormed c → HasBytes c) (new : IsPlainNow (new_now g)) where
  abbrev session : List Event → Host VolumeNow Call Reply
  session = made_session g journal wide limit programs

  abbrev m : Over WalkEnd PlainTree VolumeNow Call Reply
  m = call_over (made.o g journal wide limit programs [] sound least most words lines bytes_of new)

  -- the same session over calls with bytes
  abbrev pub byte : List Event → Host VolumeNow ByteCall Reply
  byte es = host_after (made.o g journal wide limit programs es sound least most words lines bytes_of new) (made_now g) (made_ring journal) limit (made.byte_programs g journal wide limit programs es sound least most words lines bytes_of new) es

  pub same : (es : List Event) → session es ≡ plain_host (byte es)
  same es = opened.same_host g journal wide limit programs sound least most words (made.bytes g journal wide limit programs es sound least most words lines bytes_of new) new es

  pub kept : (es : List Event) → IsKept (made.o g journal wide limit programs es sound least most words lines bytes_of new) (made_ring journal).places (byte es)
  kept es = made.host_kept g journal wide limit programs es sound least most words lines bytes_of new

  pub are_for : (es : List Event) → AreFor (session es).journal
  are_for es = subst AreFor (sym (ap (λ (h : Host VolumeNow Call Reply). h.journal) (same es)))
      (steps_for (made.o g journal wide limit programs es sound least most words lines bytes_of new) (made_ring journal).places (made.room g journal wide limit programs es sound least most words lines bytes_of new)
      (made.none_fits g journal wide limit programs es sound least most words lines bytes_of new) (opened.written g journal wide limit programs sound least most words (made.bytes g journal wide limit programs es sound least most words lines bytes_of new) new)
      (byte []) (kept []) (λ u. none_yet (made.byte_programs g journal wide limit programs es sound least most words lines bytes_of new) u) es)

  pub counted : (es : List Event) → length (session es).threads ≡ length (session es).journal.flush.waits
  counted es = subst (λ (h : Host VolumeNow Call Reply). length h.threads ≡ length h.journal.flush.waits) (sym (same es)) (length-map (byte es).threads (thread_as plain_call) ∙ (kept es).sound.rules.3.counted)

  -- what a thread waits for is of the kind of its call
  same_kind : (es : List Event) (t : ℕ) (th : Thread Call) (b : Begun) → slice_get (session es).threads t ≡ Some th → th.begun ≡ Some b → (slice_index_or (session es).journal.flush.waits t no_wait).kind ≡ b.kind
  same_kind es t th b at e =
      let there : slice_get (map (thread_as plain_call) (byte es).threads) t ≡ Some th = ap (λ (h : Host VolumeNow Call Reply). slice_get h.threads t) (sym (same es)) ∙ at in
      ap (λ (h : Host VolumeNow Call Reply). (slice_index_or h.journal.flush.waits t no_wait).kind) (same es) ∙ by (slice_get (byte es).threads t) refl (sym (slice_get-map (thread_as plain_call) (byte es).threads t) ∙ there)
    where
      by : (o : Option (Thread ByteCall)) → slice_get (byte es).threads t ≡ o → option_map (thread_as plain_call) o ≡ Some th → (slice_index_or (byte es).journal.flush.waits t no_wait).kind ≡ b.kind
      by None at is = absurd (none-some th is)
      by (Some x) at is = ((kept es).sound.rules.3.each t x b at (ap (λ (th : Thread Call). th.begun) (same_Some (thread_as plain_call x) th is) ∙ e)).kind

  module _ (t : ℕ) (c : Call) where
    -- one step more of the thread
    step_is : (es : List Event) → session (es ++ CallStep false t ∷ []) ≡ (advance m.model m.setup false (session es) t).host
    step_is es = steps_append m _ es (CallStep false t ∷ [])

    abbrev Result : List Event → Type 0
    Result es = BarrierOutcome session replies.Ok es t c

    -- what follows a step of the thread follows that step and more
    later : (es : List Event) → Result (es ++ CallStep false t ∷ []) → Result es
    later es (answered own commits e) = answered (suc own) commits
        (subst (λ l. EndsAt (session l).history (length (session (es ++ host_moves t (suc own) commits)).history) t c (Answered replies.Ok)) (append_assoc es (CallStep false t ∷ []) (host_moves t own commits ++ CallStep false t ∷ []))
        (subst (λ l. EndsAt (session ((es ++ CallStep false t ∷ []) ++ (host_moves t own commits ++ CallStep false t ∷ []))).history (length (session l).history) t c (Answered replies.Ok)) (append_assoc es (CallStep false t ∷ []) (host_moves t own commits)) e))
    later es (session_full own commits e) = session_full (suc own) commits (subst (λ l. at_limit (session l).journal.flush ≡ true) (append_assoc es (CallStep false t ∷ []) (host_moves t own commits)) e)
    later es (held_back own k target back) = held_back (suc own) k (subst (λ l. (slice_index_or (session l).journal.flush.waits t no_wait).target ≡ Some k) (append_assoc es (CallStep false t ∷ []) (host_moves t own 0)) target)
        (subst (λ l. IsHeldBack (session l) k) (append_assoc es (CallStep false t ∷ []) (host_moves t own 0)) back)

    -- a call that waits for a transaction
    targeted : (es : List Event) → is_over (session es).journal.flush ≡ false → (k : ℕ) → IsBarrierWaiting (session es) t c k → Result es
    targeted es going k waits = by (waits_for (session es) t k (are_for es) waits.target)
      where
        ends : (n : ℕ) → (at_limit (session (es ++ replicate n (Commit false))).journal.flush ≡ true) ⊎ EndsAt (session (es ++ (replicate n (Commit false) ++ CallStep false t ∷ []))).history (length (session (es ++ replicate n (Commit false))).history) t c (Answered replies.Ok) → Result es
        ends n (inl e) = session_full 0 n e
        ends n (inr e) = answered 0 n e

        goes : IsUnderWay (session es) k ⊎ (is_submitted (session es).journal k ≡ true) → Result es
        goes way = let r = barrier_answered g journal wide limit programs es sound least most words lines bytes_of new t c k going waits ((are_for es t).need waits.barrier) way in ends r.0 r.1

        by : IsUnderWay (session es) k ⊎ ((is_submitted (session es).journal k ≡ true) ⊎ IsHeldBack (session es) k) → Result es
        by (inl way) = goes (inl way)
        by (inr (inl through)) = goes (inr through)
        by (inr (inr back)) = held_back 0 k (subst (λ l. (slice_index_or (session l).journal.flush.waits t no_wait).target ≡ Some k) (sym (append-nil es)) waits.target) (subst (λ l. IsHeldBack (session l) k) (sym (append-nil es)) back)

    -- the session is at its limit already
    limited : (es : List Event) → at_limit (session es).journal.flush ≡ true → Result es
    limited es e = session_full 0 0 (subst (λ l. at_limit (session l).journal.flush ≡ true) (sym (append-nil es)) e)

    module _ (es : List Event) (going : is_over (session es).journal.flush ≡ false) (call : IsInBarrier (session es) t c) where
      abbrev h : Host VolumeNow Call Reply
      h = session es

      abbrev w : Wait
      w = slice_index_or h.journal.flush.waits t no_wait

      barrier : is_durable w.kind ≡ false
      barrier = ap is_durable (same_kind es t call.called.thread call.called.begun call.called.stands call.called.has_begun) ∙ call.barrier

      below : t < length h.threads
      below = slice_get-length h.threads t call.called.thread call.called.stands

      -- no page is left on its list
      pursued : session (es ++ CallStep false t ∷ []) ≡ (pursue m.model m.setup h t c call.called.rest w (goal_of h.journal call.called.begun)).host → Result es
      pursued step = by (goal_of h.journal call.called.begun) refl
        where
          next : ℕ → Host VolumeNow Call Reply
          next k = set_wait m.model m.setup h t (record w { target = Some k })

          now_waits : (k : ℕ) (x : Host VolumeNow Call Reply) → x.threads ≡ h.threads → x.journal.flush.waits ≡ set h.journal.flush.waits t (record w { target = Some k }) → IsBarrierWaiting x t c k
          now_waits k x threads waits =
              let here = ap (λ ws. slice_index_or ws t no_wait) waits ∙ set_here h.journal.flush.waits t (record w { target = Some k }) (subst (λ n. t < n) (counted es) below) in
              record {
                call = record { called = in_call h x t c call.called (ap (λ ths. slice_get ths t) threads); barrier = call.barrier };
                barrier = ap (λ (w : Wait). is_durable w.kind) here ∙ barrier;
                target = ap (λ (w : Wait). w.target) here;
              }

          waiting : (k : ℕ) (x : Bool) → session (es ++ CallStep false t ∷ []) ≡ (if x then wanting m.model m.setup (next k) else next k) → Result (es ++ CallStep false t ∷ [])
          waiting k true is = targeted (es ++ CallStep false t ∷ []) (ap (λ (h : Host VolumeNow Call Reply). is_over h.journal.flush) is ∙ going) k (subst (λ (h : Host VolumeNow Call Reply). IsBarrierWaiting h t c k) (sym is) (now_waits k (wanting m.model m.setup (next k)) refl refl))
          waiting k false is = targeted (es ++ CallStep false t ∷ []) (ap (λ (h : Host VolumeNow Call Reply). is_over h.journal.flush) is ∙ going) k (subst (λ (h : Host VolumeNow Call Reply). IsBarrierWaiting h t c k) (sym is) (now_waits k (next k) refl refl))

          by : (goal : Goal) → goal_of h.journal call.called.begun ≡ goal → Result es
          by AnswerOk is =
              let ended = step ∙ ap (λ goal. (pursue m.model m.setup h t c call.called.rest w goal).host) is in
              answered 0 0 (subst (λ l. EndsAt (session (es ++ CallStep false t ∷ [])).history (length (session l).history) t c (Answered replies.Ok)) (sym (append-nil es))
              (subst (λ (x : Host VolumeNow Call Reply). EndsAt x.history (length h.history) t c (Answered replies.Ok)) (sym ended) (slice_get-push h.history (record { thread = t; call = c; what = machine.Ends (Answered replies.Ok) }))))
          by AwaitLastPut is = absurd (no_last h.journal call.called.begun call.barrier is)
          by (AwaitCommit k) is = free (cases_Bool (at_limit h.journal.flush))
            where
              free : (at_limit h.journal.flush ≡ true) ⊎ (at_limit h.journal.flush ≡ false) → Result es
              free (inl e) = limited es e
              free (inr e) = later es (waiting k (k == h.journal.running.number) (step ∙ (ap (λ goal. (pursue m.model m.setup h t c call.called.rest w goal).host) is ∙ rw e refl)))

      no_need : w.need ≡ None
      no_need = (are_for es t).need barrier

      module _ (fuel : ℕ) (low : length call.called.begun.list < suc fuel) (again : (es : List Event) → is_over (session es).journal.flush ≡ false → (call : IsInBarrier (session es) t c) → length call.called.begun.list < fuel → Result es) where
        by_pages : session (es ++ CallStep false t ∷ []) ≡ (walk_pages m.model m.setup false h t c call.called.rest w call.called.begun).host → (o : Option (CachedPage × List (ℕ × ℕ))) → unsent_on h.pages call.called.begun.list ≡ o → Result es
        by_pages step None is = pursued (step ∙ rw (is, walk_pages) refl)
        by_pages step (Some next) is = free (cases_Bool (at_limit h.journal.flush))
          where
            now : Begun
            now = record call.called.begun { list = next.1; sent_barrier = call.called.begun.sent_barrier || (is_data call.called.begun.kind && is_none (unsent_on h.pages next.1)) }

            th : Thread Call
            th = record { calls = c ∷ call.called.rest; begun = Some now }

            free : (at_limit h.journal.flush ≡ true) ⊎ (at_limit h.journal.flush ≡ false) → Result es
            free (inl e) = limited es e
            free (inr e) =
                let sent : session (es ++ CallStep false t ∷ []) ≡ set_thread m.model m.setup (send_page m.model m.setup h next.0 true (is_data call.called.begun.kind && is_none (unsent_on h.pages next.1))) t th = step ∙ rw (is, e, walk_pages) refl in
                let less = shorter h.pages call.called.begun.list next is in
                later es (again (es ++ CallStep false t ∷ []) (ap (λ (h : Host VolumeNow Call Reply). is_over h.journal.flush) sent ∙ going) (record {
                  called = record { thread = th; rest = call.called.rest; begun = now; stands = ap (λ (h : Host VolumeNow Call Reply). slice_get h.threads t) sent ∙ slice_get-set_same h.threads t th below; calls = refl; has_begun = refl };
                  barrier = call.barrier;
                }) (omega (arith, low, less)))

        goes : Result es
        goes = by_target w.target refl
          where
            by_target : (o : Option ℕ) → w.target ≡ o → Result es
            by_target (Some k) is = targeted es going k (record { call = call; barrier = barrier; target = is })
            by_target None is = by_pages (step_is es ∙ sends m.model m.setup h t c call going no_need is) (unsent_on h.pages call.called.begun.list) refl

    go : (fuel : ℕ) (es : List Event) → is_over (session es).journal.flush ≡ false → (call : IsInBarrier (session es) t c) → length call.called.begun.list < fuel → Result es
    go zero es going call low = absurd (omega (arith, low))
    go (suc fuel) es going call low = goes es going call fuel low (go fuel)

    pub all_answered : (es : List Event) → is_over (session es).journal.flush ≡ false → IsInBarrier (session es) t c → Result es
    all_answered es going call = go (suc (length call.called.begun.list)) es going call (omega arith)

    module _ (es : List Event) (going : is_over (session es).journal.flush ≡ false) (next : IsNext (session es) t c) where
      abbrev Chosen : Option Reply → Host VolumeNow Call Reply
      Chosen o = (elim o as (λ _. Stepped VolumeNow Call Reply) [
        | Some refusal ↦ end_with m.model m.setup (session es) t c next.rest (Answered refusal)
        | None ↦ if is_begun (m.model.kind c) then begin m.model m.setup (session es) t c next.rest else plain m.model m.setup (session es) t c next.rest
      ]).host

      -- one that has not begun is refused by the tree or begins
      pub begins : ((path : List ℕ) × ((c ≡ calls.Fbarrier path) ⊎ (c ≡ calls.Fdatabarrier path))) →
          IsInBarrier (session (es ++ CallStep false t ∷ [])) t c ⊎ ((why : Reply) × EndsAt (session (es ++ CallStep false t ∷ [])).history (length (session es).history) t c (Answered why))
      begins named = by (m.model.reply (session es).volume c) refl
        where
          step : session (es ++ CallStep false t ∷ []) ≡ (step_call m.model m.setup false (session es) t None c next.rest).host
          step = step_is es ∙ starts m.model m.setup (session es) going t c next

          of_kind : (path : List ℕ) → (c ≡ calls.Fbarrier path) ⊎ (c ≡ calls.Fdatabarrier path) → (is_begun (m.model.kind c) ≡ true) × (is_durable (m.model.kind c) ≡ false)
          of_kind path (inl e) = rw e (refl, refl)
          of_kind path (inr e) = rw e (refl, refl)

          kinds_are : (is_begun (m.model.kind c) ≡ true) × (is_durable (m.model.kind c) ≡ false)
          kinds_are = of_kind named.0 named.1

          opens : Chosen None ≡ (begin m.model m.setup (session es) t c next.rest).host
          opens = ap (λ b. (if b then begin m.model m.setup (session es) t c next.rest else plain m.model m.setup (session es) t c next.rest).host) kinds_are.0

          by : (o : Option Reply) → m.model.reply (session es).volume c ≡ o → IsInBarrier (session (es ++ CallStep false t ∷ [])) t c ⊎ ((why : Reply) × EndsAt (session (es ++ CallStep false t ∷ [])).history (length (session es).history) t c (Answered why))
          by (Some why) e = inr (
            why,
            subst (λ (x : Host VolumeNow Call Reply). EndsAt x.history (length (session es).history) t c (Answered why)) (sym (step ∙ ap Chosen e))
                (slice_get-push (session es).history (record { thread = t; call = c; what = machine.Ends (Answered why) })),
          )
          by None e = inl (subst (λ (x : Host VolumeNow Call Reply). IsInBarrier x t c) (sym (step ∙ (ap Chosen e ∙ opens))) (record {
            called = record { thread = _; rest = next.rest; begun = _; stands = slice_get-set_same (session es).threads t _ (slice_get-length (session es).threads t next.thread next.stands); calls = refl; has_begun = refl };
            barrier = kinds_are.1;
          }))
