-- Each Ok of a begun call keeps the order rule of such calls: through the caller's step.
use Rattle.std.proofs.Common.{sym, ap, subst, ◌∙◌, inl, inr, ⊎_elim, arith}
use Rattle.std.proofs.lemmas.Bool.{false≢true, ltb-true}
use Rattle.std.specs.List.{list_any}
use Rattle.std.specs.Prelude.{◌≡◌, ℕ, ◌+◌, ◌<◌, ◌≤◌, ◌==◌, ◌&&◌, ◌||◌, ◌⊎◌, Bool, true, false, not, List, ◌∷◌, length, Option, Some, None, is_none, nat_lt, if◌then◌else◌, refl}
use Rattle.blk_base.specs.Members.{In}
use Rattle.blk_base.specs.laws.Members.{In-list_any}
use Rattle.order_model.specs.declared.completion.Completion.TheVariants as completions
use Rattle.order_model.specs.declared.completion.Completion.{Completion}
use Rattle.order_model.specs.declared.note.Note.TheVariants.{Page, Commit}
use Rattle.page_cache.specs.declared.cached_page.CachedPage.{CachedPage}
use Rattle.crash_laws.specs.laws.CallFacts.{IsDone}
use Rattle.crash_laws.specs.History.{History, HasTrees}
use Rattle.crash_laws.specs.PromiseRules.{CoversNothing, KeepsBarrier, KeepsSync, Covers, CoversEntry}
use Rattle.crash_laws.specs.Rules.{CommitOrder}
use Rattle.crash_laws.specs.Session.{Session, IsCommit}
use Rattle.host_machine.specs.Causes as causes
use Rattle.host_machine.specs.Host.{Stepped, Goal, AwaitCommit, unsent_on, data_goal, goal_of, cause_of, end_with, await_durable, await_last_put, await_commit, pursue, walk_pages, continue_begun, set_wait, wanting, set_thread, send_page}
use Rattle.host_machine.specs.Model.{Model}
use Rattle.host_machine.specs.Outcomes as outcomes
use Rattle.host_machine.specs.State.{Answered, SessionFull, Begun, Host, Setup}
use Rattle.commit_actor.specs.Journal.{Phase, Idle, Closing, Committing, JournalPart, is_submitted, latest_change}
use Rattle.flush_actor.specs.Kinds.{is_data, is_durable}
use Rattle.flush_actor.specs.Part.{at_limit, is_flushed_after, flush_above, last_put}
use Rattle.flush_actor.specs.declared.call_kind.CallKind.{CallKind}
use Rattle.flush_actor.specs.declared.call_kind.CallKind.TheVariants.{Reading, Changing, FileBarrier, DataBarrier, FileSync, DataSync, WholeSync}
use Rattle.flush_actor.specs.declared.wait.Wait.{Wait}
use Rattle.host_machine.specs.laws.Facts.{Numbers}
use Rattle.host_machine.proofs.RunsLemmas.CallGoals.{ChangedListed, latest_none, latest_some, put_before_last, nothing_put, nothing_covered}
use Rattle.host_machine.proofs.RunsLemmas.CallMoves.{unsent_on-none}
use Rattle.host_machine.proofs.RunsLemmas.CallTargets.{IsQuiet, held_without_target, ok_at_target, ok_by_own_barrier, ok_by_flush, call_has_need, call_has_target, call_needs, its_file, for_running, for_closed, cause_of_barrier, cause_of_sync}
use Rattle.host_machine.specs.runs.Promises.{IsCause, KeepsOk, call_of}
use Rattle.host_machine.specs.runs.laws.CallFacts.{Anywhere, CallFacts}

flushed_later : (id : ℕ) (c : Completion) → is_flushed_after id c ≡ true → (f : ℕ) × (c ≡ completions.Flushed f) × (id < f)
flushed_later id (completions.Flushed f) e = (f, refl, ltb-true id f e)
flushed_later id other e = absurd (false≢true e)

module _ {T V C R : Type 0} (M : Model T V C R) (u : Setup) {A : Type 0} {h : History A} {s : Session} (host : Host V C R) {now N : ℕ} {b : Begun} (w : Wait)
    (notes : s.notes ≡ host.journal.flush.notes) (trees : HasTrees h) (order : CommitOrder s) (numbers : Numbers h s now host.journal.running.number N) (listed : ChangedListed h host.journal N)
    (facts : CallFacts h s host.pages now host.journal.running.number b w) where
  abbrev j : JournalPart
  j = host.journal

  abbrev taken : List Completion
  taken = host.journal.flush.taken

  sync_ok : is_durable b.kind ≡ true → KeepsSync h s taken (Covers h (call_of b)) (CoversEntry (call_of b)) ⊎ CoversNothing h (call_of b) → (is_data b.kind ≡ false → IsCause h s taken (now + 1) b) → KeepsOk h s taken (now + 1) b
  sync_ok durable k cause = record { barrier = λ e. absurd (false≢true (sym e ∙ durable)); sync = λ e. k; cause = cause }

  barrier_ok : is_durable b.kind ≡ false → KeepsBarrier h s (now + 1) (Covers h (call_of b)) (CoversEntry (call_of b)) → (is_data b.kind ≡ false → IsCause h s taken (now + 1) b) → KeepsOk h s taken (now + 1) b
  barrier_ok not_durable k cause = record { barrier = λ e. k; sync = λ e. absurd (false≢true (sym not_durable ∙ e)); cause = cause }

  -- ---- a need

  need_ok : (t : ℕ) (c : C) (rest : List C) (v : Wait) (id : ℕ) → is_durable b.kind ≡ true → v.need ≡ Some id → CallFacts h s host.pages now j.running.number b v → (await_durable M u host t c rest w id).step ≡ outcomes.Done M.ok → KeepsOk h s taken (now + 1) b
  need_ok t c rest v id durable need known e = by (list_any (is_flushed_after id) taken) refl (at_limit j.flush && not (flush_above id 0 j.flush.notes)) e
    where
      by : (x : Bool) → list_any (is_flushed_after id) taken ≡ x → (y : Bool)
          → (if x then end_with M u host t c rest (Answered M.ok) else if y then end_with M u host t c rest SessionFull else record { host = set_wait M u host t (record w { need = Some id }); step = outcomes.Waiting (causes.Durable id) }).step ≡ outcomes.Done M.ok → KeepsOk h s taken (now + 1) b
      by true q y e =
          let x = In-list_any (is_flushed_after id) taken q in
          let f = flushed_later id x.0 x.2 in
          let answered = subst (λ (z : Completion). In z taken) f.1 x.1 in
          sync_ok durable (inl (ok_by_flush trees numbers known taken id f.0 need answered f.2))
          (λ whole.
          let z = cause_of_sync trees numbers known id f.0 need f.2 whole in
          record { k = z.0; c = z.1; commit = z.2; begun = z.4; ended = z.5; flushed = λ d. (f.0, answered, z.3) })
      by false q true e = absurd (let z : ⊥ = cc in z)
      by false q false e = absurd (let z : ⊥ = cc in z)

  -- ---- the last put is needed

  -- where there is one, all that is held is at or before it
  last_put_ok : (t : ℕ) (c : C) (rest : List C) → is_durable b.kind ≡ true → ((id : ℕ) → last_put 0 s.notes None ≡ Some id → CallFacts h s host.pages now j.running.number b (record w { need = Some id }))
      → (last_put 0 s.notes None ≡ None → CoversNothing h (call_of b) × (is_data b.kind ≡ true)) → (await_last_put M u host t c rest w).step ≡ outcomes.Done M.ok → KeepsOk h s taken (now + 1) b
  last_put_ok t c rest durable known nothing e = by (last_put 0 j.flush.notes None) refl e
    where
      here : last_put 0 s.notes None ≡ last_put 0 j.flush.notes None
      here = ap (λ ns. last_put 0 ns None) notes

      by : (o : Option ℕ) → last_put 0 j.flush.notes None ≡ o → (elim o as (λ _. Stepped V C R) [ None ↦ end_with M u host t c rest (Answered M.ok) | Some id ↦ await_durable M u host t c rest w id ]).step ≡ outcomes.Done M.ok → KeepsOk h s taken (now + 1) b
      by None q e = let none = nothing (here ∙ q) in sync_ok durable (inr none.0) (λ whole. absurd (false≢true (sym whole ∙ none.1)))
      by (Some id) q e = need_ok t c rest (record w { need = Some id }) id durable refl (known id (here ∙ q)) e

  -- ---- a target

  submitted_now : (k : ℕ) → is_submitted j k ≡ true → k ≤ N
  submitted_now k e = by j.phase refl e
    where
      by : (p : Phase) → j.phase ≡ p → elim p as (λ _. Bool) [ Idle ↦ nat_lt k j.running.number | Closing ↦ nat_lt k j.running.number | Committing x ↦ nat_lt (k + 1) j.running.number ] ≡ true → k ≤ N
      by Idle q t = let lt = ltb-true k j.running.number t in let next = listed.idle q in omega arith
      by Closing q t = let lt = ltb-true k j.running.number t in let next = listed.closing q in omega arith
      by (Committing x) q t = let lt = ltb-true (k + 1) j.running.number t in let next = listed.committing x q in omega arith

  -- a sync data call whose target is submitted comes to need the last put
  pub target_needs : (k id : ℕ) → w.target ≡ Some k → is_submitted j k ≡ true → last_put 0 s.notes None ≡ Some id → CallFacts h s host.pages now j.running.number b (record w { need = Some id })
  target_needs k id target q last =
      let commit = numbers.committed k (facts.target k target).positive (submitted_now k q) in
      call_needs trees numbers facts k commit.0 id target commit.1 (put_before_last s.notes commit.0 id (Commit k) commit.1 refl last)

  target_ok : (t : ℕ) (c : C) (rest : List C) (k : ℕ) → w.target ≡ Some k → (await_commit M u host t c rest w k).step ≡ outcomes.Done M.ok → KeepsOk h s taken (now + 1) b
  target_ok t c rest k target e = by (is_submitted j k) refl (is_durable w.kind) refl (at_limit j.flush) e
    where
      the_commit : is_submitted j k ≡ true → (d : ℕ) × IsCommit s k d
      the_commit q = numbers.committed k (facts.target k target).positive (submitted_now k q)

      by : (x : Bool) → is_submitted j k ≡ x → (y : Bool) → is_durable w.kind ≡ y → (z : Bool)
          → (if x then (if y then await_last_put M u host t c rest w else end_with M u host t c rest (Answered M.ok)) else if z then end_with M u host t c rest SessionFull else record { host = host; step = outcomes.Waiting (cause_of j k) }).step ≡ outcomes.Done M.ok → KeepsOk h s taken (now + 1) b
      by true q true d z e =
          let durable = ap is_durable (sym facts.kind) ∙ d in
          let commit = the_commit q in
          last_put_ok t c rest durable
          (λ id last. target_needs k id target q last)
          (λ none. absurd (nothing_put s.notes commit.0 (Commit k) commit.1 refl none)) e
      by true q false d z e =
          let commit = the_commit q in
          let not_durable = ap is_durable (sym facts.kind) ∙ d in
          barrier_ok not_durable (ok_at_target trees numbers facts order k commit.0 target commit.1)
          (λ whole.
          let z = cause_of_barrier trees numbers facts k commit.0 target commit.1 whole in
          record { k = k; c = commit.0; commit = commit.1; begun = z.0; ended = z.1; flushed = λ e. absurd (false≢true (sym not_durable ∙ e)) })
      by false q y d true e = absurd (let z : ⊥ = cc in z)
      by false q y d false e = absurd (let z : ⊥ = cc in z)

  -- ---- no page is left

  module _ (t : ℕ) (c : C) (rest : List C) (no_target : w.target ≡ None) (no_need : w.need ≡ None) (passed : unsent_on host.pages b.list ≡ None) where
    done : (f i n : ℕ) → Covers h (call_of b) f i n → IsDone h s Anywhere now f i n
    done f i n cov = ⊎_elim (λ d. d) (λ d. absurd (unsent_on-none host.pages b.list passed f i d)) (facts.pairs no_target no_need f i n cov)

    quiet : is_data b.kind ≡ true → latest_change j b.file ≡ None → (f i n : ℕ) → Covers h (call_of b) f i n → IsQuiet h f (h.cut N) now
    quiet of_data none f i n cov = subst (λ g. IsQuiet h g (h.cut N) now) (its_file trees numbers facts of_data f i n cov) (latest_none j trees numbers listed b.file none)

    -- without a target it comes to need the last put, too
    pub flush_needs : (id : ℕ) → b.kind ≡ DataSync → latest_change j b.file ≡ None → last_put 0 s.notes None ≡ Some id → CallFacts h s host.pages now j.running.number b (record w { need = Some id })
    flush_needs id kind none last =
        let of_data : is_data b.kind ≡ true = ap is_data kind in
        call_has_need trees numbers facts id
        (held_without_target trees numbers facts id of_data (λ o g. g)
        (λ pos. let k = numbers.committed N pos (omega arith) in (k.0, k.1, put_before_last s.notes k.0 id (Commit N) k.1 refl last))
        (quiet of_data none) (λ f i n cov. placed f i n (done f i n cov)))
        (λ whole. absurd (false≢true (sym whole ∙ of_data)))
      where
        placed : (f i n : ℕ) → IsDone h s Anywhere now f i n → IsDone h s (λ o. o ≤ id) now f i n
        placed f i n (inl x) = inl (record { place = x.place; version = x.version; note = x.note; ordered = x.ordered; good = put_before_last s.notes x.place id (Page f i x.version) x.note refl last; later = x.later })
        placed f i n (inr g) = inr g

    -- the call gets its target
    pub goal_has_target : (k : ℕ) → goal_of j b ≡ AwaitCommit k → CallFacts h s host.pages now j.running.number b (record w { target = Some k })
    goal_has_target k e = by (is_data b.kind) refl (latest_change j b.file) refl e
      where
        running : CallFacts h s host.pages now j.running.number b (record w { target = Some j.running.number })
        running = call_has_target trees numbers facts j.running.number no_need (for_running trees numbers facts done)

        to_running : (x : ℕ) → j.running.number ≡ x → CallFacts h s host.pages now j.running.number b (record w { target = Some x })
        to_running x q = subst (λ y. CallFacts h s host.pages now j.running.number b (record w { target = Some y })) q running

        goals : (x y : ℕ) → AwaitCommit x ≡ AwaitCommit y → x ≡ y
        goals x y q = cc

        of_kind : (kind : CallKind) (x : Bool) → data_goal kind x j.running.number ≡ AwaitCommit k → j.running.number ≡ k
        of_kind DataSync x q = absurd (let z : ⊥ = cc in z)
        of_kind DataBarrier true q = absurd (let z : ⊥ = cc in z)
        of_kind DataBarrier false q = cc
        of_kind Reading true q = absurd (let z : ⊥ = cc in z)
        of_kind Reading false q = cc
        of_kind Changing true q = absurd (let z : ⊥ = cc in z)
        of_kind Changing false q = cc
        of_kind FileBarrier true q = absurd (let z : ⊥ = cc in z)
        of_kind FileBarrier false q = cc
        of_kind FileSync true q = absurd (let z : ⊥ = cc in z)
        of_kind FileSync false q = cc
        of_kind WholeSync true q = absurd (let z : ⊥ = cc in z)
        of_kind WholeSync false q = cc

        latest : is_data b.kind ≡ true → (x : ℕ) → latest_change j b.file ≡ Some x → CallFacts h s host.pages now j.running.number b (record w { target = Some x })
        latest of_data x l =
            ⊎_elim
            (λ r. to_running x (sym r))
            (λ z. call_has_target trees numbers facts x no_need (for_closed trees numbers facts of_data x z.0 z.1 (λ f i n cov. subst (λ g. IsQuiet h g (h.cut x) now) (its_file trees numbers facts of_data f i n cov) z.2) done))
            (latest_some j trees numbers listed b.file x l)

        by : (x : Bool) → is_data b.kind ≡ x → (o : Option ℕ) → latest_change j b.file ≡ o
            → (if x then elim o as (λ _. Goal) [ Some y ↦ AwaitCommit y | None ↦ data_goal b.kind b.sent_barrier j.running.number ] else AwaitCommit j.running.number) ≡ AwaitCommit k → CallFacts h s host.pages now j.running.number b (record w { target = Some k })
        by true q None l e = to_running k (of_kind b.kind b.sent_barrier e)
        by true q (Some y) l e = subst (λ x. CallFacts h s host.pages now j.running.number b (record w { target = Some x })) (goals y k e) (latest q y l)
        by false q o l e = to_running k (goals j.running.number k e)

    flush_ok : b.kind ≡ DataSync → latest_change j b.file ≡ None → (await_last_put M u host t c rest w).step ≡ outcomes.Done M.ok → KeepsOk h s taken (now + 1) b
    flush_ok kind none e =
        let of_data : is_data b.kind ≡ true = ap is_data kind in
        last_put_ok t c rest (ap is_durable kind)
        (λ id last. flush_needs id kind none last)
        (λ nothing. (record { pages = nothing_covered b trees numbers nothing facts.begun (quiet of_data none) done; metadata = λ n c. false≢true (sym (ap not of_data) ∙ c.0) }, of_data)) e

    pass_ok : b.kind ≡ DataBarrier → latest_change j b.file ≡ None → b.sent_barrier ≡ true → KeepsOk h s taken (now + 1) b
    pass_ok kind none sent =
        let of_data : is_data b.kind ≡ true = ap is_data kind in
        barrier_ok (ap is_durable kind) (ok_by_own_barrier trees numbers facts order of_data sent (quiet of_data none)) (λ whole. absurd (false≢true (sym whole ∙ of_data)))

    no_wait_ok : (k : ℕ) → (pursue M u host t c rest w (AwaitCommit k)).step ≡ outcomes.Done M.ok → ⊥
    no_wait_ok k e = by (at_limit j.flush) e
      where
        by : (x : Bool) → (if x then end_with M u host t c rest SessionFull else record { host = if k == j.running.number then wanting M u (set_wait M u host t (record w { target = Some k })) else set_wait M u host t (record w { target = Some k }); step = outcomes.Waiting (cause_of j k) }).step ≡ outcomes.Done M.ok → ⊥
        by true e = cc
        by false e = cc

    of_data_goal : is_data b.kind ≡ true → latest_change j b.file ≡ None → (k : CallKind) → b.kind ≡ k → (x : Bool) → b.sent_barrier ≡ x → (pursue M u host t c rest w (data_goal k x j.running.number)).step ≡ outcomes.Done M.ok → KeepsOk h s taken (now + 1) b
    of_data_goal of_data none DataSync kind x q e = flush_ok kind none e
    of_data_goal of_data none DataBarrier kind true q e = pass_ok kind none q
    of_data_goal of_data none DataBarrier kind false q e = absurd (no_wait_ok j.running.number e)
    of_data_goal of_data none Reading kind x q e = absurd (false≢true (sym (ap is_data kind) ∙ of_data))
    of_data_goal of_data none Changing kind x q e = absurd (false≢true (sym (ap is_data kind) ∙ of_data))
    of_data_goal of_data none FileBarrier kind x q e = absurd (false≢true (sym (ap is_data kind) ∙ of_data))
    of_data_goal of_data none FileSync kind x q e = absurd (false≢true (sym (ap is_data kind) ∙ of_data))
    of_data_goal of_data none WholeSync kind x q e = absurd (false≢true (sym (ap is_data kind) ∙ of_data))

    goal_ok : (pursue M u host t c rest w (goal_of j b)).step ≡ outcomes.Done M.ok → KeepsOk h s taken (now + 1) b
    goal_ok e = by (is_data b.kind) refl (latest_change j b.file) refl e
      where
        by : (x : Bool) → is_data b.kind ≡ x → (o : Option ℕ) → latest_change j b.file ≡ o
            → (pursue M u host t c rest w (if x then elim o as (λ _. Goal) [ Some k ↦ AwaitCommit k | None ↦ data_goal b.kind b.sent_barrier j.running.number ] else AwaitCommit j.running.number)).step ≡ outcomes.Done M.ok → KeepsOk h s taken (now + 1) b
        by true q None l e = of_data_goal q l b.kind refl b.sent_barrier refl e
        by true q (Some k) l e = absurd (no_wait_ok k e)
        by false q o l e = absurd (no_wait_ok j.running.number e)

  walk_ok : (full : Bool) (t : ℕ) (c : C) (rest : List C) → w.target ≡ None → w.need ≡ None → (walk_pages M u full host t c rest w b).step ≡ outcomes.Done M.ok → KeepsOk h s taken (now + 1) b
  walk_ok full t c rest no_target no_need e = by (unsent_on host.pages b.list) refl e
    where
      abbrev_step : (next : CachedPage × List (ℕ × ℕ)) (x : Bool) (y : Bool) (stepped : Stepped V C R) → stepped.step ≡ outcomes.Sent (length j.flush.requests)
          → (if x then end_with M u host t c rest SessionFull else if y then record { host = host; step = outcomes.Waiting causes.QueueFull } else stepped).step ≡ outcomes.Done M.ok → ⊥
      abbrev_step next true y stepped q e = cc
      abbrev_step next false true stepped q e = cc
      abbrev_step next false false stepped q e = let z = sym q ∙ e in cc

      by : (o : Option (CachedPage × List (ℕ × ℕ))) → unsent_on host.pages b.list ≡ o
          → (elim o as (λ _. Stepped V C R) [
            | None ↦ pursue M u host t c rest w (goal_of j b)
            | Some next ↦
                if at_limit j.flush then end_with M u host t c rest SessionFull
                else if full then record { host = host; step = outcomes.Waiting causes.QueueFull }
                else record {
                  host = set_thread M u (send_page M u host next.0 true (is_data b.kind && is_none (unsent_on host.pages next.1))) t (record { calls = c ∷ rest; begun = Some (record b { list = next.1; sent_barrier = b.sent_barrier || (is_data b.kind && is_none (unsent_on host.pages next.1)) }) });
                  step = outcomes.Sent (length j.flush.requests);
                }
          ]).step ≡ outcomes.Done M.ok → KeepsOk h s taken (now + 1) b
      by None q e = goal_ok t c rest no_target no_need q e
      by (Some next) q e = absurd (abbrev_step next (at_limit j.flush) full _ refl e)

  -- A begun call's step that answers Ok.
  pub step_ok : (full : Bool) (t : ℕ) (c : C) (rest : List C) → ((id : ℕ) → w.need ≡ Some id → is_durable b.kind ≡ true) → (continue_begun M u full host t c rest w b).step ≡ outcomes.Done M.ok → KeepsOk h s taken (now + 1) b
  step_ok full t c rest durable e = by w.need refl w.target refl e
    where
      by : (o : Option ℕ) → w.need ≡ o → (g : Option ℕ) → w.target ≡ g
          → (elim o as (λ _. Stepped V C R) [ Some id ↦ await_durable M u host t c rest w id | None ↦ elim g as (λ _. Stepped V C R) [ Some k ↦ await_commit M u host t c rest w k | None ↦ walk_pages M u full host t c rest w b ] ]).step ≡ outcomes.Done M.ok → KeepsOk h s taken (now + 1) b
      by (Some id) q g l e = need_ok t c rest w id (durable id q) q facts e
      by None q (Some k) l e = target_ok t c rest k l e
      by None q None l e = walk_ok full t c rest l q e
