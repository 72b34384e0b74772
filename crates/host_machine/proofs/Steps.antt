-- A caller's step keeps the facts of images, and the rules of images and pages.
use Rattle.std.proofs.Common.{sym, ap, subst, ◌∙◌, inl, inr}
use Rattle.std.proofs.lemmas.Bool.{false≢true}
use Rattle.std.proofs.lemmas.Option.{none-some, same_Some}
use Rattle.std.specs.List.{find, filter, list_any}
use Rattle.std.specs.Option.{option_map}
use Rattle.std.specs.Prelude.{◌≡◌, ℕ, ◌+◌, ◌-◌, ◌==◌, Bool, true, false, ◌&&◌, ◌||◌, not, List, [], ◌∷◌, length, Option, Some, None, is_none, nat_lt, slice_get, slice_index_or, refl, if◌then◌else◌}
use Rattle.blk_base.specs.Members.{In}
use Rattle.order_model.specs.declared.completion.Completion.{Completion}
use Rattle.log_model.specs.Marks.{Transaction}
use Rattle.page_cache.specs.Pages.{is_unsent, is_page, page_at}
use Rattle.page_cache.specs.declared.cached_page.CachedPage.{CachedPage}
use Rattle.page_cache.specs.laws.Maps.{page_at-key}
use Rattle.host_machine.proofs.CallSteps.{quiet_keeps, unanswered_quiet, answered_quiet}
use Rattle.host_machine.proofs.RuleSteps.{entry_rules, change_both, end_both, send_both}
use Rattle.host_machine.specs.Causes as causes
use Rattle.host_machine.specs.Causes.{Cause}
use Rattle.host_machine.specs.Host.{Stepped, set_wait, set_thread, Goal, AwaitCommit, AnswerOk, AwaitLastPut, unsent_on, goal_of, wanting, end_with, hindrance, hindered, fits, plain, begin, await_durable, await_last_put, await_commit, pursue, walk_pages, continue_begun, stop_of, step_call, step_thread, advance, send_page, change}
use Rattle.host_machine.specs.Model.{Model, Freed}
use Rattle.host_machine.specs.Outcomes as outcomes
use Rattle.journal_ring.specs.running.Running.{log_needs}
use Rattle.host_machine.specs.State.{Ending, Answered, Down, ReadOnly, SessionFull, Begins, Ends, Begun, Thread, Host, Setup}
use Rattle.commit_actor.specs.Journal.{is_closing, is_submitted}
use Rattle.flush_actor.specs.Kinds.{is_begun, is_data, is_durable, is_reading}
use Rattle.flush_actor.specs.Part.{is_cut, first_failed, at_limit, is_flushed_after, flush_above, last_put}
use Rattle.flush_actor.specs.Waits.{no_wait}
use Rattle.flush_actor.specs.declared.call_kind.CallKind.{CallKind}
use Rattle.flush_actor.specs.declared.wait.Wait.{Wait}
use Rattle.host_machine.specs.laws.Choices.{either}
use Rattle.host_machine.specs.laws.Contract.{Over, Contract}
use Rattle.host_machine.specs.laws.Rules.{Keeps}

-- ---- pages that are found

pub unsent_on-cached : (pages : List CachedPage) (ks : List (ℕ × ℕ)) (next : CachedPage × List (ℕ × ℕ)) → unsent_on pages ks ≡ Some next → page_at pages next.0.birth next.0.index ≡ Some next.0
unsent_on-cached pages [] next e = absurd (none-some next e)
unsent_on-cached pages (k ∷ ks) next e = by (unsent_on-cached pages ks next) (page_at pages k.0 k.1) refl e
  where
    by : (unsent_on pages ks ≡ Some next → page_at pages next.0.birth next.0.index ≡ Some next.0) → (q : Option CachedPage) → page_at pages k.0 k.1 ≡ q
        → (elim q as (λ _. Option (CachedPage × List (ℕ × ℕ))) [ None ↦ unsent_on pages ks | Some p ↦ if is_unsent p.state then Some (p, ks) else unsent_on pages ks ]) ≡ Some next
        → page_at pages next.0.birth next.0.index ≡ Some next.0
    by rest None q d = rest d
    by rest (Some p) q d = second (is_unsent p.state) d
      where
        second : (t : Bool) → (if t then Some (p, ks) else unsent_on pages ks) ≡ Some next → page_at pages next.0.birth next.0.index ≡ Some next.0
        second true d =
            let same : p ≡ next.0 = ap (λ (x : CachedPage × List (ℕ × ℕ)). x.0) (same_Some (p, ks) next d) in
            let key = page_at-key pages k.0 k.1 p q in
            subst (λ (x : CachedPage). page_at pages x.birth x.index ≡ Some x) same (ap (λ f. page_at pages f p.index) key.0 ∙ ap (page_at pages k.0) key.1 ∙ q)
        second false d = rest d

pub first_page-In : (test : CachedPage → Bool) (pages : List CachedPage) (p : CachedPage) → find test pages ≡ Some p → In p pages
first_page-In test [] p e = absurd (none-some p e)
first_page-In test (q ∷ ps) p e = by (first_page-In test ps p) (test q) e
  where
    by : (find test ps ≡ Some p → In p ps) → (t : Bool) → (if t then Some q else find test ps) ≡ Some p → In p (q ∷ ps)
    by rest true d = inl (same_Some q p d)
    by rest false d = inr (rest d)

-- where the first page with a property is none, no cached page has it
pub none_first : (test : CachedPage → Bool) (pages : List CachedPage) → find test pages ≡ None → (f i : ℕ) (p : CachedPage) → page_at pages f i ≡ Some p → test p ≡ false
none_first test [] e f i p d = absurd (none-some p d)
none_first test (q ∷ ps) e f i p d = by (λ n. none_first test ps n f i p) (test q) refl e (is_page q f i) d
  where
    by : (find test ps ≡ None → page_at ps f i ≡ Some p → test p ≡ false) → (t : Bool) → test q ≡ t → (if t then Some q else find test ps) ≡ None → (u : Bool) → (if u then Some q else page_at ps f i) ≡ Some p → test p ≡ false
    by rest true t n u d = absurd (none-some q (sym n))
    by rest false t n true d = subst (λ x. test x ≡ false) (same_Some q p d) t
    by rest false t n false d = rest n d

-- ---- the steps

-- a stop is no answer
pub stop-unanswered : {T V C R : Type 0} (M : Model T V C R) (u : Setup) (taken : List Completion) (kind : CallKind) (stop : Ending R) → stop_of M u taken kind ≡ Some stop → (t : ℕ) (c : C) → (is_answered_end : Bool) → is_answered_end ≡ (elim stop as (λ _. Bool) [ Answered r ↦ true | other ↦ false ]) → is_answered_end ≡ false
stop-unanswered M u taken kind (Answered r) e t c b d = absurd (first (list_any is_cut taken) e)
  where
    third : (x : Option ℕ) → option_map ReadOnly x ≡ Some (Answered r) → ⊥
    third None n = none-some (Answered r) n
    third (Some id) n = let z : ⊥ = cc in z

    second : (x : Bool) → (if x then None else option_map ReadOnly (first_failed taken)) ≡ Some (Answered r) → ⊥
    second true n = none-some (Answered r) n
    second false n = third (first_failed taken) n

    first : (x : Bool) → (if x then Some Down else if is_reading kind then None else option_map ReadOnly (first_failed taken)) ≡ Some (Answered r) → ⊥
    first true n = let z : ⊥ = cc in z
    first false n = second (is_reading kind) n
stop-unanswered M u taken kind Down e t c b d = d
stop-unanswered M u taken kind (ReadOnly id) e t c b d = d
stop-unanswered M u taken kind SessionFull e t c b d = d

-- a plain call that nothing hinders has the zones that it needs
module _ {T V C R : Type 0} (M : Model T V C R) (u : Setup) (s : Host V C R) where
  pub enough : (c : C) → hindrance M u s c ≡ None → M.hinders s.volume c ≡ true → nat_lt (length (M.zones s.volume).free) (M.needs s.volume c) ≡ false
  enough c e h = first (M.hinders s.volume c) h e
    where
      lacks : ℕ
      lacks = M.needs s.volume c - length (M.zones s.volume).free

      fourth : (x : Bool) → (if x then Some (causes.Quarantine lacks) else None) ≡ None → x ≡ false
      fourth true n = absurd (none-some (causes.Quarantine lacks) (sym n))
      fourth false n = refl

      third : (x : Bool) → (if not x then Some (causes.TxFull (log_needs u.writers s.journal.running)) else if nat_lt (length (M.zones s.volume).free) (M.needs s.volume c) then Some (causes.Quarantine lacks) else None) ≡ None
          → nat_lt (length (M.zones s.volume).free) (M.needs s.volume c) ≡ false
      third true n = fourth (nat_lt (length (M.zones s.volume).free) (M.needs s.volume c)) n
      third false n = absurd (none-some (causes.TxFull (log_needs u.writers s.journal.running)) (sym n))

      second : (x : Bool) → (if x then Some causes.Closing else if not (fits M u s.journal.running) then Some (causes.TxFull (log_needs u.writers s.journal.running)) else if nat_lt (length (M.zones s.volume).free) (M.needs s.volume c) then Some (causes.Quarantine lacks) else None) ≡ None
          → nat_lt (length (M.zones s.volume).free) (M.needs s.volume c) ≡ false
      second true n = absurd (none-some causes.Closing (sym n))
      second false n = third (fits M u s.journal.running) n

      first : (x : Bool) → x ≡ true → (if not x then None else if is_closing s.journal.phase then Some causes.Closing else if not (fits M u s.journal.running) then Some (causes.TxFull (log_needs u.writers s.journal.running)) else if nat_lt (length (M.zones s.volume).free) (M.needs s.volume c) then Some (causes.Quarantine lacks) else None) ≡ None
          → nat_lt (length (M.zones s.volume).free) (M.needs s.volume c) ≡ false
      first true d n = second (is_closing s.journal.phase) n
      first false d n = absurd (false≢true d)

module _ {A T V C R : Type 0} {o : Over A T V C R} {Stands : V → T → Type 0} (contract : Contract o Stands) (txs : List Transaction) (N : ℕ) where
  abbrev Kept : Stepped V C R → Type 0
  Kept x = Keeps o Stands x.host txs N

  module _ (s : Host V C R) (facts : Keeps o Stands s txs N) where
    -- ---- a begun call

    module _ (t : ℕ) (c : C) (rest : List C) (begins : is_begun (o.model.kind c) ≡ true) where
      passed : Kept (end_with o.model o.setup s t c rest (Answered o.model.ok))
      passed = end_both contract s txs N t c rest (Answered o.model.ok) (answered_quiet contract s.history t c o.model.ok (contract.begun _ _ c begins)) facts

      full_end : Kept (end_with o.model o.setup s t c rest SessionFull)
      full_end = end_both contract s txs N t c rest SessionFull (unanswered_quiet contract s.history (record { thread = t; call = c; what = Ends SessionFull }) refl) facts

      need_keeps : (w : Wait) (id : ℕ) → Kept (await_durable o.model o.setup s t c rest w id)
      need_keeps w id =
          either Kept (list_any (is_flushed_after id) s.journal.flush.taken) _ _ (λ e. passed)
          (λ e. either Kept (at_limit s.journal.flush && not (flush_above id 0 s.journal.flush.notes)) _ _ (λ e. full_end) (λ e. facts))

      last_put_keeps : (w : Wait) → Kept (await_last_put o.model o.setup s t c rest w)
      last_put_keeps w = by (last_put 0 s.journal.flush.notes None)
        where
          by : (x : Option ℕ) → Kept (elim x as (λ _. Stepped V C R) [ None ↦ end_with o.model o.setup s t c rest (Answered o.model.ok) | Some id ↦ await_durable o.model o.setup s t c rest w id ])
          by None = passed
          by (Some id) = need_keeps w id

      target_keeps : (w : Wait) (k : ℕ) → Kept (await_commit o.model o.setup s t c rest w k)
      target_keeps w k =
          either Kept (is_submitted s.journal k) _ _
          (λ e. either Kept (is_durable w.kind) _ _ (λ e. last_put_keeps w) (λ e. passed))
          (λ e. either Kept (at_limit s.journal.flush) _ _ (λ e. full_end) (λ e. facts))

      goal_keeps : (w : Wait) (g : Goal) → Kept (pursue o.model o.setup s t c rest w g)
      goal_keeps w AnswerOk = passed
      goal_keeps w AwaitLastPut = last_put_keeps w
      goal_keeps w (AwaitCommit k) = either Kept (at_limit s.journal.flush) _ _ (λ e. full_end) (λ e. by (k == s.journal.running.number))
        where
          by : (x : Bool) → Keeps o Stands (if x then wanting o.model o.setup (set_wait o.model o.setup s t (record w { target = Some k })) else set_wait o.model o.setup s t (record w { target = Some k })) txs N
          by true = facts
          by false = facts

      walk_keeps : (full : Bool) (w : Wait) (b : Begun) → Kept (walk_pages o.model o.setup full s t c rest w b)
      walk_keeps full w b = by (unsent_on s.pages b.list) refl
        where
          by : (x : Option (CachedPage × List (ℕ × ℕ))) → unsent_on s.pages b.list ≡ x → Kept (elim x as (λ _. Stepped V C R) [
            | None ↦ pursue o.model o.setup s t c rest w (goal_of s.journal b)
            | Some next ↦
                if at_limit s.journal.flush then end_with o.model o.setup s t c rest SessionFull
                else if full then record { host = s; step = outcomes.Waiting causes.QueueFull }
                else record {
                  host = set_thread o.model o.setup (send_page o.model o.setup s next.0 true (is_data b.kind && is_none (unsent_on s.pages next.1))) t (record { calls = c ∷ rest; begun = Some (record b { list = next.1; sent_barrier = b.sent_barrier || (is_data b.kind && is_none (unsent_on s.pages next.1)) }) });
                  step = outcomes.Sent (length s.journal.flush.requests);
                }
          ])
          by None e = goal_keeps w (goal_of s.journal b)
          by (Some next) e =
              either Kept (at_limit s.journal.flush) _ _ (λ e. full_end)
              (λ d. either Kept full _ _ (λ e. facts) (λ d. send_both contract s txs N facts next.0 true (is_data b.kind && is_none (unsent_on s.pages next.1)) (unsent_on-cached s.pages b.list next e)))

      begun_keeps : (full : Bool) (w : Wait) (b : Begun) → Kept (continue_begun o.model o.setup full s t c rest w b)
      begun_keeps full w b = by w.need
        where
          second : (x : Option ℕ) → Kept (elim x as (λ _. Stepped V C R) [ Some k ↦ await_commit o.model o.setup s t c rest w k | None ↦ walk_pages o.model o.setup full s t c rest w b ])
          second None = walk_keeps full w b
          second (Some k) = target_keeps w k

          by : (x : Option ℕ) → Kept (elim x as (λ _. Stepped V C R) [ Some id ↦ await_durable o.model o.setup s t c rest w id | None ↦ elim w.target as (λ _. Stepped V C R) [ Some k ↦ await_commit o.model o.setup s t c rest w k | None ↦ walk_pages o.model o.setup full s t c rest w b ] ])
          by None = second w.target
          by (Some id) = need_keeps w id

    -- ---- a plain call

    hindered_keeps : (cause : Cause) → Keeps o Stands (hindered o.model o.setup s cause) txs N
    hindered_keeps causes.Closing = facts
    hindered_keeps (causes.TxFull n) = facts
    hindered_keeps (causes.Quarantine n) = either (λ x. Keeps o Stands x txs N) (nat_lt (length (filter (λ (z : Freed). nat_lt z.transaction s.journal.running.number) (o.model.zones s.volume).waiting)) n) (wanting o.model o.setup s) s (λ e. facts) (λ e. facts)
    hindered_keeps (causes.Conflict b k) = facts
    hindered_keeps (causes.Commit k) = facts
    hindered_keeps (causes.Durable k) = facts
    hindered_keeps causes.QueueFull = facts

    plain_keeps : (t : ℕ) (c : C) (rest : List C) → o.model.reply s.volume c ≡ None → is_begun (o.model.kind c) ≡ false → Kept (plain o.model o.setup s t c rest)
    plain_keeps t c rest accepted not_begun = by (hindrance o.model o.setup s c) refl
      where
        by : (x : Option Cause) → hindrance o.model o.setup s c ≡ x → Kept (elim x as (λ _. Stepped V C R) [
          | Some cause ↦ if at_limit s.journal.flush then end_with o.model o.setup s t c rest SessionFull else record { host = hindered o.model o.setup s cause; step = outcomes.Waiting cause }
          | None ↦ end_with o.model o.setup (change o.model o.setup s c (o.model.apply s.volume (length s.history + 1) s.journal.running.number c)) t c rest (Answered (o.model.apply s.volume (length s.history + 1) s.journal.running.number c).reply)
        ])
        by None e = change_both contract s txs N t c rest facts accepted not_begun (enough o.model o.setup s c e)
        by (Some cause) e =
            either Kept (at_limit s.journal.flush) _ _
            (λ e. end_both contract s txs N t c rest SessionFull (unanswered_quiet contract s.history (record { thread = t; call = c; what = Ends SessionFull }) refl) facts)
            (λ e. hindered_keeps cause)

    -- ---- a caller's step; a begun call is a barrier or sync call

    call_keeps : (full : Bool) (t : ℕ) (b : Option Begun) (c : C) (rest : List C) → ((x : Begun) → b ≡ Some x → is_begun (o.model.kind c) ≡ true) → Kept (step_call o.model o.setup full s t b c rest)
    call_keeps full t (Some b) c rest begins = begun_keeps t c rest (begins b refl) full (slice_index_or s.journal.flush.waits t no_wait) b
    call_keeps full t None c rest begins = by (o.model.reply s.volume c) refl
      where
        by : (x : Option R) → o.model.reply s.volume c ≡ x → Kept (elim x as (λ _. Stepped V C R) [
          | Some refusal ↦ end_with o.model o.setup s t c rest (Answered refusal)
          | None ↦ if is_begun (o.model.kind c) then begin o.model o.setup s t c rest else plain o.model o.setup s t c rest
        ])
        by (Some why) e = end_both contract s txs N t c rest (Answered why) (answered_quiet contract s.history t c why (contract.refused s.volume _ _ c why facts.0.0.stands e)) facts
        by None e =
            either Kept (is_begun (o.model.kind c)) _ _
            (λ d. (
              (quiet_keeps contract refl refl (record { thread = t; call = c; what = Begins }) (unanswered_quiet contract s.history (record { thread = t; call = c; what = Begins }) refl) facts.0.0, facts.0.1),
              entry_rules contract facts.0.0 (record { thread = t; call = c; what = Begins }) facts.1,
            ))
            (λ d. plain_keeps t c rest e d)

    stop_keeps : (t : ℕ) (c : C) (rest : List C) (stop : Ending R) → stop_of o.model o.setup s.journal.flush.taken (o.model.kind c) ≡ Some stop → Kept (end_with o.model o.setup s t c rest stop)
    stop_keeps t c rest stop e = by stop refl
      where
        by : (x : Ending R) → stop ≡ x → Kept (end_with o.model o.setup s t c rest x)
        by (Answered r) d = absurd (false≢true (sym (stop-unanswered o.model o.setup s.journal.flush.taken (o.model.kind c) (Answered r) (e ∙ ap Some d) t c true refl)))
        by Down d = end_both contract s txs N t c rest Down (unanswered_quiet contract s.history (record { thread = t; call = c; what = Ends Down }) refl) facts
        by (ReadOnly id) d = end_both contract s txs N t c rest (ReadOnly id) (unanswered_quiet contract s.history (record { thread = t; call = c; what = Ends (ReadOnly id) }) refl) facts
        by SessionFull d = end_both contract s txs N t c rest SessionFull (unanswered_quiet contract s.history (record { thread = t; call = c; what = Ends SessionFull }) refl) facts

    thread_keeps : (full : Bool) (t : ℕ) (b : Option Begun) (calls : List C) → ((c : C) (rest : List C) (x : Begun) → calls ≡ c ∷ rest → b ≡ Some x → is_begun (o.model.kind c) ≡ true) → Kept (step_thread o.model o.setup full s t b calls)
    thread_keeps full t b [] begins = facts
    thread_keeps full t b (c ∷ rest) begins = by (stop_of o.model o.setup s.journal.flush.taken (o.model.kind c)) refl
      where
        by : (x : Option (Ending R)) → stop_of o.model o.setup s.journal.flush.taken (o.model.kind c) ≡ x → Kept (elim x as (λ _. Stepped V C R) [ Some stop ↦ end_with o.model o.setup s t c rest stop | None ↦ step_call o.model o.setup full s t b c rest ])
        by None e = call_keeps full t b c rest (λ x d. begins c rest x refl d)
        by (Some stop) e = stop_keeps t c rest stop e

    pub advance_keeps : (full : Bool) (t : ℕ) → ((th : Thread C) (c : C) (rest : List C) (x : Begun) → slice_get s.threads t ≡ Some th → th.calls ≡ c ∷ rest → th.begun ≡ Some x → is_begun (o.model.kind c) ≡ true)
        → Keeps o Stands (advance o.model o.setup full s t).host txs N
    advance_keeps full t begins = by (slice_get s.threads t) refl
      where
        by : (x : Option (Thread C)) → slice_get s.threads t ≡ x → Kept (elim x as (λ _. Stepped V C R) [ None ↦ record { host = s; step = outcomes.Ended } | Some th ↦ step_thread o.model o.setup full s t th.begun th.calls ])
        by None e = facts
        by (Some th) e = thread_keeps full t th.begun th.calls (λ c rest x q d. begins th c rest x e q d)
