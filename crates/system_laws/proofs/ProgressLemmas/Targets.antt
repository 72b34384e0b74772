-- What calls wait for along runs: a transaction up to the running one, and where it is the running one, that is wanted. Only a
-- call that waits for the device needs a request durable.
use Rattle.std.specs.List.{list_any}
use Rattle.std.specs.Prelude.{◌≡◌, ◌⊎◌, ℕ, zero, suc, ◌+◌, ◌-◌, ◌<◌, ◌≤◌, ◌==◌, ◌&&◌, Bool, true, false, not, List, [], ◌∷◌, length, map, set, Option, Some, None, slice_get, slice_index_or, refl, if◌then◌else◌}
use Rattle.std.proofs.Common.{sym, ap, subst, ◌∙◌, inl, inr, ⊎_elim, arith}
use Rattle.std.proofs.lemmas.Bool.{cases_Bool, cases_eq, cases_lt, lt-ltb, eqb-false}
use Rattle.std.proofs.lemmas.Option.{none-some, same_Some}
use Rattle.log_model.specs.Marks.{Logged}
use Rattle.log_model.specs.Ring.{Ring}
use Rattle.page_cache.specs.declared.cached_page.CachedPage.{CachedPage}
use Rattle.flush_actor.specs.Kinds.{is_data, is_durable, makes_durable}
use Rattle.flush_actor.specs.Part.{at_limit, is_flushed_after, flush_above, last_put}
use Rattle.flush_actor.specs.Waits.{no_wait, need_commit}
use Rattle.flush_actor.specs.conflicts.Conflicts.{least}
use Rattle.flush_actor.specs.declared.call_kind.CallKind.{CallKind}
use Rattle.flush_actor.specs.declared.call_kind.CallKind.TheVariants as kinds
use Rattle.flush_actor.specs.declared.wait.Wait.{Wait}
use Rattle.commit_actor.specs.Journal.{Plan, Phase, Idle, Closing, Committing, JournalPart, is_closing, is_submitted}
use Rattle.journal_ring.specs.running.Plan.{Planned}
use Rattle.journal_ring.specs.running.Running.{fresh, log_needs}
use Rattle.host_machine.specs.Host.{Stepped, Goal, AwaitCommit, AnswerOk, unsent_on, goal_of, data_goal, set_wait, end_with, await_durable, await_last_put, await_commit, pursue, walk_pages, continue_begun, stop_of, step_call, step_thread, advance, checkpoint, plan_sent, commit_step, wanting}
use Rattle.host_machine.specs.Model.{Model}
use Rattle.host_machine.specs.Outcomes as outcomes
use Rattle.host_machine.specs.State.{Ending, Answered, SessionFull, Begun, Thread, Host, Setup}
use Rattle.host_machine.specs.laws.Choices.{either}
use Rattle.host_machine.specs.runs.Runs.{Event, Call, Commit, WriteBack, FlushStep, TakeStep, stepped, steps}
use Rattle.host_machine.specs.runs.laws.Written.{AreWritten}
use Rattle.host_machine.proofs.RunsLemmas.Walks.{FreshEnds, call_walk, commit_walk, writeback_walk, flush_walk, take_walk}
use Rattle.tree_model.specs.declared.call.Reply.{Reply}
use Rattle.volume_steps.specs.Now.{VolumeNow}
use Rattle.minix_host.specs.ByteCalls.{ByteCall}
use Rattle.minix_host.specs.Sessions.{Opening, over}
use Rattle.system_laws.specs.progress.Commits.{IsUnderWay, wanted, closing, sending, IsHeldBack}
use Rattle.system_laws.proofs.TransactionSizeLemmas.Hosts.{IsKept, step_kept}
use Rattle.system_laws.proofs.TransactionSizeLemmas.Sets.{HasRoom}

-- a wait where transaction n runs, which is wanted or not
pub record IsFor (n : ℕ) (asks : Bool) (w : Wait) : Type 0 where
  pub within : (k : ℕ) → w.target ≡ Some k → k ≤ n
  pub asked : (k : ℕ) → w.target ≡ Some k → k ≡ n → asks ≡ true
  pub need : is_durable w.kind ≡ false → w.need ≡ None

abbrev pub AreFor : JournalPart → Type 0
AreFor j = (t : ℕ) → IsFor j.running.number j.running.wanted (slice_index_or j.flush.waits t no_wait)

pub none_for : (n : ℕ) (asks : Bool) → IsFor n asks no_wait
none_for n asks = record { within = λ k e. absurd (none-some k e); asked = λ k e same. absurd (none-some k e); need = λ e. refl }

pub set_either : (ws : List Wait) (t u : ℕ) (w : Wait) → (slice_index_or (set ws t w) u no_wait ≡ w) ⊎ (slice_index_or (set ws t w) u no_wait ≡ slice_index_or ws u no_wait)
set_either [] t u w = inr refl
set_either (x ∷ xs) zero zero w = inl refl
set_either (x ∷ xs) zero (suc u) w = inr refl
set_either (x ∷ xs) (suc t) zero w = inr refl
set_either (x ∷ xs) (suc t) (suc u) w = set_either xs t u w

-- thread t waits for something else
set_for : (n : ℕ) (asks : Bool) (ws : List Wait) (t : ℕ) (w : Wait) → ((u : ℕ) → IsFor n asks (slice_index_or ws u no_wait)) → IsFor n asks w → (u : ℕ) → IsFor n asks (slice_index_or (set ws t w) u no_wait)
set_for n asks ws t w all one u = ⊎_elim (λ e. subst (IsFor n asks) (sym e) one) (λ e. subst (IsFor n asks) (sym e) (all u)) (set_either ws t u w)

-- a call that waits for the device may need a request durable
needs : (n : ℕ) (asks : Bool) (w : Wait) (id : ℕ) → is_durable w.kind ≡ true → IsFor n asks w → IsFor n asks (record w { need = Some id })
needs n asks w id durable one = record { within = one.within; asked = one.asked; need = λ e. absurd (cc (sym durable ∙ e)) }

makes-durable : (kind : CallKind) → makes_durable kind ≡ true → is_durable kind ≡ true
makes-durable kinds.FileSync e = refl
makes-durable kinds.WholeSync e = refl
makes-durable kinds.DataSync e = refl
makes-durable kinds.Reading e = cc
makes-durable kinds.Changing e = cc
makes-durable kinds.FileBarrier e = cc
makes-durable kinds.DataBarrier e = cc

noted : (n : ℕ) (asks : Bool) (k id : ℕ) (w : Wait) → IsFor n asks w → IsFor n asks (need_commit k id w)
noted n asks k id w one = by (cases_Bool (makes_durable w.kind))
  where
    by : (makes_durable w.kind ≡ true) ⊎ (makes_durable w.kind ≡ false) → IsFor n asks (need_commit k id w)
    by (inl e) = either (IsFor n asks) (makes_durable w.kind && elim w.target as (λ _. Bool) [ Some t ↦ t == k | None ↦ false ]) (record w { need = Some id }) w (λ both. needs n asks w id (makes-durable w.kind e) one) (λ no. one)
    by (inr e) = rw e one

all_noted : (n : ℕ) (asks : Bool) (k id : ℕ) (ws : List Wait) → ((u : ℕ) → IsFor n asks (slice_index_or ws u no_wait)) → (u : ℕ) → IsFor n asks (slice_index_or (map (need_commit k id) ws) u no_wait)
all_noted n asks k id [] all u = none_for n asks
all_noted n asks k id (w ∷ ws) all zero = noted n asks k id w (all zero)
all_noted n asks k id (w ∷ ws) all (suc u) = all_noted n asks k id ws (λ v. all (suc v)) u

module _ {T V C R : Type 0} (M : Model T V C R) (u : Setup) where
  module _ (full : Bool) (s : Host V C R) (kept : AreFor s.journal) where
    abbrev n : ℕ
    n = s.journal.running.number

    abbrev After : Stepped V C R → Type 0
    After x = AreFor x.host.journal

    -- ---- a thread's first call

    module _ (t : ℕ) (c : C) (rest : List C) where
      ends : (e : Ending R) → After (end_with M u s t c rest e)
      ends e = set_for n s.journal.running.wanted s.journal.flush.waits t no_wait kept (none_for n s.journal.running.wanted)

      waits : (w : Wait) → IsFor n s.journal.running.wanted w → AreFor (set_wait M u s t w).journal
      waits w one = set_for n s.journal.running.wanted s.journal.flush.waits t w kept one

      module _ (b : Begun) where
        abbrev w : Wait
        w = slice_index_or s.journal.flush.waits t no_wait

        durably : (id : ℕ) → is_durable w.kind ≡ true → After (await_durable M u s t c rest w id)
        durably id durable =
            either After (list_any (is_flushed_after id) s.journal.flush.taken) _ _ (λ e. ends (Answered M.ok))
            (λ e. either After (at_limit s.journal.flush && not (flush_above id 0 s.journal.flush.notes)) _ _ (λ e. ends SessionFull) (λ e. waits (record w { need = Some id }) (needs n s.journal.running.wanted w id durable (kept t))))

        last : is_durable w.kind ≡ true → After (await_last_put M u s t c rest w)
        last durable = by (last_put 0 s.journal.flush.notes None)
          where
            by : (x : Option ℕ) → After (elim x as (λ _. Stepped V C R) [ None ↦ end_with M u s t c rest (Answered M.ok) | Some id ↦ await_durable M u s t c rest w id ])
            by None = ends (Answered M.ok)
            by (Some id) = durably id durable

        commits : (k : ℕ) → After (await_commit M u s t c rest w k)
        commits k =
            either After (is_submitted s.journal k) _ _
            (λ e. either After (is_durable w.kind) _ _ (λ durable. last durable) (λ e. ends (Answered M.ok)))
            (λ e. either After (at_limit s.journal.flush) _ _ (λ e. ends SessionFull) (λ e. kept))

        -- it waits for transaction k from now on
        targets : (k : ℕ) → k ≤ n → After (pursue M u s t c rest w (AwaitCommit k))
        targets k low = either After (at_limit s.journal.flush) _ _ (λ e. ends SessionFull) (λ e. by (k == n) refl)
          where
            same_target : (i : ℕ) → (record w { target = Some k }).target ≡ Some i → k ≡ i
            same_target i e = same_Some k i e

            by : (x : Bool) → (k == n) ≡ x → AreFor (if x then wanting M u (set_wait M u s t (record w { target = Some k })) else set_wait M u s t (record w { target = Some k })).journal
            by true e = set_for n true s.journal.flush.waits t (record w { target = Some k }) (λ u. record { within = (kept u).within; asked = λ k e same. refl; need = (kept u).need })
                (record { within = λ i e. subst (λ i. i ≤ n) (same_target i e) low; asked = λ i e same. refl; need = (kept t).need })
            by false e = waits (record w { target = Some k }) (record {
              within = λ i e. subst (λ i. i ≤ n) (same_target i e) low;
              asked = λ i f same. absurd (eqb-false k n e (same_target i f ∙ same));
              need = (kept t).need;
            })

        abbrev Pursues : Goal → Type 0
        Pursues g = After (pursue M u s t c rest w g)

        of_data : (kind : CallKind) (sent : Bool) → (kind ≡ kinds.DataSync → is_durable w.kind ≡ true) → Pursues (data_goal kind sent n)
        of_data kinds.DataSync sent durable = last (durable refl)
        of_data kinds.Reading sent durable = either Pursues sent AnswerOk (AwaitCommit n) (λ e. ends (Answered M.ok)) (λ e. targets n (omega arith))
        of_data kinds.Changing sent durable = either Pursues sent AnswerOk (AwaitCommit n) (λ e. ends (Answered M.ok)) (λ e. targets n (omega arith))
        of_data kinds.FileSync sent durable = either Pursues sent AnswerOk (AwaitCommit n) (λ e. ends (Answered M.ok)) (λ e. targets n (omega arith))
        of_data kinds.WholeSync sent durable = either Pursues sent AnswerOk (AwaitCommit n) (λ e. ends (Answered M.ok)) (λ e. targets n (omega arith))
        of_data kinds.FileBarrier sent durable = either Pursues sent AnswerOk (AwaitCommit n) (λ e. ends (Answered M.ok)) (λ e. targets n (omega arith))
        of_data kinds.DataBarrier sent durable = either Pursues sent AnswerOk (AwaitCommit n) (λ e. ends (Answered M.ok)) (λ e. targets n (omega arith))

        abbrev Chosen : Option ℕ → Type 0
        Chosen o = Pursues (elim o as (λ _. Goal) [ Some k ↦ AwaitCommit k | None ↦ data_goal b.kind b.sent_barrier n ])

        of_goal : (b.kind ≡ kinds.DataSync → is_durable w.kind ≡ true) → Pursues (goal_of s.journal b)
        of_goal durable = either Pursues (is_data b.kind) _ _ (λ of_bytes. either Chosen (list_any (λ g. g == b.file) s.journal.running.changed) _ _ (λ e. targets n (omega arith)) (λ e. by s.journal.phase)) (λ e. targets n (omega arith))
          where
            by : (phase : Phase) → Chosen (elim phase as (λ _. Option ℕ) [
              | Idle ↦ None
              | Closing ↦ None
              | Committing p ↦ if list_any (λ g. g == b.file) p.changed then Some (n - 1) else None
            ])
            by Idle = of_data b.kind b.sent_barrier durable
            by Closing = of_data b.kind b.sent_barrier durable
            by (Committing p) = either Chosen (list_any (λ g. g == b.file) p.changed) _ _ (λ e. targets (n - 1) (omega arith)) (λ e. of_data b.kind b.sent_barrier durable)

        sends : (b.kind ≡ kinds.DataSync → is_durable w.kind ≡ true) → After (walk_pages M u full s t c rest w b)
        sends durable = by (unsent_on s.pages b.list) refl
          where
            by : (x : Option (CachedPage × List (ℕ × ℕ))) → unsent_on s.pages b.list ≡ x → After (walk_pages M u full s t c rest w b)
            by None is = rw (is, walk_pages) (of_goal durable)
            by (Some next) is = rw (is, walk_pages) (either After (at_limit s.journal.flush) _ _ (λ e. ends SessionFull) (λ d. either After full _ _ (λ e. kept) (λ e. kept)))

        goes_on : (b.kind ≡ kinds.DataSync → is_durable w.kind ≡ true) → After (continue_begun M u full s t c rest w b)
        goes_on durable = by w.need refl
          where
            second : (x : Option ℕ) → After (elim x as (λ _. Stepped V C R) [ Some k ↦ await_commit M u s t c rest w k | None ↦ walk_pages M u full s t c rest w b ])
            second None = sends durable
            second (Some k) = commits k

            by : (x : Option ℕ) → w.need ≡ x → After (elim x as (λ _. Stepped V C R) [
              | Some id ↦ await_durable M u s t c rest w id
              | None ↦ elim w.target as (λ _. Stepped V C R) [ Some k ↦ await_commit M u s t c rest w k | None ↦ walk_pages M u full s t c rest w b ]
            ])
            by None e = second w.target
            by (Some id) e = ⊎_elim (λ durable. durably id durable) (λ no. absurd (cc (sym ((kept t).need no) ∙ e))) (cases_Bool (is_durable w.kind))

      fresh_ends : FreshEnds M u s t c rest After
      fresh_ends = record {
        refused = λ why e. ends (Answered why);
        begins = λ accepted kind. waits (record { kind = M.kind c; target = None; need = None }) (record { within = λ k e. absurd (none-some k e); asked = λ k e same. absurd (none-some k e); need = λ e. refl });
        full_up = λ why e limit. ends SessionFull;
        rests = λ why. kept;
        wants = λ why u. record { within = (kept u).within; asked = λ k e same. refl; need = (kept u).need };
        acts = λ accepted kind free. ends (Answered (M.apply s.volume (length s.history + 1) n c).reply);
      }

      called : (begun : Option Begun) → ((b : Begun) → begun ≡ Some b → (slice_index_or s.journal.flush.waits t no_wait).kind ≡ b.kind) → After (step_thread M u full s t begun (c ∷ rest))
      called None same = call_walk M u full s t c rest After None (record {
        stopped = λ e stop. ends e;
        goes_on = λ b going e. absurd (none-some b e);
        starts = λ going e. fresh_ends;
      })
      called (Some b) same = by (stop_of M u s.journal.flush.taken (M.kind c))
        where
          durable : b.kind ≡ kinds.DataSync → is_durable (slice_index_or s.journal.flush.waits t no_wait).kind ≡ true
          durable e = ap is_durable (same b refl ∙ e)

          by : (x : Option (Ending R)) → After (elim x as (λ _. Stepped V C R) [ Some stop ↦ end_with M u s t c rest stop | None ↦ step_call M u full s t (Some b) c rest ])
          by None = goes_on b durable
          by (Some stop) = ends stop

    -- ---- all steps

    caller_for : ((t : ℕ) (th : Thread C) (b : Begun) → slice_get s.threads t ≡ Some th → th.begun ≡ Some b → (slice_index_or s.journal.flush.waits t no_wait).kind ≡ b.kind) → (t : ℕ) → After (advance M u full s t)
    caller_for same t = by (slice_get s.threads t) refl
      where
        of_calls : (th : Thread C) → slice_get s.threads t ≡ Some th → (calls : List C) → After (step_thread M u full s t th.begun calls)
        of_calls th at [] = kept
        of_calls th at (c ∷ rest) = called t c rest th.begun (λ b e. same t th b at e)

        by : (x : Option (Thread C)) → slice_get s.threads t ≡ x → After (elim x as (λ _. Stepped V C R) [ None ↦ record { host = s; step = outcomes.Ended } | Some th ↦ step_thread M u full s t th.begun th.calls ])
        by None e = kept
        by (Some th) e = of_calls th e th.calls

    abbrev Now : Host V C R → Type 0
    Now x = AreFor x.journal

    checked : (homes : List Logged) → Now (checkpoint M u s homes)
    checked [] = kept
    checked (x ∷ xs) = kept

    sent : (p : Plan) (next : Planned) (rest : List Planned) → Now (plan_sent M u s p next rest)
    sent p next [] = all_noted n s.journal.running.wanted (n - 1) (length s.journal.flush.requests) s.journal.flush.waits kept
    sent p next (q ∷ qs) = kept

    commit_for : Now (commit_step M u full s).host
    commit_for = commit_walk M u full s Now (record {
      rests = kept;
      closes = kept;
      sends_page = λ p limit free. kept;
      checkpoints = λ limit free. checked s.journal.ring.homes;
      builds = λ t. record {
        within = λ k e. let low = (kept t).within k e in omega (arith, low);
        asked = λ k e same. let low = (kept t).within k e in absurd (let no : 1 ≤ 0 = omega (arith, low, same) in omega (arith, no));
        need = (kept t).need;
      };
      sends_plan = λ p next rest phase is limit free. sent p next rest;
    })

module _ (s : Opening) (log : Ring) where
  abbrev H : Type 0
  H = Host VolumeNow ByteCall Reply

  abbrev KeepsFor : H → Type 0
  KeepsFor h = AreFor h.journal

  step_for : (h : H) → IsKept s log h → KeepsFor h → (e : Event) → KeepsFor (stepped (over s) h e)
  step_for h k kept (Call full t) = caller_for (over s).model (over s).setup full h kept (λ t th b at e. (k.sound.rules.3.each t th b at e).kind) t
  step_for h k kept (Commit full) = commit_for (over s).model (over s).setup full h kept
  step_for h k kept (WriteBack full pick) = writeback_walk (over s).model (over s).setup full h KeepsFor kept (λ p ordered limit free. kept) pick
  step_for h k kept (FlushStep full next) = flush_walk (over s).model (over s).setup full h KeepsFor kept (λ limit free. kept) (λ c. kept) next
  step_for h k kept (TakeStep next) = take_walk (over s).model (over s).setup false h KeepsFor kept (λ c. kept) next

  module _ (room : HasRoom s.writers) (first : (k : ℕ) → log_needs s.writers (fresh k) ≤ s.quota) (written : AreWritten s.format s.writers) where
    -- so it is along whole runs
    pub steps_for : (h : H) → IsKept s log h → KeepsFor h → (events : List Event) → KeepsFor (steps (over s) h events)
    steps_for h k kept [] = kept
    steps_for h k kept (e ∷ events) = steps_for (stepped (over s) h e) (step_kept s log room first written h e k) (step_for h k kept e) events

-- So what a call waits for is under way, or through, or the running transaction, of which an earlier one holds a block.
pub waits_for : {V C R : Type 0} (h : Host V C R) (t k : ℕ) → AreFor h.journal → (slice_index_or h.journal.flush.waits t no_wait).target ≡ Some k → IsUnderWay h k ⊎ ((is_submitted h.journal k ≡ true) ⊎ IsHeldBack h k)
waits_for h t k kept target = elim (cases_eq k h.journal.running.number) [
  | inl same ↦ runs same h.journal.phase refl (least h.journal.flush.conflicts) refl
  | inr other ↦ elim (cases_lt (k + 1) h.journal.running.number) [
    | inl below ↦ inr (inl (behind below h.journal.phase refl))
    | inr high ↦ before (let low = (kept t).within k target in omega (arith, low, other, high)) h.journal.phase refl
  ]
]
  where
    runs : k ≡ h.journal.running.number → (phase : Phase) → h.journal.phase ≡ phase → (held : Option ℕ) → least h.journal.flush.conflicts ≡ held → IsUnderWay h k ⊎ ((is_submitted h.journal k ≡ true) ⊎ IsHeldBack h k)
    runs same Closing is held at = inl (closing is (sym same))
    runs same phase is None at = inl (wanted ((kept t).asked k target same) at (sym same))
    runs same Idle is (Some block) at = inr (inr (record { block = block; held = at; running = sym same; unclosed = ap is_closing is }))
    runs same (Committing p) is (Some block) at = inr (inr (record { block = block; held = at; running = sym same; unclosed = ap is_closing is }))

    behind : k + 1 < h.journal.running.number → (phase : Phase) → h.journal.phase ≡ phase → is_submitted h.journal k ≡ true
    behind low Idle is = rw is (lt-ltb k h.journal.running.number (omega (arith, low)))
    behind low Closing is = rw is (lt-ltb k h.journal.running.number (omega (arith, low)))
    behind low (Committing p) is = rw is (lt-ltb (k + 1) h.journal.running.number low)

    before : h.journal.running.number ≡ k + 1 → (phase : Phase) → h.journal.phase ≡ phase → IsUnderWay h k ⊎ ((is_submitted h.journal k ≡ true) ⊎ IsHeldBack h k)
    before next Idle is = inr (inl (rw is (lt-ltb k h.journal.running.number (omega (arith, next)))))
    before next Closing is = inr (inl (rw is (lt-ltb k h.journal.running.number (omega (arith, next)))))
    before next (Committing p) is = inl (sending p is (omega (arith, next)))
