-- A step of the host, case by case: what holds at each of its ends holds after the step.
use Rattle.std.specs.List.{find, filter, list_any}
use Rattle.std.specs.Prelude.{◌≡◌, ℕ, ◌+◌, ◌==◌, ◌&&◌, ◌||◌, Bool, true, false, not, List, [], ◌∷◌, length, slice_get, slice_index_or, is_none, nat_lt, Option, Some, None, refl, if◌then◌else◌}
use Rattle.std.proofs.lemmas.Bool.{and_parts}
use Rattle.order_model.specs.declared.completion.Completion.{Completion}
use Rattle.order_model.specs.declared.note.Note.TheVariants as notes
use Rattle.order_model.specs.declared.request.Kind.TheVariants as kinds
use Rattle.order_model.specs.declared.turn.Turn.TheVariants as turns
use Rattle.page_cache.specs.Pages.{is_unsent, is_dirty}
use Rattle.page_cache.specs.declared.cached_page.CachedPage.{CachedPage}
use Rattle.number_sets.specs.Sets.{has}
use Rattle.flush_actor.specs.conflicts.Conflicts.{least}
use Rattle.journal_ring.specs.LogRing.{ring_free}
use Rattle.journal_ring.specs.running.Running.{log_needs}
use Rattle.journal_ring.specs.running.Plan.{Planned}
use Rattle.flush_actor.specs.Kinds.{is_begun, is_data, is_durable}
use Rattle.flush_actor.specs.Part.{at_limit, is_over, is_flushed_after, flush_above, last_put, submit}
use Rattle.flush_actor.specs.Steps.{take_completion, flush_due}
use Rattle.flush_actor.specs.Waits.{no_wait}
use Rattle.flush_actor.specs.declared.wait.Wait.{Wait}
use Rattle.commit_actor.specs.Journal.{Plan, Phase, Idle, Closing, Committing, is_submitted}
use Rattle.host_machine.specs.Causes as causes
use Rattle.host_machine.specs.Causes.{Cause}
use Rattle.host_machine.specs.Host.{Stepped, Turned, Goal, AwaitCommit, AnswerOk, AwaitLastPut, unsent_on, goal_of, cause_of, with_flush, set_wait, set_thread, send_page, end_with, hindrance, hindered, plain, begin, await_durable, await_last_put, await_commit, pursue, walk_pages, continue_begun, stop_of, step_call, step_thread, advance, submits, build_plan, checkpoint, close_step, plan_sent, in_phase, commit_step, writeback, flush_step, take_step, wanting, change}
use Rattle.host_machine.specs.Model.{Model, Freed}
use Rattle.host_machine.specs.Outcomes as outcomes
use Rattle.host_machine.specs.State.{Ending, Answered, SessionFull, Begun, Thread, Host, Setup}
use Rattle.host_machine.specs.laws.Choices.{either}

-- ---- a caller

-- the ends of a step of a begun call
pub record BegunEnds {T V C R : Type 0} (M : Model T V C R) (u : Setup) (full : Bool) (s : Host V C R) (t : ℕ) (c : C) (rest : List C) (b : Begun) (P : Stepped V C R → Type 0) : Type 0 where
  pub done : P (end_with M u s t c rest (Answered M.ok))
  pub full_up : at_limit s.journal.flush ≡ true → P (end_with M u s t c rest SessionFull)
  pub rests : (why : Cause) → P (record { host = s; step = outcomes.Waiting why })
  pub waits : (w : Wait) (why : Cause) → P (record { host = set_wait M u s t w; step = outcomes.Waiting why })
  pub wants : (w : Wait) (why : Cause) → P (record { host = wanting M u (set_wait M u s t w); step = outcomes.Waiting why })
  pub sends : (next : CachedPage × List (ℕ × ℕ)) → unsent_on s.pages b.list ≡ Some next → at_limit s.journal.flush ≡ false → full ≡ false → P (record {
    host = set_thread M u (send_page M u s next.0 true (is_data b.kind && is_none (unsent_on s.pages next.1))) t (record { calls = c ∷ rest; begun = Some (record b { list = next.1; sent_barrier = b.sent_barrier || (is_data b.kind && is_none (unsent_on s.pages next.1)) }) });
    step = outcomes.Sent (length s.journal.flush.requests);
  })

-- those of a call that has not begun
pub record FreshEnds {T V C R : Type 0} (M : Model T V C R) (u : Setup) (s : Host V C R) (t : ℕ) (c : C) (rest : List C) (P : Stepped V C R → Type 0) : Type 0 where
  pub refused : (why : R) → M.reply s.volume c ≡ Some why → P (end_with M u s t c rest (Answered why))
  pub begins : M.reply s.volume c ≡ None → is_begun (M.kind c) ≡ true → P (begin M u s t c rest)
  pub full_up : (why : Cause) → hindrance M u s c ≡ Some why → at_limit s.journal.flush ≡ true → P (end_with M u s t c rest SessionFull)
  pub rests : (why : Cause) → P (record { host = s; step = outcomes.Waiting why })
  pub wants : (why : Cause) → P (record { host = wanting M u s; step = outcomes.Waiting why })
  pub acts : M.reply s.volume c ≡ None → is_begun (M.kind c) ≡ false → hindrance M u s c ≡ None →
      P (end_with M u (change M u s c (M.apply s.volume (length s.history + 1) s.journal.running.number c)) t c rest (Answered (M.apply s.volume (length s.history + 1) s.journal.running.number c).reply))

-- those of a thread's first call
pub record CallEnds {T V C R : Type 0} (M : Model T V C R) (u : Setup) (full : Bool) (s : Host V C R) (t : ℕ) (c : C) (rest : List C) (begun : Option Begun) (P : Stepped V C R → Type 0) : Type 0 where
  pub stopped : (e : Ending R) → stop_of M u s.journal.flush.taken (M.kind c) ≡ Some e → P (end_with M u s t c rest e)
  pub goes_on : (b : Begun) → stop_of M u s.journal.flush.taken (M.kind c) ≡ None → begun ≡ Some b → BegunEnds M u full s t c rest b P
  pub starts : stop_of M u s.journal.flush.taken (M.kind c) ≡ None → begun ≡ None → FreshEnds M u s t c rest P

module _ {T V C R : Type 0} (M : Model T V C R) (u : Setup) (full : Bool) (s : Host V C R) (t : ℕ) (c : C) (rest : List C) (b : Begun) (P : Stepped V C R → Type 0) (ends : BegunEnds M u full s t c rest b P) where
  need_walk : (w : Wait) (id : ℕ) → P (await_durable M u s t c rest w id)
  need_walk w id =
      either P (list_any (is_flushed_after id) s.journal.flush.taken) _ _ (λ e. ends.done)
      (λ e. either P (at_limit s.journal.flush && not (flush_above id 0 s.journal.flush.notes)) _ _ (λ e. ends.full_up (and_parts (at_limit s.journal.flush) _ e).0) (λ e. ends.waits (record w { need = Some id }) (causes.Durable id)))

  last_put_walk : (w : Wait) → P (await_last_put M u s t c rest w)
  last_put_walk w = by (last_put 0 s.journal.flush.notes None)
    where
      by : (x : Option ℕ) → P (elim x as (λ _. Stepped V C R) [ None ↦ end_with M u s t c rest (Answered M.ok) | Some id ↦ await_durable M u s t c rest w id ])
      by None = ends.done
      by (Some id) = need_walk w id

  target_walk : (w : Wait) (k : ℕ) → P (await_commit M u s t c rest w k)
  target_walk w k =
      either P (is_submitted s.journal k) _ _
      (λ e. either P (is_durable w.kind) _ _ (λ e. last_put_walk w) (λ e. ends.done))
      (λ e. either P (at_limit s.journal.flush) _ _ (λ e. ends.full_up e) (λ e. ends.rests (cause_of s.journal k)))

  goal_walk : (w : Wait) (g : Goal) → P (pursue M u s t c rest w g)
  goal_walk w AnswerOk = ends.done
  goal_walk w AwaitLastPut = last_put_walk w
  goal_walk w (AwaitCommit k) = either P (at_limit s.journal.flush) _ _ (λ e. ends.full_up e) (λ e. by (k == s.journal.running.number))
    where
      by : (x : Bool) → P (record { host = if x then wanting M u (set_wait M u s t (record w { target = Some k })) else set_wait M u s t (record w { target = Some k }); step = outcomes.Waiting (cause_of s.journal k) })
      by true = ends.wants (record w { target = Some k }) (cause_of s.journal k)
      by false = ends.waits (record w { target = Some k }) (cause_of s.journal k)

  pages_walk : (w : Wait) → P (walk_pages M u full s t c rest w b)
  pages_walk w = by (unsent_on s.pages b.list) refl
    where
      by : (x : Option (CachedPage × List (ℕ × ℕ))) → unsent_on s.pages b.list ≡ x → P (elim x as (λ _. Stepped V C R) [
        | None ↦ pursue M u s t c rest w (goal_of s.journal b)
        | Some next ↦
            if at_limit s.journal.flush then end_with M u s t c rest SessionFull
            else if full then record { host = s; step = outcomes.Waiting causes.QueueFull }
            else record {
              host = set_thread M u (send_page M u s next.0 true (is_data b.kind && is_none (unsent_on s.pages next.1))) t (record { calls = c ∷ rest; begun = Some (record b { list = next.1; sent_barrier = b.sent_barrier || (is_data b.kind && is_none (unsent_on s.pages next.1)) }) });
              step = outcomes.Sent (length s.journal.flush.requests);
            }
      ])
      by None is = goal_walk w (goal_of s.journal b)
      by (Some next) is =
          either P (at_limit s.journal.flush) _ _ (λ e. ends.full_up e)
          (λ d. either P full _ _ (λ e. ends.rests causes.QueueFull) (λ e. ends.sends next is d e))

  begun_walk : (w : Wait) → P (continue_begun M u full s t c rest w b)
  begun_walk w = by w.need
    where
      second : (x : Option ℕ) → P (elim x as (λ _. Stepped V C R) [ Some k ↦ await_commit M u s t c rest w k | None ↦ walk_pages M u full s t c rest w b ])
      second None = pages_walk w
      second (Some k) = target_walk w k

      by : (x : Option ℕ) → P (elim x as (λ _. Stepped V C R) [ Some id ↦ await_durable M u s t c rest w id | None ↦ elim w.target as (λ _. Stepped V C R) [ Some k ↦ await_commit M u s t c rest w k | None ↦ walk_pages M u full s t c rest w b ] ])
      by None = second w.target
      by (Some id) = need_walk w id

module _ {T V C R : Type 0} (M : Model T V C R) (u : Setup) (full : Bool) (s : Host V C R) (t : ℕ) (c : C) (rest : List C) (P : Stepped V C R → Type 0) where
  module _ (ends : FreshEnds M u s t c rest P) where
    hindered_walk : (cause : Cause) → P (record { host = hindered M u s cause; step = outcomes.Waiting cause })
    hindered_walk causes.Closing = ends.rests causes.Closing
    hindered_walk (causes.TxFull n) = ends.wants (causes.TxFull n)
    hindered_walk (causes.Quarantine n) = by (nat_lt (length (filter (λ (z : Freed). nat_lt z.transaction s.journal.running.number) (M.zones s.volume).waiting)) n)
      where
        by : (x : Bool) → P (record { host = if x then wanting M u s else s; step = outcomes.Waiting (causes.Quarantine n) })
        by true = ends.wants (causes.Quarantine n)
        by false = ends.rests (causes.Quarantine n)
    hindered_walk (causes.Conflict b k) = ends.rests (causes.Conflict b k)
    hindered_walk (causes.Commit k) = ends.rests (causes.Commit k)
    hindered_walk (causes.Durable k) = ends.rests (causes.Durable k)
    hindered_walk causes.QueueFull = ends.rests causes.QueueFull

    plain_walk : M.reply s.volume c ≡ None → is_begun (M.kind c) ≡ false → P (plain M u s t c rest)
    plain_walk none kind = by (hindrance M u s c) refl
      where
        by : (x : Option Cause) → hindrance M u s c ≡ x → P (elim x as (λ _. Stepped V C R) [
          | Some cause ↦ if at_limit s.journal.flush then end_with M u s t c rest SessionFull else record { host = hindered M u s cause; step = outcomes.Waiting cause }
          | None ↦ end_with M u (change M u s c (M.apply s.volume (length s.history + 1) s.journal.running.number c)) t c rest (Answered (M.apply s.volume (length s.history + 1) s.journal.running.number c).reply)
        ])
        by None e = ends.acts none kind e
        by (Some cause) e = either P (at_limit s.journal.flush) _ _ (λ limit. ends.full_up cause e limit) (λ d. hindered_walk cause)

    fresh_walk : P (step_call M u full s t None c rest)
    fresh_walk = by (M.reply s.volume c) refl
      where
        by : (x : Option R) → M.reply s.volume c ≡ x → P (elim x as (λ _. Stepped V C R) [
          | Some refusal ↦ end_with M u s t c rest (Answered refusal)
          | None ↦ if is_begun (M.kind c) then begin M u s t c rest else plain M u s t c rest
        ])
        by (Some why) e = ends.refused why e
        by None e = either P (is_begun (M.kind c)) _ _ (λ kind. ends.begins e kind) (λ kind. plain_walk e kind)

  -- a step of a thread's first call
  pub call_walk : (begun : Option Begun) → CallEnds M u full s t c rest begun P → P (step_thread M u full s t begun (c ∷ rest))
  call_walk begun ends = by (stop_of M u s.journal.flush.taken (M.kind c)) refl
    where
      going : stop_of M u s.journal.flush.taken (M.kind c) ≡ None → (x : Option Begun) → begun ≡ x → P (step_call M u full s t x c rest)
      going on None e = fresh_walk (ends.starts on e)
      going on (Some b) e = begun_walk M u full s t c rest b P (ends.goes_on b on e) (slice_index_or s.journal.flush.waits t no_wait)

      by : (x : Option (Ending R)) → stop_of M u s.journal.flush.taken (M.kind c) ≡ x → P (elim x as (λ _. Stepped V C R) [ Some stop ↦ end_with M u s t c rest stop | None ↦ step_call M u full s t begun c rest ])
      by None e = going e begun refl
      by (Some stop) e = ends.stopped stop e

-- a caller's step
pub caller_walk : {T V C R : Type 0} (M : Model T V C R) (u : Setup) (full : Bool) (s : Host V C R) (t : ℕ) (P : Stepped V C R → Type 0) → P (record { host = s; step = outcomes.Ended }) →
    ((th : Thread C) (c : C) (rest : List C) → slice_get s.threads t ≡ Some th → th.calls ≡ c ∷ rest → CallEnds M u full s t c rest th.begun P) → P (advance M u full s t)
caller_walk {V = V} {C = C} {R = R} M u full s t P over ends = by (slice_get s.threads t) refl
  where
    calls_by : (th : Thread C) → slice_get s.threads t ≡ Some th → (calls : List C) → th.calls ≡ calls → P (step_thread M u full s t th.begun calls)
    calls_by th at [] e = over
    calls_by th at (c ∷ rest) e = call_walk M u full s t c rest P th.begun (ends th c rest at e)

    by : (x : Option (Thread C)) → slice_get s.threads t ≡ x → P (elim x as (λ _. Stepped V C R) [ None ↦ record { host = s; step = outcomes.Ended } | Some th ↦ step_thread M u full s t th.begun th.calls ])
    by None e = over
    by (Some th) e = calls_by th e th.calls refl

-- ---- the actors

-- the ends of a step of the commit actor
pub record CommitEnds {T V C R : Type 0} (M : Model T V C R) (u : Setup) (full : Bool) (s : Host V C R) (P : Host V C R → Type 0) : Type 0 where
  pub rests : P s
  pub closes : P (record s { journal = record s.journal { phase = Closing } })
  pub sends_page : (p : CachedPage) → at_limit s.journal.flush ≡ false → full ≡ false → P (send_page M u s p true false)
  pub checkpoints : at_limit s.journal.flush ≡ false → full ≡ false → P (checkpoint M u s s.journal.ring.homes)
  pub builds : P (build_plan M u s)
  pub sends_plan : (p : Plan) (first : Planned) (rest : List Planned) → s.journal.phase ≡ Committing p → p.rest ≡ first ∷ rest → at_limit s.journal.flush ≡ false → full ≡ false → P (plan_sent M u s p first rest)

module _ {T V C R : Type 0} (M : Model T V C R) (u : Setup) (full : Bool) (s : Host V C R) (P : Host V C R → Type 0) where
  abbrev Turns : Turned V C R → Type 0
  Turns x = P x.host

  pub submits_walk : P s → (out : Host V C R) → (at_limit s.journal.flush ≡ false → full ≡ false → P out) → Turns (submits M u full s out)
  submits_walk rests out next = either Turns (at_limit s.journal.flush) _ _ (λ e. rests) (λ d. either Turns full _ _ (λ e. rests) (λ e. next d e))

  module _ (ends : CommitEnds M u full s P) where
    close_walk : Turns (close_step M u full s)
    close_walk = by (find (λ p. is_unsent p.state && has s.journal.running.changed p.birth) s.pages)
      where
        by : (x : Option CachedPage) → Turns (elim x as (λ _. Turned V C R) [
          | Some p ↦ submits M u full s (send_page M u s p true false)
          | None ↦
              if nat_lt (ring_free s.journal.ring) (log_needs u.writers s.journal.running) then submits M u full s (checkpoint M u s s.journal.ring.homes)
              else record { host = build_plan M u s; turn = turns.Did }
        ])
        by (Some p) = submits_walk ends.rests _ (ends.sends_page p)
        by None = either Turns (nat_lt (ring_free s.journal.ring) (log_needs u.writers s.journal.running)) _ _ (λ e. submits_walk ends.rests _ ends.checkpoints) (λ e. ends.builds)

    phase_walk : (phase : Phase) → s.journal.phase ≡ phase → Turns (in_phase M u full s phase)
    phase_walk Idle is = either Turns (s.journal.running.wanted && is_none (least s.journal.flush.conflicts)) _ _ (λ e. ends.closes) (λ e. ends.rests)
    phase_walk Closing is = close_walk
    phase_walk (Committing p) is = by p.rest refl
      where
        by : (x : List Planned) → p.rest ≡ x → Turns (elim x as (λ _. Turned V C R) [ [] ↦ record { host = s; turn = turns.Idle } | first ∷ rest ↦ submits M u full s (plan_sent M u s p first rest) ])
        by [] e = ends.rests
        by (first ∷ rest) e = submits_walk ends.rests _ (ends.sends_plan p first rest is e)

    pub commit_walk : P (commit_step M u full s).host
    commit_walk = either Turns (is_over s.journal.flush) _ _ (λ e. ends.rests) (λ e. phase_walk s.journal.phase refl)

  pub writeback_walk : P s → ((p : CachedPage) (ordered : Bool) → at_limit s.journal.flush ≡ false → full ≡ false → P (send_page M u s p ordered false)) → (pick : ℕ) → P (writeback M u full s pick).host
  writeback_walk rests sends pick = either Turns (is_over s.journal.flush) _ _ (λ e. rests) (λ e. by (slice_get (filter (λ (p : CachedPage). is_dirty p.state) s.pages) pick))
    where
      by : (x : Option CachedPage) → Turns (elim x as (λ _. Turned V C R) [
        | None ↦ record { host = s; turn = turns.Idle }
        | Some p ↦ submits M u full s (send_page M u s p (not (is_submitted s.journal (slice_index_or s.owners p.block 0))) false)
      ])
      by None = rests
      by (Some p) = submits_walk rests _ (sends p (not (is_submitted s.journal (slice_index_or s.owners p.block 0))))

  pub take_walk : P s → ((c : Completion) → P (with_flush M u s (take_completion c s.journal.flush))) → (next : Option Completion) → P (take_step M u s next).host
  take_walk rests takes None = rests
  take_walk rests takes (Some c) = takes c

  pub flush_walk : P s → (at_limit s.journal.flush ≡ false → full ≡ false → P (with_flush M u s (submit (record { id = length s.journal.flush.requests; kind = kinds.Flush; ordered = true; barrier = true }) notes.Flush s.journal.flush))) →
      ((c : Completion) → P (with_flush M u s (take_completion c s.journal.flush))) → (next : Option Completion) → P (flush_step M u full s next).host
  flush_walk rests sends takes next = either Turns (flush_due s.journal.flush) _ _ (λ e. submits_walk rests _ sends) (λ e. take_walk rests takes next)
