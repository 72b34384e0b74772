-- Each flush goes out while a sync call waits for it, whatever the volume is.
use Rattle.std.proofs.Common.{sym, ap, subst, ◌∙◌, ⊎_elim, arith, length-append}
use Rattle.std.proofs.lemmas.Bool.{and_parts, false≢true, cases_lt}
use Rattle.std.proofs.lemmas.Option.{none-some, same_Some}
use Rattle.std.specs.List.{list_any}
use Rattle.std.specs.Prelude.{◌≡◌, ℕ, ◌+◌, ◌-◌, ◌<◌, ◌≤◌, ◌==◌, ◌&&◌, Bool, true, false, not, List, [], ◌∷◌, ◌++◌, length, set, Option, Some, None, slice_get, refl, if◌then◌else◌}
use Rattle.blk_base.specs.laws.Members.{In-list_any, In-slice_get, slice_get-length, slice_get-out, slice_get-push, slice_get-push_left}
use Rattle.order_model.specs.declared.note.Note.TheVariants as notes
use Rattle.order_model.specs.declared.note.Note.{Note}
use Rattle.order_model.specs.declared.request.Kind.TheVariants as puts
use Rattle.order_model.specs.declared.request.Request.{Request}
use Rattle.log_model.specs.Marks.{Logged}
use Rattle.page_cache.specs.declared.cached_page.CachedPage.{CachedPage}
use Rattle.flush_actor.specs.Kinds.{is_data, is_durable}
use Rattle.flush_actor.specs.Part.{FlushPart, is_flush_note, flush_above, is_flushed_after, is_moved, is_over, at_limit, last_put}
use Rattle.flush_actor.specs.Steps.{is_due, flush_due}
use Rattle.flush_actor.specs.declared.call_kind.CallKind.{CallKind}
use Rattle.flush_actor.specs.declared.call_kind.CallKind.TheVariants.{Reading, Changing, FileBarrier, DataBarrier, FileSync, DataSync, WholeSync}
use Rattle.flush_actor.specs.declared.wait.Wait.{Wait}
use Rattle.journal_ring.specs.LogRing.{LogRing}
use Rattle.journal_ring.specs.running.Plan.{Planned}
use Rattle.commit_actor.specs.Journal.{JournalPart, Plan, Phase, Idle, Closing, Committing, is_submitted, latest_change}
use Rattle.host_machine.specs.Host.{Stepped, Turned, Goal, AwaitCommit, AnswerOk, AwaitLastPut, unsent_on, data_goal, goal_of, set_wait, end_with, await_durable, await_last_put, await_commit, pursue, walk_pages, continue_begun, stop_of, step_call, step_thread, advance, wanting, checkpoint, plan_sent, commit_step, opened}
use Rattle.host_machine.specs.Model.{Model}
use Rattle.host_machine.specs.Outcomes as outcomes
use Rattle.host_machine.specs.State.{Ending, Answered, SessionFull, Ends, Begun, Entry, Thread, Host, Setup}
use Rattle.host_machine.specs.laws.Choices.{either}
use Rattle.host_machine.specs.laws.Contract.{Over}
use Rattle.host_machine.specs.laws.PlanNotes.{is_plan_note, IsRestOf}
use Rattle.host_machine.specs.runs.Flushes.{WaitsForFlush, WasWaitedFor, AreWaitedFor}
use Rattle.host_machine.specs.runs.Runs.{Event, Call, Commit, WriteBack, FlushStep, TakeStep, stepped, steps}
use Rattle.host_machine.specs.runs.laws.CallFacts.{wait_of}
use Rattle.host_machine.proofs.PlanNotes.{plan-rest}
use Rattle.host_machine.proofs.RunsLemmas.BegunThreads.{IsInCall, KnowsThreads, call_ends, call_begins, wait_changes, page_goes, more_sent, commit_needs, opened_threads}
use Rattle.host_machine.proofs.RunsLemmas.CallGoals.{last_put_is_place}
use Rattle.host_machine.proofs.RunsLemmas.CallHost.{wait_at}
use Rattle.host_machine.proofs.RunsLemmas.FlushFacts.{commit_needed}
use Rattle.host_machine.proofs.RunsLemmas.Walks.{FreshEnds, call_walk, commit_walk, submits_walk, writeback_walk, take_walk}

-- ---- what a host knows

-- what is left of a plan has no flush
abbrev pub HasPlanNotes : Phase → Type 0
HasPlanNotes Idle = Unit {0}
HasPlanNotes Closing = Unit {0}
HasPlanNotes (Committing p) = (k : ℕ) × IsRestOf k p.rest

pub record Knows {C R : Type 0} (kind : C → CallKind) (threads : List (Thread C)) (waits : List Wait) (history : List (Entry C R)) (ns : List Note) (requests : List Request) (phase : Phase) : Type 0 where
  pub calls : KnowsThreads kind threads waits history (length ns)
  pub noted : length requests ≡ length ns
  pub plan : HasPlanNotes phase

abbrev pub HostKnows : {V C R : Type 0} → (C → CallKind) → Host V C R → Type 0
HostKnows kind s = Knows kind s.threads s.journal.flush.waits s.history s.journal.flush.notes s.journal.flush.requests s.journal.phase

-- what one step submits: nothing, a put, or a flush that something waits for
pub data Submits (Waited : Type 0) (old new : List Note) : Type 0 where
  Nothing : old ≡ new → Submits Waited old new
  APut : (n : Note) → is_flush_note n ≡ false → old ++ n ∷ [] ≡ new → Submits Waited old new
  AFlush : Waited → old ++ notes.Flush ∷ [] ≡ new → Submits Waited old new

-- ---- small lemmas

-- a flush that is due is one that a sync call waits for
due_parts : (f : FlushPart) (w : Wait) → is_due f w ≡ true → (id : ℕ) × (w.need ≡ Some id) × (flush_above id 0 f.notes ≡ false)
due_parts f w t = by w.need refl t
  where
    negated : (b : Bool) → not b ≡ true → b ≡ false
    negated false e = refl
    negated true e = absurd (false≢true e)

    by : (o : Option ℕ) → w.need ≡ o → elim o as (λ _. Bool) [ None ↦ false | Some id ↦ list_any (is_moved id) f.taken && not (flush_above id 0 f.notes) ] ≡ true → (id : ℕ) × (w.need ≡ Some id) × (flush_above id 0 f.notes ≡ false)
    by None q e = absurd (false≢true e)
    by (Some id) q e = (id, q, negated (flush_above id 0 f.notes) (and_parts (list_any (is_moved id) f.taken) _ e).1)

-- where a call needs the last put, it is a sync call
abbrev FitsGoal : CallKind → Goal → Type 0
FitsGoal k (AwaitCommit n) = Unit {0}
FitsGoal k AnswerOk = Unit {0}
FitsGoal k AwaitLastPut = is_durable k ≡ true

goal_fits : (j : JournalPart) (b : Begun) → FitsGoal b.kind (goal_of j b)
goal_fits j b = either (FitsGoal b.kind) (is_data b.kind) _ _ (λ e. by (latest_change j b.file)) (λ e. tt)
  where
    sent_one : (k : CallKind) (x : Bool) → FitsGoal k (if x then AnswerOk else AwaitCommit j.running.number)
    sent_one k true = tt
    sent_one k false = tt

    data_fits : (k : CallKind) → FitsGoal k (data_goal k b.sent_barrier j.running.number)
    data_fits DataSync = refl
    data_fits Reading = sent_one Reading b.sent_barrier
    data_fits Changing = sent_one Changing b.sent_barrier
    data_fits FileBarrier = sent_one FileBarrier b.sent_barrier
    data_fits DataBarrier = sent_one DataBarrier b.sent_barrier
    data_fits FileSync = sent_one FileSync b.sent_barrier
    data_fits WholeSync = sent_one WholeSync b.sent_barrier

    by : (x : Option ℕ) → FitsGoal b.kind (elim x as (λ _. Goal) [ Some k ↦ AwaitCommit k | None ↦ data_goal b.kind b.sent_barrier j.running.number ])
    by None = data_fits b.kind
    by (Some k) = tt

no_flush_planned : (n : Note) → is_plan_note n ≡ true → is_flush_note n ≡ false
no_flush_planned notes.Super e = refl
no_flush_planned (notes.Revoke k) e = refl
no_flush_planned (notes.Descriptor k) e = refl
no_flush_planned (notes.Body k b) e = refl
no_flush_planned (notes.Page f i v) e = refl
no_flush_planned (notes.Commit k) e = refl
no_flush_planned (notes.Home b) e = refl
no_flush_planned notes.Raw e = refl
no_flush_planned notes.Flush e = absurd (false≢true e)

-- ---- steps

module _ {T V C R : Type 0} (M : Model T V C R) (u : Setup) (full : Bool) (s : Host V C R) (knows : HostKnows M.kind s) where
  abbrev f : FlushPart
  f = s.journal.flush

  abbrev Kept : Host V C R → Type 0
  Kept x = HostKnows M.kind x × Submits (WaitsForFlush M.kind s) s.journal.flush.notes x.journal.flush.notes

  abbrev After : Stepped V C R → Type 0
  After x = Kept x.host

  stays : Kept s
  stays = (knows, Nothing refl)

  -- one request more
  pushed : (n : Note) (r : Request) → KnowsThreads M.kind s.threads s.journal.flush.waits s.history (length (s.journal.flush.notes ++ n ∷ []))
  pushed n r = let long = length-append s.journal.flush.notes (n ∷ []) in more_sent knows.calls (length (s.journal.flush.notes ++ n ∷ [])) (omega arith)

  as_many : (n : Note) (r : Request) → length (s.journal.flush.requests ++ r ∷ []) ≡ length (s.journal.flush.notes ++ n ∷ [])
  as_many n r =
      let same = knows.noted in
      let long = length-append s.journal.flush.notes (n ∷ []) in
      let long_requests = length-append s.journal.flush.requests (r ∷ []) in
      omega arith

  -- ---- a thread's first call

  module _ (t : ℕ) (th : Thread C) (at : slice_get s.threads t ≡ Some th) (c : C) (rest : List C) where
    ends : (e : Ending R) → After (end_with M u s t c rest e)
    ends e = (record { calls = call_ends knows.calls t th at rest (record { thread = t; call = c; what = Ends e }) refl; noted = knows.noted; plan = knows.plan }, Nothing refl)

    module _ (b : Begun) (x : IsInCall M.kind s.threads s.journal.flush.waits s.history (length s.journal.flush.notes) t) (calls_are : x.call ∷ x.rest ≡ c ∷ rest) (begun_is : x.begun ≡ b) (w : Wait) (wait_is : x.wait ≡ w) where
      waits : (v : Wait) → v.kind ≡ w.kind → ((id : ℕ) → v.need ≡ Some id → (id < length s.journal.flush.notes) × (is_durable v.kind ≡ true)) → Kept (set_wait M u s t v)
      waits v same needs = (record { calls = wait_changes knows.calls t th at x v (same ∙ ap (λ (y : Wait). y.kind) (sym wait_is)) needs; noted = knows.noted; plan = knows.plan }, Nothing refl)

      durably : (id : ℕ) → id < length s.journal.flush.notes → is_durable w.kind ≡ true → After (await_durable M u s t c rest w id)
      durably id low durable =
          either After (list_any (is_flushed_after id) s.journal.flush.taken) _ _ (λ e. ends (Answered M.ok))
          (λ e. either After (at_limit s.journal.flush && not (flush_above id 0 s.journal.flush.notes)) _ _ (λ e. ends SessionFull)
          (λ e. waits (record w { need = Some id }) refl (λ i q. (subst (λ j. j < length s.journal.flush.notes) (same_Some id i q) low, durable))))

      last : is_durable w.kind ≡ true → After (await_last_put M u s t c rest w)
      last durable = by (last_put 0 s.journal.flush.notes None) refl
        where
          by : (y : Option ℕ) → last_put 0 s.journal.flush.notes None ≡ y → After (elim y as (λ _. Stepped V C R) [ None ↦ end_with M u s t c rest (Answered M.ok) | Some id ↦ await_durable M u s t c rest w id ])
          by None is = ends (Answered M.ok)
          by (Some id) is = durably id (last_put_is_place s.journal.flush.notes id is) durable

      commits : (k : ℕ) → After (await_commit M u s t c rest w k)
      commits k =
          either After (is_submitted s.journal k) _ _
          (λ through. either After (is_durable w.kind) _ _ (λ durable. last durable) (λ barrier. ends (Answered M.ok)))
          (λ e. either After (at_limit s.journal.flush) _ _ (λ e. ends SessionFull) (λ e. stays))

      kind_is : w.kind ≡ b.kind
      kind_is = ap (λ (y : Wait). y.kind) (sym wait_is) ∙ x.wait_is ∙ sym x.kind_is ∙ ap (λ (y : Begun). y.kind) begun_is

      -- it needs nothing yet
      module _ (needless : w.need ≡ None) where
        goal : (g : Goal) → FitsGoal b.kind g → After (pursue M u s t c rest w g)
        goal AnswerOk fits = ends (Answered M.ok)
        goal AwaitLastPut fits = last (ap is_durable kind_is ∙ fits)
        goal (AwaitCommit k) fits = either After (at_limit s.journal.flush) _ _ (λ e. ends SessionFull) (λ e. by (k == s.journal.running.number))
          where
            now : Kept (set_wait M u s t (record w { target = Some k }))
            now = waits (record w { target = Some k }) refl (λ id e. absurd (none-some id (sym needless ∙ e)))

            by : (y : Bool) → Kept (if y then wanting M u (set_wait M u s t (record w { target = Some k })) else set_wait M u s t (record w { target = Some k }))
            by true = now
            by false = now

        sends : After (walk_pages M u full s t c rest w b)
        sends = by (unsent_on s.pages b.list) refl
          where
            page : (next : CachedPage × List (ℕ × ℕ)) (d : Bool) (r : Request)
                → Knows M.kind (set s.threads t (record { calls = c ∷ rest; begun = Some (record b { list = next.1; sent_barrier = d }) })) s.journal.flush.waits s.history (s.journal.flush.notes ++ notes.Page next.0.birth next.0.index next.0.version ∷ []) (s.journal.flush.requests ++ r ∷ []) s.journal.phase
            page next d r =
                let n = notes.Page next.0.birth next.0.index next.0.version in
                let long = length-append s.journal.flush.notes (n ∷ []) in
                record {
                  calls =
                      subst (λ (l : List C). KnowsThreads M.kind (set s.threads t (record { calls = l; begun = Some (record b { list = next.1; sent_barrier = d }) })) s.journal.flush.waits s.history (length (s.journal.flush.notes ++ n ∷ []))) calls_are
                      (page_goes knows.calls t th at x (record b { list = next.1; sent_barrier = d }) (ap (λ (y : Begun). y.kind) (sym begun_is)) (length (s.journal.flush.notes ++ n ∷ [])) (omega arith));
                  noted = as_many n r;
                  plan = knows.plan;
                }

            by : (y : Option (CachedPage × List (ℕ × ℕ))) → unsent_on s.pages b.list ≡ y → After (walk_pages M u full s t c rest w b)
            by None is = rw (is, walk_pages) (goal (goal_of s.journal b) (goal_fits s.journal b))
            by (Some next) is = rw (is, walk_pages) (either After (at_limit s.journal.flush) _ _ (λ e. ends SessionFull) (λ d. either After full _ _ (λ e. stays) (λ e. (page next _ _, APut (notes.Page next.0.birth next.0.index next.0.version) refl refl))))

      goes_on : After (continue_begun M u full s t c rest w b)
      goes_on = by w.need refl
        where
          second : w.need ≡ None → (y : Option ℕ) → After (elim y as (λ _. Stepped V C R) [ Some k ↦ await_commit M u s t c rest w k | None ↦ walk_pages M u full s t c rest w b ])
          second none None = sends none
          second none (Some k) = commits k

          by : (y : Option ℕ) → w.need ≡ y → After (elim y as (λ _. Stepped V C R) [
            | Some id ↦ await_durable M u s t c rest w id
            | None ↦ elim w.target as (λ _. Stepped V C R) [ Some k ↦ await_commit M u s t c rest w k | None ↦ walk_pages M u full s t c rest w b ]
          ])
          by None e = second e w.target
          by (Some id) e =
              let n = x.needs id (ap (λ (y : Wait). y.need) wait_is ∙ e) in
              durably id n.0 (ap (λ (y : Wait). is_durable y.kind) (sym wait_is) ∙ n.1)

    fresh_ends : FreshEnds M u s t c rest After
    fresh_ends = record {
      refused = λ why e. ends (Answered why);
      begins = λ accepted kind. (record { calls = call_begins knows.calls t th at c rest _ refl; noted = knows.noted; plan = knows.plan }, Nothing refl);
      full_up = λ why e limit. ends SessionFull;
      rests = λ why. stays;
      wants = λ why. stays;
      acts = λ accepted kind free. (
        record { calls = call_ends knows.calls t th at rest (record { thread = t; call = c; what = Ends (Answered (M.apply s.volume (length s.history + 1) s.journal.running.number c).reply) }) refl; noted = knows.noted; plan = knows.plan },
        Nothing refl,
      );
    }

    called : th.calls ≡ c ∷ rest → (begun : Option Begun) → th.begun ≡ begun → After (step_thread M u full s t begun (c ∷ rest))
    called calls None is = call_walk M u full s t c rest After None (record {
      stopped = λ e stop. ends e;
      goes_on = λ b going e. absurd (none-some b e);
      starts = λ going e. fresh_ends;
    })
    called calls (Some b) is = by (stop_of M u s.journal.flush.taken (M.kind c)) refl
      where
        in_call : IsInCall M.kind s.threads s.journal.flush.waits s.history (length s.journal.flush.notes) t → After (continue_begun M u full s t c rest (wait_of s.journal.flush.waits t) b)
        in_call x =
            let same = same_Some th _ (sym at ∙ x.there) in
            let both : x.call ∷ x.rest ≡ c ∷ rest = sym (ap (λ (y : Thread C). y.calls) same) ∙ calls in
            let begun : x.begun ≡ b = same_Some x.begun b (sym (ap (λ (y : Thread C). y.begun) same) ∙ is) in
            goes_on b x both begun (wait_of s.journal.flush.waits t) (sym (wait_at s.journal.flush.waits t x.wait x.waits_so))

        by : (y : Option (Ending R)) → stop_of M u s.journal.flush.taken (M.kind c) ≡ y → After (elim y as (λ _. Stepped V C R) [ Some stop ↦ end_with M u s t c rest stop | None ↦ step_call M u full s t (Some b) c rest ])
        by None e = ⊎_elim (λ idle. absurd (none-some b (sym (idle.none th at) ∙ is))) (λ x. in_call x) (knows.calls.each t)
        by (Some stop) e = ends stop

  call_step : (t : ℕ) → After (advance M u full s t)
  call_step t = by (slice_get s.threads t) refl
    where
      of_calls : (th : Thread C) → slice_get s.threads t ≡ Some th → (calls : List C) → th.calls ≡ calls → After (step_thread M u full s t th.begun calls)
      of_calls th at [] e = stays
      of_calls th at (c ∷ rest) e = called t th at c rest e th.begun refl

      by : (x : Option (Thread C)) → slice_get s.threads t ≡ x → After (elim x as (λ _. Stepped V C R) [ None ↦ record { host = s; step = outcomes.Ended } | Some th ↦ step_thread M u full s t th.begun th.calls ])
      by None e = stays
      by (Some th) e = of_calls th e th.calls refl

  -- ---- the actors

  put : (n : Note) → is_flush_note n ≡ false → (r : Request) → Knows M.kind s.threads s.journal.flush.waits s.history (s.journal.flush.notes ++ n ∷ []) (s.journal.flush.requests ++ r ∷ []) s.journal.phase × Submits (WaitsForFlush M.kind s) s.journal.flush.notes (s.journal.flush.notes ++ n ∷ [])
  put n other r = (record { calls = pushed n r; noted = as_many n r; plan = knows.plan }, APut n other refl)

  checkpoints : (homes : List Logged) → Kept (checkpoint M u s homes)
  checkpoints [] = put notes.Super refl _
  checkpoints (h ∷ hs) = put (notes.Home h.block) refl _

  plan_goes : (p : Plan) (first : Planned) (rest : List Planned) → s.journal.phase ≡ Committing p → p.rest ≡ first ∷ rest → Kept (plan_sent M u s p first rest)
  plan_goes p first rest at left = by rest left
    where
      of_plan : (k : ℕ) × IsRestOf k p.rest
      of_plan = subst HasPlanNotes at knows.plan

      request : Request
      request = record { id = length s.journal.flush.requests; kind = puts.Put first.block first.body; ordered = true; barrier = first.barrier }

      by : (rest : List Planned) → p.rest ≡ first ∷ rest → Kept (plan_sent M u s p first rest)
      by [] left =
          let note : first.note ≡ notes.Commit of_plan.0 = subst (IsRestOf of_plan.0) left of_plan.1 in
          let long = length-append s.journal.flush.notes (first.note ∷ []) in
          let same = knows.noted in (
            record {
              calls = commit_needs (pushed first.note request) (s.journal.running.number - 1) (length s.journal.flush.requests) (λ w old. commit_needed (s.journal.flush.notes ++ first.note ∷ []) (s.journal.running.number - 1) (length s.journal.flush.requests) w (omega arith) old);
              noted = as_many first.note request;
              plan = tt;
            },
            APut first.note (ap is_flush_note note) refl,
          )
      by (q ∷ qs) left =
          let note = subst (IsRestOf of_plan.0) left of_plan.1 in
          (record { calls = pushed first.note request; noted = as_many first.note request; plan = (of_plan.0, note.1) }, APut first.note (no_flush_planned first.note note.0) refl)

  commit : Kept (commit_step M u full s).host
  commit = commit_walk M u full s Kept (record {
    rests = stays;
    closes = (record { calls = knows.calls; noted = knows.noted; plan = tt }, Nothing refl);
    sends_page = λ p few free. put (notes.Page p.birth p.index p.version) refl _;
    checkpoints = λ few free. checkpoints s.journal.ring.homes;
    builds = (record { calls = knows.calls; noted = knows.noted; plan = (s.journal.running.number, plan-rest u.writers u.journal s.journal.ring.places s.journal.ring.head s.journal.ring.started s.journal.running.number (u.sequence + (s.journal.running.number - 1)) _ s.journal.running.revoked) }, Nothing refl);
    sends_plan = λ p first rest at left few free. plan_goes p first rest at left;
  })

  -- a flush that is due
  due : flush_due s.journal.flush ≡ true → WaitsForFlush M.kind s
  due e =
      let w = In-list_any (is_due s.journal.flush) s.journal.flush.waits (and_parts (not (is_over s.journal.flush)) _ e).1 in
      let i = In-slice_get s.journal.flush.waits w.0 w.1 in
      let d = due_parts s.journal.flush w.0 w.2 in
      ⊎_elim
      (λ idle. absurd (none-some d.0 (sym (ap (λ (v : Wait). v.need) (idle.waits_none w.0 i.2)) ∙ d.1)))
      (λ x.
      let same = same_Some w.0 x.wait (sym i.2 ∙ x.waits_so) in
      let n = x.needs d.0 (ap (λ (v : Wait). v.need) (sym same) ∙ d.1) in
      let noted = knows.noted in
      let low = n.0 in
      record {
        thread = i.0;
        call = x.call;
        sync = ap is_durable (sym x.wait_is) ∙ n.1;
        place = x.place;
        began = x.began;
        last = x.last;
        wait = w.0;
        waits = i.2;
        request = d.0;
        needs = d.1;
        sent = omega (arith, noted, low);
        unserved = d.2;
      })
      (knows.calls.each i.0)

module _ {A T V C R : Type 0} (o : Over A T V C R) where
  abbrev KeptBy : Host V C R → Host V C R → Type 0
  KeptBy s x = HostKnows o.model.kind x × Submits (WaitsForFlush o.model.kind s) s.journal.flush.notes x.journal.flush.notes

  step_knows : (s : Host V C R) → HostKnows o.model.kind s → (e : Event) → KeptBy s (stepped o s e)
  step_knows s knows (Call full t) = call_step o.model o.setup full s knows t
  step_knows s knows (Commit full) = commit o.model o.setup full s knows
  step_knows s knows (WriteBack full pick) = writeback_walk o.model o.setup full s (KeptBy s) (stays o.model o.setup full s knows) (λ p ordered few free. put o.model o.setup full s knows (notes.Page p.birth p.index p.version) refl _) pick
  step_knows s knows (FlushStep full next) =
      either (λ (x : Turned V C R). KeptBy s x.host) (flush_due s.journal.flush) _ _
      (λ e. submits_walk o.model o.setup full s (KeptBy s) (stays o.model o.setup full s knows) _
      (λ few free. (record { calls = pushed o.model o.setup full s knows notes.Flush (flush_of s); noted = as_many o.model o.setup full s knows notes.Flush (flush_of s); plan = knows.plan }, AFlush (due o.model o.setup full s knows e) refl)))
      (λ e. take_walk o.model o.setup full s (KeptBy s) (knows, Nothing refl) (λ c. (knows, Nothing refl)) next)
    where
      flush_of : Host V C R → Request
      flush_of s = record { id = length s.journal.flush.requests; kind = puts.Flush; ordered = true; barrier = true }
  step_knows s knows (TakeStep next) = take_walk o.model o.setup true s (KeptBy s) (knows, Nothing refl) (λ c. (knows, Nothing refl)) next

  -- ---- runs

  stays_at : {W : Type 0} {old new : List Note} → Submits W old new → (i : ℕ) (n : Note) → slice_get old i ≡ Some n → slice_get new i ≡ Some n
  stays_at (Nothing same) i n e = ap (λ (ns : List Note). slice_get ns i) (sym same) ∙ e
  stays_at {old = old} (APut m other same) i n e = ap (λ (ns : List Note). slice_get ns i) (sym same) ∙ slice_get-push_left old m i (slice_get-length old i n e) ∙ e
  stays_at {old = old} (AFlush waited same) i n e = ap (λ (ns : List Note). slice_get ns i) (sym same) ∙ slice_get-push_left old notes.Flush i (slice_get-length old i n e) ∙ e

  notes_stay : (s : Host V C R) → HostKnows o.model.kind s → (es : List Event) (i : ℕ) (n : Note) → slice_get s.journal.flush.notes i ≡ Some n → slice_get (steps o s es).journal.flush.notes i ≡ Some n
  notes_stay s knows [] i n e = e
  notes_stay s knows (x ∷ es) i n e = (let k = step_knows s knows x in notes_stay (stepped o s x) k.0 es i n (stays_at k.1 i n e))

  -- flush f, which is still to come, comes by the first of these steps or by a later one
  module _ (s : Host V C R) (knows : HostKnows o.model.kind s) (e : Event) (es : List Event) (f : ℕ) (low : length s.journal.flush.notes ≤ f) (at : slice_get (steps o s (e ∷ es)).journal.flush.notes f ≡ Some notes.Flush)
      (after : HostKnows o.model.kind (stepped o s e)) (again : length (stepped o s e).journal.flush.notes ≤ f → WasWaitedFor o.model.kind (steps o (stepped o s e)) es f) where
    later : length (stepped o s e).journal.flush.notes ≤ f → WasWaitedFor o.model.kind (steps o s) (e ∷ es) f
    later low = (let r = again low in record { before = e ∷ r.before; step = r.step; after = r.after; split = ap (λ (l : List Event). e ∷ l) r.split; sent = r.sent; flush = r.flush; waited = r.waited })

    one_more : (n : Note) → s.journal.flush.notes ++ n ∷ [] ≡ (stepped o s e).journal.flush.notes → (n ≡ notes.Flush → WaitsForFlush o.model.kind s) → WasWaitedFor o.model.kind (steps o s) (e ∷ es) f
    one_more n same waited =
        ⊎_elim
        (λ more.
        let long = length-append s.journal.flush.notes (n ∷ []) in
        later (subst (λ (ns : List Note). length ns ≤ f) same (omega arith)))
        (λ high.
        let f_is : f ≡ length s.journal.flush.notes = omega arith in
        let here : slice_get (stepped o s e).journal.flush.notes f ≡ Some n =
        ap (slice_get (stepped o s e).journal.flush.notes) f_is ∙ ap (λ (ns : List Note). slice_get ns (length s.journal.flush.notes)) (sym same) ∙ slice_get-push s.journal.flush.notes n in
        let is : n ≡ notes.Flush = same_Some n notes.Flush (sym (notes_stay (stepped o s e) after es f n here) ∙ at) in
        record { before = []; step = e; after = es; split = refl; sent = knows.noted ∙ sym f_is; flush = here ∙ ap Some is; waited = waited is })
        (cases_lt (length s.journal.flush.notes) f)

    comes : Submits (WaitsForFlush o.model.kind s) s.journal.flush.notes (stepped o s e).journal.flush.notes → WasWaitedFor o.model.kind (steps o s) (e ∷ es) f
    comes (Nothing same) = later (subst (λ (ns : List Note). length ns ≤ f) same low)
    comes (APut n other same) = one_more n same (λ is. absurd (false≢true (sym other ∙ ap is_flush_note is)))
    comes (AFlush waited same) = one_more notes.Flush same (λ is. waited)

  still_to_come : (s : Host V C R) → HostKnows o.model.kind s → (es : List Event) (f : ℕ) → length s.journal.flush.notes ≤ f → slice_get (steps o s es).journal.flush.notes f ≡ Some notes.Flush → WasWaitedFor o.model.kind (steps o s) es f
  still_to_come s knows [] f low at = absurd (none-some notes.Flush (sym (slice_get-out s.journal.flush.notes f low) ∙ at))
  still_to_come s knows (e ∷ es) f low at = (let k = step_knows s knows e in comes s knows e es f low at k.0 (λ more. still_to_come (stepped o s e) k.0 es f more at) k.1)

  pub are_waited_for : (v : V) (ring : LogRing) (zones limit : ℕ) (programs : List (List C)) (events : List Event) → AreWaitedFor o.model.kind (steps o (opened o.model o.setup v ring zones limit programs)) events
  are_waited_for v ring zones limit programs events f at =
      still_to_come (opened o.model o.setup v ring zones limit programs) (record { calls = opened_threads o.model.kind programs; noted = refl; plan = tt }) events f (omega arith) at
