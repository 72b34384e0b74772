-- The steps of the host: a caller's, the commit actor's, the write-back's and the flush actor's. `full` says
-- that the submission queue was full.
use Rattle.std.specs.List.{find, filter, list_any}
use Rattle.std.specs.Option.{option_map}
use Rattle.std.specs.Prelude.{ℕ, ◌+◌, ◌-◌, ◌==◌, Bool, true, false, not, ◌&&◌, ◌||◌, nat_lt, nat_le, List, [], ◌∷◌, ◌++◌, length, map, set, replicate, Option, Some, None, is_none, slice_get, slice_index_or, if◌then◌else◌}
use Rattle.order_model.specs.declared.completion.Completion.{Completion}
use Rattle.order_model.specs.declared.note.Note.TheVariants as notes
use Rattle.order_model.specs.declared.note.Note.{Note}
use Rattle.order_model.specs.declared.request.Kind.TheVariants as puts
use Rattle.order_model.specs.declared.turn.Turn.TheVariants as turns
use Rattle.order_model.specs.declared.turn.Turn.{Turn}
use Rattle.log_model.specs.Marks.{Logged}
use Rattle.page_cache.specs.Pages.{is_unsent, dirty_page, page_at, put_page, drop_page, marked}
use Rattle.page_cache.specs.declared.cached_page.CachedPage.{CachedPage}
use Rattle.page_cache.specs.declared.cached_page.PageState.TheVariants.{Dirty, Loose, Firm}
use Rattle.host_machine.specs.Causes as causes
use Rattle.host_machine.specs.Causes.{Cause}
use Rattle.host_machine.specs.Model.{Model, Freed, FileBlock, Touched, Applied}
use Rattle.host_machine.specs.Outcomes as outcomes
use Rattle.host_machine.specs.Outcomes.{Step}
use Rattle.number_sets.specs.Sets.{has, with_all, without_all}
use Rattle.flush_actor.specs.conflicts.Conflicts.{holder, hold, want, least}
use Rattle.journal_ring.specs.LogRing.{LogRing, ring_free, place_blocks, commit_bodies, home_sent, all_home}
use Rattle.journal_ring.specs.running.Running.{Running, fresh, log_blocks_for, log_needs}
use Rattle.journal_ring.specs.running.Plan.{Planned, plan_of}
use Rattle.host_machine.specs.State.{Ending, Answered, Down, ReadOnly, SessionFull, What, Begins, Ends, Begun, Thread, Host, Setup}
use Rattle.commit_actor.specs.Journal.{Plan, Phase, Idle, Closing, Committing, JournalPart, is_closing, is_submitted, latest_change}
use Rattle.flush_actor.specs.Kinds.{is_begun, is_data, is_durable, is_reading, is_whole}
use Rattle.flush_actor.specs.Part.{FlushPart, is_cut, first_failed, is_over, at_limit, is_flushed_after, flush_above, last_put, submit}
use Rattle.flush_actor.specs.Steps.{flush_due, take_completion}
use Rattle.flush_actor.specs.Waits.{no_wait, need_commit}
use Rattle.flush_actor.specs.declared.call_kind.CallKind.{CallKind}
use Rattle.flush_actor.specs.declared.call_kind.CallKind.TheVariants.{DataSync}
use Rattle.flush_actor.specs.declared.wait.Wait.{Wait}

-- ---- a step and what it answers

-- the host after a caller's step, and what this answers
pub record Stepped (V C R : Type 0) : Type 0 where
  pub host : Host V C R
  pub step : Step R

-- the host after a step of an actor, and what this answers
pub record Turned (V C R : Type 0) : Type 0 where
  pub host : Host V C R
  pub turn : Turn

-- the first page on the list that is still to be sent, with the keys behind it
abbrev pub unsent_on : List CachedPage → List (ℕ × ℕ) → Option (CachedPage × List (ℕ × ℕ))
unsent_on pages [] = None
unsent_on pages (k ∷ ks) =
    elim (page_at pages k.0 k.1) as (λ _. Option (CachedPage × List (ℕ × ℕ))) [
      | None ↦ unsent_on pages ks
      | Some p ↦ if is_unsent p.state then Some (p, ks) else unsent_on pages ks
    ]

-- what a begun call does when no page is left: it waits for a transaction, is done, or needs the last put
pub data Goal : Type 0 where
  AwaitCommit : ℕ → Goal
  AnswerOk : Goal
  AwaitLastPut : Goal

-- of a data call where no transaction that is not submitted changed its file; `sent` says that it sent a barrier
abbrev pub data_goal : CallKind → Bool → ℕ → Goal
data_goal DataSync sent running = AwaitLastPut
data_goal other sent running = if sent then AnswerOk else AwaitCommit running

-- a call that is no data call waits for the running transaction
abbrev pub goal_of : JournalPart → Begun → Goal
goal_of j b =
    if is_data b.kind then
    elim (latest_change j b.file) as (λ _. Goal) [ Some k ↦ AwaitCommit k | None ↦ data_goal b.kind b.sent_barrier j.running.number ]
    else AwaitCommit j.running.number

-- why a call waits for transaction k
abbrev pub cause_of : JournalPart → ℕ → Cause
cause_of j k =
    if k == j.running.number then
    elim (least j.flush.conflicts) as (λ _. Cause) [ Some b ↦ causes.Conflict b (holder j.flush.conflicts.held b) | None ↦ causes.Commit k ]
    else causes.Commit k

module _ {T V C R : Type 0} (M : Model T V C R) (u : Setup) where
  -- ---- parts of steps

  abbrev pub with_flush : Host V C R → FlushPart → Host V C R
  with_flush s f = record s { journal = record s.journal { flush = f } }

  abbrev pub with_running : Host V C R → Running → Host V C R
  with_running s r = record s { journal = record s.journal { running = r } }

  -- the running transaction is to be closed
  abbrev pub wanting : Host V C R → Host V C R
  wanting s = with_running s (record s.journal.running { wanted = true })

  -- a put goes out
  abbrev pub put_out : Host V C R → Note → ℕ → List ℕ → Bool → Bool → Host V C R
  put_out s n block body ordered barrier =
      let id = length s.journal.flush.requests in
      with_flush s (submit (record { id = id; kind = puts.Put block body; ordered = ordered; barrier = barrier }) n s.journal.flush)

  -- a page is sent
  abbrev pub send_page : Host V C R → CachedPage → Bool → Bool → Host V C R
  send_page s p ordered barrier =
      put_out (record s { pages = put_page s.pages (marked p (if ordered then Firm else Loose)) }) (notes.Page p.birth p.index p.version) p.block p.body ordered barrier

  -- a request of a plan goes out in order
  abbrev pub send_planned : Host V C R → Planned → Host V C R
  send_planned s p = put_out s p.note p.block p.body true p.barrier

  abbrev pub set_thread : Host V C R → ℕ → Thread C → Host V C R
  set_thread s t th = record s { threads = set s.threads t th }

  abbrev pub set_wait : Host V C R → ℕ → Wait → Host V C R
  set_wait s t w = with_flush s (record s.journal.flush { waits = set s.journal.flush.waits t w })

  -- the history has one entry more
  abbrev pub note_entry : Host V C R → ℕ → C → What R → Host V C R
  note_entry s t c what = record s { history = s.history ++ record { thread = t; call = c; what = what } ∷ [] }

  -- the thread's first call ends; `rest` are those behind it
  abbrev pub end_call : Host V C R → ℕ → C → List C → Ending R → Host V C R
  end_call s t c rest e = set_wait (set_thread (note_entry s t c (Ends e)) t (record { calls = rest; begun = None })) t no_wait

  -- what the step answers where this ended the call
  abbrev pub ended_by : Ending R → Step R
  ended_by (Answered r) = outcomes.Done r
  ended_by Down = outcomes.Down
  ended_by (ReadOnly id) = outcomes.ReadOnly id
  ended_by SessionFull = outcomes.SessionFull

  -- the call ends so, and the step answers it
  abbrev pub end_with : Host V C R → ℕ → C → List C → Ending R → Stepped V C R
  end_with s t c rest e = record { host = end_call s t c rest e; step = ended_by e }

  -- ---- plain calls

  -- what a call did to the pages, and to the owners of zones
  abbrev pub dropped_pages : List CachedPage → List FileBlock → List CachedPage
  dropped_pages pages [] = pages
  dropped_pages pages (d ∷ ds) = dropped_pages (drop_page pages d.birth d.index) ds

  -- each is dirty then, with the bytes of its block, and its version is n
  abbrev pub written_pages : V → ℕ → List CachedPage → List FileBlock → List CachedPage
  written_pages v n pages [] = pages
  written_pages v n pages (w ∷ ws) =
      written_pages v n (put_page pages (record { birth = w.birth; index = w.index; block = w.block; body = M.bytes v w.block; version = n; state = Dirty })) ws

  -- a written block that had no page before has its zone from transaction k
  abbrev pub taken_zones : ℕ → List CachedPage → List ℕ → List FileBlock → List ℕ
  taken_zones k pages owners [] = owners
  taken_zones k pages owners (w ∷ ws) =
      taken_zones k pages (if is_none (page_at pages w.birth w.index) then set owners w.block k else owners) ws

  -- what the transaction has to log, where a revoked block is not logged, and which nodes it changed
  abbrev pub touch : Touched → Running → Running
  touch t r = record {
    number = r.number;
    touched = without_all (with_all r.touched t.blocks) t.revoked;
    revoked = with_all r.revoked t.revoked;
    changed = with_all r.changed t.nodes;
    wanted = r.wanted;
  }

  -- a call is done, as the next entry
  abbrev pub change : Host V C R → C → Applied V R → Host V C R
  change s c a =
      record s {
        journal = record s.journal {
          running = touch a.touched s.journal.running;
          flush = record s.journal.flush { conflicts = want (without_all a.touched.blocks a.touched.revoked) s.journal.flush.conflicts };
        };
        volume = a.volume;
        pages = written_pages a.volume (length s.history + 1) (dropped_pages s.pages a.touched.dropped) a.touched.pages;
        owners = taken_zones s.journal.running.number s.pages s.owners a.touched.pages;
      }

  -- it can still grow by one call more
  abbrev pub fits : Running → Bool
  fits r = nat_le (log_blocks_for u.writers (length r.touched + u.zmap + 12) (length r.revoked + 520)) u.quota

  -- why a call that would change the tree or a page waits, in this order
  abbrev pub hindrance : Host V C R → C → Option Cause
  hindrance s c =
      if not (M.hinders s.volume c) then None
      else if is_closing s.journal.phase then Some causes.Closing
      else if not (fits s.journal.running) then Some (causes.TxFull (log_needs u.writers s.journal.running))
      else
      let free = length (M.zones s.volume).free in
      let needs = M.needs s.volume c in
      if nat_lt free needs then Some (causes.Quarantine (needs - free)) else None

  -- it wants the running transaction closed: where that is full, and where the zones that wait for closed
  -- transactions do not suffice
  abbrev pub hindered : Host V C R → Cause → Host V C R
  hindered s (causes.TxFull blocks) = wanting s
  hindered s (causes.Quarantine lacks) =
      if nat_lt (length (filter (λ (z : Freed). nat_lt z.transaction s.journal.running.number) (M.zones s.volume).waiting)) lacks then wanting s else s
  hindered s other = s

  -- it waits where something hinders it, and ends where it cannot wait; else it is done and answered
  abbrev pub plain : Host V C R → ℕ → C → List C → Stepped V C R
  plain s t c rest =
      elim (hindrance s c) as (λ _. Stepped V C R) [
        | Some cause ↦ if at_limit s.journal.flush then end_with s t c rest SessionFull else record { host = hindered s cause; step = outcomes.Waiting cause }
        | None ↦
            let a = M.apply s.volume (length s.history + 1) s.journal.running.number c in
            end_with (change s c a) t c rest (Answered a.reply)
      ]

  -- ---- barrier and sync calls

  -- the unsent pages of its file, or of all
  abbrev pub listed : List CachedPage → CallKind → ℕ → List (ℕ × ℕ)
  listed pages kind file =
      map (λ (p : CachedPage). (p.birth, p.index)) (filter (λ (p : CachedPage). is_unsent p.state && (is_whole kind || p.birth == file)) pages)

  -- the call has begun, and the pages that it is to pass are fixed
  abbrev pub begin : Host V C R → ℕ → C → List C → Stepped V C R
  begin s t c rest =
      let kind = M.kind c in
      let file = M.node s.volume c in
      let b : Begun = record { begin = length s.history + 1; kind = kind; file = file; list = listed s.pages kind file; sent_barrier = false } in
      record {
        host = set_wait (set_thread (note_entry s t c Begins) t (record { calls = c ∷ rest; begun = Some b })) t (record { kind = kind; target = None; need = None });
        step = outcomes.Begun;
      }

  -- it needs request id durable
  abbrev pub await_durable : Host V C R → ℕ → C → List C → Wait → ℕ → Stepped V C R
  await_durable s t c rest w id =
      let f = s.journal.flush in
      if list_any (is_flushed_after id) f.taken then end_with s t c rest (Answered M.ok)
      else if at_limit f && not (flush_above id 0 f.notes) then end_with s t c rest SessionFull
      else record { host = set_wait s t (record w { need = Some id }); step = outcomes.Waiting (causes.Durable id) }

  -- it needs the last put durable, if there is one
  abbrev pub await_last_put : Host V C R → ℕ → C → List C → Wait → Stepped V C R
  await_last_put s t c rest w =
      elim (last_put 0 s.journal.flush.notes None) as (λ _. Stepped V C R) [
        | None ↦ end_with s t c rest (Answered M.ok)
        | Some id ↦ await_durable s t c rest w id
      ]

  -- it waits for transaction k
  abbrev pub await_commit : Host V C R → ℕ → C → List C → Wait → ℕ → Stepped V C R
  await_commit s t c rest w k =
      if is_submitted s.journal k then
      if is_durable w.kind then await_last_put s t c rest w else end_with s t c rest (Answered M.ok)
      else if at_limit s.journal.flush then end_with s t c rest SessionFull
      else record { host = s; step = outcomes.Waiting (cause_of s.journal k) }

  -- no page is left on its list
  abbrev pub pursue : Host V C R → ℕ → C → List C → Wait → Goal → Stepped V C R
  pursue s t c rest w AnswerOk = end_with s t c rest (Answered M.ok)
  pursue s t c rest w AwaitLastPut = await_last_put s t c rest w
  pursue s t c rest w (AwaitCommit k) =
      if at_limit s.journal.flush then end_with s t c rest SessionFull
      else
      let next = set_wait s t (record w { target = Some k }) in
      record { host = if k == s.journal.running.number then wanting next else next; step = outcomes.Waiting (cause_of s.journal k) }

  -- the next page on its list; where that is the last one left, a data call sends it as a barrier
  abbrev pub walk_pages : Bool → Host V C R → ℕ → C → List C → Wait → Begun → Stepped V C R
  walk_pages full s t c rest w b =
      elim (unsent_on s.pages b.list) as (λ _. Stepped V C R) [
        | None ↦ pursue s t c rest w (goal_of s.journal b)
        | Some next ↦
            if at_limit s.journal.flush then end_with s t c rest SessionFull
            else if full then record { host = s; step = outcomes.Waiting causes.QueueFull }
            else
            let barrier = is_data b.kind && is_none (unsent_on s.pages next.1) in
            record {
              host = set_thread (send_page s next.0 true barrier) t (record { calls = c ∷ rest; begun = Some (record b { list = next.1; sent_barrier = b.sent_barrier || barrier }) });
              step = outcomes.Sent (length s.journal.flush.requests);
            }
      ]

  -- it waits for the request or the transaction that is fixed; until one is, it sends its pages
  abbrev pub continue_begun : Bool → Host V C R → ℕ → C → List C → Wait → Begun → Stepped V C R
  continue_begun full s t c rest w b =
      elim w.need as (λ _. Stepped V C R) [
        | Some id ↦ await_durable s t c rest w id
        | None ↦ elim w.target as (λ _. Stepped V C R) [ Some k ↦ await_commit s t c rest w k | None ↦ walk_pages full s t c rest w b ]
      ]

  -- ---- a caller's step

  -- what ends every call, or every call but those that read
  abbrev pub stop_of : List Completion → CallKind → Option (Ending R)
  stop_of taken kind =
      if list_any is_cut taken then Some Down
      else if is_reading kind then None
      else option_map ReadOnly (first_failed taken)

  -- one that has begun goes on; any other is refused, begins or is plain
  abbrev pub step_call : Bool → Host V C R → ℕ → Option Begun → C → List C → Stepped V C R
  step_call full s t (Some b) c rest = continue_begun full s t c rest (slice_index_or s.journal.flush.waits t no_wait) b
  step_call full s t None c rest =
      elim (M.reply s.volume c) as (λ _. Stepped V C R) [
        | Some refusal ↦ end_with s t c rest (Answered refusal)
        | None ↦ if is_begun (M.kind c) then begin s t c rest else plain s t c rest
      ]

  -- a cut ends the call, and so does a failure, but not where the call is a reading one
  abbrev pub step_thread : Bool → Host V C R → ℕ → Option Begun → List C → Stepped V C R
  step_thread full s t begun [] = record { host = s; step = outcomes.Ended }
  step_thread full s t begun (c ∷ rest) =
      elim (stop_of s.journal.flush.taken (M.kind c)) as (λ _. Stepped V C R) [
        | Some stop ↦ end_with s t c rest stop
        | None ↦ step_call full s t begun c rest
      ]

  -- one step of thread t, which is counted from 0; where there is none, it has ended
  abbrev pub advance : Bool → Host V C R → ℕ → Stepped V C R
  advance full s t =
      elim (slice_get s.threads t) as (λ _. Stepped V C R) [
        | None ↦ record { host = s; step = outcomes.Ended }
        | Some th ↦ step_thread full s t th.begun th.calls
      ]

  -- ---- the actors' steps

  -- one that submits; `out` is the host after it
  abbrev pub submits : Bool → Host V C R → Host V C R → Turned V C R
  submits full s out =
      if at_limit s.journal.flush then record { host = s; turn = turns.SessionFull }
      else if full then record { host = s; turn = turns.QueueFull }
      else record { host = out; turn = turns.Did }

  -- the plan of the running transaction is built, and its cut is noted; the next transaction runs
  abbrev pub build_plan : Host V C R → Host V C R
  build_plan s =
      let r = s.journal.running in
      let ring = s.journal.ring in
      let bodies = map (λ b. record { block = b; body = M.bytes s.volume b }) r.touched in
      let rest = plan_of u.writers u.journal ring.places ring.head ring.started r.number (u.sequence + (r.number - 1)) bodies r.revoked in
      record s {
        journal = record {
          flush = record s.journal.flush { conflicts = hold r.number r.touched s.journal.flush.conflicts };
          ring = record (place_blocks (log_needs u.writers r) ring) { started = true };
          running = fresh (r.number + 1);
          phase = Committing (record { rest = rest; bodies = bodies; revokes = r.revoked; changed = r.changed });
        };
        cuts = s.cuts ++ length s.history ∷ [];
      }

  -- one step of the checkpoint: the next body goes home, the last one as a barrier; then the superblock of
  -- the new tail goes out as a barrier
  abbrev pub checkpoint : Host V C R → List Logged → Host V C R
  checkpoint s (h ∷ hs) =
      put_out (record s { journal = record s.journal { ring = home_sent s.journal.ring } }) (notes.Home h.block) h.block h.body true (elim hs as (λ _. Bool) [ [] ↦ true | x ∷ xs ↦ false ])
  checkpoint s [] =
      put_out (record s { journal = record s.journal { ring = all_home s.journal.ring } }) notes.Super u.journal (u.writers.super (u.sequence + (s.journal.running.number - 1)) s.journal.ring.head) true true

  -- in Closing: the pages of changed files, the checkpoint where there is too little room, the plan
  abbrev pub close_step : Bool → Host V C R → Turned V C R
  close_step full s =
      elim (find (λ p. is_unsent p.state && has s.journal.running.changed p.birth) s.pages) as (λ _. Turned V C R) [
        | Some p ↦ submits full s (send_page s p true false)
        | None ↦
            if nat_lt (ring_free s.journal.ring) (log_needs u.writers s.journal.running) then submits full s (checkpoint s s.journal.ring.homes)
            else record { host = build_plan s; turn = turns.Did }
      ]

  -- the last request of a plan is the commit block of transaction k
  abbrev pub committed : Host V C R → ℕ → ℕ → Plan → Host V C R
  committed s k id p =
      record s {
        journal = record s.journal {
          flush = record s.journal.flush { waits = map (need_commit k id) s.journal.flush.waits };
          ring = commit_bodies p.revokes p.bodies s.journal.ring;
          phase = Idle;
        };
        volume = M.release s.volume k;
      }

  -- `first` goes out; with the last one, which is the commit block, the transaction is committed
  abbrev pub plan_sent : Host V C R → Plan → Planned → List Planned → Host V C R
  plan_sent s p first [] = committed (send_planned s first) (s.journal.running.number - 1) (length s.journal.flush.requests) p
  plan_sent s p first (q ∷ qs) = send_planned (record s { journal = record s.journal { phase = Committing (record p { rest = q ∷ qs }) } }) first

  -- a step of the commit actor in this phase
  abbrev pub in_phase : Bool → Host V C R → Phase → Turned V C R
  in_phase full s Idle =
      if s.journal.running.wanted && is_none (least s.journal.flush.conflicts) then record { host = record s { journal = record s.journal { phase = Closing } }; turn = turns.Did }
      else record { host = s; turn = turns.Idle }
  in_phase full s Closing = close_step full s
  in_phase full s (Committing p) =
      elim p.rest as (λ _. Turned V C R) [ [] ↦ record { host = s; turn = turns.Idle } | first ∷ rest ↦ submits full s (plan_sent s p first rest) ]

  -- nothing is done after a cut or a failure
  abbrev pub commit_step : Bool → Host V C R → Turned V C R
  commit_step full s = if is_over s.journal.flush then record { host = s; turn = turns.Idle } else in_phase full s s.journal.phase

  -- the Dirty page of this number; orderless where the transaction that took its zone is submitted
  abbrev pub writeback : Bool → Host V C R → ℕ → Turned V C R
  writeback full s pick =
      if is_over s.journal.flush then record { host = s; turn = turns.Idle }
      else elim (dirty_page s.pages pick) as (λ _. Turned V C R) [
        | None ↦ record { host = s; turn = turns.Idle }
        | Some p ↦ submits full s (send_page s p (not (is_submitted s.journal (slice_index_or s.owners p.block 0))) false)
      ]

  -- a completion, where one waits
  abbrev pub take_step : Host V C R → Option Completion → Turned V C R
  take_step s next = elim next as (λ _. Turned V C R) [
    | None ↦ record { host = s; turn = turns.Idle }
    | Some c ↦ record { host = with_flush s (take_completion c s.journal.flush); turn = turns.Did }
  ]

  -- a flush where one is due, else a completion
  abbrev pub flush_step : Bool → Host V C R → Option Completion → Turned V C R
  flush_step full s next =
      let f = s.journal.flush in
      if flush_due f then submits full s (with_flush s (submit (record { id = length f.requests; kind = puts.Flush; ordered = true; barrier = true }) notes.Flush f))
      else take_step s next

  -- the host of a session that is opened: with a volume, the log's places, as many zones, and programs
  abbrev pub opened : V → LogRing → ℕ → ℕ → List (List C) → Host V C R
  opened v ring zones limit programs = record {
    journal = record {
      flush = record { requests = []; notes = []; limit = limit; taken = []; conflicts = record { held = []; wanted = [] }; waits = map (λ (p : List C). no_wait) programs };
      ring = ring;
      running = fresh 1;
      phase = Idle;
    };
    volume = v;
    pages = [];
    owners = replicate zones 0;
    history = [];
    cuts = [];
    threads = map (λ (p : List C). record { calls = p; begun = None }) programs;
  }
