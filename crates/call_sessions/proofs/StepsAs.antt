-- The steps of a host whose calls are seen as other things are the steps of the host, seen so.
use Rattle.std.proofs.Common.{◌≡◌, ℕ, ◌+◌, ◌==◌, Bool, true, false, not, ◌&&◌, ◌||◌, nat_lt, List, [], ◌∷◌, ◌++◌, length, map, set, filter, Option, Some, None, is_none, slice_get, slice_index_or, option_map, if◌then◌else◌, refl, sym, ap, ◌∙◌}
use Rattle.std.proofs.lemmas.List.{length-map, map-append, map-set}
use Rattle.std.proofs.lemmas.Option.{slice_get-map}
use Rattle.std.specs.List.{list_any}
use Rattle.page_cache.specs.declared.cached_page.CachedPage.{CachedPage}
use Rattle.flush_actor.specs.Kinds.{is_begun, is_data, is_durable}
use Rattle.flush_actor.specs.Part.{is_flushed_after, at_limit, flush_above, last_put}
use Rattle.flush_actor.specs.Waits.{no_wait}
use Rattle.flush_actor.specs.declared.call_kind.CallKind.{CallKind}
use Rattle.flush_actor.specs.declared.wait.Wait.{Wait}
use Rattle.commit_actor.specs.Journal.{is_submitted}
use Rattle.host_machine.specs.Causes as causes
use Rattle.host_machine.specs.Causes.{Cause}
use Rattle.host_machine.specs.Host as host
use Rattle.host_machine.specs.Host.{Stepped, Turned, Goal, AwaitCommit, AnswerOk, AwaitLastPut, goal_of, cause_of, unsent_on}
use Rattle.host_machine.specs.Model.{Model, Freed}
use Rattle.host_machine.specs.Outcomes as outcomes
use Rattle.host_machine.specs.Outcomes.{Step}
use Rattle.host_machine.specs.State.{Ending, Answered, SessionFull, Begins, Ends, Begun, Entry, Thread, Host, Setup}
use Rattle.call_sessions.specs.CallsAs.{entry_as, thread_as, host_as, stepped_as, model_as}

module _ {T V C D R : Type 0} (f : C → D) (M : Model T V D R) (u : Setup) where
  abbrev N : Model T V C R
  N = model_as f M

  -- ---- lists of entries and threads

  module _ (s : Host V C R) where
    -- the same host, with this history and these threads
    abbrev with_calls : List (Entry D R) → List (Thread D) → Host V D R
    with_calls es ths = record { journal = s.journal; volume = s.volume; pages = s.pages; owners = s.owners; history = es; cuts = s.cuts; threads = ths }

    -- one entry more, and one thread set
    noted_and_set : (t : ℕ) (e : Entry C R) (th : Thread C)
        → with_calls (map (entry_as f) s.history ++ entry_as f e ∷ []) (set (map (thread_as f) s.threads) t (thread_as f th))
        ≡ with_calls (map (entry_as f) (s.history ++ e ∷ [])) (map (thread_as f) (set s.threads t th))
    noted_and_set t e th =
        ap (λ es. with_calls es (set (map (thread_as f) s.threads) t (thread_as f th))) (sym (map-append (entry_as f) s.history (e ∷ [])))
        ∙ ap (with_calls (map (entry_as f) (s.history ++ e ∷ []))) (sym (map-set (thread_as f) s.threads t th))

  entered : (s : Host V C R) → length (map (entry_as f) s.history) ≡ length s.history
  entered s = length-map s.history (entry_as f)

  -- ---- what ends a call

  end_as : (s : Host V C R) (t : ℕ) (c : C) (rest : List C) (e : Ending R) → host.end_with M u (host_as f s) t (f c) (map f rest) e ≡ stepped_as f (host.end_with N u s t c rest e)
  end_as s t c rest e =
      ap (λ (h : Host V D R). let x : Stepped V D R = record { host = host.set_wait M u h t no_wait; step = host.ended_by M u e } in x)
      (noted_and_set s t (record { thread = t; call = c; what = Ends e }) (record { calls = rest; begun = None }))

  -- ---- plain calls

  hindered_as : (s : Host V C R) (cause : Cause) → host.hindered M u (host_as f s) cause ≡ host_as f (host.hindered N u s cause)
  hindered_as s (causes.TxFull blocks) = refl
  hindered_as s (causes.Quarantine lacks) = by (nat_lt (length (filter (λ (z : Freed). nat_lt z.transaction s.journal.running.number) (M.zones s.volume).waiting)) lacks)
    where
      by : (b : Bool) → (if b then host.wanting M u (host_as f s) else host_as f s) ≡ host_as f (if b then host.wanting N u s else s)
      by true = refl
      by false = refl
  hindered_as s causes.Closing = refl
  hindered_as s (causes.Conflict b k) = refl
  hindered_as s (causes.Commit k) = refl
  hindered_as s (causes.Durable id) = refl
  hindered_as s causes.QueueFull = refl

  done_as : (s : Host V C R) (t : ℕ) (c : C) (rest : List C)
      → (let a = M.apply s.volume (length (map (entry_as f) s.history) + 1) s.journal.running.number (f c) in host.end_with M u (host.change M u (host_as f s) (f c) a) t (f c) (map f rest) (Answered a.reply))
      ≡ stepped_as f (let a = N.apply s.volume (length s.history + 1) s.journal.running.number c in host.end_with N u (host.change N u s c a) t c rest (Answered a.reply))
  done_as s t c rest =
      ap (λ n.
      let a = M.apply s.volume (n + 1) s.journal.running.number (f c) in
      host.end_with M u
      (record (host.change M u (host_as f s) (f c) a) { pages = host.written_pages M u a.volume (n + 1) (host.dropped_pages M u s.pages a.touched.dropped) a.touched.pages })
      t (f c) (map f rest) (Answered a.reply)) (entered s)
      ∙ (let a = N.apply s.volume (length s.history + 1) s.journal.running.number c in end_as (host.change N u s c a) t c rest (Answered a.reply))

  plain_as : (s : Host V C R) (t : ℕ) (c : C) (rest : List C) → host.plain M u (host_as f s) t (f c) (map f rest) ≡ stepped_as f (host.plain N u s t c rest)
  plain_as s t c rest = by (host.hindrance N u s c)
    where
      waits : (cause : Cause) (b : Bool)
          → (if b then host.end_with M u (host_as f s) t (f c) (map f rest) SessionFull else record { host = host.hindered M u (host_as f s) cause; step = outcomes.Waiting cause })
          ≡ stepped_as f (if b then host.end_with N u s t c rest SessionFull else record { host = host.hindered N u s cause; step = outcomes.Waiting cause })
      waits cause true = end_as s t c rest SessionFull
      waits cause false = ap (λ (h : Host V D R). let x : Stepped V D R = record { host = h; step = outcomes.Waiting cause } in x) (hindered_as s cause)

      by : (o : Option Cause)
          → (elim o as (λ _. Stepped V D R) [
            | Some cause ↦ if at_limit s.journal.flush then host.end_with M u (host_as f s) t (f c) (map f rest) SessionFull else record { host = host.hindered M u (host_as f s) cause; step = outcomes.Waiting cause }
            | None ↦ let a = M.apply s.volume (length (map (entry_as f) s.history) + 1) s.journal.running.number (f c) in host.end_with M u (host.change M u (host_as f s) (f c) a) t (f c) (map f rest) (Answered a.reply)
          ])
          ≡ stepped_as f (elim o as (λ _. Stepped V C R) [
            | Some cause ↦ if at_limit s.journal.flush then host.end_with N u s t c rest SessionFull else record { host = host.hindered N u s cause; step = outcomes.Waiting cause }
            | None ↦ let a = N.apply s.volume (length s.history + 1) s.journal.running.number c in host.end_with N u (host.change N u s c a) t c rest (Answered a.reply)
          ])
      by None = done_as s t c rest
      by (Some cause) = waits cause (at_limit s.journal.flush)

  -- ---- barrier and sync calls

  begin_as : (s : Host V C R) (t : ℕ) (c : C) (rest : List C) → host.begin M u (host_as f s) t (f c) (map f rest) ≡ stepped_as f (host.begin N u s t c rest)
  begin_as s t c rest =
      ap (λ n. begun (record { begin = n + 1; kind = kind; file = file; list = host.listed M u s.pages kind file; sent_barrier = false })) (entered s)
      ∙ ap (λ (h : Host V D R). let x : Stepped V D R = record { host = host.set_wait M u h t (record { kind = kind; target = None; need = None }); step = outcomes.Begun } in x)
      (noted_and_set s t (record { thread = t; call = c; what = Begins })
      (record { calls = c ∷ rest; begun = Some (record { begin = length s.history + 1; kind = kind; file = file; list = host.listed M u s.pages kind file; sent_barrier = false }) }))
    where
      kind : CallKind
      kind = M.kind (f c)

      file : ℕ
      file = M.node s.volume (f c)

      begun : Begun → Stepped V D R
      begun b = record {
        host = host.set_wait M u (host.set_thread M u (host.note_entry M u (host_as f s) t (f c) Begins) t (record { calls = f c ∷ map f rest; begun = Some b })) t (record { kind = kind; target = None; need = None });
        step = outcomes.Begun;
      }

  durable_as : (s : Host V C R) (t : ℕ) (c : C) (rest : List C) (w : Wait) (id : ℕ) → host.await_durable M u (host_as f s) t (f c) (map f rest) w id ≡ stepped_as f (host.await_durable N u s t c rest w id)
  durable_as s t c rest w id = by (list_any (is_flushed_after id) s.journal.flush.taken) (at_limit s.journal.flush && not (flush_above id 0 s.journal.flush.notes))
    where
      by : (a b : Bool)
          → (if a then host.end_with M u (host_as f s) t (f c) (map f rest) (Answered M.ok) else if b then host.end_with M u (host_as f s) t (f c) (map f rest) SessionFull else record { host = host.set_wait M u (host_as f s) t (record w { need = Some id }); step = outcomes.Waiting (causes.Durable id) })
          ≡ stepped_as f (if a then host.end_with N u s t c rest (Answered N.ok) else if b then host.end_with N u s t c rest SessionFull else record { host = host.set_wait N u s t (record w { need = Some id }); step = outcomes.Waiting (causes.Durable id) })
      by true b = end_as s t c rest (Answered M.ok)
      by false true = end_as s t c rest SessionFull
      by false false = refl

  last_put_as : (s : Host V C R) (t : ℕ) (c : C) (rest : List C) (w : Wait) → host.await_last_put M u (host_as f s) t (f c) (map f rest) w ≡ stepped_as f (host.await_last_put N u s t c rest w)
  last_put_as s t c rest w = by (last_put 0 s.journal.flush.notes None)
    where
      by : (o : Option ℕ)
          → (elim o as (λ _. Stepped V D R) [ None ↦ host.end_with M u (host_as f s) t (f c) (map f rest) (Answered M.ok) | Some id ↦ host.await_durable M u (host_as f s) t (f c) (map f rest) w id ])
          ≡ stepped_as f (elim o as (λ _. Stepped V C R) [ None ↦ host.end_with N u s t c rest (Answered N.ok) | Some id ↦ host.await_durable N u s t c rest w id ])
      by None = end_as s t c rest (Answered M.ok)
      by (Some id) = durable_as s t c rest w id

  commit_as : (s : Host V C R) (t : ℕ) (c : C) (rest : List C) (w : Wait) (k : ℕ) → host.await_commit M u (host_as f s) t (f c) (map f rest) w k ≡ stepped_as f (host.await_commit N u s t c rest w k)
  commit_as s t c rest w k = by (is_submitted s.journal k) (is_durable w.kind) (at_limit s.journal.flush)
    where
      by : (a d l : Bool)
          → (if a then if d then host.await_last_put M u (host_as f s) t (f c) (map f rest) w else host.end_with M u (host_as f s) t (f c) (map f rest) (Answered M.ok) else if l then host.end_with M u (host_as f s) t (f c) (map f rest) SessionFull else record { host = host_as f s; step = outcomes.Waiting (cause_of s.journal k) })
          ≡ stepped_as f (if a then if d then host.await_last_put N u s t c rest w else host.end_with N u s t c rest (Answered N.ok) else if l then host.end_with N u s t c rest SessionFull else record { host = s; step = outcomes.Waiting (cause_of s.journal k) })
      by true true l = last_put_as s t c rest w
      by true false l = end_as s t c rest (Answered M.ok)
      by false d true = end_as s t c rest SessionFull
      by false d false = refl

  pursue_as : (s : Host V C R) (t : ℕ) (c : C) (rest : List C) (w : Wait) (g : Goal) → host.pursue M u (host_as f s) t (f c) (map f rest) w g ≡ stepped_as f (host.pursue N u s t c rest w g)
  pursue_as s t c rest w AnswerOk = end_as s t c rest (Answered M.ok)
  pursue_as s t c rest w AwaitLastPut = last_put_as s t c rest w
  pursue_as s t c rest w (AwaitCommit k) = by (at_limit s.journal.flush) (k == s.journal.running.number)
    where
      by : (l b : Bool)
          → (if l then host.end_with M u (host_as f s) t (f c) (map f rest) SessionFull else
          let next = host.set_wait M u (host_as f s) t (record w { target = Some k }) in
          record { host = if b then host.wanting M u next else next; step = outcomes.Waiting (cause_of s.journal k) })
          ≡ stepped_as f (if l then host.end_with N u s t c rest SessionFull else
          let next = host.set_wait N u s t (record w { target = Some k }) in
          record { host = if b then host.wanting N u next else next; step = outcomes.Waiting (cause_of s.journal k) })
      by true b = end_as s t c rest SessionFull
      by false true = refl
      by false false = refl

  -- the thread's call goes on with this page sent
  abbrev page_sent : {E : Type 0} → Model T V E R → Host V E R → ℕ → E → List E → Begun → CachedPage × List (ℕ × ℕ) → Stepped V E R
  page_sent m s t c rest b next =
      let barrier = is_data b.kind && is_none (unsent_on s.pages next.1) in
      record {
        host = host.set_thread m u (host.send_page m u s next.0 true barrier) t (record { calls = c ∷ rest; begun = Some (record b { list = next.1; sent_barrier = b.sent_barrier || barrier }) });
        step = outcomes.Sent (length s.journal.flush.requests);
      }

  sent_as : (s : Host V C R) (t : ℕ) (c : C) (rest : List C) (b : Begun) (next : CachedPage × List (ℕ × ℕ)) → page_sent M (host_as f s) t (f c) (map f rest) b next ≡ stepped_as f (page_sent N s t c rest b next)
  sent_as s t c rest b next =
      let barrier = is_data b.kind && is_none (unsent_on s.pages next.1) in
      ap (λ (ths : List (Thread D)). let x : Stepped V D R = record { host = record (host.send_page M u (host_as f s) next.0 true barrier) { threads = ths }; step = outcomes.Sent (length s.journal.flush.requests) } in x)
      (sym (map-set (thread_as f) s.threads t (record { calls = c ∷ rest; begun = Some (record b { list = next.1; sent_barrier = b.sent_barrier || barrier }) })))

  walk_as : (full : Bool) (s : Host V C R) (t : ℕ) (c : C) (rest : List C) (w : Wait) (b : Begun) → host.walk_pages M u full (host_as f s) t (f c) (map f rest) w b ≡ stepped_as f (host.walk_pages N u full s t c rest w b)
  walk_as full s t c rest w b = by (unsent_on s.pages b.list)
    where
      sends : (next : CachedPage × List (ℕ × ℕ)) (l q : Bool)
          → (if l then host.end_with M u (host_as f s) t (f c) (map f rest) SessionFull else if q then record { host = host_as f s; step = outcomes.Waiting causes.QueueFull } else page_sent M (host_as f s) t (f c) (map f rest) b next)
          ≡ stepped_as f (if l then host.end_with N u s t c rest SessionFull else if q then record { host = s; step = outcomes.Waiting causes.QueueFull } else page_sent N s t c rest b next)
      sends next true q = end_as s t c rest SessionFull
      sends next false true = refl
      sends next false false = sent_as s t c rest b next

      by : (o : Option (CachedPage × List (ℕ × ℕ)))
          → (elim o as (λ _. Stepped V D R) [
            | None ↦ host.pursue M u (host_as f s) t (f c) (map f rest) w (goal_of s.journal b)
            | Some next ↦ if at_limit s.journal.flush then host.end_with M u (host_as f s) t (f c) (map f rest) SessionFull else if full then record { host = host_as f s; step = outcomes.Waiting causes.QueueFull } else page_sent M (host_as f s) t (f c) (map f rest) b next
          ])
          ≡ stepped_as f (elim o as (λ _. Stepped V C R) [
            | None ↦ host.pursue N u s t c rest w (goal_of s.journal b)
            | Some next ↦ if at_limit s.journal.flush then host.end_with N u s t c rest SessionFull else if full then record { host = s; step = outcomes.Waiting causes.QueueFull } else page_sent N s t c rest b next
          ])
      by None = pursue_as s t c rest w (goal_of s.journal b)
      by (Some next) = sends next (at_limit s.journal.flush) full

  continue_as : (full : Bool) (s : Host V C R) (t : ℕ) (c : C) (rest : List C) (w : Wait) (b : Begun) → host.continue_begun M u full (host_as f s) t (f c) (map f rest) w b ≡ stepped_as f (host.continue_begun N u full s t c rest w b)
  continue_as full s t c rest w b = by w.need w.target
    where
      by : (need target : Option ℕ)
          → (elim need as (λ _. Stepped V D R) [
            | Some id ↦ host.await_durable M u (host_as f s) t (f c) (map f rest) w id
            | None ↦ elim target as (λ _. Stepped V D R) [ Some k ↦ host.await_commit M u (host_as f s) t (f c) (map f rest) w k | None ↦ host.walk_pages M u full (host_as f s) t (f c) (map f rest) w b ]
          ])
          ≡ stepped_as f (elim need as (λ _. Stepped V C R) [
            | Some id ↦ host.await_durable N u s t c rest w id
            | None ↦ elim target as (λ _. Stepped V C R) [ Some k ↦ host.await_commit N u s t c rest w k | None ↦ host.walk_pages N u full s t c rest w b ]
          ])
      by (Some id) target = durable_as s t c rest w id
      by None (Some k) = commit_as s t c rest w k
      by None None = walk_as full s t c rest w b

  -- ---- a caller's step

  step_call_as : (full : Bool) (s : Host V C R) (t : ℕ) (begun : Option Begun) (c : C) (rest : List C) → host.step_call M u full (host_as f s) t begun (f c) (map f rest) ≡ stepped_as f (host.step_call N u full s t begun c rest)
  step_call_as full s t (Some b) c rest = continue_as full s t c rest (slice_index_or s.journal.flush.waits t no_wait) b
  step_call_as full s t None c rest = by (M.reply s.volume (f c)) (is_begun (M.kind (f c)))
    where
      by : (o : Option R) (b : Bool)
          → (elim o as (λ _. Stepped V D R) [ Some refusal ↦ host.end_with M u (host_as f s) t (f c) (map f rest) (Answered refusal) | None ↦ if b then host.begin M u (host_as f s) t (f c) (map f rest) else host.plain M u (host_as f s) t (f c) (map f rest) ])
          ≡ stepped_as f (elim o as (λ _. Stepped V C R) [ Some refusal ↦ host.end_with N u s t c rest (Answered refusal) | None ↦ if b then host.begin N u s t c rest else host.plain N u s t c rest ])
      by (Some refusal) b = end_as s t c rest (Answered refusal)
      by None true = begin_as s t c rest
      by None false = plain_as s t c rest

  step_thread_as : (full : Bool) (s : Host V C R) (t : ℕ) (begun : Option Begun) (calls : List C) → host.step_thread M u full (host_as f s) t begun (map f calls) ≡ stepped_as f (host.step_thread N u full s t begun calls)
  step_thread_as full s t begun [] = refl
  step_thread_as full s t begun (c ∷ rest) = by (host.stop_of M u s.journal.flush.taken (M.kind (f c)))
    where
      by : (o : Option (Ending R))
          → (elim o as (λ _. Stepped V D R) [ Some stop ↦ host.end_with M u (host_as f s) t (f c) (map f rest) stop | None ↦ host.step_call M u full (host_as f s) t begun (f c) (map f rest) ])
          ≡ stepped_as f (elim o as (λ _. Stepped V C R) [ Some stop ↦ host.end_with N u s t c rest stop | None ↦ host.step_call N u full s t begun c rest ])
      by (Some stop) = end_as s t c rest stop
      by None = step_call_as full s t begun c rest

  pub advance_as : (full : Bool) (s : Host V C R) (t : ℕ) → host.advance M u full (host_as f s) t ≡ stepped_as f (host.advance N u full s t)
  advance_as full s t =
      ap (λ (o : Option (Thread D)). elim o as (λ _. Stepped V D R) [ None ↦ record { host = host_as f s; step = outcomes.Ended } | Some th ↦ host.step_thread M u full (host_as f s) t th.begun th.calls ])
      (slice_get-map (thread_as f) s.threads t)
      ∙ by (slice_get s.threads t)
    where
      by : (o : Option (Thread C))
          → (elim (option_map (thread_as f) o) as (λ _. Stepped V D R) [ None ↦ record { host = host_as f s; step = outcomes.Ended } | Some th ↦ host.step_thread M u full (host_as f s) t th.begun th.calls ])
          ≡ stepped_as f (elim o as (λ _. Stepped V C R) [ None ↦ record { host = s; step = outcomes.Ended } | Some th ↦ host.step_thread N u full s t th.begun th.calls ])
      by None = refl
      by (Some th) = step_thread_as full s t th.begun th.calls
