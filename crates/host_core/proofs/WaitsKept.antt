-- A step of an actor or of a begun call leaves each thread its wait.
use Rattle.std.specs.List.{list_any}
use Rattle.std.proofs.Common.{◌≡◌, ℕ, ◌-◌, ◌==◌, Bool, true, false, not, ◌&&◌, ◌||◌, nat_lt, List, [], ◌∷◌, length, Option, Some, None, is_none, if◌then◌else◌, refl}
use Rattle.std.proofs.lemmas.List.{length-map}
use Rattle.std.proofs.Math.ListN.{length-set}
use Rattle.order_model.specs.declared.completion.Completion.{Completion}
use Rattle.order_model.specs.declared.turn.Turn.TheVariants as turns
use Rattle.log_model.specs.Marks.{Logged}
use Rattle.page_cache.specs.Pages.{unsent_of, put_page, marked}
use Rattle.page_cache.specs.declared.cached_page.CachedPage.{CachedPage}
use Rattle.page_cache.specs.declared.cached_page.PageState.TheVariants.{Firm}
use Rattle.flush_actor.specs.conflicts.Conflicts.{least}
use Rattle.journal_ring.specs.LogRing.{ring_free}
use Rattle.journal_ring.specs.running.Running.{log_needs}
use Rattle.journal_ring.specs.running.Plan.{Writers, Planned}
use Rattle.flush_actor.specs.Kinds.{is_data, is_durable}
use Rattle.flush_actor.specs.Part.{FlushPart, is_over, at_limit, is_flushed_after, flush_above, last_put}
use Rattle.flush_actor.specs.Steps.{flush_due, flush_turn, take_turn, submit_flush}
use Rattle.flush_actor.specs.Waits.{need_commit}
use Rattle.flush_actor.specs.declared.wait.Wait.{Wait}
use Rattle.commit_actor.specs.Journal.{Plan, Phase, Idle, Closing, Committing, JournalPart, is_submitted}
use Rattle.host_machine.specs.Causes as causes
use Rattle.host_machine.specs.Host.{Goal, AwaitCommit, AnswerOk, AwaitLastPut, goal_of, cause_of, unsent_on}
use Rattle.host_machine.specs.State.{Begun}
use Rattle.host_core.specs.begun.Steps.{Went, Gone, Answered, Full, Sent, Waits, waiting, wanting, waits_durable, waits_for_put, waits_for_commit, pursues, with_pages, page_out, sends_page, walks, goes_on}
use Rattle.commit_actor.specs.Steps as actor
use Rattle.commit_actor.specs.Steps.{CommitTurn, commit_turn, phase_turn}

abbrev pub waits_in : JournalPart → ℕ
waits_in j = length j.flush.waits

-- ---- the actors

pub take_keeps : (next : Option Completion) (f : FlushPart) → length (take_turn next f).part.waits ≡ length f.waits
take_keeps None f = refl
take_keeps (Some c) f = refl

pub flush_keeps : (q : Bool) (next : Option Completion) (f : FlushPart) → length (flush_turn q next f).part.waits ≡ length f.waits
flush_keeps q next f = by (flush_due f) (at_limit f) q
  where
    by : (due limit full : Bool) →
        length (if due then if limit then record { part = f; turn = turns.SessionFull } else if full then record { part = f; turn = turns.QueueFull } else record { part = submit_flush f; turn = turns.Did }
        else take_turn next f).part.waits ≡ length f.waits
    by true true full = refl
    by true false true = refl
    by true false false = refl
    by false limit full = take_keeps next f

module _ (w : Writers) (journal sequence : ℕ) (q : Bool) (bodies : ℕ → List ℕ) (j : JournalPart) (ps : List CachedPage) where
  abbrev Keeps : CommitTurn → Type 0
  Keeps x = waits_in x.part ≡ waits_in j

  test_keeps : (b : Bool) (x y : CommitTurn) → Keeps x → Keeps y → Keeps (if b then x else y)
  test_keeps true x y h k = h
  test_keeps false x y h k = k

  -- a step that submits
  submits_keeps : (out : JournalPart) (outs : List CachedPage) → waits_in out ≡ waits_in j → Keeps (actor.submits q j ps out outs)
  submits_keeps out outs same =
      test_keeps (at_limit j.flush) (record { part = j; pages = ps; turn = turns.SessionFull }) (if q then record { part = j; pages = ps; turn = turns.QueueFull } else actor.did out outs) refl
      (test_keeps q (record { part = j; pages = ps; turn = turns.QueueFull }) (actor.did out outs) refl same)

  checkpoint_keeps : (homes : List Logged) → waits_in (actor.checkpoint w journal sequence j homes) ≡ waits_in j
  checkpoint_keeps [] = refl
  checkpoint_keeps (h ∷ hs) = refl

  close_keeps : (o : Option CachedPage) (short : Bool) →
      Keeps (elim o as (λ _. CommitTurn) [
        | Some p ↦ actor.submits q j ps (actor.page_sent j p) (put_page ps (marked p Firm))
        | None ↦ if short then actor.submits q j ps (actor.checkpoint w journal sequence j j.ring.homes) ps else actor.did (actor.plan_built w journal sequence bodies j) ps
      ])
  close_keeps (Some p) short = submits_keeps (actor.page_sent j p) (put_page ps (marked p Firm)) refl
  close_keeps None true = submits_keeps (actor.checkpoint w journal sequence j j.ring.homes) ps (checkpoint_keeps j.ring.homes)
  close_keeps None false = refl

  sent_keeps : (p : Plan) (first : Planned) (rest : List Planned) → waits_in (actor.plan_sent j p first rest) ≡ waits_in j
  sent_keeps p first [] = length-map j.flush.waits (need_commit (j.running.number - 1) (length j.flush.requests))
  sent_keeps p first (next ∷ rest) = refl

  plan_keeps : (p : Plan) (rest : List Planned) → Keeps (elim rest as (λ _. CommitTurn) [ [] ↦ actor.idle j ps | first ∷ more ↦ actor.submits q j ps (actor.plan_sent j p first more) ps ])
  plan_keeps p [] = refl
  plan_keeps p (first ∷ more) = submits_keeps (actor.plan_sent j p first more) ps (sent_keeps p first more)

  phase_keeps : (p : Phase) → Keeps (phase_turn w journal sequence q bodies j ps p)
  phase_keeps Idle = test_keeps (j.running.wanted && is_none (least j.flush.conflicts)) (actor.did (record j { phase = Closing }) ps) (actor.idle j ps) refl refl
  phase_keeps Closing = close_keeps (unsent_of ps j.running.changed) (nat_lt (ring_free j.ring) (log_needs w j.running))
  phase_keeps (Committing p) = plan_keeps p p.rest

  pub commit_keeps : waits_in (commit_turn w journal sequence q bodies j ps).part ≡ waits_in j
  commit_keeps = test_keeps (is_over j.flush) (actor.idle j ps) (phase_turn w journal sequence q bodies j ps j.phase) refl (phase_keeps j.phase)

-- ---- a begun call

module _ (full : Bool) (j : JournalPart) (pages : List CachedPage) (t : ℕ) (w : Wait) (b : Begun) where
  abbrev KeepsWent : Went → Type 0
  KeepsWent x = waits_in x.part ≡ waits_in j

  went_test : (c : Bool) (x y : Went) → KeepsWent x → KeepsWent y → KeepsWent (if c then x else y)
  went_test true x y h k = h
  went_test false x y h k = k

  waiting_keeps : (x : Wait) → waits_in (waiting j t x) ≡ waits_in j
  waiting_keeps x = length-set j.flush.waits t x

  durable_keeps : (id : ℕ) → KeepsWent (waits_durable j t w id)
  durable_keeps id =
      went_test (list_any (is_flushed_after id) j.flush.taken) (record { part = j; progress = Answered })
      (if at_limit j.flush && not (flush_above id 0 j.flush.notes) then record { part = j; progress = Full } else record { part = waiting j t (record w { need = Some id }); progress = Waits (causes.Durable id) }) refl
      (went_test (at_limit j.flush && not (flush_above id 0 j.flush.notes)) (record { part = j; progress = Full }) (record { part = waiting j t (record w { need = Some id }); progress = Waits (causes.Durable id) }) refl (waiting_keeps (record w { need = Some id })))

  put_keeps : KeepsWent (waits_for_put j t w)
  put_keeps = by (last_put 0 j.flush.notes None)
    where
      by : (o : Option ℕ) → KeepsWent (elim o as (λ _. Went) [ None ↦ record { part = j; progress = Answered } | Some id ↦ waits_durable j t w id ])
      by None = refl
      by (Some id) = durable_keeps id

  target_keeps : (k : ℕ) → KeepsWent (waits_for_commit j t w k)
  target_keeps k =
      went_test (is_submitted j k) (if is_durable w.kind then waits_for_put j t w else record { part = j; progress = Answered })
      (if at_limit j.flush then record { part = j; progress = Full } else record { part = j; progress = Waits (cause_of j k) })
      (went_test (is_durable w.kind) (waits_for_put j t w) (record { part = j; progress = Answered }) put_keeps refl)
      (went_test (at_limit j.flush) (record { part = j; progress = Full }) (record { part = j; progress = Waits (cause_of j k) }) refl refl)

  pursued_keeps : (g : Goal) → KeepsWent (pursues j t w g)
  pursued_keeps AnswerOk = refl
  pursued_keeps AwaitLastPut = put_keeps
  pursued_keeps (AwaitCommit k) =
      went_test (at_limit j.flush) (record { part = j; progress = Full })
      (record { part = if k == j.running.number then wanting (waiting j t (record w { target = Some k })) else waiting j t (record w { target = Some k }); progress = Waits (cause_of j k) }) refl
      (fixed (k == j.running.number))
    where
      fixed : (r : Bool) → waits_in (if r then wanting (waiting j t (record w { target = Some k })) else waiting j t (record w { target = Some k })) ≡ waits_in j
      fixed true = waiting_keeps (record w { target = Some k })
      fixed false = waiting_keeps (record w { target = Some k })

  gone_test : (c : Bool) (x y : Gone) → waits_in x.part ≡ waits_in j → waits_in y.part ≡ waits_in j → waits_in (if c then x else y).part ≡ waits_in j
  gone_test true x y h k = h
  gone_test false x y h k = k

  page_keeps : (next : CachedPage × List (ℕ × ℕ)) → waits_in (sends_page full j pages b next).part ≡ waits_in j
  page_keeps next =
      let barrier = is_data b.kind && is_none (unsent_on pages next.1) in
      let sent : Gone = record { part = page_out j next.0 barrier; pages = put_page pages (marked next.0 Firm); progress = Sent (length j.flush.requests) next.1 (b.sent_barrier || barrier) } in
      let no_room : Gone = record { part = j; pages = pages; progress = Waits causes.QueueFull } in
      gone_test (at_limit j.flush) (record { part = j; pages = pages; progress = Full }) (if full then no_room else sent) refl (gone_test full no_room sent refl refl)

  walk_keeps : waits_in (walks full j pages t w b).part ≡ waits_in j
  walk_keeps = by (unsent_on pages b.list)
    where
      by : (o : Option (CachedPage × List (ℕ × ℕ))) → waits_in (elim o as (λ _. Gone) [ None ↦ with_pages pages (pursues j t w (goal_of j b)) | Some next ↦ sends_page full j pages b next ]).part ≡ waits_in j
      by None = pursued_keeps (goal_of j b)
      by (Some next) = page_keeps next

  pub going_keeps : waits_in (goes_on full j pages t w b).part ≡ waits_in j
  going_keeps = by w.need w.target
    where
      by : (need target : Option ℕ) → waits_in (elim need as (λ _. Gone) [
        | Some id ↦ with_pages pages (waits_durable j t w id)
        | None ↦ elim target as (λ _. Gone) [ Some k ↦ with_pages pages (waits_for_commit j t w k) | None ↦ walks full j pages t w b ]
      ]).part ≡ waits_in j
      by (Some id) target = durable_keeps id
      by None (Some k) = target_keeps k
      by None None = walk_keeps
