-- One step of a begun call, on the journal's part and the pages. `full` says that the submission queue was full.
use Rattle.std.specs.List.{filter, list_any}
use Rattle.std.specs.Prelude.{◌≡◌, ℕ, ◌≤◌, ◌^◌, ◌⊎◌, ◌==◌, Bool, true, not, ◌&&◌, ◌||◌, List, length, map, set, Some, None, is_none, if◌then◌else◌}
use Rattle.order_model.specs.declared.note.Note.TheVariants as notes
use Rattle.order_model.specs.declared.request.Kind.TheVariants as puts
use Rattle.order_model.specs.declared.request.Request.{Request}
use Rattle.page_cache.specs.Pages.{is_unsent, put_page, marked}
use Rattle.page_cache.specs.declared.cached_page.CachedPage.{CachedPage}
use Rattle.page_cache.specs.declared.cached_page.PageState.TheVariants.{Firm}
use Rattle.journal_ring.specs.running.Running.{wanted_one}
use Rattle.flush_actor.specs.Kinds.{is_data, is_durable, is_whole}
use Rattle.flush_actor.specs.Part.{at_limit, is_flushed_after, flush_above, last_put, submit}
use Rattle.flush_actor.specs.declared.call_kind.CallKind.{CallKind}
use Rattle.flush_actor.specs.declared.wait.Wait.{Wait}
use Rattle.commit_actor.specs.Actor.{CommitActor}
use Rattle.commit_actor.specs.Journal.{JournalPart, is_submitted}
use Rattle.host_machine.specs.Causes as causes
use Rattle.host_machine.specs.Causes.{Cause}
use Rattle.host_machine.specs.Host.{Goal, AwaitCommit, AnswerOk, AwaitLastPut, goal_of, cause_of, unsent_on}
use Rattle.host_machine.specs.State.{Begun}

-- how far the call came: it is answered; the session may have no more requests; it sent a page as this request, with the
-- rest of its list and whether it sent a barrier; or it waits
pub data BegunProgress : Type 0 where
  Answered : BegunProgress
  Full : BegunProgress
  Sent : ℕ → List (ℕ × ℕ) → Bool → BegunProgress
  Waits : Cause → BegunProgress

-- a step that changes the journal's part alone, and one that changes the pages too
pub record Went : Type 0 where
  pub part : JournalPart
  pub progress : BegunProgress

pub record Gone : Type 0 where
  pub part : JournalPart
  pub pages : List CachedPage
  pub progress : BegunProgress

-- the actor is otherwise as it was, but for its room
abbrev pub keeps_all : CommitActor → CommitActor → Type 0
keeps_all old new = new ≡ record { made_with = old.made_with; journal = old.journal; blocks = old.blocks; spare = old.spare; part = new.part }

-- the call of a thread waits for this
abbrev pub waiting : JournalPart → ℕ → Wait → JournalPart
waiting j t w = record j { flush = record j.flush { waits = set j.flush.waits t w } }

-- the running transaction is to be closed
abbrev pub wanting : JournalPart → JournalPart
wanting j = record j { running = wanted_one j.running }

-- it needs request id durable
abbrev pub waits_durable : JournalPart → ℕ → Wait → ℕ → Went
waits_durable j t w id =
    if list_any (is_flushed_after id) j.flush.taken then record { part = j; progress = Answered }
    else if at_limit j.flush && not (flush_above id 0 j.flush.notes) then record { part = j; progress = Full }
    else record { part = waiting j t (record w { need = Some id }); progress = Waits (causes.Durable id) }

-- it needs the last put durable, if there is one
abbrev pub waits_for_put : JournalPart → ℕ → Wait → Went
waits_for_put j t w =
    elim (last_put 0 j.flush.notes None) as (λ _. Went) [ None ↦ record { part = j; progress = Answered } | Some id ↦ waits_durable j t w id ]

-- it waits for transaction k
abbrev pub waits_for_commit : JournalPart → ℕ → Wait → ℕ → Went
waits_for_commit j t w k =
    if is_submitted j k then
    if is_durable w.kind then waits_for_put j t w else record { part = j; progress = Answered }
    else if at_limit j.flush then record { part = j; progress = Full }
    else record { part = j; progress = Waits (cause_of j k) }

-- no page is left on its list
abbrev pub pursues : JournalPart → ℕ → Wait → Goal → Went
pursues j t w AnswerOk = record { part = j; progress = Answered }
pursues j t w AwaitLastPut = waits_for_put j t w
pursues j t w (AwaitCommit k) =
    if at_limit j.flush then record { part = j; progress = Full }
    else
    let next = waiting j t (record w { target = Some k }) in
    record { part = if k == j.running.number then wanting next else next; progress = Waits (cause_of j k) }

-- ---- its pages

-- the unsent pages of its file, or of all
abbrev pub listed : List CachedPage → CallKind → ℕ → List (ℕ × ℕ)
listed pages kind file =
    map (λ (p : CachedPage). (p.birth, p.index)) (filter (λ (p : CachedPage). is_unsent p.state && (is_whole kind || p.birth == file)) pages)

-- with these pages the step is done
abbrev pub with_pages : List CachedPage → Went → Gone
with_pages pages w = record { part = w.part; pages = pages; progress = w.progress }

-- a page goes out in order
abbrev pub page_out : JournalPart → CachedPage → Bool → JournalPart
page_out j p barrier =
    let r : Request = record { id = length j.flush.requests; kind = puts.Put p.block p.body; ordered = true; barrier = barrier } in
    record j { flush = submit r (notes.Page p.birth p.index p.version) j.flush }

-- the next page on its list is sent; where that is the last one left, a data call sends it as a barrier
abbrev pub sends_page : Bool → JournalPart → List CachedPage → Begun → CachedPage × List (ℕ × ℕ) → Gone
sends_page full j pages b next =
    if at_limit j.flush then record { part = j; pages = pages; progress = Full }
    else if full then record { part = j; pages = pages; progress = Waits causes.QueueFull }
    else
    let barrier = is_data b.kind && is_none (unsent_on pages next.1) in
    record { part = page_out j next.0 barrier; pages = put_page pages (marked next.0 Firm); progress = Sent (length j.flush.requests) next.1 (b.sent_barrier || barrier) }

-- the next page on its list is sent; where none is left, the call does what it is to do then
abbrev pub walks : Bool → JournalPart → List CachedPage → ℕ → Wait → Begun → Gone
walks full j pages t w b =
    elim (unsent_on pages b.list) as (λ _. Gone) [
      | None ↦ with_pages pages (pursues j t w (goal_of j b))
      | Some next ↦ sends_page full j pages b next
    ]

-- ---- a step

-- it waits for the request or the transaction that is fixed; until one is, it sends its pages
abbrev pub goes_on : Bool → JournalPart → List CachedPage → ℕ → Wait → Begun → Gone
goes_on full j pages t w b =
    elim w.need as (λ _. Gone) [
      | Some id ↦ with_pages pages (waits_durable j t w id)
      | None ↦ elim w.target as (λ _. Gone) [ Some k ↦ with_pages pages (waits_for_commit j t w k) | None ↦ walks full j pages t w b ]
    ]

-- ---- numbers of transactions that an answer cannot say

-- it asks for the commit of a transaction whose number has more than 32 bits
pub record IsGreatGoal (g : Goal) : Type 0 where
  pub tx : ℕ
  pub is : g ≡ AwaitCommit tx
  pub great : 2 ^ 32 ≤ tx

-- The begun call waits for a transaction whose number has more than 32 bits, or is to wait for one now.
pub record WaitsForGreat (j : JournalPart) (w : Wait) (b : Begun) : Type 0 where
  pub tx : ℕ
  pub waits : (w.target ≡ Some tx) ⊎ (goal_of j b ≡ AwaitCommit tx)
  pub great : 2 ^ 32 ≤ tx
