-- Small hosts, worked out by hand in the rows.
use Rattle.std.specs.Prelude.{ℕ, zero, suc, ◌+◌, ◌*◌, true, false, List, [], ◌∷◌, map, Option, Some, None, slice_get}
use Rattle.order_model.specs.declared.completion.Completion.{Completion}
use Rattle.order_model.specs.declared.note.Note.{Note}
use Rattle.order_model.specs.declared.note.Note.TheVariants as notes
use Rattle.order_model.specs.declared.request.Kind.TheVariants as puts
use Rattle.order_model.specs.declared.request.Request.{Request}
use Rattle.page_cache.specs.Pages.{put_page, drop_page}
use Rattle.page_cache.specs.declared.cached_page.CachedPage.{CachedPage}
use Rattle.page_cache.specs.declared.cached_page.PageState.{PageState}
use Rattle.page_cache.specs.declared.cached_page.PageState.TheVariants.{Clean, Dirty, Loose, Firm}
use Rattle.flush_actor.specs.declared.call_kind.CallKind.{CallKind}
use Rattle.flush_actor.specs.declared.call_kind.CallKind.TheVariants.{FileBarrier, DataBarrier, FileSync, DataSync, WholeSync}
use Rattle.flush_actor.specs.declared.conflicts.held.Held.{Held}
use Rattle.flush_actor.specs.declared.wait.Wait.{Wait}
use Rattle.journal_ring.specs.running.Plan.{Planned}
use Rattle.commit_actor.specs.Journal.{Plan, Phase, Closing, Committing}
use Rattle.host_machine.specs.Host.{advance, opened}
use Rattle.host_machine.specs.Outcomes.{Step}
use Rattle.host_machine.specs.laws.Rows.{State, Call, CallOf, CommitStep, model, setup, ring, run, times, begun}

-- ---- pages

abbrev pub page : ℕ → ℕ → PageState → CachedPage
page f i state = record { birth = f; index = i; block = 10 * f + i; body = f ∷ i ∷ []; version = 1; state = state }

-- three files; what was not written, and what was sent in order, is Clean and Firm
abbrev pub files : List CachedPage
files = page 1 0 Dirty ∷ page 1 1 Firm ∷ page 2 0 Dirty ∷ page 2 1 Loose ∷ page 2 2 Clean ∷ page 3 0 Loose ∷ page 3 1 Dirty ∷ []

-- ---- hosts

-- one thread that is to do this call, over these pages
abbrev pub asked : Call → List CachedPage → State
asked c pages = record (opened model setup (record { free = []; waiting = [] }) ring 64 1000 ((c ∷ []) ∷ [])) { pages = pages }

-- the call of the first thread has begun
abbrev pub begun_on : CallKind → List CachedPage → State
begun_on kind pages = run (CallOf 0 ∷ []) (asked (begun kind 2) pages)

abbrev pub in_phase : Phase → State → State
in_phase p s = record s { journal = record s.journal { phase = p } }

-- these files were changed by the running transaction, which has this number
abbrev pub changed : ℕ → List ℕ → State → State
changed k fs s = record s { journal = record s.journal { running = record s.journal.running { number = k; changed = fs } } }

-- this page came, also in the place of one that was there; or one went
abbrev pub with_page : CachedPage → State → State
with_page p s = record s { pages = put_page s.pages p }

abbrev pub without_page : ℕ → ℕ → State → State
without_page f i s = record s { pages = drop_page s.pages f i }

-- the transaction before the running one has these requests of its plan left, and changed these files
abbrev pub plan : List Planned → List ℕ → Plan
plan rest fs = record { rest = rest; bodies = []; revokes = []; changed = fs }

-- requests with these notes were submitted, to any block
abbrev pub request_of : ℕ → Note → Request
request_of id notes.Flush = record { id = id; kind = puts.Flush; ordered = true; barrier = true }
request_of id other = record { id = id; kind = puts.Put 0 []; ordered = true; barrier = false }

abbrev pub requests_from : ℕ → List Note → List Request
requests_from id [] = []
requests_from id (n ∷ ns) = request_of id n ∷ requests_from (id + 1) ns

abbrev pub submitted : List Note → State → State
submitted ns s = record s { journal = record s.journal { flush = record s.journal.flush { requests = requests_from 0 ns; notes = ns } } }

abbrev pub took : List Completion → State → State
took cs s = record s { journal = record s.journal { flush = record s.journal.flush { taken = cs } } }

abbrev pub waiting_for : List Wait → State → State
waiting_for ws s = record s { journal = record s.journal { flush = record s.journal.flush { waits = ws } } }

abbrev pub holding : List Held → List ℕ → State → State
holding held wanted s = record s { journal = record s.journal { flush = record s.journal.flush { conflicts = record { held = held; wanted = wanted } } } }

-- ---- steps

-- so many steps of the first caller, or of the commit actor
abbrev pub calls : ℕ → State → State
calls n = run (times n (CallOf 0))

abbrev pub commits : ℕ → State → State
commits n = run (times n CommitStep)

-- what the next step of the first caller answers
abbrev pub answer_of : State → Step ℕ
answer_of s = (advance model setup false s 0).step

-- ---- what is seen of them

-- the pages that the first thread's call has still to pass
abbrev pub list_of : State → List (ℕ × ℕ)
list_of s = elim (slice_get s.threads 0) as (λ _. List (ℕ × ℕ)) [ None ↦ [] | Some th ↦ elim th.begun as (λ _. List (ℕ × ℕ)) [ None ↦ [] | Some b ↦ b.list ] ]

abbrev pub targets_of : State → List (Option ℕ)
targets_of s = map (λ (w : Wait). w.target) s.journal.flush.waits

abbrev pub needs_of : State → List (Option ℕ)
needs_of s = map (λ (w : Wait). w.need) s.journal.flush.waits

abbrev pub states_of : State → List PageState
states_of s = map (λ (p : CachedPage). p.state) s.pages

-- the numbers from n on, so many
abbrev pub numbers : ℕ → ℕ → List ℕ
numbers n zero = []
numbers n (suc more) = n ∷ numbers (n + 1) more

abbrev pub toward : CallKind → ℕ → Wait
toward kind k = record { kind = kind; target = Some k; need = None }

-- the commit block of a transaction, still to be sent
abbrev pub commit_of : ℕ → Planned
commit_of k = record { note = notes.Commit k; block = 64 + k; body = []; barrier = true }

-- the number of the entry with which the first thread's call began
abbrev pub begin_of : State → ℕ
begin_of s = elim (slice_get s.threads 0) as (λ _. ℕ) [ None ↦ 0 | Some th ↦ elim th.begun as (λ _. ℕ) [ None ↦ 0 | Some b ↦ b.begin ] ]

-- a file with three pages that were written
abbrev pub three : List CachedPage
three = page 2 0 Dirty ∷ page 2 1 Dirty ∷ page 2 2 Dirty ∷ []

-- An `fdatabarrier` sent its first page while the others were sent in order, so it was the last one left. Then they were
-- written again, it sent the second one, and the third one was sent by others.
abbrev pub sent_one_early : State
sent_one_early =
    with_page (page 2 2 Firm) (run (CallOf 0 ∷ []) (with_page (page 2 1 Dirty) (with_page (page 2 2 Dirty)
    (run (CallOf 0 ∷ []) (with_page (page 2 1 Firm) (with_page (page 2 2 Firm) (begun_on DataBarrier three)))))))

-- files 2 and 3 were changed by transaction 1, which is closed
abbrev pub two_changed : State
two_changed = in_phase Closing (changed 1 (2 ∷ 3 ∷ []) (begun_on FileBarrier files))

-- an `fdatabarrier` whose pages went before it sent one
abbrev pub both_gone : State
both_gone = without_page 2 0 (without_page 2 1 (begun_on DataBarrier files))

-- file 2 was changed by transaction 1, which is on its way; transaction 2 runs, and changed these files
abbrev pub changed_before : List ℕ → State
changed_before fs = in_phase (Committing (plan [] (2 ∷ []))) (changed 2 fs (begun_on DataBarrier files))

-- six calls have a transaction as target, and the commit block of transaction 1 is the next request, number 1
abbrev pub callers_of_one : State
callers_of_one =
    waiting_for (toward FileSync 1 ∷ toward WholeSync 1 ∷ toward DataSync 1 ∷ toward FileBarrier 1 ∷ toward DataBarrier 1 ∷ toward FileSync 2 ∷ [])
    (submitted (notes.Page 1 0 1 ∷ []) (in_phase (Committing (plan (commit_of 1 ∷ []) [])) (changed 2 [] (asked (begun FileSync 0) []))))

-- what so many steps of the first caller answer, one after the other
abbrev pub answers : ℕ → State → List (Step ℕ)
answers zero s = []
answers (suc n) s = answer_of s ∷ answers n (calls 1 s)

-- a session of so many requests
abbrev pub limited : ℕ → State → State
limited n s = record s { journal = record s.journal { flush = record s.journal.flush { limit = n } } }

-- an `fsync` of file 2 behind the commit block of its transaction
abbrev pub sync_committed : State
sync_committed = commits 4 (calls 4 (asked (begun FileSync 2) files))

-- somebody wants the running transaction closed
abbrev pub wanting : State → State
wanting s = record s { journal = record s.journal { running = record s.journal.running { wanted = true } } }
