-- The steps of the commit actor on the journal's part and the cached pages. `full` says that the submission queue was
-- full.
use Rattle.std.specs.Prelude.{ℕ, ◌+◌, ◌-◌, Bool, true, false, ◌&&◌, nat_lt, List, [], ◌∷◌, length, map, Some, None, is_none, if◌then◌else◌}
use Rattle.order_model.specs.declared.note.Note.TheVariants as notes
use Rattle.order_model.specs.declared.note.Note.{Note}
use Rattle.order_model.specs.declared.request.Kind.TheVariants as puts
use Rattle.order_model.specs.declared.turn.Turn.TheVariants as turns
use Rattle.order_model.specs.declared.turn.Turn.{Turn}
use Rattle.log_model.specs.Marks.{Logged}
use Rattle.page_cache.specs.Pages.{unsent_of, put_page, marked}
use Rattle.page_cache.specs.declared.cached_page.CachedPage.{CachedPage}
use Rattle.page_cache.specs.declared.cached_page.PageState.TheVariants.{Firm}
use Rattle.flush_actor.specs.conflicts.Conflicts.{hold, least}
use Rattle.journal_ring.specs.LogRing.{ring_free, place_blocks, commit_bodies, home_sent, all_home}
use Rattle.journal_ring.specs.running.Closing.{logged_of}
use Rattle.journal_ring.specs.running.Running.{fresh, log_needs}
use Rattle.journal_ring.specs.running.Plan.{Writers, Planned, plan_of}
use Rattle.flush_actor.specs.Part.{is_over, at_limit, submit}
use Rattle.flush_actor.specs.Waits.{need_commit}
use Rattle.commit_actor.specs.Journal.{Plan, Phase, Idle, Closing, Committing, JournalPart}

-- what a step leaves, and what it answers
pub record CommitTurn : Type 0 where
  pub part : JournalPart
  pub pages : List CachedPage
  pub turn : Turn

abbrev pub did : JournalPart → List CachedPage → CommitTurn
did j ps = record { part = j; pages = ps; turn = turns.Did }

-- the step changed nothing
abbrev pub idle : JournalPart → List CachedPage → CommitTurn
idle j ps = record { part = j; pages = ps; turn = turns.Idle }

-- an order-preserving put goes out
abbrev pub put_out : JournalPart → Note → ℕ → List ℕ → Bool → JournalPart
put_out j n block body barrier =
    record j { flush = submit (record { id = length j.flush.requests; kind = puts.Put block body; ordered = true; barrier = barrier }) n j.flush }

-- a step that submits; `out` is the part after it, and `out_pages` the pages
abbrev pub submits : Bool → JournalPart → List CachedPage → JournalPart → List CachedPage → CommitTurn
submits full j ps out out_pages =
    if at_limit j.flush then record { part = j; pages = ps; turn = turns.SessionFull }
    else if full then record { part = j; pages = ps; turn = turns.QueueFull }
    else did out out_pages

-- a page of a changed file goes to its block, ahead of the log blocks
abbrev pub page_sent : JournalPart → CachedPage → JournalPart
page_sent j p = put_out j (notes.Page p.birth p.index p.version) p.block p.body false

-- the commit block of transaction k is request id
abbrev pub committed : JournalPart → ℕ → ℕ → Plan → JournalPart
committed j k id p = record j {
  flush = record j.flush { waits = map (need_commit k id) j.flush.waits };
  ring = commit_bodies p.revokes p.bodies j.ring;
  phase = Idle;
}

-- the next request of a plan goes out
abbrev pub planned_out : JournalPart → Planned → JournalPart
planned_out j p = put_out j p.note p.block p.body p.barrier

-- `first` goes out; with the last one, the commit block, the transaction is committed
abbrev pub plan_sent : JournalPart → Plan → Planned → List Planned → JournalPart
plan_sent j p first [] = committed (planned_out j first) (j.running.number - 1) (length j.flush.requests) p
plan_sent j p first (q ∷ qs) = planned_out (record j { phase = Committing (record p { rest = q ∷ qs }) }) first

-- the first request of the plan is submitted, as the last of all: what is left, or the commit
abbrev pub planned_done : JournalPart → Plan → List Planned → JournalPart
planned_done j p [] = j
planned_done j p (first ∷ []) = committed j (j.running.number - 1) (length j.flush.requests - 1) p
planned_done j p (first ∷ q ∷ qs) = record j { phase = Committing (record p { rest = q ∷ qs }) }

-- in Idle: the running transaction is closed where it is wanted and no block that it wants is held
abbrev pub idle_turn : JournalPart → List CachedPage → CommitTurn
idle_turn j ps = if j.running.wanted && is_none (least j.flush.conflicts) then did (record j { phase = Closing }) ps else idle j ps

-- in Committing: the next request of the plan goes out
abbrev pub plan_turn : Bool → JournalPart → List CachedPage → Plan → CommitTurn
plan_turn full j ps p =
    elim p.rest as (λ _. CommitTurn) [ [] ↦ idle j ps | first ∷ rest ↦ submits full j ps (plan_sent j p first rest) ps ]

-- how blocks are written, the block of the journal superblock, and the sequence of transaction 1
module _ (w : Writers) (journal sequence : ℕ) where
  -- one step of the checkpoint: the next body goes home, the last one as a barrier; then the superblock of the new tail
  -- goes out as a barrier
  abbrev pub checkpoint : JournalPart → List Logged → JournalPart
  checkpoint j (h ∷ hs) =
      put_out (record j { ring = home_sent j.ring }) (notes.Home h.block) h.block h.body (elim hs as (λ _. Bool) [ [] ↦ true | x ∷ xs ↦ false ])
  checkpoint j [] =
      put_out (record j { ring = all_home j.ring }) notes.Super journal (w.super (sequence + (j.running.number - 1)) j.ring.head) true

  -- the plan of the running transaction is built, with present bodies; the next transaction runs
  abbrev pub plan_built : (ℕ → List ℕ) → JournalPart → JournalPart
  plan_built bodies j =
      let r = j.running in
      let logged = logged_of bodies r.touched in
      record {
        flush = record j.flush { conflicts = hold r.number r.touched j.flush.conflicts };
        ring = record (place_blocks (log_needs w r) j.ring) { started = true };
        running = fresh (r.number + 1);
        phase = Committing (record {
          rest = plan_of w journal j.ring.places j.ring.head j.ring.started r.number (sequence + (r.number - 1)) logged r.revoked;
          bodies = logged;
          revokes = r.revoked;
          changed = r.changed;
        });
      }

  -- in Closing: the pages of changed files, the checkpoint where there is too little room, the plan
  abbrev pub close_turn : Bool → (ℕ → List ℕ) → JournalPart → List CachedPage → CommitTurn
  close_turn full bodies j ps =
      elim (unsent_of ps j.running.changed) as (λ _. CommitTurn) [
        | Some p ↦ submits full j ps (page_sent j p) (put_page ps (marked p Firm))
        | None ↦
            if nat_lt (ring_free j.ring) (log_needs w j.running) then submits full j ps (checkpoint j j.ring.homes) ps
            else did (plan_built bodies j) ps
      ]

  -- `bodies` are the present bodies of blocks
  abbrev pub phase_turn : Bool → (ℕ → List ℕ) → JournalPart → List CachedPage → Phase → CommitTurn
  phase_turn full bodies j ps Idle = idle_turn j ps
  phase_turn full bodies j ps Closing = close_turn full bodies j ps
  phase_turn full bodies j ps (Committing p) = plan_turn full j ps p

  -- nothing is done after a cut or a failure
  abbrev pub commit_turn : Bool → (ℕ → List ℕ) → JournalPart → List CachedPage → CommitTurn
  commit_turn full bodies j ps = if is_over j.flush then idle j ps else phase_turn full bodies j ps j.phase
