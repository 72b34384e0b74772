-- A step of the host submits nothing, or one request that has the next id, where the queue has room.
use Rattle.std.proofs.Common.{sym, ◌∙◌, ⊎_elim}
use Rattle.std.proofs.lemmas.Bool.{cases_lt, false≢true, le-leb}
use Rattle.std.specs.Prelude.{◌≡◌, ℕ, ◌<◌, ◌+◌, ◌-◌, ◌&&◌, Bool, true, false, List, [], ◌∷◌, ◌++◌, length, is_none, Option, Some, None, refl}
use Rattle.order_model.specs.declared.completion.Completion.{Completion}
use Rattle.order_model.specs.declared.request.Kind.{Kind}
use Rattle.order_model.specs.declared.request.Kind.TheVariants.{Put, Flush}
use Rattle.order_model.specs.declared.request.Request.{Request}
use Rattle.log_model.specs.Marks.{Logged}
use Rattle.page_cache.specs.declared.cached_page.CachedPage.{CachedPage}
use Rattle.host_machine.specs.Host.{Stepped, unsent_on, with_flush, send_page, advance, checkpoint, plan_sent, commit_step, writeback, flush_step}
use Rattle.host_machine.specs.Model.{Model}
use Rattle.journal_ring.specs.running.Plan.{Planned}
use Rattle.host_machine.proofs.RunsLemmas.Walks.{BegunEnds, FreshEnds, caller_walk, submits_walk, commit_walk, writeback_walk}
use Rattle.host_machine.specs.State.{Begun, Host, Setup}
use Rattle.commit_actor.specs.Journal.{Plan}
use Rattle.flush_actor.specs.Kinds.{is_data}
use Rattle.flush_actor.specs.Part.{FlushPart, at_limit}
use Rattle.flush_actor.specs.Steps.{take_completion, flush_due}

-- a request of the host: it has the next id, a barrier keeps the order, and a flush is a barrier
pub record IsNumbered (id : ℕ) (r : Request) : Type 0 where
  pub named : r.id ≡ id
  pub ordered : r.barrier ≡ true → r.ordered ≡ true
  pub flush : r.kind ≡ Flush → (r.ordered ≡ true) × (r.barrier ≡ true)

pub data Sends (full : Bool) (old new : FlushPart) : Type 0 where
  Keeps : new.requests ≡ old.requests → new.taken ≡ old.taken → new.limit ≡ old.limit → Sends full old new
  Puts : (r : Request) → full ≡ false → length old.requests < old.limit → IsNumbered (length old.requests) r → new.requests ≡ old.requests ++ r ∷ [] → new.taken ≡ old.taken → new.limit ≡ old.limit → Sends full old new

put_is : (id block : ℕ) (body : List ℕ) (ordered barrier : Bool) → (barrier ≡ true → ordered ≡ true) → IsNumbered id (record { id = id; kind = Put block body; ordered = ordered; barrier = barrier })
put_is id block body ordered barrier keeps = record { named = refl; ordered = keeps; flush = λ e. absurd (no_flush e) }
  where
    no_flush : ◌≡◌ {A = Kind} (Put block body) Flush → ⊥
    no_flush e = cc

module _ {T V C R : Type 0} (M : Model T V C R) (u : Setup) (full : Bool) (s : Host V C R) where
  abbrev Kept : Host V C R → Type 0
  Kept x = Sends full s.journal.flush x.journal.flush

  room : at_limit s.journal.flush ≡ false → length s.journal.flush.requests < s.journal.flush.limit
  room d =
      ⊎_elim (λ lt. lt) (λ le. absurd (false≢true (sym d ∙ le-leb s.journal.flush.limit (length s.journal.flush.requests) le)))
      (cases_lt (length s.journal.flush.requests) s.journal.flush.limit)

  stays : Kept s
  stays = Keeps refl refl refl

  -- a put went out
  puts : (block : ℕ) (body : List ℕ) (ordered barrier : Bool) → (barrier ≡ true → ordered ≡ true) → full ≡ false → at_limit s.journal.flush ≡ false → (new : FlushPart)
      → new.requests ≡ s.journal.flush.requests ++ record { id = length s.journal.flush.requests; kind = Put block body; ordered = ordered; barrier = barrier } ∷ []
      → new.taken ≡ s.journal.flush.taken → new.limit ≡ s.journal.flush.limit → Sends full s.journal.flush new
  puts block body ordered barrier keeps free few new sent taken limit =
      Puts (record { id = length s.journal.flush.requests; kind = Put block body; ordered = ordered; barrier = barrier }) free (room few)
      (put_is (length s.journal.flush.requests) block body ordered barrier keeps) sent taken limit

  -- ---- a caller

  abbrev After : Stepped V C R → Type 0
  After x = Kept x.host

  begun_ends : (t : ℕ) (c : C) (rest : List C) (b : Begun) → BegunEnds M u full s t c rest b After
  begun_ends t c rest b = record {
    done = Keeps refl refl refl;
    full_up = λ e. Keeps refl refl refl;
    rests = λ why. stays;
    waits = λ w why. Keeps refl refl refl;
    wants = λ w why. Keeps refl refl refl;
    sends = λ next is few free. puts next.0.block next.0.body true (is_data b.kind && is_none (unsent_on s.pages next.1)) (λ _. refl) free few _ refl refl refl;
  }

  fresh_ends : (t : ℕ) (c : C) (rest : List C) → FreshEnds M u s t c rest After
  fresh_ends t c rest = record {
    refused = λ why e. Keeps refl refl refl;
    begins = λ accepted kind. Keeps refl refl refl;
    full_up = λ why e limit. Keeps refl refl refl;
    rests = λ why. stays;
    wants = λ why. Keeps refl refl refl;
    acts = λ accepted kind free. Keeps refl refl refl;
  }

  pub advance_sends : (t : ℕ) → Kept (advance M u full s t).host
  advance_sends t = caller_walk M u full s t After stays (λ th c rest at is. record {
    stopped = λ e stop. Keeps refl refl refl;
    goes_on = λ b going begun. begun_ends t c rest b;
    starts = λ going begun. fresh_ends t c rest;
  })

  -- ---- the actors

  sends_page : (p : CachedPage) (ordered : Bool) → at_limit s.journal.flush ≡ false → full ≡ false → Kept (send_page M u s p ordered false)
  sends_page p ordered few free = puts p.block p.body ordered false (λ f. absurd (false≢true f)) free few _ refl refl refl

  pub writeback_sends : (pick : ℕ) → Kept (writeback M u full s pick).host
  writeback_sends = writeback_walk M u full s Kept stays sends_page

  checkpoint_move : full ≡ false → at_limit s.journal.flush ≡ false → (homes : List Logged) → Kept (checkpoint M u s homes)
  checkpoint_move e d [] = puts u.journal (u.writers.super (u.sequence + (s.journal.running.number - 1)) s.journal.ring.head) true true (λ _. refl) e d _ refl refl refl
  checkpoint_move e d (h ∷ hs) = puts h.block h.body true (elim hs as (λ _. Bool) [ [] ↦ true | x ∷ xs ↦ false ]) (λ _. refl) e d _ refl refl refl

  plan_sent_move : full ≡ false → at_limit s.journal.flush ≡ false → (p : Plan) (first : Planned) (rest : List Planned) → Kept (plan_sent M u s p first rest)
  plan_sent_move e d p first [] = puts first.block first.body true first.barrier (λ _. refl) e d _ refl refl refl
  plan_sent_move e d p first (q ∷ qs) = puts first.block first.body true first.barrier (λ _. refl) e d _ refl refl refl

  pub commit_sends : Kept (commit_step M u full s).host
  commit_sends = commit_walk M u full s Kept (record {
    rests = stays;
    closes = Keeps refl refl refl;
    sends_page = λ p few free. sends_page p true few free;
    checkpoints = λ few free. checkpoint_move free few s.journal.ring.homes;
    builds = Keeps refl refl refl;
    sends_plan = λ p first rest at is few free. plan_sent_move free few p first rest;
  })

  -- where a flush is due, the flush actor takes no completion
  pub flush_sends : (next : Option Completion) → flush_due s.journal.flush ≡ true → Kept (flush_step M u full s next).host
  flush_sends next due =
      rw due
      (submits_walk M u full s Kept stays (with_flush M u s _) (λ d e. Puts (record { id = length s.journal.flush.requests; kind = Flush; ordered = true; barrier = true }) e (room d) (record { named = refl; ordered = λ _. refl; flush = λ _. (refl, refl) }) refl refl refl))

  -- else it takes this one, where there is one
  pub flush_takes : (c : Completion) → flush_due s.journal.flush ≡ false → (flush_step M u full s (Some c)).host ≡ with_flush M u s (take_completion c s.journal.flush)
  flush_takes c none = rw none refl

  pub flush_idles : flush_due s.journal.flush ≡ false → (flush_step M u full s None).host ≡ s
  flush_idles none = rw none refl
