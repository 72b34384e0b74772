-- The steps of the actors on their parts are those of the machine.
use Rattle.std.proofs.Common.{◌≡◌, ℕ, ◌-◌, Bool, true, false, not, ◌&&◌, List, [], ◌∷◌, length, Option, Some, None, is_none, nat_lt, if◌then◌else◌, refl, ap, ◌∙◌}
use Rattle.order_model.specs.declared.completion.Completion.{Completion}
use Rattle.order_model.specs.declared.turn.Turn.TheVariants as turns
use Rattle.order_model.specs.declared.turn.Turn.{Turn}
use Rattle.log_model.specs.Marks.{Logged}
use Rattle.page_cache.specs.Pages.{unsent_of, put_page, marked}
use Rattle.page_cache.specs.declared.cached_page.CachedPage.{CachedPage}
use Rattle.page_cache.specs.declared.cached_page.PageState.TheVariants.{Firm}
use Rattle.flush_actor.specs.conflicts.Conflicts.{least}
use Rattle.journal_ring.specs.LogRing.{LogRing, ring_free}
use Rattle.journal_ring.specs.running.Running.{Running, log_needs}
use Rattle.journal_ring.specs.running.Plan.{Planned}
use Rattle.flush_actor.specs.Part.{FlushPart, at_limit, is_over}
use Rattle.flush_actor.specs.Steps.{FlushTurn, flush_due, flush_turn, take_turn, submit_flush}
use Rattle.commit_actor.specs.Actor.{builds_plan}
use Rattle.commit_actor.specs.Journal.{Plan, Phase, Idle, Closing, Committing, JournalPart, is_closing, committing}
use Rattle.commit_actor.specs.Steps as actor
use Rattle.commit_actor.specs.Steps.{CommitTurn}
use Rattle.host_machine.specs.Host as machine
use Rattle.host_machine.specs.Host.{Turned}
use Rattle.host_machine.specs.Model.{Model}
use Rattle.host_machine.specs.State.{Host, Setup, Entry, Thread}
use Rattle.host_core.specs.code.Steps.{cuts_after, released}

module _ {T V C R : Type 0} (M : Model T V C R) (u : Setup) where
  -- ---- the commit actor

  -- what a step leaves, where it notes a cut or not, and where this transaction was on its way before
  abbrev pub lifted : Bool → Option ℕ → Host V C R → CommitTurn → Turned V C R
  lifted noted before s x = record {
    host = record {
      journal = x.part;
      volume = released M.release before (committing x.part) s.volume;
      pages = x.pages;
      owners = s.owners;
      history = s.history;
      cuts = cuts_after noted (length s.history) s.cuts;
      threads = s.threads;
    };
    turn = x.turn;
  }

  module _ (f : FlushPart) (r : LogRing) (t : Running) (v : V) (ps : List CachedPage) (owners : List ℕ) (history : List (Entry C R)) (cuts : List ℕ) (threads : List (Thread C)) (q : Bool) where
    abbrev part : Phase → JournalPart
    part p = record { flush = f; ring = r; running = t; phase = p }

    abbrev host : Phase → Host V C R
    host p = record { journal = part p; volume = v; pages = ps; owners = owners; history = history; cuts = cuts; threads = threads }

    -- both submit, or not
    submits_same : (limit full : Bool) (p : Phase) (before : Option ℕ) (out : JournalPart) (outs : List CachedPage) → released M.release before (committing (part p)) v ≡ v
        → lifted false before (host p) (if limit then record { part = part p; pages = ps; turn = turns.SessionFull } else if full then record { part = part p; pages = ps; turn = turns.QueueFull } else actor.did out outs)
        ≡ (if limit then record { host = host p; turn = turns.SessionFull } else if full then record { host = host p; turn = turns.QueueFull }
        else record { host = (lifted false before (host p) (actor.did out outs)).host; turn = turns.Did })
    submits_same true full p before out outs e = ap (λ (w : V). let x : Turned V C R = record { host = record (host p) { volume = w }; turn = turns.SessionFull } in x) e
    submits_same false true p before out outs e = ap (λ (w : V). let x : Turned V C R = record { host = record (host p) { volume = w }; turn = turns.QueueFull } in x) e
    submits_same false false p before out outs e = refl

    idle_same : (due : Bool) → lifted false None (host Idle) (if due then actor.did (part Closing) ps else actor.idle (part Idle) ps)
        ≡ (if due then record { host = host Closing; turn = turns.Did } else record { host = host Idle; turn = turns.Idle })
    idle_same true = refl
    idle_same false = refl

    checkpoint_same : (homes : List Logged) → lifted false None (host Closing) (actor.submits q (part Closing) ps (actor.checkpoint u.writers u.journal u.sequence (part Closing) homes) ps)
        ≡ machine.submits M u q (host Closing) (machine.checkpoint M u (host Closing) homes)
    checkpoint_same [] = submits_same (at_limit f) q Closing None _ ps refl
    checkpoint_same (h ∷ hs) = submits_same (at_limit f) q Closing None _ ps refl

    close_same : (next : Option CachedPage) (short : Bool) →
        lifted (is_none next && not short) None (host Closing)
        (elim next as (λ _. CommitTurn) [
          | Some p ↦ actor.submits q (part Closing) ps (actor.page_sent (part Closing) p) (put_page ps (marked p Firm))
          | None ↦
              if short then actor.submits q (part Closing) ps (actor.checkpoint u.writers u.journal u.sequence (part Closing) r.homes) ps
              else actor.did (actor.plan_built u.writers u.journal u.sequence (M.bytes v) (part Closing)) ps
        ])
        ≡ (elim next as (λ _. Turned V C R) [
          | Some p ↦ machine.submits M u q (host Closing) (machine.send_page M u (host Closing) p true false)
          | None ↦
              if short then machine.submits M u q (host Closing) (machine.checkpoint M u (host Closing) r.homes)
              else record { host = machine.build_plan M u (host Closing); turn = turns.Did }
        ])
    close_same (Some p) short = submits_same (at_limit f) q Closing None _ _ refl
    close_same None true = checkpoint_same r.homes
    close_same None false = refl

    plan_same : (p : Plan) (rest : List Planned) →
        lifted false (Some (t.number - 1)) (host (Committing p))
        (elim rest as (λ _. CommitTurn) [ [] ↦ actor.idle (part (Committing p)) ps | first ∷ more ↦ actor.submits q (part (Committing p)) ps (actor.plan_sent (part (Committing p)) p first more) ps ])
        ≡ (elim rest as (λ _. Turned V C R) [ [] ↦ record { host = host (Committing p); turn = turns.Idle } | first ∷ more ↦ machine.submits M u q (host (Committing p)) (machine.plan_sent M u (host (Committing p)) p first more) ])
    plan_same p [] = refl
    plan_same p (x ∷ []) = submits_same (at_limit f) q (Committing p) (Some (t.number - 1)) _ ps refl
    plan_same p (x ∷ y ∷ ys) = submits_same (at_limit f) q (Committing p) (Some (t.number - 1)) _ ps refl

    commit_same : (over : Bool) (p : Phase) →
        lifted (not over && (is_closing p && (is_none (unsent_of ps t.changed) && not (nat_lt (ring_free r) (log_needs u.writers t))))) (committing (part p)) (host p)
        (if over then actor.idle (part p) ps else actor.phase_turn u.writers u.journal u.sequence q (M.bytes v) (part p) ps p)
        ≡ (if over then record { host = host p; turn = turns.Idle } else machine.in_phase M u q (host p) p)
    commit_same true Idle = refl
    commit_same true Closing = refl
    commit_same true (Committing p) = refl
    commit_same false Idle = idle_same (t.wanted && is_none (least f.conflicts))
    commit_same false Closing = close_same (unsent_of ps t.changed) (nat_lt (ring_free r) (log_needs u.writers t))
    commit_same false (Committing p) = plan_same p p.rest

  pub commit_is : (s : Host V C R) (q : Bool) → lifted (builds_plan u.writers s.journal s.pages) (committing s.journal) s (actor.commit_turn u.writers u.journal u.sequence q (M.bytes s.volume) s.journal s.pages) ≡ machine.commit_step M u q s
  commit_is s q = commit_same s.journal.flush s.journal.ring s.journal.running s.volume s.pages s.owners s.history s.cuts s.threads q (is_over s.journal.flush) s.journal.phase

  -- the same, as the code has it
  pub commit_done : (s : Host V C R) (q : Bool) (j : JournalPart) (v : V) (ps : List CachedPage) (cuts : List ℕ) (t : Turn) (noted : Bool) (before after : Option ℕ) (now : ℕ)
      → noted ≡ builds_plan u.writers s.journal s.pages → before ≡ committing s.journal → after ≡ committing j → now ≡ length s.history
      → v ≡ released M.release before after s.volume → cuts ≡ cuts_after noted now s.cuts
      → (let x : CommitTurn = record { part = j; pages = ps; turn = t } in x) ≡ actor.commit_turn u.writers u.journal u.sequence q (M.bytes s.volume) s.journal s.pages
      → (let x : Turned V C R = record { host = record { journal = j; volume = v; pages = ps; owners = s.owners; history = s.history; cuts = cuts; threads = s.threads }; turn = t } in x) ≡ machine.commit_step M u q s
  commit_done s q j v ps cuts t noted before after now is_noted is_before is_after is_now volume cut done =
      ap (λ w. at w cuts) (volume ∙ ap (λ b. released M.release b after s.volume) is_before ∙ ap (λ a. released M.release (committing s.journal) a s.volume) is_after)
      ∙ ap (at (released M.release (committing s.journal) (committing j) s.volume)) (cut ∙ ap (λ b. cuts_after b now s.cuts) is_noted ∙ ap (λ n. cuts_after (builds_plan u.writers s.journal s.pages) n s.cuts) is_now)
      ∙ ap (lifted (builds_plan u.writers s.journal s.pages) (committing s.journal) s) done
      ∙ commit_is s q
    where
      at : V → List ℕ → Turned V C R
      at w cs = record { host = record { journal = j; volume = w; pages = ps; owners = s.owners; history = s.history; cuts = cs; threads = s.threads }; turn = t }

  -- ---- the flush actor

  abbrev flushed : Host V C R → FlushTurn → Turned V C R
  flushed s x = record { host = machine.with_flush M u s x.part; turn = x.turn }

  flush_in : (s : Host V C R) (j : JournalPart) (t : Turn) (x : FlushTurn) → (let y : FlushTurn = record { part = j.flush; turn = t } in y) ≡ x → j ≡ record s.journal { flush = j.flush }
      → (let y : Turned V C R = record { host = record s { journal = j }; turn = t } in y) ≡ flushed s x
  flush_in s j t x done same = ap (λ (k : JournalPart). let y : Turned V C R = record { host = record s { journal = k }; turn = t } in y) same ∙ ap (flushed s) done

  took : (s : Host V C R) (next : Option Completion) → flushed s (take_turn next s.journal.flush) ≡ machine.take_step M u s next
  took s None = refl
  took s (Some c) = refl

  pub take_done : (s : Host V C R) (next : Option Completion) (j : JournalPart) (t : Turn)
      → (let x : FlushTurn = record { part = j.flush; turn = t } in x) ≡ take_turn next s.journal.flush → j ≡ record s.journal { flush = j.flush }
      → (let x : Turned V C R = record { host = record s { journal = j }; turn = t } in x) ≡ machine.take_step M u s next
  take_done s next j t done same = flush_in s j t (take_turn next s.journal.flush) done same ∙ took s next

  pub flush_done : (s : Host V C R) (q : Bool) (next : Option Completion) (j : JournalPart) (t : Turn)
      → (let x : FlushTurn = record { part = j.flush; turn = t } in x) ≡ flush_turn q next s.journal.flush → j ≡ record s.journal { flush = j.flush }
      → (let x : Turned V C R = record { host = record s { journal = j }; turn = t } in x) ≡ machine.flush_step M u q s next
  flush_done s q next j t done same =
      flush_in s j t (flush_turn q next s.journal.flush) done same ∙ by (flush_due s.journal.flush) (at_limit s.journal.flush) q
    where
      by : (due limit full : Bool) →
          flushed s (if due then if limit then record { part = s.journal.flush; turn = turns.SessionFull } else if full then record { part = s.journal.flush; turn = turns.QueueFull } else record { part = submit_flush s.journal.flush; turn = turns.Did }
          else take_turn next s.journal.flush)
          ≡ (if due then if limit then record { host = s; turn = turns.SessionFull } else if full then record { host = s; turn = turns.QueueFull } else record { host = machine.with_flush M u s (submit_flush s.journal.flush); turn = turns.Did }
          else machine.take_step M u s next)
      by true true full = refl
      by true false true = refl
      by true false false = refl
      by false limit full = took s next
