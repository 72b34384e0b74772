-- The actors' steps on the host are those on their parts.
use Rattle.std.proofs.Common.{◌≡◌, ℕ, ◌-◌, Bool, true, false, ◌&&◌, List, [], ◌∷◌, length, Option, Some, None, is_none, nat_lt, if◌then◌else◌, refl, sym, ap, ◌∙◌}
use Rattle.order_model.specs.declared.completion.Completion.{Completion}
use Rattle.order_model.specs.declared.turn.Turn.{Turn}
use Rattle.order_model.specs.declared.turn.Turn.TheVariants as turns
use Rattle.log_model.specs.Marks.{Logged}
use Rattle.page_cache.specs.Pages.{unsent_of, put_page, marked}
use Rattle.page_cache.specs.declared.cached_page.CachedPage.{CachedPage}
use Rattle.page_cache.specs.declared.cached_page.PageState.TheVariants.{Firm}
use Rattle.flush_actor.specs.conflicts.Conflicts.{least}
use Rattle.journal_ring.specs.LogRing.{ring_free}
use Rattle.journal_ring.specs.running.Plan.{Planned}
use Rattle.journal_ring.specs.running.Running.{log_needs}
use Rattle.flush_actor.specs.Part.{is_over, at_limit}
use Rattle.flush_actor.specs.Steps as flush
use Rattle.flush_actor.specs.Steps.{flush_due, flush_turn, take_turn, submit_flush}
use Rattle.commit_actor.specs.Journal.{Plan, Phase, Idle, Closing, Committing, JournalPart}
use Rattle.commit_actor.specs.Steps as part
use Rattle.commit_actor.specs.Steps.{CommitTurn, commit_turn}
use Rattle.host_machine.specs.Host.{Turned, submits, send_page, checkpoint, build_plan, close_step, plan_sent, in_phase, commit_step, flush_step, take_step, with_flush}
use Rattle.host_machine.specs.Model.{Model}
use Rattle.host_machine.specs.Parts.{noted_cuts, released, commit_from, with_commit, with_flushed}
use Rattle.host_machine.specs.State.{Host, Setup}

module _ {T V C R : Type 0} (M : Model T V C R) (u : Setup) where
  -- ---- the flush actor

  pub take_on_part : (s : Host V C R) (next : Option Completion) → take_step M u s next ≡ with_flushed M u s (take_turn next s.journal.flush)
  take_on_part s None = refl
  take_on_part s (Some c) = refl

  pub flush_on_part : (full : Bool) (s : Host V C R) (next : Option Completion) → flush_step M u full s next ≡ with_flushed M u s (flush_turn full next s.journal.flush)
  flush_on_part full s next = due (flush_due s.journal.flush)
    where
      sends : (b q : Bool)
          → (if b then record { host = s; turn = turns.SessionFull } else if q then record { host = s; turn = turns.QueueFull } else record { host = with_flush M u s (submit_flush s.journal.flush); turn = turns.Did })
          ≡ with_flushed M u s (if b then record { part = s.journal.flush; turn = turns.SessionFull } else if q then record { part = s.journal.flush; turn = turns.QueueFull } else record { part = submit_flush s.journal.flush; turn = turns.Did })
      sends true q = refl
      sends false true = refl
      sends false false = refl

      due : (b : Bool)
          → (if b then submits M u full s (with_flush M u s (submit_flush s.journal.flush)) else take_step M u s next)
          ≡ with_flushed M u s (if b then flush.submits full s.journal.flush (submit_flush s.journal.flush) else take_turn next s.journal.flush)
      due true = sends (at_limit s.journal.flush) full
      due false = take_on_part s next

  -- ---- the commit actor

  abbrev plainly : Host V C R → CommitTurn → Turned V C R
  plainly s t = record { host = record s { journal = t.part; pages = t.pages }; turn = t.turn }

  -- where the phase stays, nothing is noted or released
  kept : (p : Phase) (s : Host V C R) (t : CommitTurn) → t.part.phase ≡ p → plainly s t ≡ commit_from M u p s t
  kept p s t e =
      volumes (noted_cuts p t.part.phase s.cuts (length s.history)) (released M u p t.part.phase s.volume (s.journal.running.number - 1))
      (sym (ap (λ q. noted_cuts p q s.cuts (length s.history)) e ∙ cuts p)) (sym (ap (λ q. released M u p q s.volume (s.journal.running.number - 1)) e ∙ volume p))
    where
      cuts : (p : Phase) → noted_cuts p p s.cuts (length s.history) ≡ s.cuts
      cuts Idle = refl
      cuts Closing = refl
      cuts (Committing p) = refl

      volume : (p : Phase) → released M u p p s.volume (s.journal.running.number - 1) ≡ s.volume
      volume Idle = refl
      volume Closing = refl
      volume (Committing p) = refl

      at : List ℕ → V → Turned V C R
      at cs v = record { host = record { journal = t.part; volume = v; pages = t.pages; owners = s.owners; history = s.history; cuts = cs; threads = s.threads }; turn = t.turn }

      volumes : (cs : List ℕ) (v : V) → s.cuts ≡ cs → s.volume ≡ v → at s.cuts s.volume ≡ at cs v
      volumes cs v a b = ap (λ c. at c s.volume) a ∙ ap (at cs) b

  stays : (p : Phase) (s : Host V C R) (t : Turn) → s.journal.phase ≡ p → record { host = s; turn = t } ≡ commit_from M u p s (record { part = s.journal; pages = s.pages; turn = t })
  stays p s t e = kept p s (record { part = s.journal; pages = s.pages; turn = t }) e

  sent : (p : Phase) (full : Bool) (s out : Host V C R) (j : JournalPart) (ps : List CachedPage) → s.journal.phase ≡ p → record { host = out; turn = turns.Did } ≡ commit_from M u p s (record { part = j; pages = ps; turn = turns.Did })
      → submits M u full s out ≡ commit_from M u p s (part.submits full s.journal s.pages j ps)
  sent p full s out j ps same e = by (at_limit s.journal.flush) full
    where
      by : (b q : Bool)
          → (if b then record { host = s; turn = turns.SessionFull } else if q then record { host = s; turn = turns.QueueFull } else record { host = out; turn = turns.Did })
          ≡ commit_from M u p s (if b then record { part = s.journal; pages = s.pages; turn = turns.SessionFull } else if q then record { part = s.journal; pages = s.pages; turn = turns.QueueFull } else record { part = j; pages = ps; turn = turns.Did })
      by true q = stays p s turns.SessionFull same
      by false true = stays p s turns.QueueFull same
      by false false = e

  idle_on_part : (s : Host V C R) (full : Bool) → s.journal.phase ≡ Idle → in_phase M u full s Idle ≡ commit_from M u Idle s (part.idle_turn s.journal s.pages)
  idle_on_part s full e = by (s.journal.running.wanted && is_none (least s.journal.flush.conflicts))
    where
      by : (b : Bool)
          → (if b then record { host = record s { journal = record s.journal { phase = Closing } }; turn = turns.Did } else record { host = s; turn = turns.Idle })
          ≡ commit_from M u Idle s (if b then part.did (record s.journal { phase = Closing }) s.pages else part.idle s.journal s.pages)
      by true = refl
      by false = stays Idle s turns.Idle e

  plan_on_part : (s : Host V C R) (full : Bool) (p : Plan) → s.journal.phase ≡ Committing p → in_phase M u full s (Committing p) ≡ commit_from M u (Committing p) s (part.plan_turn full s.journal s.pages p)
  plan_on_part s full p e = by p.rest
    where
      by : (rest : List Planned)
          → (elim rest as (λ _. Turned V C R) [ [] ↦ record { host = s; turn = turns.Idle } | first ∷ rest ↦ submits M u full s (plan_sent M u s p first rest) ])
          ≡ commit_from M u (Committing p) s (elim rest as (λ _. CommitTurn) [ [] ↦ part.idle s.journal s.pages | first ∷ rest ↦ part.submits full s.journal s.pages (part.plan_sent s.journal p first rest) s.pages ])
      by [] = stays (Committing p) s turns.Idle e
      by (first ∷ []) = sent (Committing p) full s (plan_sent M u s p first []) (part.plan_sent s.journal p first []) s.pages e refl
      by (first ∷ q ∷ qs) = sent (Committing p) full s (plan_sent M u s p first (q ∷ qs)) (part.plan_sent s.journal p first (q ∷ qs)) s.pages e refl

  homes_on_part : (s : Host V C R) (full : Bool) (homes : List Logged) → s.journal.phase ≡ Closing
      → submits M u full s (checkpoint M u s homes) ≡ commit_from M u Closing s (part.submits full s.journal s.pages (part.checkpoint u.writers u.journal u.sequence s.journal homes) s.pages)
  homes_on_part s full [] e =
      let out = part.checkpoint u.writers u.journal u.sequence s.journal [] in
      sent Closing full s (checkpoint M u s []) out s.pages e (kept Closing s (part.did out s.pages) e)
  homes_on_part s full (h ∷ hs) e =
      let out = part.checkpoint u.writers u.journal u.sequence s.journal (h ∷ hs) in
      sent Closing full s (checkpoint M u s (h ∷ hs)) out s.pages e (kept Closing s (part.did out s.pages) e)

  close_on_part : (s : Host V C R) (full : Bool) → s.journal.phase ≡ Closing → close_step M u full s ≡ commit_from M u Closing s (part.close_turn u.writers u.journal u.sequence full (M.bytes s.volume) s.journal s.pages)
  close_on_part s full e = by (unsent_of s.pages s.journal.running.changed)
    where
      room : (b : Bool)
          → (if b then submits M u full s (checkpoint M u s s.journal.ring.homes) else record { host = build_plan M u s; turn = turns.Did })
          ≡ commit_from M u Closing s (if b then part.submits full s.journal s.pages (part.checkpoint u.writers u.journal u.sequence s.journal s.journal.ring.homes) s.pages else part.did (part.plan_built u.writers u.journal u.sequence (M.bytes s.volume) s.journal) s.pages)
      room true = homes_on_part s full s.journal.ring.homes e
      room false = refl

      by : (o : Option CachedPage)
          → (elim o as (λ _. Turned V C R) [
            | Some p ↦ submits M u full s (send_page M u s p true false)
            | None ↦ if nat_lt (ring_free s.journal.ring) (log_needs u.writers s.journal.running) then submits M u full s (checkpoint M u s s.journal.ring.homes) else record { host = build_plan M u s; turn = turns.Did }
          ])
          ≡ commit_from M u Closing s (elim o as (λ _. CommitTurn) [
            | Some p ↦ part.submits full s.journal s.pages (part.page_sent s.journal p) (put_page s.pages (marked p Firm))
            | None ↦ if nat_lt (ring_free s.journal.ring) (log_needs u.writers s.journal.running) then part.submits full s.journal s.pages (part.checkpoint u.writers u.journal u.sequence s.journal s.journal.ring.homes) s.pages
                else part.did (part.plan_built u.writers u.journal u.sequence (M.bytes s.volume) s.journal) s.pages
          ])
      by None = room (nat_lt (ring_free s.journal.ring) (log_needs u.writers s.journal.running))
      by (Some p) =
          let pages = put_page s.pages (marked p Firm) in
          sent Closing full s (send_page M u s p true false) (part.page_sent s.journal p) pages e (kept Closing s (part.did (part.page_sent s.journal p) pages) e)

  pub commit_on_part : (full : Bool) (s : Host V C R) → commit_step M u full s ≡ with_commit M u s (commit_turn u.writers u.journal u.sequence full (M.bytes s.volume) s.journal s.pages)
  commit_on_part full s = over (is_over s.journal.flush)
    where
      phase : (p : Phase) → s.journal.phase ≡ p → in_phase M u full s p ≡ commit_from M u p s (part.phase_turn u.writers u.journal u.sequence full (M.bytes s.volume) s.journal s.pages p)
      phase Idle e = idle_on_part s full e
      phase Closing e = close_on_part s full e
      phase (Committing p) e = plan_on_part s full p e

      over : (b : Bool)
          → (if b then record { host = s; turn = turns.Idle } else in_phase M u full s s.journal.phase)
          ≡ with_commit M u s (if b then part.idle s.journal s.pages else part.phase_turn u.writers u.journal u.sequence full (M.bytes s.volume) s.journal s.pages s.journal.phase)
      over true = stays s.journal.phase s turns.Idle refl
      over false = phase s.journal.phase refl
