-- The actors' steps of a host whose calls are seen as other things are those of the host, seen so.
use Rattle.std.proofs.Common.{◌≡◌, ℕ, ◌-◌, Bool, true, false, not, map, Option, Some, None, slice_index_or, if◌then◌else◌, refl, sym, ap, ◌∙◌}
use Rattle.std.proofs.lemmas.List.{length-map}
use Rattle.order_model.specs.declared.completion.Completion.{Completion}
use Rattle.order_model.specs.declared.turn.Turn.TheVariants as turns
use Rattle.page_cache.specs.Pages.{dirty_page}
use Rattle.page_cache.specs.declared.cached_page.CachedPage.{CachedPage}
use Rattle.flush_actor.specs.Part.{is_over, at_limit}
use Rattle.commit_actor.specs.Journal.{is_submitted}
use Rattle.commit_actor.specs.Steps.{CommitTurn, commit_turn}
use Rattle.host_machine.specs.Host as host
use Rattle.host_machine.specs.Host.{Turned}
use Rattle.host_machine.specs.Model.{Model}
use Rattle.host_machine.specs.Parts.{noted_cuts, released}
use Rattle.host_machine.specs.State.{Host, Setup}
use Rattle.host_machine.proofs.Parts.{flush_on_part, take_on_part, commit_on_part}
use Rattle.call_sessions.specs.CallsAs.{entry_as, thread_as, host_as, turned_as, model_as}

module _ {T V C D R : Type 0} (f : C → D) (M : Model T V D R) (u : Setup) where
  abbrev N : Model T V C R
  N = model_as f M

  -- ---- the actors' steps

  pub flush_as : (full : Bool) (s : Host V C R) (next : Option Completion) → host.flush_step M u full (host_as f s) next ≡ turned_as f (host.flush_step N u full s next)
  flush_as full s next = flush_on_part M u full (host_as f s) next ∙ ap (turned_as f) (sym (flush_on_part N u full s next))

  pub take_as : (s : Host V C R) (next : Option Completion) → host.take_step M u (host_as f s) next ≡ turned_as f (host.take_step N u s next)
  take_as s next = take_on_part M u (host_as f s) next ∙ ap (turned_as f) (sym (take_on_part N u s next))

  pub commit_step_as : (full : Bool) (s : Host V C R) → host.commit_step M u full (host_as f s) ≡ turned_as f (host.commit_step N u full s)
  commit_step_as full s =
      commit_on_part M u full (host_as f s)
      ∙ ap (λ n. by n (commit_turn u.writers u.journal u.sequence full (M.bytes s.volume) s.journal s.pages)) (length-map s.history (entry_as f))
      ∙ ap (turned_as f) (sym (commit_on_part N u full s))
    where
      by : ℕ → CommitTurn → Turned V D R
      by n t = record {
        host = record {
          journal = t.part;
          volume = released M u s.journal.phase t.part.phase s.volume (s.journal.running.number - 1);
          pages = t.pages;
          owners = s.owners;
          history = map (entry_as f) s.history;
          cuts = noted_cuts s.journal.phase t.part.phase s.cuts n;
          threads = map (thread_as f) s.threads;
        };
        turn = t.turn;
      }

  pub writeback_as : (full : Bool) (s : Host V C R) (pick : ℕ) → host.writeback M u full (host_as f s) pick ≡ turned_as f (host.writeback N u full s pick)
  writeback_as full s pick = by (is_over s.journal.flush) (dirty_page s.pages pick)
    where
      sends : (p : CachedPage) (l q : Bool)
          → (if l then record { host = host_as f s; turn = turns.SessionFull } else if q then record { host = host_as f s; turn = turns.QueueFull } else record { host = host.send_page M u (host_as f s) p (not (is_submitted s.journal (slice_index_or s.owners p.block 0))) false; turn = turns.Did })
          ≡ turned_as f (if l then record { host = s; turn = turns.SessionFull } else if q then record { host = s; turn = turns.QueueFull } else record { host = host.send_page N u s p (not (is_submitted s.journal (slice_index_or s.owners p.block 0))) false; turn = turns.Did })
      sends p true q = refl
      sends p false true = refl
      sends p false false = refl

      by : (b : Bool) (o : Option CachedPage)
          → (if b then record { host = host_as f s; turn = turns.Idle } else elim o as (λ _. Turned V D R) [
            | None ↦ record { host = host_as f s; turn = turns.Idle }
            | Some p ↦ host.submits M u full (host_as f s) (host.send_page M u (host_as f s) p (not (is_submitted s.journal (slice_index_or s.owners p.block 0))) false)
          ])
          ≡ turned_as f (if b then record { host = s; turn = turns.Idle } else elim o as (λ _. Turned V C R) [
            | None ↦ record { host = s; turn = turns.Idle }
            | Some p ↦ host.submits N u full s (host.send_page N u s p (not (is_submitted s.journal (slice_index_or s.owners p.block 0))) false)
          ])
      by true o = refl
      by false None = refl
      by false (Some p) = sends p (at_limit s.journal.flush) full
