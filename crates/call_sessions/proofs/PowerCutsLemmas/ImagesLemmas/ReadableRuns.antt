-- Whole sessions on a volume submit requests that are readable.
use Rattle.std.specs.Prelude.{◌≡◌, ℕ, ◌+◌, List, [], ◌∷◌, length, refl}
use Rattle.std.proofs.Common.{ap, subst, ◌∙◌, inl, inr, ⊎_elim, arith}
use Rattle.blk_base.specs.Members.{In}
use Rattle.blk_base.specs.laws.Members.{slice_get-length}
use Rattle.minix_layout.specs.declared.division.Geometry.{Geometry}
use Rattle.tree_model.specs.declared.call.Reply.{Reply}
use Rattle.volume_steps.specs.Now.{VolumeNow, tree_of_now}
use Rattle.volume_steps.specs.Calls.{called}
use Rattle.volume_steps.proofs.AllCalls.{IsAnyCall, any_call}
use Rattle.journal_ring.specs.LogRing.{LogRing}
use Rattle.host_machine.specs.State.{Host}
use Rattle.host_machine.specs.runs.Runs.{Event, stepped, steps, FitsWords}
use Rattle.host_machine.specs.runs.laws.Kept.{HasRules, IsSound}
use Rattle.host_machine.specs.runs.laws.Traces.{trace_of}
use Rattle.host_machine.specs.runs.laws.Written.{AreWritten}
use Rattle.host_machine.proofs.RunsLemmas.Numbers.{limits_stay, sequence_fits, writable}
use Rattle.host_machine.proofs.RunsLemmas.RunHost.{opened_has, step_keeps, step_fits}
use Rattle.host_machine.proofs.RunsLemmas.Threads.{moved}
use Rattle.minix_host.specs.ByteCalls.{ByteCall}
use Rattle.minix_host.specs.Calls.{done_as}
use Rattle.minix_host.specs.Numbers.{number_in}
use Rattle.minix_host.specs.PlainTrees.{PlainTree}
use Rattle.minix_host.specs.Runs.{IsOpenedVolume, HasEmptyJournal, opened_host, host_after}
use Rattle.minix_host.specs.Sessions.{Opening, over, Stands}
use Rattle.minix_host.proofs.OpenedVolumes.{is_opened, fits_words}
use Rattle.minix_host.proofs.Promises.{promises, blocks_are_whole}
use Rattle.minix_host.proofs.Telling.{finds_room}
use Rattle.call_sessions.proofs.PowerCutsLemmas.ImagesLemmas.ReadableSteps.{IsReadableHost, TouchesLoggable, step_readable}

-- what each step of a session keeps
pub record IsKeptRun (s : Opening) (ring : LogRing) (limit : ℕ) (h : Host VolumeNow ByteCall Reply) : Type 0 where
  pub sound : IsSound (promises s) h
  pub fits : FitsWords (over s) h
  pub readable : IsReadableHost (over s) h
  pub limit_is : h.journal.flush.limit ≡ limit
  pub places_are : h.journal.ring.places ≡ ring.places

module _ (s : Opening) where
  -- a call on a plain volume touches no block before the maps
  touches_loggable : (h : Host VolumeNow ByteCall Reply) (t : PlainTree) → Stands s h.volume t → TouchesLoggable (over s) h
  unfolding done_as
  touches_loggable h t stands c accepted enough b i =
      let n = s.first + (length h.history + 1) in
      let number = number_in (tree_of_now h.volume) n in
      let r = h.journal.running.number in
      let all : IsAnyCall r h.volume number c.call (called h.volume number r c.call).change = any_call r h.volume number c.call (finds_room h.volume stands.plain n c.call accepted enough) in
      let same = ap (λ (g : Geometry). g.zones) stands.geometry in
      ⊎_elim inl (λ m. inr (m.1, let low = m.2 in omega arith)) (all.steady.told.touched_are_meta b i)

  module _ (v : VolumeNow) (ring : LogRing) (limit : ℕ) (programs : List (List ByteCall)) (written : AreWritten s.format s.writers) (o : IsOpenedVolume s v) (j : HasEmptyJournal s ring limit) where
    first : IsKeptRun s ring limit (opened_host s v ring limit programs)
    first = record {
      sound = opened_has (promises s) v ring s.geometry.zones limit programs (is_opened s v o ring limit programs j);
      fits = fits_words s v o ring limit programs j;
      readable = record {
        counted = refl;
        sent = λ i n q at there. absurd (let lt = slice_get-length [] i n at in omega arith);
        logged = λ b i. absurd i;
        waiting = λ l i. absurd (subst (In l) j.log.homes i);
        planned = tt;
      };
      limit_is = refl;
      places_are = refl;
    }

    next : (h : Host VolumeNow ByteCall Reply) (e : Event) → IsKeptRun s ring limit h → IsKeptRun s ring limit (stepped (over s) h e)
    next h e kept =
        let has : HasRules (promises s) h = kept.sound.rules in
        let same = limits_stay (trace_of h) (trace_of (stepped (over s) h e)) (moved (over s) h kept.sound.begun e).1 in
        record {
          sound = step_keeps (promises s) written (blocks_are_whole s) h e kept.sound kept.fits;
          fits = step_fits (promises s) written (blocks_are_whole s) h e kept.sound kept.fits;
          readable = step_readable (over s) h kept.readable written kept.fits.blocks
              (sequence_fits (promises s) h has.0 has.1 has.2 kept.fits kept.sound.room)
              (writable (promises s) h has.0 has.1 has.2 kept.fits kept.sound.room (blocks_are_whole s)).revokes
              (touches_loggable h _ has.2.images.0.stands) e;
          limit_is = same.0 ∙ kept.limit_is;
          places_are = same.1 ∙ kept.places_are;
        }

    all : (h : Host VolumeNow ByteCall Reply) (events : List Event) → IsKeptRun s ring limit h → IsKeptRun s ring limit (steps (over s) h events)
    all h [] kept = kept
    all h (e ∷ events) kept = all (stepped (over s) h e) events (next h e kept)

    pub run_kept : (events : List Event) → IsKeptRun s ring limit (host_after s v ring limit programs events)
    run_kept events = all (opened_host s v ring limit programs) events first
