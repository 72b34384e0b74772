-- Runs of the host: what holds where it is opened holds after every step.
use Rattle.std.proofs.Common.{sym, subst, ⊎_elim, arith}
use Rattle.std.specs.Prelude.{ℕ, ◌+◌, ◌-◌, ◌<◌, ◌≤◌, ◌⊎◌, List, [], ◌∷◌, refl}
use Rattle.blk_base.specs.Members.{In}
use Rattle.blk_base.specs.laws.Members.{slice_get-In}
use Rattle.log_model.specs.Ring.{Ring}
use Rattle.volume_ops.specs.Reads.{blocks_read, AgreeOn}
use Rattle.volume_ops.specs.laws.ReadsLaws.{blocks_read-agree}
use Rattle.volume_ops.specs.Volume.{disk_of}
use Rattle.host_machine.proofs.Opening.{opened_keeps}
use Rattle.host_machine.specs.Host.{opened}
use Rattle.journal_ring.specs.LogRing.{LogRing}
use Rattle.host_machine.specs.State.{Host}
use Rattle.host_machine.specs.laws.Contract.{Over, Contract, noted_history, session}
use Rattle.host_machine.proofs.RunsLemmas.ActorHost.{writeback_rules, flush_step_rules, take_step_rules, commit_step_rules}
use Rattle.host_machine.proofs.RunsLemmas.CallerHost.{advance_rules}
use Rattle.host_machine.proofs.RunsLemmas.Numbers.{room_stays, limits_stay, sequence_fits, first_fits, head_fits, writable}
use Rattle.host_machine.proofs.RunsLemmas.StartHost.{ring_at_start, calls_at_start, flushes_at_start, none_begun}
use Rattle.host_machine.proofs.RunsLemmas.Threads.{moved}
use Rattle.host_machine.specs.runs.Opened.{IsOpened}
use Rattle.host_machine.specs.runs.Runs.{Event, Call, Commit, WriteBack, FlushStep, TakeStep, stepped, steps, FitsWords, HasBlocks}
use Rattle.host_machine.specs.runs.laws.Kept.{HasRules, IsSound}
use Rattle.host_machine.specs.runs.laws.Traces.{trace_of}
use Rattle.host_machine.specs.runs.laws.Written.{IsWord, AreWritten}

module _ {A T V C R : Type 0} {o : Over A T V C R} {Stands : V → T → Type 0} (contract : Contract o Stands) where
  pub opened_has : (v : V) (ring : LogRing) (zones limit : ℕ) (programs : List (List C)) → IsOpened o Stands v ring zones limit programs → IsSound contract (opened o.model o.setup v ring zones limit programs)
  opened_has v ring zones limit programs at =
      let k = opened_keeps contract v ring zones limit programs at.stands at.metadata at.freeable at.pages at.log.first at.log.place at.base walked in
      record {
        rules = (
          [],
          0,
          record {
            rules = k.1;
            images = k.0;
            ring = ring_at_start (session o Stands [] (opened o.model o.setup v ring zones limit programs)) ring refl (record { places = refl; head = at.log.head; used = at.log.used; started = at.log.started; homes = at.log.homes });
          },
          calls_at_start (noted_history o Stands [] []) (session o Stands [] (opened o.model o.setup v ring zones limit programs)) [] 0 1 programs,
          flushes_at_start o.model.kind programs,
        );
        begun = none_begun o.model.kind programs;
        room = omega arith;
      }
    where
      -- the walk of the base image reads what the walk of the volume reads
      same : AgreeOn (blocks_read (o.model.bytes v) o.program) (o.model.bytes v) (disk_of o.base)
      same b i = sym ((at.metadata b ((contract.plain v o.model.root at.stands).walk b i)).1)

      walked : (b : ℕ) → In b (blocks_read (disk_of o.base) o.program) → In b o.reserved ⊎ In b o.freeable
      walked b i = (at.metadata b ((contract.plain v o.model.root at.stands).walk b (subst (In b) (blocks_read-agree (o.model.bytes v) (disk_of o.base) o.program same) i))).0

  module _ (written : AreWritten o.format o.setup.writers) (blocks : HasBlocks o Stands) where
    pub step_keeps : (s : Host V C R) (e : Event) → IsSound contract s → FitsWords o s → IsSound contract (stepped o s e)
    step_keeps s e kept fits =
        let m = moved o s kept.begun e in
        record { rules = by e; begun = m.0; room = room_stays (trace_of s) (trace_of (stepped o s e)) m.1 kept.room }
      where
        has : HasRules contract s
        has = kept.rules

        running : IsWord (o.setup.sequence + (s.journal.running.number - 1))
        running = sequence_fits contract s has.0 has.1 has.2 fits kept.room

        next : IsWord (o.setup.sequence + (has.1 + 1 - 1))
        next = let w = running in ⊎_elim (λ e. omega arith) (λ e. omega arith) has.2.images.0.numbers.closed

        by : (e : Event) → HasRules contract (stepped o s e)
        by (Call full t) =
            let r = advance_rules contract has.0 has.1 s has.2 has.3 has.4 full t (λ th c rest x at q d. kept.begun th c rest x (slice_get-In s.threads t th at) q d) in
            (has.0, has.1, r.0, r.1, r.2)
        by (Commit full) =
            commit_step_rules contract s has.0 has.1 has.2 has.3 has.4
            (record {
              written = written;
              writable = writable contract s has.0 has.1 has.2 fits kept.room blocks;
              next = next;
              running = running;
              first = first_fits contract s has.0 has.1 has.2 fits kept.room;
              head = head_fits contract s has.0 has.1 has.2 fits kept.room;
            }) full
        by (WriteBack full pick) = writeback_rules contract s has.0 has.1 has.2 has.3 has.4 full pick
        by (FlushStep full next) = flush_step_rules contract s has.0 has.1 has.2 has.3 has.4 full next
        by (TakeStep next) = take_step_rules contract s has.0 has.1 has.2 has.3 has.4 next

    -- the limit and the places of the log never change
    pub step_fits : (s : Host V C R) (e : Event) → IsSound contract s → FitsWords o s → FitsWords o (stepped o s e)
    step_fits s e kept fits =
        let same = limits_stay (trace_of s) (trace_of (stepped o s e)) (moved o s kept.begun e).1 in
        record {
          blocks = fits.blocks;
          places = subst (λ (r : Ring). r.past ≤ 4294967296) (sym same.1) fits.places;
          sequences = subst (λ n. o.setup.sequence + n + 1 < 4294967296) (sym same.0) fits.sequences;
        }

    pub steps_keep : (s : Host V C R) (es : List Event) → IsSound contract s → FitsWords o s → IsSound contract (steps o s es)
    steps_keep s [] kept fits = kept
    steps_keep s (e ∷ es) kept fits = steps_keep (stepped o s e) es (step_keeps s e kept fits) (step_fits s e kept fits)
