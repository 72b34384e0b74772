-- A session that is opened on a clean volume keeps it clean, and what a power cut leaves of it is clean once it is recovered.
use Rattle.std.specs.Prelude.{◌≡◌, ℕ, List, [], ◌∷◌, refl}
use Rattle.std.proofs.Common.{sym, ap, subst, ◌∙◌}
use Rattle.order_model.specs.OrderClosed.{IsOrderClosed}
use Rattle.tree_model.specs.declared.call.Reply.{Reply}
use Rattle.volume_ops.specs.Reads.{answer}
use Rattle.volume_ops.specs.Volume.{disk_of}
use Rattle.volume_steps.specs.Now.{VolumeNow}
use Rattle.vol_check.specs.Clean.{IsClean}
use Rattle.journal_ring.specs.LogRing.{LogRing}
use Rattle.crash_laws.specs.Recovery.{IsRecovered}
use Rattle.crash_laws.specs.Session.{Medium}
use Rattle.host_machine.specs.State.{Host}
use Rattle.host_machine.specs.laws.Contract.{IsAlike, session}
use Rattle.host_machine.specs.runs.Opened.{IsOpened}
use Rattle.host_machine.specs.runs.Runs.{Event, Call, Commit, WriteBack, FlushStep, TakeStep, stepped, steps, FitsWords}
use Rattle.host_machine.specs.runs.laws.Kept.{IsSound as IsSoundHost}
use Rattle.host_machine.specs.runs.laws.Written.{AreWritten}
use Rattle.host_machine.proofs.RunsLemmas.RunHost.{opened_has, steps_keep}
use Rattle.host_machine.proofs.RunsLemmas.Sentences.{sentences}
use Rattle.minix_host.specs.ByteCalls.{ByteCall}
use Rattle.minix_host.specs.PlainTrees.{PlainTree}
use Rattle.minix_host.specs.Runs.{IsOpenedVolume, HasEmptyJournal, opened_host, host_after}
use Rattle.minix_host.specs.Sessions.{Opening, over, Stands}
use Rattle.minix_host.proofs.OpenedVolumes.{is_opened, fits_words}
use Rattle.system_laws.proofs.SessionsLemmas.CleanReads.{clean_program, other_clean}
use Rattle.system_laws.proofs.SessionsLemmas.CleanHosts.{over_clean, StandsClean, clean_promises, clean_blocks}

-- ---- it is the same machine

module _ (s : Opening) where
  stepped_same : (h : Host VolumeNow ByteCall Reply) (e : Event) → stepped (over_clean s) h e ≡ stepped (over s) h e
  stepped_same h (Call full t) = refl
  stepped_same h (Commit full) = refl
  stepped_same h (WriteBack full pick) = refl
  stepped_same h (FlushStep full next) = refl
  stepped_same h (TakeStep next) = refl

  steps_same : (h : Host VolumeNow ByteCall Reply) (events : List Event) → steps (over_clean s) h events ≡ steps (over s) h events
  steps_same h [] = refl
  steps_same h (e ∷ events) = ap (λ x. steps (over_clean s) x events) (stepped_same h e) ∙ steps_same (stepped (over s) h e) events

-- ---- what is found of it

module _ (s : Opening) (u : PlainTree) (other : List (List ℕ)) (alike : IsAlike (over_clean s) (StandsClean s) (answer (disk_of other) (clean_program s.geometry)) u) where
  abbrev v : VolumeNow
  v = alike.0

  -- a disk of which is found what a clean volume gives is clean
  alike_clean : IsClean s.geometry other
  alike_clean =
      let h = alike.1 in
      let same = subst (λ g. answer (disk_of v.contents.blocks) (clean_program g) ≡ answer (disk_of other) (clean_program g)) (sym h.stands.geometry) alike.2 in
      subst (λ g. IsClean g other) h.stands.geometry (other_clean v h.stands.plain h.clean other same)

module _ (s : Opening) (v : VolumeNow) (ring : LogRing) (limit : ℕ) (programs : List (List ByteCall)) (written : AreWritten s.format s.writers) (o : IsOpenedVolume s v) (j : HasEmptyJournal s ring limit)
    (clean : IsClean v.geometry v.contents.blocks) where
  abbrev first : Host VolumeNow ByteCall Reply
  first = opened_host s v ring limit programs

  opened : IsOpened (over_clean s) (StandsClean s) v ring s.geometry.zones limit programs
  opened =
      let base = is_opened s v o ring limit programs j in
      record {
        stands = record { stands = base.stands; clean = clean };
        metadata = base.metadata;
        freeable = base.freeable;
        pages = base.pages;
        base = record { start = base.base.start; reserved = base.base.reserved; freeable = base.base.freeable; plain = base.base.plain };
        log = base.log;
      }

  fits : FitsWords (over_clean s) first
  fits = let base = fits_words s v o ring limit programs j in record { blocks = base.blocks; places = base.places; sequences = base.sequences }

  abbrev host : List Event → Host VolumeNow ByteCall Reply
  host events = host_after s v ring limit programs events

  sound : (events : List Event) → IsSoundHost (clean_promises s) (host events)
  sound events =
      subst (λ h. IsSoundHost (clean_promises s) h) (steps_same s first events)
      (steps_keep (clean_promises s) written (clean_blocks s) first events (opened_has (clean_promises s) v ring s.geometry.zones limit programs opened) fits)

  -- its own volume
  pub host_clean : (events : List Event) → IsClean s.geometry (host events).volume.contents.blocks
  host_clean events =
      let now = (sound events).rules.2.images.0.stands in
      subst (λ g. IsClean g (host events).volume.contents.blocks) now.stands.geometry now.clean

  -- what is recovered after a power cut
  pub recovered_clean : (events : List Event) (m : Medium) (other : List (List ℕ)) → IsOrderClosed s.image (host events).journal.flush.requests m.image m.origins →
      IsRecovered (session (over s) (Stands s) [] (host events)) m (disk_of other) → IsClean s.geometry other
  recovered_clean events m other order recovers =
      let kept = (sound events).rules in
      alike_clean s _ other ((sentences (clean_promises s) (host events) kept.0 kept.1 kept.2).tree m (disk_of other) order recovers)
