-- Sessions over calls as code has them, on images that were made: their volume is clean, and so is what is recovered of it.
use Rattle.std.specs.Prelude.{◌≡◌, ℕ, Bool, ◌+◌, ◌<◌, ◌≤◌, List, Ok}
use Rattle.std.proofs.Common.{sym, ap, subst, ◌∙◌, arith}
use Rattle.std.proofs.lemmas.List.{get_or-take}
use Rattle.blk_base.specs.Block.{filled}
use Rattle.minix_layout.specs.declared.division.Geometry.{Geometry}
use Rattle.minix_layout.specs.declared.limits.TheConstants.{LEAST_JOURNAL, MOST_JOURNAL}
use Rattle.minix_layout.specs.Geometry.{IsSound}
use Rattle.order_model.specs.OrderClosed.{IsOrderClosed}
use Rattle.journal_ring.specs.running.Open.{quota}
use Rattle.tree_model.specs.declared.call.Call.{Call}
use Rattle.tree_model.specs.declared.call.Reply.{Reply}
use Rattle.volume_ops.specs.Volume.{VolumeState, disk_of}
use Rattle.volume_ops.specs.laws.ReadsLaws.{same_Ok}
use Rattle.volume_steps.specs.Now.{VolumeNow}
use Rattle.volume_steps.specs.Plain.{IsPlainNow}
use Rattle.volume_steps.specs.NewNow.{new_now}
use Rattle.vol_check.specs.Clean.{IsClean}
use Rattle.crash_laws.specs.Recovery.{IsRecovered}
use Rattle.crash_laws.specs.Session.{Medium}
use Rattle.host_machine.specs.State.{Host}
use Rattle.host_machine.specs.runs.Runs.{Event}
use Rattle.host_machine.specs.runs.laws.Written.{AreWritten}
use Rattle.minix_host.specs.ByteCalls.{ByteCall}
use Rattle.minix_host.specs.Runs.{IsOpenedVolume, HasEmptyJournal, host_after}
use Rattle.minix_host.specs.Sessions.{Opening}
use Rattle.mount_make.specs.Images.{divided, recovered_from, recovered_by, volume_in, mounted}
use Rattle.mount_make.specs.Made.{made_image, new_journal}
use Rattle.mount_make.proofs.MadeImages.{image_divided}
use Rattle.widening.proofs.Remounting.{mounted_parts}
use Rattle.call_sessions.specs.power_cuts.images.SessionImages.{Start, HasSizes, IsCutOf, submitted}
use Rattle.call_sessions.proofs.PowerCutsLemmas.ImagesLemmas.SessionLaws.{is_divided, recovers}
use Rattle.call_sessions.specs.Sessions.{WriteBytes, made_now, made_ring, plain_host}
use Rattle.call_sessions.specs.power_cuts.calls.CallImages.{opening_on, made_session}
use Rattle.system_laws.proofs.MadeSession as opened
use Rattle.system_laws.proofs.SessionsLemmas.CleanRuns.{host_clean, recovered_clean}
use Rattle.system_laws.proofs.SessionsLemmas.MadeClean.{MarksRoot, made_clean}

-- ---- a session

module _ (g : Geometry) (journal : ℕ) (wide : Bool) (limit : ℕ) (programs : List (List Call)) (events : List Event) (sound : IsSound g) (least : LEAST_JOURNAL ≤ journal) (most : journal ≤ MOST_JOURNAL)
    (words : limit + journal < 4294967296) (bytes : WriteBytes programs) (new : IsPlainNow (new_now g)) (marks : MarksRoot g) where
  abbrev o : Opening
  o = opening_on g journal wide

  abbrev byte_programs : List (List ByteCall)
  byte_programs = opened.byte_programs g journal wide limit programs sound least most words bytes new

  written : AreWritten o.format o.writers
  written = opened.written g journal wide limit programs sound least most words bytes new

  volume : IsOpenedVolume o (made_now g)
  volume = opened.volume g journal wide limit programs sound least most words bytes new

  empty : HasEmptyJournal o (made_ring journal) limit
  empty = opened.empty g journal wide limit programs sound least most words bytes new

  same_host : made_session g journal wide limit programs events ≡ plain_host (host_after o (made_now g) (made_ring journal) limit byte_programs events)
  same_host = opened.same_host g journal wide limit programs sound least most words bytes new events

  pub session_clean : IsClean g (made_session g journal wide limit programs events).volume.contents.blocks
  session_clean =
      subst (λ (h : Host VolumeNow Call Reply). IsClean g h.volume.contents.blocks) (sym same_host)
      (host_clean o (made_now g) (made_ring journal) limit byte_programs written volume empty (made_clean g sound marks new) events)

  module _ (m : Medium) (order : IsOrderClosed (made_image g journal wide) (made_session g journal wide limit programs events).journal.flush.requests m.image m.origins) where
    abbrev start : Start
    start = record { geometry = g; journal = journal; wide = wide; quota = quota (new_journal journal wide); limit = limit; programs = byte_programs }

    sizes : HasSizes start
    sizes = record { sound = sound; least = least; most = most; words = words }

    cut : IsCutOf start events m
    cut = subst (λ (h : Host VolumeNow Call Reply). IsOrderClosed (made_image g journal wide) h.journal.flush.requests m.image m.origins) same_host order

    made : divided (made_image g journal wide) ≡ Ok g
    made = image_divided g journal wide sound (omega (arith, least)) (omega (arith, most))

    pub cut_divided : divided m.image ≡ Ok g
    cut_divided = is_divided start sizes new events m cut made

    -- the volume has the blocks of the recovered image
    volume_recovers : IsRecovered (submitted start events) m (disk_of (volume_in g m.image))
    volume_recovers b low =
        get_or-take g.zones (recovered_from g.zones m.image) b (filled 0) low
        ∙ (ap (λ r. disk_of (recovered_by m.image r) b) (sym cut_divided) ∙ recovers start sizes new events m cut made b low)

    pub cut_clean : IsClean g (volume_in g m.image)
    cut_clean = recovered_clean o (made_now g) (made_ring journal) limit byte_programs written volume empty (made_clean g sound marks new) events m (volume_in g m.image) cut volume_recovers

    -- and so is what is mounted
    pub mounted_clean : (v : VolumeState) → mounted m.image ≡ Ok v → IsClean v.geometry v.blocks
    mounted_clean v e =
        let p = mounted_parts m.image v e in
        let same : g ≡ v.geometry = same_Ok g v.geometry (sym cut_divided ∙ p.divides) in
        subst (λ b. IsClean v.geometry b) (sym p.volume) (subst (λ g. IsClean g (volume_in g m.image)) same cut_clean)
