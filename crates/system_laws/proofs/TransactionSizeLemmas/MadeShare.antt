-- Sessions on images that were made keep the share of their running transaction.
use Rattle.std.specs.Prelude.{◌≡◌, ℕ, ◌+◌, ◌-◌, ◌<◌, ◌≤◌, Bool, true, false, List, [], map, None, refl}
use Rattle.std.proofs.Common.{sym, ap, subst, arith}
use Rattle.blk_base.specs.Members.{In}
use Rattle.blk_base.specs.laws.Members.{In-map, map-In}
use Rattle.minix_layout.specs.declared.division.Geometry.{Geometry}
use Rattle.minix_layout.specs.declared.limits.TheConstants.{LEAST_JOURNAL, MOST_JOURNAL}
use Rattle.minix_layout.specs.Geometry.{IsSound}
use Rattle.line_grammar.specs.calls.WellFormed.{IsWellFormed}
use Rattle.tree_model.specs.declared.call.Call.{Call}
use Rattle.tree_model.specs.declared.call.Reply.{Reply}
use Rattle.volume_steps.specs.Now.{VolumeNow}
use Rattle.volume_steps.specs.Plain.{IsPlainNow}
use Rattle.volume_steps.specs.NewNow.{new_now}
use Rattle.log_model.specs.Ring.{Ring}
use Rattle.journal_ring.specs.LogRing.{ring_free, all_home}
use Rattle.journal_ring.specs.running.Running.{fresh, log_needs}
use Rattle.host_machine.specs.State.{Thread, Host}
use Rattle.host_machine.specs.runs.Runs.{Event}
use Rattle.host_machine.proofs.RunsLemmas.RunHost.{opened_has}
use Rattle.minix_host.specs.ByteCalls.{ByteCall, HasBytes}
use Rattle.minix_host.specs.Runs.{opened_host, host_after}
use Rattle.minix_host.specs.Sessions.{Opening}
use Rattle.minix_host.proofs.OpenedVolumes.{is_opened, fits_words}
use Rattle.minix_host.proofs.Promises.{promises}
use Rattle.call_sessions.specs.CallsAs.{thread_as}
use Rattle.call_sessions.specs.Sessions.{WriteBytes, made_now, made_ring, plain_call, plain_host}
use Rattle.call_sessions.specs.power_cuts.calls.CallImages.{opening_on, made_session}
use Rattle.system_laws.proofs.MadeSession as opened
use Rattle.system_laws.specs.transaction_size.Sizes.{HaveLines}
use Rattle.system_laws.proofs.TransactionSizeLemmas.Hosts.{KeepsShare, IsKept, steps_kept}
use Rattle.system_laws.proofs.TransactionSizeLemmas.Sets.{HasRoom}

module _ (g : Geometry) (journal : ℕ) (wide : Bool) (limit : ℕ) (programs : List (List Call)) (events : List Event) (sound : IsSound g) (least : LEAST_JOURNAL ≤ journal) (most : journal ≤ MOST_JOURNAL)
    (words : limit + journal < 4294967296) (lines : HaveLines programs) (bytes_of : (c : Call) → IsWellFormed c → HasBytes c) (new : IsPlainNow (new_now g)) where
  abbrev pub bytes : WriteBytes programs
  bytes p c there here = bytes_of c (lines p c there here)

  abbrev pub o : Opening
  o = opening_on g journal wide

  abbrev pub byte_programs : List (List ByteCall)
  byte_programs = opened.byte_programs g journal wide limit programs sound least most words bytes new

  abbrev first : Host VolumeNow ByteCall Reply
  first = opened_host o (made_now g) (made_ring journal) limit byte_programs

  -- ---- where it is opened

  pub room : HasRoom o.writers
  room = by wide
    where
      by : (w : Bool) → HasRoom (opening_on g journal w).writers
      by true = record { tags = omega arith; revokes = omega arith }
      by false = record { tags = omega arith; revokes = omega arith }

  pub none_fits : (k : ℕ) → log_needs o.writers (fresh k) ≤ o.quota
  none_fits k = by wide
    where
      by : (w : Bool) → log_needs (opening_on g journal w).writers (fresh k) ≤ (opening_on g journal w).quota
      by true = omega (arith, least)
      by false = omega (arith, least)

  -- the same threads, without the proofs that their calls write bytes
  same_threads : map (λ (p : List Call). record { calls = p; begun = None }) programs ≡ map (thread_as plain_call) first.threads
  same_threads = ap (λ (h : Host VolumeNow Call Reply). h.threads) (opened.same_host g journal wide limit programs sound least most words bytes new [])

  first_lines : (th : Thread ByteCall) (c : ByteCall) → In th first.threads → In c th.calls → IsWellFormed c.call
  first_lines th c i j =
      let there = subst (In (thread_as plain_call th)) (sym same_threads) (map-In (thread_as plain_call) first.threads th i) in
      let p = In-map (λ (p : List Call). record { calls = p; begun = None }) programs (thread_as plain_call th) there in
      lines p.0 c.call p.1 (subst (In c.call) (sym (ap (λ (t : Thread Call). t.calls) p.2)) (map-In plain_call th.calls c j))

  first_share : KeepsShare o (made_ring journal).places first
  first_share = record { share = none_fits 1; rising = tt; lines = first_lines; places = refl }

  -- ---- after these events

  pub host_kept : IsKept o (made_ring journal).places (host_after o (made_now g) (made_ring journal) limit byte_programs events)
  host_kept =
      let volume = opened.volume g journal wide limit programs sound least most words bytes new in
      let empty = opened.empty g journal wide limit programs sound least most words bytes new in
      steps_kept o (made_ring journal).places room none_fits (opened.written g journal wide limit programs sound least most words bytes new) first events (record {
        sound = opened_has (promises o) (made_now g) (made_ring journal) g.zones limit byte_programs (is_opened o (made_now g) volume (made_ring journal) limit byte_programs empty);
        words = fits_words o (made_now g) volume (made_ring journal) limit byte_programs empty;
        share = first_share;
      })

  same_host : made_session g journal wide limit programs events ≡ plain_host (host_after o (made_now g) (made_ring journal) limit byte_programs events)
  same_host = opened.same_host g journal wide limit programs sound least most words bytes new events

  pub session_share : log_needs o.writers (made_session g journal wide limit programs events).journal.running ≤ o.quota
  session_share = subst (λ (h : Host VolumeNow Call Reply). log_needs o.writers h.journal.running ≤ o.quota) (sym same_host) host_kept.share.share

  pub session_room : log_needs o.writers (made_session g journal wide limit programs events).journal.running ≤ ring_free (all_home (made_session g journal wide limit programs events).journal.ring)
  session_room = subst (λ (h : Host VolumeNow Call Reply). log_needs o.writers h.journal.running ≤ ring_free (all_home h.journal.ring)) (sym same_host)
      (let share = host_kept.share.share in
      let first = ap (λ (r : Ring). r.first) host_kept.share.places in
      let past = ap (λ (r : Ring). r.past) host_kept.share.places in
      by (log_needs o.writers (host_after o (made_now g) (made_ring journal) limit byte_programs events).journal.running) _ _ share first past)
    where
      by : (n first past : ℕ) → n ≤ o.quota → first ≡ 1 → past ≡ journal → n ≤ past - first - 0
      by n first past share one last = omega (arith, share, one, last)
