-- What is counted after a power cut of a session on a made image is what the session kept.
use Rattle.std.specs.Prelude.{◌≡◌, ◌≢◌, ℕ, ◌+◌, ◌-◌, ◌^◌, ◌%◌, ◌<◌, ◌≤◌, List, length, Ok}
use Rattle.std.proofs.Common.{sym, ap, arith}
use Rattle.log_model.specs.Log.{Tail, log_of}
use Rattle.log_model.specs.Marks.{Transaction}
use Rattle.log_model.specs.Ring.{Ring}
use Rattle.journal_blocks.specs.declared.super_block.JournalSuper.{JournalSuper}
use Rattle.journal_blocks.specs.Readers.{format}
use Rattle.journal_blocks.specs.laws.Logs.{done_few}
use Rattle.journal_blocks.specs.laws.Supers.{read_parts}
use Rattle.journal_replay.specs.Recovered.{transactions_of}
use Rattle.journal_replay.specs.laws.Recoveries.{start_within, transactions-full}
use Rattle.volume_ops.specs.Volume.{disk_of}
use Rattle.volume_ops.specs.Walk.{walk_volume}
use Rattle.volume_steps.specs.Plain.{IsPlainNow}
use Rattle.volume_steps.specs.NewNow.{new_now}
use Rattle.crash_laws.specs.Found.{IsFound}
use Rattle.crash_laws.specs.Rules.{OrderRules}
use Rattle.crash_laws.specs.Session.{Session, Medium}
use Rattle.crash_laws.proofs.Commits.{kept_commits_are_prefix}
use Rattle.host_machine.specs.laws.Contract.{session}
use Rattle.host_machine.specs.runs.Runs.{Event}
use Rattle.mount_make.specs.Images.{divided}
use Rattle.mount_make.specs.Made.{made_image, new_journal}
use Rattle.call_sessions.specs.power_cuts.images.SessionImages.{Opening, over, Stands, made_opening, Start, HasSizes, host_of, IsCutOf, log_on, kept_transactions}
use Rattle.call_sessions.proofs.PowerCutsLemmas.ImagesLemmas.CutImages.{HasSuper}
use Rattle.call_sessions.proofs.PowerCutsLemmas.ImagesLemmas.SessionLaws.{kept_run, found_super, found_tail, same_log}
use Rattle.call_sessions.specs.power_cuts.recovery.Found.{words_from, found_in}
use Rattle.call_sessions.proofs.PowerCutsLemmas.RecoveryLemmas.Mounted.{counted_as}
use Rattle.call_sessions.proofs.PowerCutsLemmas.RecoveryLemmas.TailCounts.{none_found, all_found}

module _ (s : Start) (sizes : HasSizes s) (new : IsPlainNow (new_now s.geometry)) (events : List Event) (m : Medium) (cut : IsCutOf s events m) (made : divided (made_image s.geometry s.journal s.wide) ≡ Ok s.geometry) where
  abbrev o : Opening
  o = made_opening s.geometry s.journal s.wide s.quota

  abbrev sess : Session
  sess = session (over o) (Stands o) (kept_run s sizes new events).sound.rules.0 (host_of s events)

  rules : OrderRules (walk_volume s.geometry) sess
  rules = (kept_run s sizes new events).sound.rules.2.rules.order

  is_found : IsFound sess m (kept_transactions s events m)
  is_found = kept_commits_are_prefix cut rules.fits rules.commits

  abbrev super : HasSuper s.geometry s.journal s.wide m.image
  super = found_super s sizes new events m cut made

  abbrev j : JournalSuper
  j = super.fields

  abbrev tail : Tail
  tail = record { sequence = j.sequence; start = j.start }

  -- the log as recovery reads it
  log_size : length (transactions_of s.geometry.zones j m.image) ≡ length (log_on s m)
  log_size = ap (λ (txs : List Transaction). length txs) (same_log s sizes new events m cut made j super.read)

  same_ring : length (log_on s m) ≡ length (log_of sess.format sess.ring sess.journal (disk_of m.image))
  same_ring = ap (λ (r : Ring). length (log_of (format s.wide) r s.geometry.zones (disk_of m.image))) (sym (kept_run s sizes new events).places_are)

  -- the sequences stay words
  few : j.start ≢ 0 → length (transactions_of s.geometry.zones j m.image) ≤ s.journal
  few some =
      let at = start_within j (read_parts (disk_of m.image s.geometry.zones) j super.read).5 some in
      let most = done_few s.geometry.zones j m.image at.0 at.1 in
      let all = super.maxlen in
      let same = ap (λ (txs : List Transaction). length txs) (transactions-full s.geometry.zones j m.image some) in
      omega (arith, most, all, same)

  counted : j.start ≢ 0 → kept_transactions s events m ≡ words_from 1 (j.sequence + length (transactions_of s.geometry.zones j m.image))
  counted some =
      let all = all_found rules cut is_found tail (found_tail s sizes new events m cut made) some in
      let a = log_size in
      let b = same_ring in
      let most = few some in
      let room = super.room in
      word (kept_transactions s events m) (j.sequence + length (transactions_of s.geometry.zones j m.image)) (omega (arith, all, a, b)) (omega (arith, most, room))
    where
      word : (f n : ℕ) → n ≡ 1 + f → n < 2 ^ 32 → f ≡ (n + (2 ^ 32 - 1)) % 2 ^ 32
      word f n e lt = omega arith

  pub found_is_kept : found_in s.geometry.zones (new_journal s.journal s.wide).sequence m.image ≡ kept_transactions s events m
  found_is_kept =
      sym (counted_as s.geometry.zones 1 m.image j (kept_transactions s events m) super.read
      (none_found rules cut is_found tail (found_tail s sizes new events m cut made)) counted)
