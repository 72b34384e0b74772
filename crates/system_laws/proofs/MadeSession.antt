-- A session on an image that was made, over calls with bytes: it is opened as the laws of runs ask.
use Rattle.std.specs.Prelude.{◌≡◌, ℕ, Bool, ◌+◌, ◌<◌, ◌≤◌, List}
use Rattle.std.proofs.Common.{arith}
use Rattle.minix_layout.specs.declared.division.Geometry.{Geometry}
use Rattle.minix_layout.specs.declared.limits.TheConstants.{LEAST_JOURNAL, MOST_JOURNAL}
use Rattle.minix_layout.specs.Geometry.{IsSound}
use Rattle.journal_ring.specs.running.Open.{quota}
use Rattle.tree_model.specs.declared.call.Call.{Call}
use Rattle.volume_steps.specs.Plain.{IsPlainNow}
use Rattle.volume_steps.specs.NewNow.{new_now}
use Rattle.host_machine.specs.runs.Runs.{Event}
use Rattle.host_machine.specs.runs.laws.Written.{AreWritten}
use Rattle.minix_host.specs.ByteCalls.{ByteCall}
use Rattle.minix_host.specs.Runs.{IsOpenedVolume, HasEmptyJournal, host_after}
use Rattle.minix_host.specs.Sessions.{Opening}
use Rattle.minix_host.proofs.RealJournal.{kind_written}
use Rattle.mount_make.specs.Made.{new_journal}
use Rattle.mount_make.proofs.MadeImages.{made_kind}
use Rattle.call_sessions.specs.Sessions.{WriteBytes, made_now, made_ring, plain_host}
use Rattle.call_sessions.specs.power_cuts.calls.CallImages.{opening_on, made_session}
use Rattle.call_sessions.proofs.CallsKept.{all_with_bytes, is_plain}
use Rattle.call_sessions.proofs.MadeLemmas.MadeJournal.{made_opened, made_empty}

module _ (g : Geometry) (journal : ℕ) (wide : Bool) (limit : ℕ) (programs : List (List Call)) (sound : IsSound g) (least : LEAST_JOURNAL ≤ journal) (most : journal ≤ MOST_JOURNAL) (words : limit + journal < 4294967296)
    (bytes : WriteBytes programs) (new : IsPlainNow (new_now g)) where
  abbrev o : Opening
  o = opening_on g journal wide

  pub written : AreWritten o.format o.writers
  written = kind_written (new_journal journal wide) wide (made_kind journal wide)

  pub volume : IsOpenedVolume o (made_now g)
  volume = made_opened g sound journal wide least most (quota (new_journal journal wide)) new

  pub empty : HasEmptyJournal o (made_ring journal) limit
  empty = made_empty g sound journal wide least most (quota (new_journal journal wide)) new limit (omega (arith, least, words))

  abbrev pub byte_programs : List (List ByteCall)
  byte_programs = all_with_bytes programs bytes

  pub same_host : (events : List Event) → made_session g journal wide limit programs events ≡ plain_host (host_after o (made_now g) (made_ring journal) limit byte_programs events)
  same_host events = is_plain o (made_now g) (made_ring journal) limit programs written volume empty bytes events
