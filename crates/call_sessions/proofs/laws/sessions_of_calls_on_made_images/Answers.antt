use Rattle.mount_make.specs.Made.{new_journal}
use Rattle.mount_make.proofs.MadeImages.{made_kind}
use Rattle.minix_host.proofs.RealJournal.{kind_written}
use Rattle.call_sessions.specs.made.MadeSessions.{made_now, made_opening, made_ring}
use Rattle.call_sessions.proofs.MadeLemmas.MadeJournal.{made_opened, made_empty}
use Rattle.call_sessions.proofs.CallsKept.{calls_kept}
use Rattle.call_sessions.proofs.laws.sessions_of_calls_on_made_images.Goals as goal

pub returns : goal.returns
returns c = record {
  volume = λ g journal wide quota sound low high. made_opened g sound journal wide low high quota (c.new_volumes_are_in_use.ensures g sound);
  journal = λ g journal wide quota limit sound low high few. (made_empty g sound journal wide low high quota (c.new_volumes_are_in_use.ensures g sound) limit few, kind_written (new_journal journal wide) wide (made_kind journal wide));
  kept = λ g journal wide quota limit programs events sound low high few bytes.
      let new = c.new_volumes_are_in_use.ensures g sound in
      calls_kept (made_opening g journal wide quota) (made_now g) (made_ring journal) limit programs (kind_written (new_journal journal wide) wide (made_kind journal wide)) (made_opened g sound journal wide low high quota new)
      (made_empty g sound journal wide low high quota new limit few) bytes events;
}
