-- All that a session asks for at its beginning.
use Rattle.std.proofs.Common.{refl, arith}
use Rattle.journal_ring.specs.running.Open.{quota}
use Rattle.mount_make.specs.Made.{new_journal}
use Rattle.journal_ring.specs.Journal as new_ring
use Rattle.call_sessions.specs.Sessions.{made_now, made_opening}
use Rattle.session_core.proofs.RunLemmas.HostsInSession.{made_in_session}
use Rattle.session_core.proofs.run.laws.sessions_on_made_images_can_be_run.Goals as goal

pub returns : goal.returns
returns g c =
    let opens = c.sessions_of_calls_on_made_images.ensures in
    λ geometry journal wide limit capacity ps programs sched dev sound least most few bytes sched_is dev_is new.
    let q = quota (new_journal journal wide) in
    let j = opens.journal geometry journal wide q limit sound least most few in
    record {
      begins = record {
        written = j.1;
        opened = opens.volume geometry journal wide q sound least most;
        journal = j.0;
        bytes = bytes;
        sched_is = sched_is;
        dev_is = dev_is;
        starts = c.sessions_can_start_on_made_images.ensures geometry journal wide q limit capacity programs (g.S.Scheduler.steps.seen sched) (g.D.OrderedDev.seen dev) (omega arith) new;
      };
      host = made_in_session (made_opening geometry journal wide q) (made_now geometry) ps (new_ring.made (new_journal journal wide) limit) programs (record { tree = refl; first = refl; freeable = refl }) refl (record { sequence = refl; writers_are = refl; quota_is = refl });
      capacity_is = refl;
      threads_are = refl;
    }
