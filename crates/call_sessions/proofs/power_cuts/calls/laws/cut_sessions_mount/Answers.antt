use Rattle.call_sessions.proofs.PowerCutsLemmas.CallsLemmas.CutCalls.{of_start}
use Rattle.call_sessions.proofs.power_cuts.calls.laws.cut_sessions_mount.Goals as goal

pub returns : goal.returns
returns c =
    let made = c.sessions_of_calls_on_made_images.ensures in
    let found = c.volume_and_journal_of_sessions_are_found.ensures in
    record {
      volume = λ g journal wide limit programs events m cut. of_start made.volume made.journal g journal wide limit programs events m cut found.volume;
      journal = λ g journal wide limit programs events m cut. of_start made.volume made.journal g journal wide limit programs events m cut found.journal;
      no_fault = λ g journal wide limit programs events m cut. of_start made.volume made.journal g journal wide limit programs events m cut c.sessions_leave_no_fault.ensures.journal;
      mounts = λ g journal wide limit programs events m cut. of_start made.volume made.journal g journal wide limit programs events m cut c.sessions_mount_to_a_prefix.ensures.mounts;
    }
