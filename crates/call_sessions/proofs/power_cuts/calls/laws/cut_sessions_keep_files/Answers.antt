use Rattle.volume_ops.specs.Volume.{disk_of}
use Rattle.mount_make.specs.Images.{recovered_image}
use Rattle.call_sessions.proofs.PowerCutsLemmas.CallsLemmas.CutCalls.{of_start, keeps_files, is_recovered}
use Rattle.call_sessions.proofs.power_cuts.calls.laws.cut_sessions_keep_files.Goals as goal

pub returns : goal.returns
returns c =
    let made = c.sessions_of_calls_on_made_images.ensures in
    record {
      recovered = λ g journal wide limit programs events m closed cut.
          is_recovered made.volume made.journal g journal wide limit programs events m cut closed (disk_of (recovered_image m.image))
          (of_start made.volume made.journal g journal wide limit programs events m cut c.sessions_leave_no_fault.ensures.recovered);
      files = λ g journal wide limit programs events m cut.
          keeps_files made.volume made.journal g journal wide limit programs events m cut (disk_of (recovered_image m.image))
          (of_start made.volume made.journal g journal wide limit programs events m cut c.sessions_recover_their_files.ensures.files);
    }
