use Rattle.journal_ring.specs.running.Open.{quota}
use Rattle.mount_make.specs.Made.{new_journal}
use Rattle.call_sessions.specs.power_cuts.calls.CallImages.{made_session}
use Rattle.call_sessions.proofs.PowerCutsLemmas.CallsLemmas.CutCalls.{few}
use Rattle.call_sessions.proofs.PowerCutsLemmas.CallsLemmas.ShownFiles.{same_walk, shows_files}
use Rattle.call_sessions.proofs.power_cuts.calls.laws.cut_sessions_show_files.Goals as goal

pub returns : goal.returns
returns c =
    let made = c.sessions_of_calls_on_made_images.ensures in
    let mounts = c.cut_sessions_mount.ensures in
    λ g journal wide limit programs events m closed tree cut files shown alike.
    let h = made_session g journal wide limit programs events in
    let session = made.kept g journal wide (quota (new_journal journal wide)) limit programs events cut.sound cut.least cut.most (few made.volume made.journal g journal wide limit programs events m cut) cut.bytes in
    let division = mounts.volume g journal wide limit programs events m cut in
    let walk = same_walk g journal wide h m division session cut.order (c.cut_sessions_keep_files.ensures.recovered g journal wide limit programs events m session.closed cut) in
    shows_files g journal wide closed h m tree division (mounts.no_fault g journal wide limit programs events m cut) shown walk alike files
