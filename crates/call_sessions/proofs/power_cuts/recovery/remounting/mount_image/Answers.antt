use Rattle.std.proofs.Common.{◌+◌, ◌≤◌, List, ℕ, length, sym, subst}
use Rattle.call_sessions.proofs.PowerCutsLemmas.RecoveryLemmas.Attempted.{quiet_new}
use Rattle.call_sessions.proofs.power_cuts.recovery.remounting.mount_image.Goals as goal

pub mount-requires-clause-quiet : goal.mount-requires-clause-quiet
mount-requires-clause-quiet g c = let d = g.M.Dev.OrderedDev in quiet_new (d.seen (d.state c.in_ok-device.device)) c.in_ok-device.ensures.is_fresh.untouched.took

pub mount-requires-clause-room : goal.mount-requires-clause-room
mount-requires-clause-room g c =
    let d = g.M.Dev.OrderedDev in
    let fresh = c.in_ok-device.ensures.is_fresh in
    subst (λ (i : List (List ℕ)). length i + 2 ≤ (d.seen (d.state c.in_ok-device.device)).limit) (sym fresh.surface) fresh.room
