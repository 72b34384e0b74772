use Rattle.std.proofs.Common.{sym, ◌∙◌}
use Rattle.call_sessions.proofs.PowerCutsLemmas.CallsLemmas.CutCalls.{of_start, same_count}
use Rattle.call_sessions.proofs.power_cuts.calls.laws.cut_sessions_tell_how_many.Goals as goal

pub returns : goal.returns
returns c =
    let made = c.sessions_of_calls_on_made_images.ensures in
    λ g journal wide limit programs events m cut.
    of_start made.volume made.journal g journal wide limit programs events m cut c.found_is_what_was_kept.ensures
    ∙ sym (same_count made.volume made.journal g journal wide limit programs events m cut)
