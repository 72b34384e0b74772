use Rattle.call_sessions.proofs.PowerCutsLemmas.CallsLemmas.CutCalls.{of_start, found_first, shows_tree}
use Rattle.call_sessions.proofs.power_cuts.calls.laws.cut_sessions_have_the_tree_of_a_prefix.Goals as goal

pub returns : goal.returns
returns c =
    let made = c.sessions_of_calls_on_made_images.ensures in
    let kept = c.sessions_mount_to_a_prefix.ensures in
    record {
      transactions = λ g journal wide limit programs events m cut.
          found_first made.volume made.journal g journal wide limit programs events m cut (of_start made.volume made.journal g journal wide limit programs events m cut kept.transactions);
      tree = λ g journal wide limit programs events m cut.
          shows_tree made.volume made.journal g journal wide limit programs events m cut (of_start made.volume made.journal g journal wide limit programs events m cut kept.tree);
    }
