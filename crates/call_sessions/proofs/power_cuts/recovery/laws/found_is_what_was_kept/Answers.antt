use Rattle.call_sessions.proofs.PowerCutsLemmas.RecoveryLemmas.FoundSessions.{found_is_kept}
use Rattle.call_sessions.proofs.power_cuts.recovery.laws.found_is_what_was_kept.Goals as goal

pub returns : goal.returns
returns c = λ s events m sizes cut.
    found_is_kept s sizes (c.new_volumes_are_in_use.ensures s.geometry sizes.sound) events m cut (c.made_images_are_plain.ensures.plain s.geometry s.journal s.wide sizes.sound sizes.least sizes.most).0
