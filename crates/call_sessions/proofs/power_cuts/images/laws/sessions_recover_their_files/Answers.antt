use Rattle.call_sessions.proofs.PowerCutsLemmas.ImagesLemmas.SessionLaws.{holds_kept}
use Rattle.call_sessions.proofs.power_cuts.images.laws.sessions_recover_their_files.Goals as goal

pub returns : goal.returns
returns c =
    let new = c.new_volumes_are_in_use.ensures in
    let made = c.made_images_are_plain.ensures.plain in
    record { files = λ s events m sizes cut. holds_kept s sizes (new s.geometry sizes.sound) events m cut (made s.geometry s.journal s.wide sizes.sound sizes.least sizes.most).0 }
