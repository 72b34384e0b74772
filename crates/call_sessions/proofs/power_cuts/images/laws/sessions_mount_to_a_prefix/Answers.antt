use Rattle.call_sessions.proofs.PowerCutsLemmas.ImagesLemmas.SessionLaws.{mounts, shows_a_prefix, kept_first}
use Rattle.call_sessions.proofs.power_cuts.images.laws.sessions_mount_to_a_prefix.Goals as goal

pub returns : goal.returns
returns c =
    let new = c.new_volumes_are_in_use.ensures in
    let made = c.made_images_are_plain.ensures.plain in
    record {
      mounts = λ s events m sizes cut. mounts s sizes (new s.geometry sizes.sound) events m cut (made s.geometry s.journal s.wide sizes.sound sizes.least sizes.most).0;
      transactions = λ s events m sizes cut. kept_first s sizes (new s.geometry sizes.sound) events m cut (made s.geometry s.journal s.wide sizes.sound sizes.least sizes.most).0;
      tree = λ s events m sizes cut. shows_a_prefix s sizes (new s.geometry sizes.sound) events m cut (made s.geometry s.journal s.wide sizes.sound sizes.least sizes.most).0;
    }
