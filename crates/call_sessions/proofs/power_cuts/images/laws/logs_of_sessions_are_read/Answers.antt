use Rattle.call_sessions.proofs.PowerCutsLemmas.ImagesLemmas.SessionLaws.{same_log, empty_log}
use Rattle.call_sessions.proofs.power_cuts.images.laws.logs_of_sessions_are_read.Goals as goal

pub returns : goal.returns
returns c =
    let new = c.new_volumes_are_in_use.ensures in
    let made = c.made_images_are_plain.ensures.plain in
    record {
      log = λ s events m j sizes cut. same_log s sizes (new s.geometry sizes.sound) events m cut (made s.geometry s.journal s.wide sizes.sound sizes.least sizes.most).0 j;
      empty = λ s events m j sizes cut. empty_log s sizes (new s.geometry sizes.sound) events m cut (made s.geometry s.journal s.wide sizes.sound sizes.least sizes.most).0 j;
    }
