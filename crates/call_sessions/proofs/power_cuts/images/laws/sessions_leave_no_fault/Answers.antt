use Rattle.call_sessions.proofs.PowerCutsLemmas.ImagesLemmas.SessionLaws.{no_fault, recovers}
use Rattle.call_sessions.proofs.power_cuts.images.laws.sessions_leave_no_fault.Goals as goal

pub returns : goal.returns
returns c =
    let new = c.new_volumes_are_in_use.ensures in
    let made = c.made_images_are_plain.ensures.plain in
    record {
      journal = λ s events m sizes cut. no_fault s sizes (new s.geometry sizes.sound) events m cut (made s.geometry s.journal s.wide sizes.sound sizes.least sizes.most).0;
      recovered = λ s events m sizes cut. recovers s sizes (new s.geometry sizes.sound) events m cut (made s.geometry s.journal s.wide sizes.sound sizes.least sizes.most).0;
    }
