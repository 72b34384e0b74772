use Rattle.call_sessions.proofs.PowerCutsLemmas.ImagesLemmas.SessionLaws.{is_divided, found_super, found_journal, found_ring, found_kind, found_tail}
use Rattle.call_sessions.proofs.power_cuts.images.laws.volume_and_journal_of_sessions_are_found.Goals as goal

pub returns : goal.returns
returns c =
    let new = c.new_volumes_are_in_use.ensures in
    let made = c.made_images_are_plain.ensures.plain in
    record {
      volume = λ s events m sizes cut. is_divided s sizes (new s.geometry sizes.sound) events m cut (made s.geometry s.journal s.wide sizes.sound sizes.least sizes.most).0;
      journal = λ s events m sizes cut. found_journal s sizes (new s.geometry sizes.sound) events m cut (made s.geometry s.journal s.wide sizes.sound sizes.least sizes.most).0;
      kind = λ s events m j sizes cut read. found_kind s sizes (new s.geometry sizes.sound) events m cut (made s.geometry s.journal s.wide sizes.sound sizes.least sizes.most).0 j read;
      superblock = λ s events m sizes cut.
          let divided = (made s.geometry s.journal s.wide sizes.sound sizes.least sizes.most).0 in
          let f = found_super s sizes (new s.geometry sizes.sound) events m cut divided in
          (f.fields, f.read, found_ring s sizes (new s.geometry sizes.sound) events m cut divided, found_tail s sizes (new s.geometry sizes.sound) events m cut divided);
    }
