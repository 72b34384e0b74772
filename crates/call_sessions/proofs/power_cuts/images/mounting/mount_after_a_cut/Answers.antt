use Rattle.call_sessions.proofs.PowerCutsLemmas.ImagesLemmas.MountedSessions.{no_image_fault, only_memory, has_tree}
use Rattle.call_sessions.proofs.power_cuts.images.mounting.mount_after_a_cut.Goals as goal

pub returns : goal.returns
returns g c =
    let d = g.D.OrderedDev in
    let surface = (d.seen (d.state c.args.dev.now)).surface in
    let new = c.new_volumes_are_in_use.ensures in
    let made = c.made_images_are_plain.ensures.plain in
    record {
      no_fault = λ s events m sizes cut same fault block. no_image_fault s sizes (new s.geometry sizes.sound) events m cut (made s.geometry s.journal s.wide sizes.sound sizes.least sizes.most).0 surface same c.mount.result c.mount.ensures.fault fault block;
      sound = λ s events m sizes cut same sound room. only_memory s sizes (new s.geometry sizes.sound) events m cut (made s.geometry s.journal s.wide sizes.sound sizes.least sizes.most).0 surface same c.mount.result
          (d.seen (d.state c.args.dev.now)).faults (d.seen (d.state c.mount.new.dev)).faults c.mount.ensures.fault c.mount.ensures.read_fault (λ id e. (c.mount.ensures.device_failed id e).0) (c.mount.ensures.no_fault sound).1 room;
      tree = λ s events m sizes cut same. has_tree s sizes (new s.geometry sizes.sound) events m cut (made s.geometry s.journal s.wide sizes.sound sizes.least sizes.most).0 surface same (λ x. x.volume) c.mount.result c.mount.ensures.volume;
    }
