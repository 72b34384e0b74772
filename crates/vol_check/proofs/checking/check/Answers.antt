use Rattle.std.proofs.Common.{◌≡◌, ◌↔◌, IfOk, subst}
use Rattle.volume_ops.specs.Volume.{VolumeState}
use Rattle.vol_check.specs.declared.verdict.Verdict.TheVariants as verdicts
use Rattle.vol_check.specs.Clean.{IsClean}
use Rattle.vol_check.specs.Verdicts.{IsInodeMapFault, IsZoneMapFault, IsLinksFault, IsDotsFault}
use Rattle.vol_check.proofs.checking.check.Goals as goal

pub returns : goal.returns
returns c = record {
  clean = λ g has.
      subst (λ (v : VolumeState). IfOk c.check_volume.result (λ w. (w ≡ verdicts.Clean) ↔ IsClean v.geometry v.blocks)) (c.in_ok-volume.ensures g has) c.check_volume.ensures.clean;
  inode_map = λ g has block.
      subst (λ (v : VolumeState). IfOk c.check_volume.result (λ w. (w ≡ verdicts.InodeMap block) ↔ IsInodeMapFault v.geometry v.blocks block)) (c.in_ok-volume.ensures g has) (c.check_volume.ensures.inode_map block);
  zone_map = λ g has block.
      subst (λ (v : VolumeState). IfOk c.check_volume.result (λ w. (w ≡ verdicts.ZoneMap block) ↔ IsZoneMapFault v.geometry v.blocks block)) (c.in_ok-volume.ensures g has) (c.check_volume.ensures.zone_map block);
  links = λ g has block.
      subst (λ (v : VolumeState). IfOk c.check_volume.result (λ w. (w ≡ verdicts.Links block) ↔ IsLinksFault v.geometry v.blocks block)) (c.in_ok-volume.ensures g has) (c.check_volume.ensures.links block);
  dots = λ g has block.
      subst (λ (v : VolumeState). IfOk c.check_volume.result (λ w. (w ≡ verdicts.Dots block) ↔ IsDotsFault v.geometry v.blocks block)) (c.in_ok-volume.ensures g has) (c.check_volume.ensures.dots block);
}
