use Rattle.std.proofs.Common.{◌≡◌, Some, sym, subst}
use Rattle.tree_model.specs.Maps.{at_number}
use Rattle.volume_model.specs.Trees.{node_now}
use Rattle.volume_steps.specs.Now.{VolumeNow}
use Rattle.volume_calls.proofs.Doing.{rmdir_led, rmdir_placed, rmdir_ready, rmdir_done, rmdir_marked}
use Rattle.volume_calls.proofs.plain.PlainVolume.remove_directory.Goals as goal

pub unreachable-requires : goal.unreachable-requires
unreachable-requires c =
    let v : VolumeNow = c.args.self.now in
    rmdir_led v c.self.inside.parts c.self.view_is c.args.n c.args.path.now c.requires.room c.requires.may c.in-Err.field-0 c.in-Err.ensures.fault

pub unreachable-requires-in_default : goal.unreachable-requires-in_default
unreachable-requires-in_default c =
    let v : VolumeNow = c.args.self.now in
    rmdir_placed v c.self.inside.parts c.self.view_is c.args.n c.args.path.now c.requires.room c.requires.may c.in_default.field-0 c.in_default.ensures.fault

pub rmdir-requires : goal.rmdir-requires
rmdir-requires c =
    let v : VolumeNow = c.args.self.now in
    rmdir_ready v c.self.inside.parts c.self.view_is c.args.n c.args.path.now c.requires.room c.requires.may
    (record { birth = c.in-Ok.found.birth; node = node_now v.contents.blocks c.in-Ok.found.placed.now }) c.in-Ok.ensures.found c.in-Ok-site.site.parent c.in-Ok-site.site.name c.in-Ok-site.ensures.site

pub invariant_of-self-2 : goal.invariant_of-self-2
invariant_of-self-2 c =
    let v : VolumeNow = c.args.self.now in
    rmdir_marked v c.self.inside.parts c.self.view_is c.args.n c.args.path.now c.requires.room c.requires.may
    (record { birth = c.in-Ok.found.birth; node = node_now v.contents.blocks c.in-Ok.found.placed.now }) c.in-Ok.ensures.found c.in-Ok-site.site.parent c.in-Ok-site.site.name c.in-Ok-site.ensures.site
    c.self.inside.inodes c.self.invariant c.args.tx c.rmdir.new.v c.in_ok-touched.touched.touched c.in_ok-touched.ensures.done
    c.in-Ok.found.placed.now c.in-Ok.ensures.stands c.give_back.new.inodes c.give_back.ensures.gone c.give_back.ensures.stays

pub give_back-requires : goal.give_back-requires
give_back-requires c = (c.self.invariant.plain.in_use.volume.0.each c.in-Ok.found.birth c.in-Ok.found.placed.now (subst (λ (u : VolumeNow). at_number u.contents.nodes c.in-Ok.found.birth ≡ Some c.in-Ok.found.placed.now) (sym c.self.view_is) c.in-Ok.ensures.stands)).some

pub returns-clause-done : goal.returns-clause-done
returns-clause-done c =
    let v : VolumeNow = c.args.self.now in
    (rmdir_done v c.self.inside.parts c.self.view_is c.args.n c.args.path.now c.requires.room c.requires.may
    (record { birth = c.in-Ok.found.birth; node = node_now v.contents.blocks c.in-Ok.found.placed.now }) c.in-Ok.ensures.found c.in-Ok-site.site.parent c.in-Ok-site.site.name c.in-Ok-site.ensures.site
    c.args.tx c.rmdir.new.v c.in_ok-touched.touched.touched c.in_ok-touched.ensures.done).change
