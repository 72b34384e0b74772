use Rattle.volume_model.specs.Trees.{node_now}
use Rattle.volume_steps.specs.Now.{VolumeNow}
use Rattle.volume_calls.proofs.Doing.{link_led, link_placed, link_ready, link_done, link_marked}
use Rattle.volume_calls.proofs.plain.PlainVolume.add_link.Goals as goal

pub unreachable-requires : goal.unreachable-requires
unreachable-requires c =
    let v : VolumeNow = c.args.self.now in
    link_led v c.self.inside.parts c.self.view_is c.args.n c.args.path.now c.args.other.now c.requires.room c.requires.may c.in-Err.field-0 c.in-Err.ensures.fault

pub unreachable-requires-in_default : goal.unreachable-requires-in_default
unreachable-requires-in_default c =
    let v : VolumeNow = c.args.self.now in
    link_placed v c.self.inside.parts c.self.view_is c.args.n c.args.path.now c.args.other.now c.requires.room c.requires.may c.in_default.field-0 c.in_default.ensures.fault

pub link-requires : goal.link-requires
link-requires c =
    let v : VolumeNow = c.args.self.now in
    link_ready v c.self.inside.parts c.self.view_is c.args.n c.args.path.now c.args.other.now c.requires.room c.requires.may
    (record { birth = c.in-Ok.found.birth; node = node_now v.contents.blocks c.in-Ok.found.placed.now }) c.in-Ok.ensures.found c.in-Ok-site.site.parent c.in-Ok-site.site.name c.in-Ok-site.ensures.site

pub invariant_of-self-2 : goal.invariant_of-self-2
invariant_of-self-2 c =
    let v : VolumeNow = c.args.self.now in
    link_marked v c.self.inside.parts c.self.view_is c.args.n c.args.path.now c.args.other.now c.requires.room c.requires.may
    (record { birth = c.in-Ok.found.birth; node = node_now v.contents.blocks c.in-Ok.found.placed.now }) c.in-Ok.ensures.found c.in-Ok-site.site.parent c.in-Ok-site.site.name c.in-Ok-site.ensures.site
    c.self.inside.inodes c.self.invariant c.link.new.v c.in_ok-touched.touched.touched c.in_ok-touched.ensures.done

pub returns-clause-done : goal.returns-clause-done
returns-clause-done c tx =
    let v : VolumeNow = c.args.self.now in
    (link_done v c.self.inside.parts c.self.view_is c.args.n c.args.path.now c.args.other.now c.requires.room c.requires.may
    (record { birth = c.in-Ok.found.birth; node = node_now v.contents.blocks c.in-Ok.found.placed.now }) c.in-Ok.ensures.found c.in-Ok-site.site.parent c.in-Ok-site.site.name c.in-Ok-site.ensures.site
    tx c.link.new.v c.in_ok-touched.touched.touched c.in_ok-touched.ensures.done).change
