use Rattle.volume_model.specs.Trees.{node_now}
use Rattle.volume_steps.specs.Now.{VolumeNow}
use Rattle.volume_calls.proofs.Doing.{cut_led, cut_ready, cut_done, cut_marked}
use Rattle.volume_calls.proofs.plain.PlainVolume.cut_file.Goals as goal

pub unreachable-requires : goal.unreachable-requires
unreachable-requires c =
    let v : VolumeNow = c.args.self.now in
    cut_led v c.self.inside.parts c.self.view_is c.args.n c.args.path.now c.args.size c.requires.room c.requires.may c.in-Err.field-0 c.in-Err.ensures.fault

pub truncate-requires : goal.truncate-requires
truncate-requires c =
    let v : VolumeNow = c.args.self.now in
    cut_ready v c.self.inside.parts c.self.view_is c.args.n c.args.path.now c.args.size c.requires.room c.requires.may
    (record { birth = c.in-Ok.found.birth; node = node_now v.contents.blocks c.in-Ok.found.placed.now }) c.in-Ok.ensures.found

pub invariant_of-self-2 : goal.invariant_of-self-2
invariant_of-self-2 c =
    let v : VolumeNow = c.args.self.now in
    cut_marked v c.self.inside.parts c.self.view_is c.args.n c.args.path.now c.args.size c.requires.room c.requires.may
    (record { birth = c.in-Ok.found.birth; node = node_now v.contents.blocks c.in-Ok.found.placed.now }) c.in-Ok.ensures.found c.self.inside.inodes c.self.invariant c.args.tx c.truncate.new.v
    c.in_ok-touched.touched.touched c.in_ok-touched.ensures.done

pub returns-clause-done : goal.returns-clause-done
returns-clause-done c =
    let v : VolumeNow = c.args.self.now in
    (cut_done v c.self.inside.parts c.self.view_is c.args.n c.args.path.now c.args.size c.requires.room c.requires.may
    (record { birth = c.in-Ok.found.birth; node = node_now v.contents.blocks c.in-Ok.found.placed.now }) c.in-Ok.ensures.found c.args.tx c.truncate.new.v
    c.in_ok-touched.touched.touched c.in_ok-touched.ensures.done).change
