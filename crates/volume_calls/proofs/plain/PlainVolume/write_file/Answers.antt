use Rattle.volume_model.specs.Trees.{node_now}
use Rattle.volume_steps.specs.Now.{VolumeNow}
use Rattle.volume_calls.proofs.Doing.{write_led, write_ready, write_done, write_marked}
use Rattle.volume_calls.proofs.plain.PlainVolume.write_file.Goals as goal

pub unreachable-requires : goal.unreachable-requires
unreachable-requires c =
    let v : VolumeNow = c.args.self.now in
    write_led v c.self.inside.parts c.self.view_is c.args.n c.args.path.now c.args.off c.args.content.now c.requires.room c.requires.may c.in-Err.field-0 c.in-Err.ensures.fault

pub write-requires : goal.write-requires
write-requires c =
    let v : VolumeNow = c.args.self.now in
    write_ready v c.self.inside.parts c.self.view_is c.args.n c.args.path.now c.args.off c.args.content.now c.requires.room c.requires.may
    (record { birth = c.in-Ok.found.birth; node = node_now v.contents.blocks c.in-Ok.found.placed.now }) c.in-Ok.ensures.found

pub invariant_of-self-2 : goal.invariant_of-self-2
invariant_of-self-2 c =
    let v : VolumeNow = c.args.self.now in
    write_marked v c.self.inside.parts c.self.view_is c.args.n c.args.path.now c.args.off c.args.content.now c.requires.room c.requires.may
    (record { birth = c.in-Ok.found.birth; node = node_now v.contents.blocks c.in-Ok.found.placed.now }) c.in-Ok.ensures.found c.self.inside.inodes c.self.invariant c.write.new.v
    c.in_ok-touched.touched.touched c.in_ok-touched.ensures.done

pub returns-clause-done : goal.returns-clause-done
returns-clause-done c tx =
    let v : VolumeNow = c.args.self.now in
    (write_done v c.self.inside.parts c.self.view_is c.args.n c.args.path.now c.args.off c.args.content.now c.requires.room c.requires.may
    (record { birth = c.in-Ok.found.birth; node = node_now v.contents.blocks c.in-Ok.found.placed.now }) c.in-Ok.ensures.found tx c.write.new.v
    c.in_ok-touched.touched.touched c.in_ok-touched.ensures.done).change
