use Rattle.std.proofs.Common.{sym, subst, ◌∙◌}
use Rattle.volume_steps.specs.Now.{VolumeNow}
use Rattle.volume_names.proofs.LowestInodes.{lowest_is_new}
use Rattle.volume_calls.specs.code.MarkedVolume.{IsMarkedVolume}
use Rattle.volume_calls.proofs.Doing.{create_led, create_ready, create_done, create_marked}
use Rattle.volume_calls.proofs.plain.PlainVolume.make_file.Goals as goal

pub unreachable-requires : goal.unreachable-requires
unreachable-requires c =
    let v : VolumeNow = c.args.self.now in
    create_led v c.self.inside.parts c.self.view_is c.args.n c.args.path.now c.requires.room c.requires.may c.in_default.field-0 c.in_default.ensures.fault

pub create-requires-clause-may : goal.create-requires-clause-may
create-requires-clause-may c =
    let v : VolumeNow = c.args.self.now in
    create_ready v c.self.inside.parts c.self.view_is c.args.n c.args.path.now c.requires.room c.requires.may c.in-Ok.site.parent c.in-Ok.site.name c.in-Ok.ensures.site

pub create-requires-clause-number : goal.create-requires-clause-number
create-requires-clause-number c =
    let parts : VolumeNow = c.self.inside.parts in
    c.lowest-number.ensures ∙ lowest_is_new parts.geometry parts.contents.nodes c.self.inside.inodes c.self.invariant.plain.in_use.volume.0.in_order c.self.invariant.inodes

pub invariant_of-self-2 : goal.invariant_of-self-2
invariant_of-self-2 c =
    let v : VolumeNow = c.args.self.now in
    let parts : VolumeNow = c.self.inside.parts in
    let lowest = c.lowest-number.ensures ∙ lowest_is_new parts.geometry parts.contents.nodes c.self.inside.inodes c.self.invariant.plain.in_use.volume.0.in_order c.self.invariant.inodes in
    subst (IsMarkedVolume c.create.new.v) (sym c.take.ensures)
    (create_marked v c.self.inside.parts c.self.view_is c.args.n c.args.path.now c.requires.room c.requires.may c.in-Ok.site.parent c.in-Ok.site.name c.in-Ok.ensures.site c.self.inside.inodes c.self.invariant
    c.create.new.v c.in_ok-touched.touched.touched c.in_ok-touched.ensures.done c.lowest-number.result lowest)

pub returns-clause-done : goal.returns-clause-done
returns-clause-done c tx =
    let v : VolumeNow = c.args.self.now in
    (create_done v c.self.inside.parts c.self.view_is c.args.n c.args.path.now c.requires.room c.requires.may c.in-Ok.site.parent c.in-Ok.site.name c.in-Ok.ensures.site tx c.create.new.v
    c.in_ok-touched.touched.touched c.in_ok-touched.ensures.done).change
