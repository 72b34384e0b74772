use Rattle.std.proofs.Common.{ap, ◌∙◌, ◌<◌, sym, subst}
use Rattle.volume_model.specs.Trees.{node_now}
use Rattle.volume_steps.specs.Now.{VolumeNow}
use Rattle.volume_names.specs.UsedInodes.{unmarked}
use Rattle.volume_calls.proofs.Doing.{rename_led, rename_placed, rename_aimed, rename_ready, rename_done, rename_met, rename_met_at, rename_met_in, rename_marked}
use Rattle.volume_calls.proofs.plain.PlainVolume.move_node.Goals as goal

pub unreachable-requires : goal.unreachable-requires
unreachable-requires c =
    let v : VolumeNow = c.args.self.now in
    rename_led v c.self.inside.parts c.self.view_is c.args.n c.args.path.now c.args.other.now c.requires.room c.requires.may c.in-Err.field-0 c.in-Err.ensures.fault

pub unreachable-requires-in_default : goal.unreachable-requires-in_default
unreachable-requires-in_default c =
    let v : VolumeNow = c.args.self.now in
    rename_placed v c.self.inside.parts c.self.view_is c.args.n c.args.path.now c.args.other.now c.requires.room c.requires.may c.in_default.field-0 c.in_default.ensures.fault

pub unreachable-requires-in_default-site : goal.unreachable-requires-in_default-site
unreachable-requires-in_default-site c =
    let v : VolumeNow = c.args.self.now in
    rename_aimed v c.self.inside.parts c.self.view_is c.args.n c.args.path.now c.args.other.now c.requires.room c.requires.may c.in_default-site.field-0 c.in_default-site.ensures.fault

pub rename-requires : goal.rename-requires
rename-requires c =
    let v : VolumeNow = c.args.self.now in
    rename_ready v c.self.inside.parts c.self.view_is c.args.n c.args.path.now c.args.other.now c.requires.room c.requires.may
    (record { birth = c.in-Ok.found.birth; node = node_now v.contents.blocks c.in-Ok.found.placed.now }) c.in-Ok.ensures.found c.in-Ok-site.from.parent c.in-Ok-site.from.name c.in-Ok-site.ensures.site
    c.in-Ok-site-2.to.parent c.in-Ok-site-2.to.name c.in-Ok-site-2.ensures.site

pub give_back-requires : goal.give_back-requires
give_back-requires c =
    let v : VolumeNow = c.args.self.now in
    let node = rename_met v c.self.inside.parts c.self.view_is c.args.n c.args.path.now c.args.other.now c.requires.room c.requires.may
    (record { birth = c.in-Ok.found.birth; node = node_now v.contents.blocks c.in-Ok.found.placed.now }) c.in-Ok.ensures.found c.in-Ok-site.from.parent c.in-Ok-site.from.name c.in-Ok-site.ensures.site
    c.in-Ok-site-2.to.parent c.in-Ok-site-2.to.name c.in-Ok-site-2.ensures.site in
    let at = rename_met_in v c.self.inside.parts c.self.view_is c.args.n c.args.path.now c.args.other.now c.requires.room c.requires.may
    (record { birth = c.in-Ok.found.birth; node = node_now v.contents.blocks c.in-Ok.found.placed.now }) c.in-Ok.ensures.found c.in-Ok-site.from.parent c.in-Ok-site.from.name c.in-Ok-site.ensures.site
    c.in-Ok-site-2.to.parent c.in-Ok-site-2.to.name c.in-Ok-site-2.ensures.site
    c.met_at-met.result.birth c.met_at-met.ensures.met in
    subst (λ number. 0 < number) (sym (c.met_at-met.ensures.number node.0 at)) (c.self.invariant.plain.in_use.volume.0.each c.met_at-met.result.birth node.0 at).some

pub invariant_of-self-2 : goal.invariant_of-self-2
invariant_of-self-2 c =
    let v : VolumeNow = c.args.self.now in
    let node = rename_met v c.self.inside.parts c.self.view_is c.args.n c.args.path.now c.args.other.now c.requires.room c.requires.may
    (record { birth = c.in-Ok.found.birth; node = node_now v.contents.blocks c.in-Ok.found.placed.now }) c.in-Ok.ensures.found c.in-Ok-site.from.parent c.in-Ok-site.from.name c.in-Ok-site.ensures.site
    c.in-Ok-site-2.to.parent c.in-Ok-site-2.to.name c.in-Ok-site-2.ensures.site in
    let met = c.met_at-met.result.birth in
    let at = rename_met_in v c.self.inside.parts c.self.view_is c.args.n c.args.path.now c.args.other.now c.requires.room c.requires.may
    (record { birth = c.in-Ok.found.birth; node = node_now v.contents.blocks c.in-Ok.found.placed.now }) c.in-Ok.ensures.found c.in-Ok-site.from.parent c.in-Ok-site.from.name c.in-Ok-site.ensures.site
    c.in-Ok-site-2.to.parent c.in-Ok-site-2.to.name c.in-Ok-site-2.ensures.site
    met c.met_at-met.ensures.met in
    rename_marked v c.self.inside.parts c.self.view_is c.args.n c.args.path.now c.args.other.now c.requires.room c.requires.may
    (record { birth = c.in-Ok.found.birth; node = node_now v.contents.blocks c.in-Ok.found.placed.now }) c.in-Ok.ensures.found c.in-Ok-site.from.parent c.in-Ok-site.from.name c.in-Ok-site.ensures.site
    c.in-Ok-site-2.to.parent c.in-Ok-site-2.to.name c.in-Ok-site-2.ensures.site
    c.self.inside.inodes c.self.invariant c.args.tx c.rename.new.v c.in_ok-touched.touched.touched c.in_ok-touched.ensures.done met c.met_at-met.ensures.met node.0
    (rename_met_at v c.self.inside.parts c.self.view_is c.args.n c.args.path.now c.args.other.now c.requires.room c.requires.may
    (record { birth = c.in-Ok.found.birth; node = node_now v.contents.blocks c.in-Ok.found.placed.now }) c.in-Ok.ensures.found c.in-Ok-site.from.parent c.in-Ok-site.from.name c.in-Ok-site.ensures.site
    c.in-Ok-site-2.to.parent c.in-Ok-site-2.to.name c.in-Ok-site-2.ensures.site
    met c.met_at-met.ensures.met) c.give_back.new.inodes
    (λ none. c.give_back.ensures.gone none ∙ ap (unmarked c.self.inside.inodes) (c.met_at-met.ensures.number node.0 at)) c.give_back.ensures.stays

pub returns-clause-done : goal.returns-clause-done
returns-clause-done c =
    let v : VolumeNow = c.args.self.now in
    (rename_done v c.self.inside.parts c.self.view_is c.args.n c.args.path.now c.args.other.now c.requires.room c.requires.may
    (record { birth = c.in-Ok.found.birth; node = node_now v.contents.blocks c.in-Ok.found.placed.now }) c.in-Ok.ensures.found c.in-Ok-site.from.parent c.in-Ok-site.from.name c.in-Ok-site.ensures.site
    c.in-Ok-site-2.to.parent c.in-Ok-site-2.to.name c.in-Ok-site-2.ensures.site
    c.args.tx c.rename.new.v c.in_ok-touched.touched.touched c.in_ok-touched.ensures.done).change
