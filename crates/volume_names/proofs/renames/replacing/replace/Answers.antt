use Rattle.std.proofs.Common.{ap, ◌∙◌, ◌≡◌, ◌≤◌, length, sym, arith}
use Rattle.tree_model.specs.Maps.{at_number}
use Rattle.volume_steps.specs.Calls.{lose_link}
use Rattle.volume_steps.specs.Now.{VolumeNow}
use Rattle.volume_in_use.specs.now.Noted.{Noted}
use Rattle.volume_names.proofs.Creates.{after_then, after_nothing}
use Rattle.volume_names.specs.removals.code.Dropping.{blocks_in}
use Rattle.volume_names.proofs.RenamesLemmas.Replaced.{some_number, same_blocks, may_go, keeps_one, keeps_none, replaced}
use Rattle.volume_names.proofs.renames.replacing.replace.Goals as goal

pub take_link-requires-clause-numbers : goal.take_link-requires-clause-numbers
take_link-requires-clause-numbers c =
    let from = c.args.from.now in
    let to = c.args.to.now in
    let h = c.requires in
    some_number c.args.v.now from.parent from.name to.parent to.name c.args.birth c.args.gone h c.take_over.new.v c.in_ok-take_over.ensures.done.volume_is

pub returns-then-links_of-gt1-clause-done : goal.returns-then-links_of-gt1-clause-done
returns-then-links_of-gt1-clause-done c =
    let from = c.args.from.now in
    let to = c.args.to.now in
    let h = c.requires in
    after_nothing c.in_ok-touched.touched.touched _ c.take_link.new.v c.take_link.new.touched.touched (ap (λ (t : Noted). t.touched) c.in_ok-touched.ensures)
    (after_then c.in_ok-touched.touched.touched _ (λ w. lose_link w c.args.tx c.args.gone) c.take_over.new.v c.take_link.new.v c.take_over.new.touched.touched c.take_link.new.touched.touched c.in_ok-take_over.ensures.done
    (keeps_one c.args.v.now from.parent from.name to.parent to.name c.args.birth c.args.gone h c.take_over.new.v c.in_ok-take_over.ensures.done.volume_is c.args.tx c.links_of.result
    (λ q at. c.links_of.ensures q (ap (λ (v : VolumeNow). at_number v.contents.nodes c.args.gone) c.v.view_is ∙ at)) c.if-links_of-gt1.true c.take_over.new.touched.touched c.take_link.new.touched.touched c.take_link.new.v c.take_link.ensures.done))
    ∙ replaced c.args.v.now from.parent from.name to.parent to.name c.args.birth c.args.gone h c.args.tx

pub drop_node-requires-clause-may : goal.drop_node-requires-clause-may
drop_node-requires-clause-may c =
    let from = c.args.from.now in
    let to = c.args.to.now in
    let h = c.requires in
    may_go c.args.v.now from.parent from.name to.parent to.name c.args.birth c.args.gone h c.take_over-2.new.v c.in_ok-take_over-2.ensures.done.volume_is c.args.tx c.deref-2.result.now (λ q at. c.deref-2.ensures.value ∙ c.in_ok-metadata.ensures q at)

pub drop_node-requires-clause-room : goal.drop_node-requires-clause-room
drop_node-requires-clause-room c = λ p at.
    let from = c.args.from.now in
    let to = c.args.to.now in
    let h = c.requires in
    let blocks : length (blocks_in p.part) ≡ length c.blocks_of.result.now =
    ap length (same_blocks c.args.v.now from.parent from.name to.parent to.name c.args.birth c.args.gone h c.take_over-2.new.v c.in_ok-take_over-2.ensures.done.volume_is p at ∙ sym (c.blocks_of.ensures h.placed h.stands)) in
    let metadata : length c.deref-2.result.now ≡ length c.deref.result.now = ap length (c.deref-2.ensures.value ∙ sym c.deref.ensures.value) in
    let room = ap (λ (t : Noted). t.spare) c.in_ok-touched-2.ensures in
    omega (arith, blocks, metadata, room, c.room.ensures, c.in_ok-take_over-2.ensures.spare)

pub returns-clause-done : goal.returns-clause-done
returns-clause-done c =
    let from = c.args.from.now in
    let to = c.args.to.now in
    let h = c.requires in
    let few = c.if-links_of-gt1.false in
    let none : c.links_of.result ≤ 1 = omega (arith, few) in
    after_nothing c.in_ok-touched-2.touched.touched _ c.drop_node.new.v c.drop_node.new.touched.touched (ap (λ (t : Noted). t.touched) c.in_ok-touched-2.ensures)
    (after_then c.in_ok-touched-2.touched.touched _ (λ w. lose_link w c.args.tx c.args.gone) c.take_over-2.new.v c.drop_node.new.v c.take_over-2.new.touched.touched c.drop_node.new.touched.touched c.in_ok-take_over-2.ensures.done
    (keeps_none c.args.v.now from.parent from.name to.parent to.name c.args.birth c.args.gone h c.take_over-2.new.v c.in_ok-take_over-2.ensures.done.volume_is c.args.tx c.links_of.result
    (λ q at. c.links_of.ensures q (ap (λ (v : VolumeNow). at_number v.contents.nodes c.args.gone) c.v.view_is ∙ at)) none c.take_over-2.new.touched.touched c.drop_node.new.touched.touched c.drop_node.new.v c.drop_node.ensures.done))
    ∙ replaced c.args.v.now from.parent from.name to.parent to.name c.args.birth c.args.gone h c.args.tx
