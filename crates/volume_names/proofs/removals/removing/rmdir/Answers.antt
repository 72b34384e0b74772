use Rattle.std.proofs.Common.{ap, ◌∙◌, ◌≡◌, ◌+◌, ◌*◌, ◌-◌, length, arith}
use Rattle.volume_steps.specs.Now.{followed_by}
use Rattle.volume_steps.specs.Steps.{drop_node, set_links}
use Rattle.volume_in_use.specs.now.Noted.{Noted}
use Rattle.volume_names.proofs.Creates.{after_then, after_nothing}
use Rattle.volume_names.specs.removals.code.Dropping.{blocks_in}
use Rattle.volume_names.proofs.RemovalsLemmas.NameTaken.{has_slot}
use Rattle.volume_names.proofs.RemovalsLemmas.Removed.{takes, parent_number, may_go, no_blocks}
use Rattle.volume_names.proofs.removals.removing.rmdir.Goals as goal

pub take_name-requires-clause-may : goal.take_name-requires-clause-may
take_name-requires-clause-may c = has_slot c.args.v.now c.args.parent c.args.name.now (takes c.args.v.now c.args.birth c.args.parent c.args.name.now c.requires)

pub take_link-requires-clause-numbers : goal.take_link-requires-clause-numbers
take_link-requires-clause-numbers c = parent_number c.args.v.now c.args.birth c.args.parent c.args.name.now c.requires c.take_name.new.v c.take_name.ensures.done.volume_is

pub drop_node-requires-clause-may : goal.drop_node-requires-clause-may
drop_node-requires-clause-may c =
    may_go c.args.v.now c.args.birth c.args.parent c.args.name.now c.requires c.take_name.new.v c.take_name.ensures.done.volume_is c.take_link.new.v c.take_link.ensures.done.volume_is c.args.tx c.deref.result.now
    (λ q at. c.deref.ensures.value ∙ c.in_ok-metadata.ensures q at)

pub drop_node-requires-clause-room : goal.drop_node-requires-clause-room
drop_node-requires-clause-room c = λ p at.
    let blocks : length (blocks_in p.part) ≡ 0 =
    ap length (no_blocks c.args.v.now c.args.birth c.args.parent c.args.name.now c.requires c.take_name.new.v c.take_name.ensures.done.volume_is c.take_link.new.v c.take_link.ensures.done.volume_is p at) in
    let metadata = c.deref.ensures.len in
    let room : c.in_ok-touched.touched.spare ≡ 3 * c.len.result + 6 = ap (λ (t : Noted). t.spare) c.in_ok-touched.ensures in
    omega (arith, blocks, metadata, room, c.len.ensures, c.take_name.ensures.spare, c.take_link.ensures.spare)

pub returns-clause-done : goal.returns-clause-done
returns-clause-done c =
    let start = c.in_ok-touched.touched.touched in
    after_nothing start _ c.drop_node.new.v c.drop_node.new.touched.touched (ap (λ (t : Noted). t.touched) c.in_ok-touched.ensures)
    (after_then start _ (λ u. followed_by (set_links u c.args.parent (λ links. links - 1)) (λ w. drop_node w c.args.tx c.args.birth)) c.take_name.new.v c.drop_node.new.v c.take_name.new.touched.touched
    c.drop_node.new.touched.touched c.take_name.ensures.done
    (after_then c.take_name.new.touched.touched _ (λ w. drop_node w c.args.tx c.args.birth) c.take_link.new.v c.drop_node.new.v c.take_link.new.touched.touched c.drop_node.new.touched.touched
    c.take_link.ensures.done c.drop_node.ensures.done))
