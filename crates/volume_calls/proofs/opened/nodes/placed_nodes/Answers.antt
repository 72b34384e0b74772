use Rattle.std.proofs.Common.{◌≡◌, ◌∷◌, refl, sym, ap, ◌∙◌, inl, inr}
use Rattle.std.specs.Vec.Iter.{into_iter_items}
use Rattle.tree_model.specs.Maps.{put_number}
use Rattle.volume_calls.specs.opened.code.Placing.{placed_found, put_all}
use Rattle.volume_calls.proofs.opened.nodes.placed_nodes.Goals as goal

pub loop-node-init : goal.loop-node-init
loop-node-init c = rw (c.into_iter-node-iterator.ensures.into_iter_gives.0, c.new-nodes.ensures.empty) (refl, c.requires.nodes)

pub placed_found-requires-clause-node : goal.placed_found-requires-clause-node
placed_found-requires-clause-node c =
    let steps : into_iter_items c.loop-node.node-iterator ≡ c.in-Some.node ∷ into_iter_items c.next.new.self = c.in-Some.ensures.steps.0 in
    c.loop-node.invariant.1 c.in-Some.node (rw steps (inl refl))

pub loop-node-preserved : goal.loop-node-preserved
loop-node-preserved c =
    let f = placed_found c.args.g.now c.args.disk.now in
    let now = c.loop-node.nodes.entries in
    let left = into_iter_items c.next.new.self in
    let steps : into_iter_items c.loop-node.node-iterator ≡ c.in-Some.node ∷ left = c.in-Some.ensures.steps.0 in (
      ap (put_all f left) (c.in_ok-put_node.ensures ∙ ap (put_number now c.in-Some.node.birth) c.in_ok-placed_found.ensures)
          ∙ (sym (ap (λ ns. put_all f ns now) steps) ∙ c.loop-node.invariant.0),
      λ n i. c.loop-node.invariant.1 n (rw steps (inr i)),
    )
