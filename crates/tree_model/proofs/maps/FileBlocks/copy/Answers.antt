use Rattle.std.proofs.Common.{refl, ◌∙◌, ap}
use Rattle.std.proofs.lemmas.Cmp.{nat_cmp_total}
use Rattle.tree_model.specs.Maps.{put_number}
use Rattle.tree_model.proofs.Entries.{copy_turn}
use Rattle.tree_model.proofs.maps.FileBlocks.copy.Goals as goal

pub loop-index-preserved : goal.loop-index-preserved
loop-index-preserved c =
    copy_turn nat_cmp_total c.args.self.now c.loop-index.copy c.loop-index.index-iterator c.next.new.self c.put.new.self c.in-Some.index.now c.in-Some.index.now c.in-Some.body.now (rw (← c.self.view_is) c.into_iter-index-iterator.ensures.into_iter_gives.5) c.loop-index.invariant c.in-Some.ensures.steps refl
    (c.in_ok-put.ensures.put ∙ ap (put_number c.loop-index.copy c.in-Some.index.now) (c.copy.ensures ∙ c.block.ensures))
