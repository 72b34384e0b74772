use Rattle.std.proofs.Common.{refl, ◌∙◌, ap}
use Rattle.std.proofs.lemmas.Cmp.{nat_cmp_total}
use Rattle.tree_model.specs.Maps.{put_number}
use Rattle.tree_model.proofs.Entries.{copy_turn}
use Rattle.tree_model.proofs.node.Tree.copy.Goals as goal

pub loop-birth-preserved : goal.loop-birth-preserved
loop-birth-preserved c =
    copy_turn nat_cmp_total c.args.self.now c.loop-birth.copy c.loop-birth.birth-iterator c.next.new.self c.put.new.self c.in-Some.birth.now c.in-Some.birth.now c.in-Some.node.now (rw (← c.self.view_is) c.into_iter-birth-iterator.ensures.into_iter_gives.5) c.loop-birth.invariant c.in-Some.ensures.steps refl
    (c.in_ok-put.ensures.put ∙ ap (put_number c.loop-birth.copy c.in-Some.birth.now) c.in_ok-copy.ensures)
