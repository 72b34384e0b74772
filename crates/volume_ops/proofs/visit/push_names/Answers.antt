use Rattle.std.proofs.Common.{◌^◌, ◌<◌, Some}
use Rattle.std.specs.Iterator.Adapters.{rev_source}
use Rattle.std.proofs.lemmas.List.Elements.{All-pop}
use Rattle.volume_ops.proofs.Visited.{name_pushed}
use Rattle.volume_ops.proofs.visit.push_names.Goals as goal

pub loop-birth-preserved : goal.loop-birth-preserved
loop-birth-preserved c = (name_pushed c.args.parent _ _ _ _ _ (c.in-Some.field-0-0.now, c.in-Some.birth.now) _ c.in-Some.ensures.steps c.loop-birth.invariant.0 c.inode_of_birth.ensures c.in_ok-push.ensures.items, (All-pop (λ e. e.1 < 2 ^ 16) (rev_source c.loop-birth.birth-iterator) (rev_source c.next.new.self) (Some (c.in-Some.field-0-0.now, c.in-Some.birth.now)) c.in-Some.ensures.steps c.loop-birth.invariant.1).0)
