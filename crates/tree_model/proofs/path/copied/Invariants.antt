use Rattle.std.proofs.Common.{◌≡◌, map, take}
use Rattle.tree_model.proofs.path.copied.Given as goal

abbrev pub invariant-loop-name : goal.invariant-loop-name
invariant-loop-name l = map (λ n. n.items) l.copies.items ≡ map (λ x. x.now) (take l.name-index l.names)
