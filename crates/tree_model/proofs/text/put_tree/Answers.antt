use Rattle.std.proofs.Common.{List, ℕ, sym, ap, ◌++◌, ◌∙◌, arith}
use Rattle.std.specs.String.{string_bytes}
use Rattle.std.proofs.lemmas.List.{append-nil}
use Rattle.tree_model.proofs.Walks.{next_fewer, all_shown}
use Rattle.tree_model.proofs.text.put_tree.Goals as goal

pub loop-place-smaller : goal.loop-place-smaller
loop-place-smaller c =
    omega (arith, next_fewer c.loop-place.walk c.next.new.self c.in-Some.place c.in-Some.ensures, c.in_ok-show.ensures.fewer)

pub returns : goal.returns
returns c =
    sym (append-nil (string_bytes c.loop-place.out))
    ∙ (ap (λ (left : List ℕ). string_bytes c.loop-place.out ++ left) (sym (all_shown c.loop-place.walk c.in_default.ensures)) ∙ c.loop-place.invariant)
