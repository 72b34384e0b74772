use Rattle.std.proofs.Common.{◌≡◌, ℕ, List, Some, slice_index_or, refl, sym, ap, ◌∙◌}
use Rattle.std.proofs.lemmas.Bool.{false≢true}
use Rattle.std.proofs.lemmas.Option.{none-some, same_Some}
use Rattle.blk_base.specs.Block.{filled}
use Rattle.blk_base.proofs.block.Block.fill_byte.Goals as goal

first_filled : (v : ℕ) → slice_index_or (filled v) 0 0 ≡ v
unfolding filled
first_filled v = refl

first_is : (bytes : List ℕ) (v : ℕ) → bytes ≡ filled v → slice_index_or bytes 0 0 ≡ v
first_is bytes v e = ap (λ (xs : List ℕ). slice_index_or xs 0 0) e ∙ first_filled v

pub returns-then-are_all : goal.returns-then-are_all
returns-then-are_all c v = (
  λ e. sym c.self.view_is ∙ c.are_all.ensures.0 c.if-are_all.true ∙ ap filled (same_Some _ v e),
  λ e. ap Some (first_is _ v (c.self.view_is ∙ e)),
)

pub returns-else-are_all : goal.returns-else-are_all
returns-else-are_all c v = (
  λ e. absurd (none-some v e),
  λ e. absurd (false≢true (sym c.if-are_all.false ∙ c.are_all.ensures.1 (c.self.view_is ∙ e ∙ ap filled (sym (first_is _ v (c.self.view_is ∙ e)))))),
)
