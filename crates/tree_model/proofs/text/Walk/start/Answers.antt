use Rattle.std.proofs.Common.{refl}
use Rattle.tree_model.specs.Text.{tree_text}
use Rattle.tree_model.specs.code.TextWalk.{text_left}
use Rattle.tree_model.proofs.text.Walk.start.Goals as goal

pub returns : goal.returns
unfolding text_left tree_text
returns c =
    rw (c.in_ok-push.ensures.items, c.new-places.ensures.items, c.new-2.ensures.empty, c.new.ensures.bytes, ← c.tree.view_is) refl
