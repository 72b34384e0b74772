use Rattle.std.proofs.Common.{List, rules, subst, ◌∙◌}
use Rattle.number_sets.specs.laws.Keyed.{KeyStandsAt, KeyBelongsAt}
use Rattle.volume_ops.specs.declared.found.Mapped.{Mapped}
use Rattle.volume_model.specs.laws.Holes.{index_of, hole_there, hole_put}
use Rattle.volume_model.proofs.file_zones.put_hole.Goals as goal

pub returns-in-Err-clause-items : goal.returns-in-Err-clause-items
returns-in-Err-clause-items c =
    (search rules) ∙ hole_put c.args.items.now.items c.args.index c.in-Err.at (subst (λ (ms : List Mapped). KeyBelongsAt index_of ms c.args.index c.in-Err.at) c.deref.ensures.value c.in-Err.ensures)

pub returns-in_default-clause-items : goal.returns-in_default-clause-items
returns-in_default-clause-items c =
    hole_there c.args.items.now.items c.args.index c.in_default.field-0 (subst (λ (ms : List Mapped). KeyStandsAt index_of ms c.args.index c.in_default.field-0) c.deref.ensures.value c.in_default.ensures)
