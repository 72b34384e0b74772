use Rattle.std.proofs.Common.{[], ◌∷◌, ◌++◌, map, Some, refl, sym, ap, ◌∙◌}
use Rattle.std.specs.Option.{option_to_list}
use Rattle.order_model.specs.declared.part.Part.{Part}
use Rattle.thread_sides.specs.Admitted.{take_new}
use Rattle.thread_sides.proofs.Admitting.{behind_new, none_new, one_new, no_new}
use Rattle.thread_sides.proofs.receiving.take_ids.Goals as goal

pub returns-then-not-take_parts-clause-no : goal.returns-then-not-take_parts-clause-no
returns-then-not-take_parts-clause-no c = λ e. none_new c.args.flags.now (map (λ (p : Part). p.id) c.args.command.now.parts) (option_to_list c.args.command.now.flush) (c.if-not-take_parts.ensures.no e)

pub returns-then-not-is_new-clause-no : goal.returns-then-not-is_new-clause-no
returns-then-not-is_new-clause-no c = λ e.
    let flags = c.args.flags.now in
    let ids = map (λ (p : Part). p.id) c.args.command.now.parts in
    ap (λ o. take_new flags (ids ++ option_to_list o)) c.in-Some.is ∙ behind_new flags c.take_parts.new.flags ids (c.in-Some.id ∷ []) (c.if-not-take_parts.ensures.yes refl) ∙ no_new c.take_parts.new.flags c.in-Some.id (sym c.if-not-is_new.ensures)

pub returns-else-not-is_new-clause-yes : goal.returns-else-not-is_new-clause-yes
returns-else-not-is_new-clause-yes c = λ e.
    let flags = c.args.flags.now in
    let ids = map (λ (p : Part). p.id) c.args.command.now.parts in
    ap (λ o. take_new flags (ids ++ option_to_list o)) c.in-Some.is ∙ behind_new flags c.take_parts.new.flags ids (c.in-Some.id ∷ []) (c.if-not-take_parts.ensures.yes refl) ∙ one_new c.take_parts.new.flags c.in-Some.id (sym c.if-not-is_new.ensures)
    ∙ ap Some (sym c.mark.ensures)
