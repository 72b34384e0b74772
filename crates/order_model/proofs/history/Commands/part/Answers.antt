use Rattle.std.proofs.Common.{List, ℕ, Some, sym, ap, subst, ◌∙◌, length, slice_get}
use Rattle.std.specs.Option.{option_map}
use Rattle.order_model.specs.declared.history.PartRow.{PartRow}
use Rattle.order_model.specs.code.Bodies.{IsThere}
use Rattle.order_model.specs.code.Rows.{part_of, IsPartThere}
use Rattle.order_model.proofs.Rows.{one_there, part_found}
use Rattle.order_model.proofs.KeptRows.{found_at, none_at}
use Rattle.order_model.proofs.history.Commands.part.Goals as goal

pub part-requires : goal.part-requires
part-requires c =
    let s = c.self.inside in
    let at = ap (λ (rows : List PartRow). slice_get rows c.args.place) (sym c.deref.ensures.value) ∙ found_at c.deref.result.now c.args.place c.in_ok-row.row.now c.in_ok-row.ensures.lookup.0 c.in_ok-row.ensures.lookup.1 in
    subst (λ (b : List (List ℕ)). IsThere (length b) c.in_ok-row.row.now.body) (sym c.deref-2.ensures.value) (one_there (IsPartThere (length s.stored.items)) s.rows.items c.args.place c.in_ok-row.row.now c.self.invariant.there at)

pub returns-in_err-row : goal.returns-in_err-row
returns-in_err-row c =
    let s = c.self.inside in
    let at = ap (λ (rows : List PartRow). slice_get rows c.args.place) (sym c.deref.ensures.value) ∙ none_at c.deref.result.now c.args.place c.in_err-row.ensures.lookup.0 in
    rw (← c.self.view_is) (c.from_residual.ensures ∙ sym (part_found _ s.ends.items s.stored.items s.rows.items c.args.place c.self.invariant.ends s.rows.ok.0 ∙ ap (option_map (part_of s.stored.items)) at))

pub returns : goal.returns
returns c =
    let s = c.self.inside in
    let at = ap (λ (rows : List PartRow). slice_get rows c.args.place) (sym c.deref.ensures.value) ∙ found_at c.deref.result.now c.args.place c.in_ok-row.row.now c.in_ok-row.ensures.lookup.0 c.in_ok-row.ensures.lookup.1 in
    let made = c.part.ensures ∙ ap (λ (b : List (List ℕ)). part_of b c.in_ok-row.row.now) c.deref-2.ensures.value in
    rw (← c.self.view_is) (ap Some made ∙ sym (part_found _ s.ends.items s.stored.items s.rows.items c.args.place c.self.invariant.ends s.rows.ok.0 ∙ ap (option_map (part_of s.stored.items)) at))
