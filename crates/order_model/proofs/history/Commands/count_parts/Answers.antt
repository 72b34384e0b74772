use Rattle.std.proofs.Common.{sym, ap, ◌∙◌, length}
use Rattle.std.proofs.lemmas.List.{length-map}
use Rattle.order_model.specs.code.Rows.{part_of}
use Rattle.order_model.proofs.Rows.{all_kept}
use Rattle.order_model.proofs.history.Commands.count_parts.Goals as goal

pub returns : goal.returns
returns c =
    let s = c.self.inside in
    let all = ap length (all_kept _ s.ends.items s.stored.items s.rows.items c.self.invariant.ends s.rows.ok.0) in
    rw (← c.self.view_is) (c.len.ensures ∙ s.rows.ok.0 ∙ sym (length-map s.rows.items (part_of s.stored.items)) ∙ sym all)
