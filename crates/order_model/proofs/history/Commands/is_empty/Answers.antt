use Rattle.std.proofs.Common.{sym, ap, ◌∙◌, length, nat_eq}
use Rattle.order_model.specs.code.Rows.{parts_kept}
use Rattle.order_model.proofs.Histories.{length-commands_of}
use Rattle.order_model.proofs.history.Commands.is_empty.Goals as goal

pub returns : goal.returns
returns c =
    let s = c.self.inside in
    c.is_empty.ensures ∙ ap (λ n. nat_eq n 0) (s.ends.ok.0 ∙ sym (length-commands_of 0 s.ends.items (parts_kept s.stored.items s.rows.items)) ∙ ap (λ h. length h.items) c.self.view_is)
