use Rattle.std.proofs.Common.{sym, ◌∙◌}
use Rattle.order_model.specs.code.Rows.{parts_kept}
use Rattle.order_model.proofs.Histories.{length-commands_of}
use Rattle.order_model.proofs.history.Commands.len.Goals as goal

pub returns : goal.returns
returns c =
    let s = c.self.inside in
    rw (← c.self.view_is) (c.len.ensures ∙ s.ends.ok.0 ∙ sym (length-commands_of 0 s.ends.items (parts_kept s.stored.items s.rows.items)))
