use Rattle.std.proofs.Common.{◌∙◌}
use Rattle.log_model.proofs.LastLogged.{mark-printed}
use Rattle.log_model.proofs.Marks.{replayed-marked, replayed-unmarked, replayed-again}
use Rattle.log_model.proofs.laws.replays_leave_last_logged_bodies.Goals as goal

pub returns : goal.returns
returns c = record {
  body = λ txs disk b x e. replayed-marked txs disk b x (mark-printed txs b ∙ e);
  old = λ txs disk b e. replayed-unmarked txs disk b (mark-printed txs b ∙ e);
  again = replayed-again;
}
