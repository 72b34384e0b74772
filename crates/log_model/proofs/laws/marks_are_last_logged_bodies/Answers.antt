use Rattle.log_model.proofs.LastLogged.{mark-printed, last_logged-mark, mark-last_logged, revoked_last-mark, mark-revoked_last, silent-keep, keep-silent}
use Rattle.log_model.proofs.laws.marks_are_last_logged_bodies.Goals as goal

pub returns : goal.returns
returns c = record {
  printed = mark-printed;
  set = last_logged-mark;
  only_set = mark-last_logged;
  clear = revoked_last-mark;
  only_clear = mark-revoked_last;
  keep = silent-keep;
  only_keep = keep-silent;
}
