use Rattle.std.specs.Prelude.{true}
use Rattle.session_core.proofs.RunLemmas.PartsLemmas.Idling.{commit_leaves, writeback_leaves, flush_leaves, take_leaves}
use Rattle.session_core.proofs.run.parts.idle_steps.idle_turns_leave_the_host.Goals as goal

pub returns : goal.returns
returns g c = record {
  commit = λ m u full h. commit_leaves m u full h;
  writeback = λ m u full h pick. writeback_leaves m u full h pick;
  flush = λ m u full h next. flush_leaves m u full h next;
  take = λ m u h next. take_leaves m u true h next;
}
