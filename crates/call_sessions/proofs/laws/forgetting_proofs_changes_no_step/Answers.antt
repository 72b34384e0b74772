use Rattle.call_sessions.specs.Sessions.{plain_call, call_over}
use Rattle.call_sessions.proofs.ActorsAs.{flush_as, take_as, commit_step_as, writeback_as}
use Rattle.call_sessions.proofs.RunsAs.{steps_on}
use Rattle.call_sessions.proofs.StepsAs.{advance_as}
use Rattle.call_sessions.proofs.laws.forgetting_proofs_changes_no_step.Goals as goal

pub returns : goal.returns
returns c = record {
  call = λ s full h t. advance_as plain_call (call_over s).model (call_over s).setup full h t;
  commit = λ s full h. commit_step_as plain_call (call_over s).model (call_over s).setup full h;
  writeback = λ s full h pick. writeback_as plain_call (call_over s).model (call_over s).setup full h pick;
  flush = λ s full h next. flush_as plain_call (call_over s).model (call_over s).setup full h next;
  take = λ s h next. take_as plain_call (call_over s).model (call_over s).setup h next;
  run = λ s h events. steps_on plain_call (call_over s) h events;
}
