use Rattle.host_tests.proofs.MachineLemmas.Acting.{commit_stops, writeback_stops, flush_takes, flush_idles}
use Rattle.host_tests.proofs.machine.actors.actors_stop_where_a_request_failed.Goals as goal

pub returns : goal.returns
returns g c = record {
  commit = λ m u full s h. commit_stops m u full s h;
  writeback = λ m u full s pick h. writeback_stops m u full s h pick;
  flush = λ m u full s next h. flush_takes m u full s h next;
  idle = λ m u full s h. flush_idles m u full s h;
}
