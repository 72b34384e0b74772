use Rattle.std.specs.Prelude.{refl}
use Rattle.std.proofs.Common.{arith}
use Rattle.host_machine.proofs.Shared.{first_waits, second_waits, both_are_served, nobody_waits, no_barrier_waits, no_ended_call_waits, one_more_is_refused}
use Rattle.host_machine.proofs.laws.rows.one_flush_serves_two_sync_calls.Goals as goal

pub returns : goal.returns
returns c = record {
  first = first_waits;
  second = second_waits;
  served = both_are_served;
  flush = refl;
  answered = refl;
  barrier = refl;
  nobody = nobody_waits;
  barriers = no_barrier_waits;
  ended = no_ended_call_waits;
  counted = omega arith;
  refused = one_more_is_refused;
}
