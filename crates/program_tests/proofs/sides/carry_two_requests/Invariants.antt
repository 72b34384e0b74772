use Rattle.std.proofs.Common.{None}
use Rattle.program_tests.proofs.sides.carry_two_requests.Given as goal

abbrev pub ghosts-plays-N-QueueNames : goal.ghosts-plays-N-QueueNames
ghosts-plays-N-QueueNames g a = record { submission = a.passes.submit.table_id; dispatch = a.passes.send.table_id; completion = a.passes.post.table_id }

abbrev pub ghosts-plays-N-PartNames : goal.ghosts-plays-N-PartNames
ghosts-plays-N-PartNames g a = record { image = a.dev.base; setup = record { limit = 2; depth = 1; segments = 0; fail_at = None; cut_at = None } }
