use Rattle.session_core.specs.Core.{opening_of, start_of}
use Rattle.session_threads.specs.Ran.{part_setup}
use Rattle.session_threads.proofs.running.run_parts.Given as goal

abbrev pub ghosts-run_named-N-QueueNames : goal.ghosts-run_named-N-QueueNames
ghosts-run_named-N-QueueNames g a = record { submission = a.passes.submit.table_id; dispatch = a.passes.send.table_id; completion = a.passes.post.table_id }

abbrev pub ghosts-run_named-N-PartNames : goal.ghosts-run_named-N-PartNames
ghosts-run_named-N-PartNames g a = record { image = (opening_of a.script.now).image; setup = part_setup a.script.now }

abbrev pub ghosts-run_named-N-SessionNames : goal.ghosts-run_named-N-SessionNames
ghosts-run_named-N-SessionNames g a = record { opening = opening_of a.script.now; start = start_of a.script.now }
