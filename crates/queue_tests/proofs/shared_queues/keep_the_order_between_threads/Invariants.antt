use Rattle.queue_tests.proofs.shared_queues.keep_the_order_between_threads.Given as goal

abbrev pub ghosts-crosses : goal.ghosts-crosses
ghosts-crosses g a = record { submission = a.passes.submit.table_id; dispatch = a.passes.send.table_id; completion = a.passes.post.table_id }
