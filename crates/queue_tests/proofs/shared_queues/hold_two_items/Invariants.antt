use Rattle.queue_tests.proofs.shared_queues.hold_two_items.Given as goal

abbrev pub ghosts-plays_all : goal.ghosts-plays_all
ghosts-plays_all g a = record { submission = a.passes.submit.table_id; dispatch = a.passes.send.table_id; completion = a.passes.post.table_id }
