use Rattle.journal_ring.proofs.RunningLemmas.PlanBlocks.{plan_blocks, plan_super, plan_places, commit_is_last, last_is_barrier}
use Rattle.journal_ring.proofs.running.laws.plans_place_the_log_blocks.Goals as goal

pub returns-clause-blocks : goal.returns-clause-blocks
returns-clause-blocks c = plan_blocks

pub returns-clause-first : goal.returns-clause-first
returns-clause-first c = plan_super

pub returns-clause-places : goal.returns-clause-places
returns-clause-places c = plan_places

pub returns-clause-last : goal.returns-clause-last
returns-clause-last c = commit_is_last

pub returns-clause-before : goal.returns-clause-before
returns-clause-before c = last_is_barrier
