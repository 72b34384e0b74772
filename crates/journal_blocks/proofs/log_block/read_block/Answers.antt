use Rattle.journal_blocks.specs.laws.Faults.{block_not_magic, block_bad_kind, block_bad_count, block_feature}
use Rattle.journal_blocks.proofs.log_block.read_block.Goals as goal

pub returns-clause-not_magic : goal.returns-clause-not_magic
returns-clause-not_magic c = block_not_magic c.args.wide c.args.b.now c.block_in.result (rw c.as_slice.ensures.value at c.block_in.ensures.value) (rw c.as_slice.ensures.value at c.block_in.ensures.memory)

pub returns-clause-bad_kind : goal.returns-clause-bad_kind
returns-clause-bad_kind c = block_bad_kind c.args.wide c.args.b.now c.block_in.result (rw c.as_slice.ensures.value at c.block_in.ensures.value) (rw c.as_slice.ensures.value at c.block_in.ensures.memory)

pub returns-clause-bad_count : goal.returns-clause-bad_count
returns-clause-bad_count c = block_bad_count c.args.wide c.args.b.now c.block_in.result (rw c.as_slice.ensures.value at c.block_in.ensures.value) (rw c.as_slice.ensures.value at c.block_in.ensures.memory)

pub returns-clause-feature : goal.returns-clause-feature
returns-clause-feature c bits = block_feature c.args.wide c.args.b.now c.block_in.result (rw c.as_slice.ensures.value at c.block_in.ensures.value) (rw c.as_slice.ensures.value at c.block_in.ensures.memory) bits
