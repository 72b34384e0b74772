use Rattle.std.proofs.Common.{◌/◌}
use Rattle.volume_names.proofs.Entered.{number_stays}
use Rattle.volume_names.proofs.names.begin_block.Goals as goal

pub returns-then-new-clause-numbers : goal.returns-then-new-clause-numbers
returns-then-new-clause-numbers c =
    number_stays c.args.v.now c.add_block-then-new.new.v c.args.n (c.args.new.at / c.slots_a_block.result) c.requires.numbers c.add_block-then-new.ensures.done.volume_is
