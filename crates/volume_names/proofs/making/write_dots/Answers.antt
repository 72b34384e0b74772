use Rattle.volume_names.proofs.Makes.{dots_done}
use Rattle.volume_names.proofs.making.write_dots.Goals as goal

pub returns-clause-blocks : goal.returns-clause-blocks
returns-clause-blocks c =
    dots_done c.args.g.now c.args.blocks.now c.put_body.new.blocks c.put_slot.new.blocks c.put_slot-2.new.blocks c.args.zone c.args.own c.args.above c.fill.result c.dot.result c.dots.result
    c.fill.ensures c.put_body.ensures c.dot.ensures c.put_slot.ensures c.dots.ensures c.put_slot-2.ensures
